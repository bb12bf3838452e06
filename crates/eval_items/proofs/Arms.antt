-- The next arm of an `if`.
use Rattle.std.proofs.Common.{◌≡◌, false, List, [], ◌∷◌, Option, Some, slice_get}
use Rattle.std.specs.List.{remove}
use Rattle.clu_tree.specs.declared.tree.Arm.{Arm, out-Arm}
use Rattle.clu_tree.specs.declared.tree.Stmt.{Stmt}
use Rattle.machine_rules.specs.declared.item.Item.{Item}
use Rattle.machine_rules.specs.declared.item.Item.TheVariants as item
use Rattle.machine_rules.specs.declared.frame.Frame.{Frame}
use Rattle.machine_rules.specs.Row.{branches, evals}
use Rattle.machine_rules.specs.World.{World}

-- where a test failed, the next arm is the first one that is left, and the rest come behind it
pub next_arm : (w : World) (f : Frame) (fs : List Frame) (work : List Item) (body : List Stmt) (arms rest : List Arm) (others : Option (List Stmt)) (a : Arm) → slice_get arms 0 ≡ Some a → rest ≡ remove arms 0 → branches w f fs work f.values body arms others false ≡ evals w f fs (out-Arm a).test (item.Branch (out-Arm a).body rest others ∷ work)
next_arm w f fs work body [] rest others a h r = cc
next_arm w f fs work body (x ∷ arms) rest others a h r = rw r cc
