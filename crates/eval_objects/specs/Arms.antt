-- The arm of a tag.
use Rattle.std.specs.Prelude.{ℕ, if◌then◌else◌, List, [], ◌∷◌, Option, Some, None}
use Rattle.clu_tree.specs.declared.value.Value.{Value}
use Rattle.clu_tree.specs.declared.tree.Stmt.{Stmt}
use Rattle.clu_tree.specs.declared.tree.TagArm.{TagArm, out-TagArm}
use Rattle.machine_rules.specs.declared.item.Item.{Item}
use Rattle.machine_rules.specs.declared.frame.Frame.{Frame}
use Rattle.machine_rules.specs.World.{World, Next}
use Rattle.machine_rules.specs.Row.{is_tag, takes_arm, takes_others}

-- the first arm of this tag
abbrev pub chosen : List TagArm → ℕ → Option TagArm
chosen [] tag = None
chosen (a ∷ arms) tag = if is_tag (out-TagArm a).meant tag then Some a else chosen arms tag

-- the arm is taken, or `others` where there is none
abbrev pub takes : World → Frame → List Frame → List Item → List Value → Option (List Stmt) → Value → Option TagArm → Option Next
takes w f fs work values others v None = takes_others w f fs work values others
takes w f fs work values others v (Some a) = takes_arm w f fs work values v (out-TagArm a).body (out-TagArm a).variable
