-- A variable that is set is there.
use Rattle.std.proofs.Common.{◌≡◌, ℕ, List, [], ◌∷◌, Option, Some, None, IsSome, refl}
use Rattle.clu_tree.specs.declared.value.Value.{Value}
use Rattle.machine_rules.specs.declared.item.Item.{Item}
use Rattle.machine_rules.specs.declared.frame.Var.{Var}
use Rattle.machine_rules.specs.declared.frame.Frame.{Frame}
use Rattle.machine_rules.specs.declared.act.Act.TheVariants as act
use Rattle.machine_rules.specs.Frames.{with}
use Rattle.machine_rules.specs.Row.{sets_local, sets_node}
use Rattle.machine_rules.specs.World.{World, gives}

pub local-there : (w : World) (f : Frame) (fs : List Frame) (work : List Item) (values : List Value) (vars : Option (List Var)) → IsSome (sets_local w f fs work values vars) → IsSome vars
local-there w f fs work values None h = h
local-there w f fs work values (Some vars) h = refl

pub node-there : (w : World) (f : Frame) (fs : List Frame) (work : List Item) (values : List Value) (k : ℕ) (v : Value) (was : Option (Option Value)) → IsSome (sets_node w f fs work values k v was) → sets_node w f fs work values k v was ≡ gives w [] (act.SetVar k v) (with f work values ∷ fs)
node-there w f fs work values k v None h = cc
node-there w f fs work values k v (Some x) h = refl
