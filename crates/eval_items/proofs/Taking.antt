-- The arguments of a routine are there where a row takes them.
use Rattle.std.proofs.Common.{◌≡◌, ◌≤◌, Bool, true, false, if◌then◌else◌, nat_le, List, length, take, drop, reverse, Option, Some, None, IsSome, refl}
use Rattle.std.proofs.lemmas.Bool.{leb-true}
use Rattle.clu_tree.specs.declared.value.Value.{Value}
use Rattle.clu_tree.specs.declared.program.Routine.{Routine}
use Rattle.machine_rules.specs.Operands.{taking_args}
use Rattle.machine_rules.specs.World.{Next}

first : (b : Bool) (x : Option Next) → IsSome (if b then x else None) → b ≡ true
first true x h = refl
first false x h = cc

pub args-there : (r : Routine) (values : List Value) (go : Routine → List Value → List Value → Option Next) → IsSome (taking_args (Some r) values go) → length r.params ≤ length values
args-there r values go h = leb-true (length r.params) (length values) (first (nat_le (length r.params) (length values)) (go r (reverse (take (length r.params) values)) (drop (length r.params) values)) h)

pub args-taken : (r : Routine) (values : List Value) (go : Routine → List Value → List Value → Option Next) → IsSome (taking_args (Some r) values go) → taking_args (Some r) values go ≡ go r (reverse (take (length r.params) values)) (drop (length r.params) values)
args-taken r values go h = rw (first (nat_le (length r.params) (length values)) (go r (reverse (take (length r.params) values)) (drop (length r.params) values)) h) refl
