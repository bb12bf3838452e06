-- What a test asks of a run is there for each of its parts.
use Rattle.std.proofs.Common.{◌≡◌, ℕ, List, [], Option, Some, None, IsSome, ◌∷◌, refl, subst, arith}
use Rattle.std.specs.Prelude.{◌-◌, ◌≢◌}
use Rattle.clu_tree.specs.declared.value.Sig.{Sig}
use Rattle.clu_tree.specs.declared.value.Value.{Value}
use Rattle.clu_tree.specs.declared.program.Program.{Program}
use Rattle.machine_rules.specs.declared.frame.Frame.{Frame}
use Rattle.machine_rules.specs.Row.{World, Next, raise}
use Rattle.machine_tests.specs.Examples.{Standing, begins, by, given, given_in, going, raised, raised_in, ran, ran_on, stepped}

going_some : (o : Option Standing) (go : Standing → Option Standing) → IsSome (going o go) → IsSome o
going_some None go h = h
going_some (Some at) go h = refl

going_is : (o : Option Standing) (at : Standing) (go : Standing → Option Standing) → o ≡ Some at → IsSome (going o go) → IsSome (go at)
going_is o at go e h = subst (λ (o : Option Standing). IsSome (going o go)) e h

from_0 : (n : ℕ) → n - 0 ≡ n
from_0 n = omega arith

-- a program that runs begins
pub begins_there : (n : ℕ) (p q : Program) (vars : List (Option Value)) → p ≡ q → IsSome (ran n q vars) → IsSome (begins p vars)
begins_there n p q vars e h = rw e (going_some (begins q vars) (stepped n) h)

-- and takes its steps from there
pub steps_there : (n : ℕ) (p q : Program) (vars : List (Option Value)) (at : Standing) → p ≡ q → begins p vars ≡ Some at → IsSome (ran n q vars) → IsSome (stepped (n - 0) at)
steps_there n p q vars at e b h = rw (from_0 n) (going_is (begins q vars) at (stepped n) (subst (λ (p : Program). begins p vars ≡ Some at) e b) h)

-- where the node answers, the steps before are there
pub first_there : (n last : ℕ) (answer : Standing → Option Standing) (q : Program) → IsSome (ran_on n answer last q) → IsSome (ran n q [])
first_there n last answer q h = going_some (ran n q []) answer (going_some (going (ran n q []) answer) (stepped (last - n)) h)

ran_is : (n : ℕ) (p q : Program) (at mid : Standing) → p ≡ q → begins p [] ≡ Some at → stepped (n - 0) at ≡ Some mid → ran n q [] ≡ Some mid
ran_is n p q at mid e b s = rw (subst (λ (p : Program). begins p [] ≡ Some at) e b) (subst (λ (k : ℕ). stepped k at ≡ Some mid) (from_0 n) s)

-- then its answer
pub answer_there : (n last : ℕ) (answer : Standing → Option Standing) (p q : Program) (at mid : Standing) → p ≡ q → begins p [] ≡ Some at → stepped (n - 0) at ≡ Some mid →
    IsSome (ran_on n answer last q) → IsSome (answer mid)
answer_there n last answer p q at mid e b s h =
    going_is (ran n q []) mid answer (ran_is n p q at mid e b s) (going_some (going (ran n q []) answer) (stepped (last - n)) h)

going_on : (o : Option Standing) (mid next : Standing) (answer : Standing → Option Standing) → o ≡ Some mid → answer mid ≡ Some next → going o answer ≡ Some next
going_on o mid next answer e a = rw e a

-- and the steps behind it
pub last_there : (n last : ℕ) (answer : Standing → Option Standing) (p q : Program) (at mid next : Standing) → p ≡ q → begins p [] ≡ Some at → stepped (n - 0) at ≡ Some mid →
    answer mid ≡ Some next → IsSome (ran_on n answer last q) → IsSome (stepped (last - n) next)
last_there n last answer p q at mid next e b s a h =
    going_is (going (ran n q []) answer) next (stepped (last - n)) (going_on (ran n q []) mid next answer (ran_is n p q at mid e b s) a) h

-- ---- what the node does needs a process that goes on

cons_is_some : (f : Frame) (fs : List Frame) → f ∷ fs ≢ []
cons_is_some f fs = λ e. cc

given_in_goes_on : (v : Value) (w : World) (fs : List Frame) → IsSome (given_in v w fs) → fs ≢ []
given_in_goes_on v w [] h = cc
given_in_goes_on v w (f ∷ fs) h = cons_is_some f fs

pub given_goes_on : (v : Value) (at : Standing) → IsSome (given v at) → at.frames ≢ []
given_goes_on v at h = given_in_goes_on v at.world at.frames h

raised_in_goes_on : (sig : Sig) (w : World) (fs : List Frame) → IsSome (raised_in sig w fs) → fs ≢ []
raised_in_goes_on sig w [] h = cc
raised_in_goes_on sig w (f ∷ fs) h = cons_is_some f fs

pub raised_goes_on : (sig : Sig) (at : Standing) → IsSome (raised sig at) → at.frames ≢ []
raised_goes_on sig at h = raised_in_goes_on sig at.world at.frames h

by_some : (w : World) (o : Option Next) → IsSome (by w o) → IsSome o
by_some w None h = h
by_some w (Some next) h = refl

raised_in_row : (sig : Sig) (w : World) (fs : List Frame) → IsSome (raised_in sig w fs) → IsSome (raise w sig fs)
raised_in_row sig w [] h = cc
raised_in_row sig w (f ∷ fs) h = by_some w (raise w sig (f ∷ fs)) h

pub raised_row : (sig : Sig) (at : Standing) → IsSome (raised sig at) → IsSome (raise at.world sig at.frames)
raised_row sig at h = raised_in_row sig at.world at.frames h
