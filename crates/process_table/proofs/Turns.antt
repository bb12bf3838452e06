-- What `or_else` answers, and what of that answer is next in turn.
use Rattle.std.proofs.Common.{◌≡◌, ℕ, List, Option, Some, None, IsNone, IfSome, MatchOption, ◌↔◌, refl}
use Rattle.std.specs.Option.{option_or}
use Rattle.machine_rules.specs.declared.status.Status.{Status}
use Rattle.machine_rules.specs.Picking.{IsNext, IsReady, PicksNext, picks}

-- what `or_else` answers, where the closure's answer is known
pub or_else_is : {Calls : Type 0} (above answer from_start : Option ℕ) → (Calls → answer ≡ from_start) → MatchOption above Calls (λ pid. answer ≡ Some pid) → answer ≡ option_or above from_start
or_else_is None answer from_start called h = called h
or_else_is (Some pid) answer from_start called h = h

next_of : (answer picked : Option ℕ) (P : ℕ → Type 0) → answer ≡ picked → ((pid : ℕ) → (picked ≡ Some pid) ↔ P pid) → IfSome answer P
next_of None picked P is next = tt
next_of (Some pid) picked P is next = (next pid).0 (rw (← is) refl)

none_of : (answer picked : Option ℕ) (P : Type 0) → answer ≡ picked → ((picked ≡ None) ↔ P) → IsNone answer ↔ P
none_of None picked P is none = (λ _. none.0 (rw (← is) refl), λ _. refl)
none_of (Some pid) picked P is none = (λ h. cc, λ h. cc (is, none.1 h))

module _ (last : ℕ) (processes : List (ℕ × Status)) (answer : Option ℕ) (is : answer ≡ picks last processes) (law : PicksNext last processes) where
  pub is_next : IfSome answer (IsNext last processes)
  is_next = next_of answer (picks last processes) (IsNext last processes) is law.next

  pub is_none : IsNone answer ↔ ((pid : ℕ) → ¬ IsReady processes pid)
  is_none = none_of answer (picks last processes) ((pid : ℕ) → ¬ IsReady processes pid) is law.none
