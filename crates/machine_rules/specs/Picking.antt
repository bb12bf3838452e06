-- Whose turn it is among processes, each with its number and its status.
use Rattle.std.specs.Prelude.{◌≡◌, ◌<◌, ◌≤◌, ◌↔◌, ℕ, Bool, true, false, ◌&&◌, nat_eq, nat_lt, List, find, Option, Some, None}
use Rattle.std.specs.List.Sorted.{IsStrictlySortedBy}
use Rattle.std.specs.Map.{lookup, keys_of}
use Rattle.std.specs.Option.{option_map, option_or}
use Rattle.std.specs.Ordering.{nat_cmp}
use Rattle.machine_rules.specs.declared.status.Status.{Status}
use Rattle.machine_rules.specs.declared.status.Status.TheVariants.{Ready}

abbrev pub is_ready : Status → Bool
is_ready Ready = true
is_ready _ = false

-- the numbers of the processes rise
abbrev pub InOrder : List (ℕ × Status) → Type 0
InOrder processes = IsStrictlySortedBy nat_cmp (keys_of processes)

-- ---- as a function of the processes in the order of their numbers

-- the least ready number above n
abbrev pub ready_above : ℕ → List (ℕ × Status) → Option ℕ
ready_above n processes = option_map (λ (p : ℕ × Status). p.0) (find (λ (p : ℕ × Status). nat_lt n p.0 && is_ready p.1) processes)

-- the least ready number
abbrev pub least_ready : List (ℕ × Status) → Option ℕ
least_ready processes = option_map (λ (p : ℕ × Status). p.0) (find (λ (p : ℕ × Status). is_ready p.1) processes)

-- the least ready number above the one last picked, else the least ready number; none where none is ready
abbrev pub picks : ℕ → List (ℕ × Status) → Option ℕ
picks last processes = option_or (ready_above last processes) (least_ready processes)

-- ---- as a relation

abbrev pub IsReady : List (ℕ × Status) → ℕ → Type 0
IsReady processes pid = lookup (nat_eq pid) processes ≡ Some Ready

-- whose turn it is: the least ready number above the one last picked or, where no number above that one is ready, the least ready number
pub record IsNext (last : ℕ) (processes : List (ℕ × Status)) (pid : ℕ) : Type 0 where
  pub ready : IsReady processes pid
  pub above : (other : ℕ) → IsReady processes other → last < other → (last < pid) × (pid ≤ other)
  pub from_start : pid ≤ last → (other : ℕ) → IsReady processes other → pid ≤ other

-- ---- that these are one

-- the function's answer is whose turn it is, and none exactly where no process is ready
pub record PicksNext (last : ℕ) (processes : List (ℕ × Status)) : Type 0 where
  pub next : (pid : ℕ) → (picks last processes ≡ Some pid) ↔ IsNext last processes pid
  pub none : (picks last processes ≡ None) ↔ ((pid : ℕ) → ¬ IsReady processes pid)
