-- The processes of a node, which take turns.
use Rattle.std.specs.Prelude.{◌≡◌, ℕ, ◌≤◌, ◌^◌, ◌⊎◌, List, length, nat_eq, Option, IsSome, if◌then◌else◌, All}
use Rattle.std.specs.Map.{lookup, keys_of}
use Rattle.machine_rules.specs.declared.status.Status.{Status}
use Rattle.machine_rules.specs.Picking.{InOrder}

-- the live processes in the order of their numbers, each with its status; the number given last; and the number picked last. Both numbers are 0 at first
pub record Processes : Type 0 where
  pub live : List (ℕ × Status)
  pub given : ℕ
  pub picked : ℕ

-- the numbers of the live processes, in order
abbrev pub numbers : Processes → List ℕ
numbers t = keys_of t.live

-- the status of a process, if it is live
abbrev pub status_of : Processes → ℕ → Option Status
status_of t pid = lookup (nat_eq pid) t.live

abbrev pub IsLive : Processes → ℕ → Type 0
IsLive t pid = IsSome (status_of t pid)

-- no more processes can be added: 1,024 are live, or the last number was given
abbrev pub IsFull : Processes → Type 0
IsFull t = (length t.live ≡ 1024) ⊎ (t.given ≡ 2 ^ 62)

-- one process has this status, or is no longer live, and all others have the status that they had
abbrev pub ChangesOnly : Processes → Processes → ℕ → Option Status → Type 0
ChangesOnly old new pid status = (other : ℕ) → status_of new other ≡ (if nat_eq pid other then status else status_of old other)

-- numbers rise and were given, and the bounds on them hold
pub record IsTable (t : Processes) : Type 0 where
  pub rising : InOrder t.live
  pub all_given : All (λ pid. (1 ≤ pid) × (pid ≤ t.given)) (numbers t)
  pub few_live : length t.live ≤ 1024
  pub given_bound : t.given ≤ 2 ^ 62
  pub picked_given : t.picked ≤ t.given
