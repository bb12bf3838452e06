-- A semaphore, and what it is after each call.
use Rattle.std.specs.Prelude.{◌≡◌, ◌+◌, ◌-◌, ◌<◌, ◌≤◌, ◌^◌, ℕ, List, [], ◌∷◌, ◌++◌, Contains, filter, not, nat_eq, drop, refl}
use Rattle.std.specs.Coded.{Coded, code_by, coded×, coded_ℕ, coded_list}
use Rattle.node_sync.specs.declared.timed_semaphore.SignalEnd.{SignalEnd}
use Rattle.node_sync.specs.declared.timed_semaphore.SignalEnd.TheVariants.{Woke, Counted, AtLimit}
use Rattle.node_sync.specs.declared.timed_semaphore.WaitEnd.{WaitEnd}
use Rattle.node_sync.specs.declared.timed_semaphore.WaitEnd.TheVariants.{Taken, Queued}

-- the count, and the processes that wait, in the order in which they came
pub record SemaphoreState : Type 0 where
  pub count : ℕ
  pub waiting : List ℕ

-- stored as the pair of its fields
abbrev pub semaphore_code : Coded SemaphoreState
semaphore_code =
    code_by (ℕ × List ℕ) (coded× coded_ℕ (coded_list coded_ℕ)) (λ s. (s.count, s.waiting)) (λ p. record { count = p.0; waiting = p.1 }) (λ _. refl)

-- a semaphore of this count, for which nobody waits
abbrev pub counting : ℕ → SemaphoreState
counting count = record { count = count; waiting = [] }

abbrev pub WaitsFor : SemaphoreState → ℕ → Type 0
WaitsFor semaphore pid = Contains semaphore.waiting pid

-- the count is at most 2 ^ 62, and where it is above 0 nobody waits
pub record IsSemaphore (semaphore : SemaphoreState) : Type 0 where
  pub limit : semaphore.count ≤ 2 ^ 62
  pub waits_at_zero : 0 < semaphore.count → semaphore.waiting ≡ []

-- after a signal with this end: the first waits no more, or the count is one more
abbrev pub signalled : SemaphoreState → SignalEnd → SemaphoreState
signalled semaphore (Woke pid) = record semaphore { waiting = drop 1 semaphore.waiting }
signalled semaphore Counted = record semaphore { count = semaphore.count + 1 }
signalled semaphore AtLimit = semaphore

-- after a process waited with this end: the count is one less, or the process waits behind all others
abbrev pub waited : SemaphoreState → ℕ → WaitEnd → SemaphoreState
waited semaphore pid Taken = record semaphore { count = semaphore.count - 1 }
waited semaphore pid Queued = record semaphore { waiting = semaphore.waiting ++ pid ∷ [] }

-- after a process gave up: it doesn't wait, and the others wait in the order in which they came
abbrev pub cancelled : SemaphoreState → ℕ → SemaphoreState
cancelled semaphore pid = record semaphore { waiting = filter (λ other. not (nat_eq other pid)) semaphore.waiting }
