-- A lock, and what it is after each call.
use Rattle.std.specs.Prelude.{◌≡◌, ℕ, List, [], ◌∷◌, ◌++◌, Option, Some, None, IsSome, slice_get, drop, refl}
use Rattle.std.specs.Coded.{Coded, code_by, coded×, coded_ℕ, coded_list, coded_option}
use Rattle.node_sync.specs.declared.critical_region.EnterEnd.{EnterEnd}
use Rattle.node_sync.specs.declared.critical_region.EnterEnd.TheVariants.{Taken, HeldByCaller, Queued}

-- the process that holds the lock, if one does, and those that wait for it, in the order in which they came
pub record LockState : Type 0 where
  pub holder : Option ℕ
  pub waiting : List ℕ

-- stored as the pair of its fields
abbrev pub lock_code : Coded LockState
lock_code =
    code_by (Option ℕ × List ℕ) (coded× (coded_option coded_ℕ) (coded_list coded_ℕ)) (λ l. (l.holder, l.waiting)) (λ p. record { holder = p.0; waiting = p.1 }) (λ _. refl)

-- a lock that nobody holds, and for which nobody waits
abbrev pub free : LockState
free = record { holder = None; waiting = [] }

abbrev pub IsFree : LockState → Type 0
IsFree lock = lock.holder ≡ None

abbrev pub IsHeld : LockState → Type 0
IsHeld lock = IsSome lock.holder

abbrev pub IsHeldBy : LockState → ℕ → Type 0
IsHeldBy lock pid = lock.holder ≡ Some pid

-- nobody waits for a lock that is free
abbrev pub IsLock : LockState → Type 0
IsLock lock = IsFree lock → lock.waiting ≡ []

-- after a process entered with this end: it holds the lock, or waits behind all others
abbrev pub entered : LockState → ℕ → EnterEnd → LockState
entered lock pid Taken = record lock { holder = Some pid }
entered lock pid HeldByCaller = lock
entered lock pid Queued = record lock { waiting = lock.waiting ++ pid ∷ [] }

-- after the holder left: the first that waited holds the lock, or nobody where nobody waited
abbrev pub left : LockState → LockState
left lock = record { holder = slice_get lock.waiting 0; waiting = drop 1 lock.waiting }
