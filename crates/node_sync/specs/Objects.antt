-- The locks and semaphores of a node, by address.
use Rattle.std.specs.Prelude.{◌≡◌, ℕ, Contains, None, IsSome, IfSome, refl}
use Rattle.std.specs.Coded.{Coded, code_by, coded×, coded_ℕ}
use Rattle.std.specs.FinMap as map
use Rattle.std.specs.Option.{unwrap_or}
use Rattle.std.specs.Ordering.{nat_cmp}
use Rattle.node_sync.specs.Locks.{LockState, IsLock, free, lock_code}
use Rattle.node_sync.specs.Semaphores.{SemaphoreState, IsSemaphore, counting, semaphore_code}

-- what was made at each address: a lock, a semaphore or nothing
pub record Objects : Type 0 where
  pub locks : map.FinMap nat_cmp LockState
  pub semaphores : map.FinMap nat_cmp SemaphoreState

-- stored as the pair of its fields
abbrev pub objects_code : Coded Objects
objects_code =
    code_by (map.FinMap nat_cmp LockState × map.FinMap nat_cmp SemaphoreState) (coded× (map.code coded_ℕ lock_code) (map.code coded_ℕ semaphore_code)) (λ o. (o.locks, o.semaphores)) (λ p. record { locks = p.0; semaphores = p.1 }) (λ _. refl)

-- nothing was made
abbrev pub none_yet : Objects
none_yet = record { locks = map.empty; semaphores = map.empty }

abbrev pub IsLockAt : Objects → ℕ → Type 0
IsLockAt objects at = IsSome (map.get objects.locks at)

abbrev pub IsSemaphoreAt : Objects → ℕ → Type 0
IsSemaphoreAt objects at = IsSome (map.get objects.semaphores at)

-- nothing was made at the address
abbrev pub IsUnmade : Objects → ℕ → Type 0
IsUnmade objects at = (map.get objects.locks at ≡ None) × (map.get objects.semaphores at ≡ None)

-- the lock at an address, and a free one where there is none
abbrev pub lock_at : Objects → ℕ → LockState
lock_at objects at = unwrap_or (map.get objects.locks at) free

-- the semaphore at an address, and one of count 0 where there is none
abbrev pub semaphore_at : Objects → ℕ → SemaphoreState
semaphore_at objects at = unwrap_or (map.get objects.semaphores at) (counting 0)

-- with this lock at the address, and everything else as it was
abbrev pub with_lock : Objects → ℕ → LockState → Objects
with_lock objects at lock = record objects { locks = map.insert objects.locks at lock }

-- with this semaphore at the address, and everything else as it was
abbrev pub with_semaphore : Objects → ℕ → SemaphoreState → Objects
with_semaphore objects at semaphore = record objects { semaphores = map.insert objects.semaphores at semaphore }

-- the process waits in no queue
pub record WaitsNowhere (objects : Objects) (pid : ℕ) : Type 0 where
  pub locks : (at : ℕ) → ¬ Contains (lock_at objects at).waiting pid
  pub semaphores : (at : ℕ) → ¬ Contains (semaphore_at objects at).waiting pid

-- nobody waits for a free lock or for a semaphore with a count above 0, no count is above 2 ^ 62, and no address has both
pub record AreInOrder (objects : Objects) : Type 0 where
  pub locks : (at : ℕ) → IfSome (map.get objects.locks at) IsLock
  pub semaphores : (at : ℕ) → IfSome (map.get objects.semaphores at) IsSemaphore
  pub apart : (at : ℕ) → IsLockAt objects at → map.get objects.semaphores at ≡ None
