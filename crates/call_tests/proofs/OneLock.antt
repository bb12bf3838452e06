-- A node with one lock or one semaphore, as the tests make it.
use Rattle.std.proofs.Common.{◌≡◌, ◌≢◌, ℕ, true, false, cond, [], ◌∷◌, ◌++◌, Some, inl, inr, refl, sym, ap, subst, ◌∙◌, arith}
use Rattle.std.specs.Prelude.{IsSome, Contains}
use Rattle.std.specs.Option.{unwrap_or}
use Rattle.std.specs.Ordering.{nat_cmp, eq_by_cmp}
use Rattle.std.specs.Cmp.{nat_cmp_total}
use Rattle.std.specs.FinMap as map
use Rattle.std.specs.FinMap.{get-insert, get-empty}
use Rattle.std.proofs.lemmas.Cmp.{eq_by_cmp_equiv}
use Rattle.std.proofs.lemmas.List.Elements.{Contains-push_cases}
use Rattle.std.proofs.lemmas.Option.{none-some, same_Some}
use Rattle.node_sync.specs.declared.critical_region.EnterEnd.{EnterEnd}
use Rattle.node_sync.specs.declared.critical_region.EnterEnd.TheVariants.{Taken, HeldByCaller, Queued}
use Rattle.node_sync.specs.Locks.{LockState, IsFree, IsHeldBy, entered, free}
use Rattle.node_sync.specs.Semaphores.{SemaphoreState, counting}
use Rattle.node_sync.specs.Objects.{Objects, IsLockAt, IsSemaphoreAt, IsUnmade, WaitsNowhere, lock_at, with_lock, with_semaphore, none_yet}

get-new : {X : Type 0} (m : map.FinMap nat_cmp X) (k : ℕ) (v : X) → map.get (map.insert m k v) k ≡ Some v
get-new m k v = get-insert nat_cmp_total m k v k ∙ ap (λ b. cond b (Some v) (map.get m k)) ((eq_by_cmp_equiv nat_cmp_total).refl k)

pub lock_at-with_lock : (objects : Objects) (at : ℕ) (lock : LockState) → lock_at (with_lock objects at lock) at ≡ lock
lock_at-with_lock objects at lock = ap (λ o. unwrap_or o free) (get-new objects.locks at lock)

pub IsLockAt-with_lock : (objects : Objects) (at : ℕ) (lock : LockState) → IsLockAt (with_lock objects at lock) at
IsLockAt-with_lock objects at lock = subst IsSome (sym (get-new objects.locks at lock)) refl

pub IsSemaphoreAt-with_semaphore : (objects : Objects) (at : ℕ) (semaphore : SemaphoreState) → IsSemaphoreAt (with_semaphore objects at semaphore) at
IsSemaphoreAt-with_semaphore objects at semaphore = subst IsSome (sym (get-new objects.semaphores at semaphore)) refl

pub IsUnmade-none_yet : (at : ℕ) → IsUnmade none_yet at
IsUnmade-none_yet at = (get-empty nat_cmp at, get-empty nat_cmp at)

pub nobody : (pid : ℕ) → ¬ Contains [] pid
nobody pid there = omega arith

pub another : (pid other : ℕ) → other ≢ pid → ¬ Contains (other ∷ []) pid
another pid other apart there = elim (Contains-push_cases [] other pid there) [ inl none ↦ nobody pid none | inr same ↦ apart same ]

pub WaitsNowhere-none_yet : (pid : ℕ) → WaitsNowhere none_yet pid
WaitsNowhere-none_yet pid = record {
  locks = λ at. subst (λ o. ¬ Contains (unwrap_or o free).waiting pid) (sym (get-empty nat_cmp at)) (nobody pid);
  semaphores = λ at. subst (λ o. ¬ Contains (unwrap_or o (counting 0)).waiting pid) (sym (get-empty nat_cmp at)) (nobody pid);
}

pub WaitsNowhere-with_lock : (objects : Objects) (at : ℕ) (lock : LockState) (pid : ℕ) → WaitsNowhere objects pid → ¬ Contains lock.waiting pid → WaitsNowhere (with_lock objects at lock) pid
WaitsNowhere-with_lock objects at lock pid idle absent = record {
  locks = λ q. subst (λ o. ¬ Contains (unwrap_or o free).waiting pid) (sym (get-insert nat_cmp_total objects.locks at lock q)) (elim (eq_by_cmp nat_cmp q at) as (λ b. ¬ Contains (unwrap_or (cond b (Some lock) (map.get objects.locks q)) free).waiting pid) [ true ↦ absent | false ↦ idle.locks q ]);
  semaphores = idle.semaphores;
}

pub WaitsNowhere-with_semaphore : (objects : Objects) (at : ℕ) (semaphore : SemaphoreState) (pid : ℕ) → WaitsNowhere objects pid → ¬ Contains semaphore.waiting pid → WaitsNowhere (with_semaphore objects at semaphore) pid
WaitsNowhere-with_semaphore objects at semaphore pid idle absent = record {
  locks = idle.locks;
  semaphores = λ q. subst (λ o. ¬ Contains (unwrap_or o (counting 0)).waiting pid) (sym (get-insert nat_cmp_total objects.semaphores at semaphore q)) (elim (eq_by_cmp nat_cmp q at) as (λ b. ¬ Contains (unwrap_or (cond b (Some semaphore) (map.get objects.semaphores q)) (counting 0)).waiting pid) [ true ↦ absent | false ↦ idle.semaphores q ]);
}

-- ---- a process enters a lock of which all is known

-- the end that is left
queued : (end : EnterEnd) (lock : LockState) (pid holder : ℕ) → lock.holder ≡ Some holder → holder ≢ pid → (end ≡ Taken → IsFree lock) → (end ≡ HeldByCaller → IsHeldBy lock pid) → end ≡ Queued
queued Taken lock pid holder is other taken held = absurd (none-some holder (sym (taken refl) ∙ is))
queued HeldByCaller lock pid holder is other taken held = absurd (other (same_Some holder pid (sym is ∙ held refl)))
queued Queued lock pid holder is other taken held = refl

module _ (objects new : Objects) (at pid : ℕ) (end : EnterEnd) (lock : LockState) (is : lock_at objects at ≡ lock) (ok : new ≡ with_lock objects at (entered (lock_at objects at) pid end)) where
  entered_by : (same : EnterEnd) → end ≡ same → new ≡ with_lock objects at (entered lock pid same)
  entered_by same ends = ok ∙ ap (λ l. with_lock objects at (entered l pid end)) is ∙ ap (λ e. with_lock objects at (entered lock pid e)) ends

  pub takes : (IsFree (lock_at objects at) → end ≡ Taken) → IsFree lock → new ≡ with_lock objects at (record lock { holder = Some pid })
  takes taken free = entered_by Taken (taken (subst IsFree (sym is) free))

  pub holds : (IsHeldBy (lock_at objects at) pid → end ≡ HeldByCaller) → IsHeldBy lock pid → new ≡ with_lock objects at lock
  holds held by = entered_by HeldByCaller (held (subst (λ l. IsHeldBy l pid) (sym is) by))

  pub queues : (holder : ℕ) → lock.holder ≡ Some holder → holder ≢ pid → (end ≡ Taken → IsFree (lock_at objects at)) → (end ≡ HeldByCaller → IsHeldBy (lock_at objects at) pid) → new ≡ with_lock objects at (record lock { waiting = lock.waiting ++ pid ∷ [] })
  queues holder by other taken held = entered_by Queued (queued end lock pid holder by other (λ e. subst IsFree is (taken e)) (λ e. subst (λ l. IsHeldBy l pid) is (held e)))

pub lock_is_now : (objects new : Objects) (at : ℕ) (lock : LockState) → new ≡ with_lock objects at lock → lock_at new at ≡ lock
lock_is_now objects new at lock is = ap (λ (o : Objects). lock_at o at) is ∙ lock_at-with_lock objects at lock

pub is_idle : (objects new : Objects) (at : ℕ) (lock : LockState) (pid : ℕ) → new ≡ with_lock objects at lock → WaitsNowhere objects pid → ¬ Contains lock.waiting pid → WaitsNowhere new pid
is_idle objects new at lock pid is idle absent = subst (λ o. WaitsNowhere o pid) (sym is) (WaitsNowhere-with_lock objects at lock pid idle absent)

pub idle_at_first : (objects : Objects) (pid : ℕ) → objects ≡ none_yet → WaitsNowhere objects pid
idle_at_first objects pid is = subst (λ o. WaitsNowhere o pid) (sym is) (WaitsNowhere-none_yet pid)
