-- The locks and semaphores of a node, after one of them changed.
use Rattle.std.proofs.Common.{◌≡◌, ℕ, Bool, true, false, Option, Some, None, Result, Ok, Err, IfOk, OnErr, refl, sym, ap, subst, ◌∙◌}
use Rattle.std.specs.Prelude.{IsSome, IfSome}
use Rattle.std.specs.Bool.{OnFalse}
use Rattle.std.specs.BTreeMap as tree
use Rattle.std.specs.BTreeMap.{BTreeMap}
use Rattle.std.specs.Ordering.{nat_cmp}
use Rattle.std.specs.FinMap as map
use Rattle.std.specs.FinMap.{get-empty}
use Rattle.std.proofs.lemmas.Bool.{false≢true}
use Rattle.node_sync.specs.Locks.{LockState, IsHeld, IsHeldBy, IsLock}
use Rattle.node_sync.specs.Semaphores.{SemaphoreState, IsSemaphore}
use Rattle.node_sync.specs.Objects.{Objects, AreInOrder, IsLockAt, IsSemaphoreAt, with_lock, with_semaphore, none_yet}
use Rattle.node_sync.proofs.Maps.{get-seen, seen-insert, insert_same, IfSome-insert, IsSome-insert}

abbrev pub Locks : Type 0
Locks = BTreeMap ℕ LockState

abbrev pub Semaphores : Type 0
Semaphores = BTreeMap ℕ SemaphoreState

abbrev pub seen : Locks → Semaphores → Objects
seen locks semaphores = record { locks = map.from_entries locks.entries; semaphores = map.from_entries semaphores.entries }

pub AreInOrder-none_yet : AreInOrder none_yet
AreInOrder-none_yet = record {
  locks = λ at. subst (λ o. IfSome o IsLock) (sym (get-empty nat_cmp at)) tt;
  semaphores = λ at. subst (λ o. IfSome o IsSemaphore) (sym (get-empty nat_cmp at)) tt;
  apart = λ at _. get-empty nat_cmp at;
}

-- ---- a lock changes

pub has_lock : (objects : Objects) (locks : Locks) (semaphores : Semaphores) (at : ℕ) → seen locks semaphores ≡ objects → IsLockAt objects at → IsSome (tree.get nat_cmp locks at)
has_lock objects locks semaphores at is made = subst IsSome (sym (ap (λ (o : Objects). map.get o.locks at) is) ∙ get-seen locks at) made

pub lock_is : (objects : Objects) (locks : Locks) (semaphores : Semaphores) (at : ℕ) (lock : LockState) → seen locks semaphores ≡ objects → tree.get nat_cmp locks at ≡ Some lock → map.get objects.locks at ≡ Some lock
lock_is objects locks semaphores at lock is found = sym (ap (λ (o : Objects). map.get o.locks at) is) ∙ get-seen locks at ∙ found

pub with_lock_is : (objects : Objects) (locks new : Locks) (semaphores : Semaphores) (at : ℕ) (lock : LockState) → seen locks semaphores ≡ objects → tree.UpdatesBy nat_cmp (nat_cmp at) locks new (Some lock) → seen new semaphores ≡ with_lock objects at lock
with_lock_is objects locks new semaphores at lock is updates =
    ap (λ m. record { locks = m; semaphores = map.from_entries semaphores.entries }) (seen-insert locks new at lock updates)
    ∙ ap (λ (o : Objects). with_lock o at lock) is

pub with_lock_same : (objects : Objects) (at : ℕ) (lock : LockState) → map.get objects.locks at ≡ Some lock → with_lock objects at lock ≡ objects
with_lock_same objects at lock has = ap (λ m. record { locks = m; semaphores = objects.semaphores }) (insert_same objects.locks at lock has)

pub AreInOrder-with_lock : (objects : Objects) (at : ℕ) (lock : LockState) → AreInOrder objects → map.get objects.semaphores at ≡ None → IsLock lock → AreInOrder (with_lock objects at lock)
AreInOrder-with_lock objects at lock order no_semaphore is_lock = record {
  locks = IfSome-insert IsLock objects.locks at lock order.locks is_lock;
  semaphores = order.semaphores;
  apart = IsSome-insert objects.locks at lock (λ q. map.get objects.semaphores q ≡ None) no_semaphore order.apart;
}

-- ---- a semaphore changes

pub has_semaphore : (objects : Objects) (locks : Locks) (semaphores : Semaphores) (at : ℕ) → seen locks semaphores ≡ objects → IsSemaphoreAt objects at → IsSome (tree.get nat_cmp semaphores at)
has_semaphore objects locks semaphores at is made = subst IsSome (sym (ap (λ (o : Objects). map.get o.semaphores at) is) ∙ get-seen semaphores at) made

pub semaphore_is : (objects : Objects) (locks : Locks) (semaphores : Semaphores) (at : ℕ) (semaphore : SemaphoreState) → seen locks semaphores ≡ objects → tree.get nat_cmp semaphores at ≡ Some semaphore → map.get objects.semaphores at ≡ Some semaphore
semaphore_is objects locks semaphores at semaphore is found = sym (ap (λ (o : Objects). map.get o.semaphores at) is) ∙ get-seen semaphores at ∙ found

pub with_semaphore_is : (objects : Objects) (locks : Locks) (semaphores new : Semaphores) (at : ℕ) (semaphore : SemaphoreState) → seen locks semaphores ≡ objects → tree.UpdatesBy nat_cmp (nat_cmp at) semaphores new (Some semaphore) → seen locks new ≡ with_semaphore objects at semaphore
with_semaphore_is objects locks semaphores new at semaphore is updates =
    ap (λ m. record { locks = map.from_entries locks.entries; semaphores = m }) (seen-insert semaphores new at semaphore updates)
    ∙ ap (λ (o : Objects). with_semaphore o at semaphore) is

pub with_semaphore_same : (objects : Objects) (at : ℕ) (semaphore : SemaphoreState) → map.get objects.semaphores at ≡ Some semaphore → with_semaphore objects at semaphore ≡ objects
with_semaphore_same objects at semaphore has = ap (λ m. record { locks = objects.locks; semaphores = m }) (insert_same objects.semaphores at semaphore has)

pub AreInOrder-with_semaphore : (objects : Objects) (at : ℕ) (semaphore : SemaphoreState) → AreInOrder objects → map.get objects.locks at ≡ None → IsSemaphore semaphore → AreInOrder (with_semaphore objects at semaphore)
AreInOrder-with_semaphore objects at semaphore order no_lock is_semaphore =
    let holds = IfSome-insert IsSemaphore objects.semaphores at semaphore order.semaphores is_semaphore in
    record { locks = order.locks; semaphores = holds; apart = apart }
  where
    absent : (o : Option SemaphoreState) → (IsSome o → ⊥) → o ≡ None
    absent None never = refl
    absent (Some s) never = absurd (never refl)

    apart : (q : ℕ) → IsLockAt objects q → map.get (map.insert objects.semaphores at semaphore) q ≡ None
    apart q lock = absent _ (λ found.
        IsSome-insert objects.semaphores at semaphore (λ p. IsLockAt objects p → ⊥) (λ there. false≢true (subst IsSome no_lock there)) (λ p has there. false≢true (subst IsSome (order.apart p there) has)) q found lock)

pub no_lock : (objects : Objects) (at : ℕ) → AreInOrder objects → IsSemaphoreAt objects at → map.get objects.locks at ≡ None
no_lock objects at order made = absent _ (λ there. false≢true (subst IsSome (order.apart at there) made))
  where
    absent : (o : Option LockState) → (IsSome o → ⊥) → o ≡ None
    absent None never = refl
    absent (Some s) never = absurd (never refl)

-- ---- what holds of a result

pub IfOk_then : {T E : Type 0} {P Q : T → Type 0} (r : Result T E) → ((x : T) → P x → Q x) → IfOk r P → IfOk r Q
IfOk_then (Ok x) more p = more x p
IfOk_then (Err e) more p = tt

pub OnErr_then : {T E P Q : Type 0} (r : Result T E) → (P → Q) → OnErr r P → OnErr r Q
OnErr_then (Ok x) more p = tt
OnErr_then (Err e) more p = more p

pub OnFalse_then : {P Q : Type 0} (b : Bool) → (P → Q) → OnFalse b P → OnFalse b Q
OnFalse_then true more p = p
OnFalse_then false more p = more p

pub IsHeld-from_holder : (lock : LockState) (pid : ℕ) → IsHeldBy lock pid → IsHeld lock
IsHeld-from_holder lock pid held = subst IsSome (sym held) refl
