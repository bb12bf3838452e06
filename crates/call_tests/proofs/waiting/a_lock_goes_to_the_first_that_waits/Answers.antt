-- The lock was made, and who enters waits nowhere.
use Rattle.std.proofs.Common.{[], ◌∷◌, Some, refl, sym, subst, arith}
use Rattle.node_sync.specs.Locks.{IsHeldBy, LockState, free}
use Rattle.node_sync.specs.Objects.{IsLockAt, IsUnmade}
use Rattle.call_tests.proofs.OneLock.{IsLockAt-with_lock, IsUnmade-none_yet, idle_at_first, is_idle, lock_is_now, nobody, another, takes, queues, holds}
use Rattle.call_tests.proofs.waiting.a_lock_goes_to_the_first_that_waits.Goals as goal

-- process 1 holds the lock
abbrev held : LockState
held = record { holder = Some 1; waiting = [] }

-- and process 2 waits for it
abbrev waited_for : LockState
waited_for = record { holder = Some 1; waiting = 2 ∷ [] }

pub make_lock-requires : goal.make_lock-requires
make_lock-requires g c = subst (λ o. IsUnmade o 7) (sym c.in_ok-sync.ensures.none) (IsUnmade-none_yet 7)

pub enter-requires-clause-made : goal.enter-requires-clause-made
enter-requires-clause-made g c = subst (λ o. IsLockAt o 7) (sym c.in_ok-make_lock.ensures.ok) (IsLockAt-with_lock c.in_ok-sync.sync 7 free)

pub enter-requires-clause-waits : goal.enter-requires-clause-waits
enter-requires-clause-waits g c = is_idle c.in_ok-sync.sync c.make_lock.new.self 7 free 1 c.in_ok-make_lock.ensures.ok (idle_at_first c.in_ok-sync.sync 1 c.in_ok-sync.ensures.none) (nobody 1)

pub enter-requires-2-clause-made : goal.enter-requires-2-clause-made
enter-requires-2-clause-made g c = subst (λ o. IsLockAt o 7) (sym c.in_ok-enter.ensures.ok) (IsLockAt-with_lock c.make_lock.new.self 7 _)

pub enter-requires-2-clause-waits : goal.enter-requires-2-clause-waits
enter-requires-2-clause-waits g c =
    let made = c.in_ok-make_lock.ensures.ok in
    let is_free = lock_is_now c.in_ok-sync.sync c.make_lock.new.self 7 free made in
    let one = takes c.make_lock.new.self c.enter.new.self 7 1 c.in_ok-enter.field-0 free is_free c.in_ok-enter.ensures.ok c.in_ok-enter.ensures.taken.1 refl in
    let idle = is_idle c.in_ok-sync.sync c.make_lock.new.self 7 free 2 made (idle_at_first c.in_ok-sync.sync 2 c.in_ok-sync.ensures.none) (nobody 2) in
    is_idle c.make_lock.new.self c.enter.new.self 7 held 2 one idle (nobody 2)

pub enter-requires-3-clause-made : goal.enter-requires-3-clause-made
enter-requires-3-clause-made g c = subst (λ o. IsLockAt o 7) (sym c.in_ok-enter-2.ensures.ok) (IsLockAt-with_lock c.enter.new.self 7 _)

pub enter-requires-3-clause-waits : goal.enter-requires-3-clause-waits
enter-requires-3-clause-waits g c =
    let made = c.in_ok-make_lock.ensures.ok in
    let is_free = lock_is_now c.in_ok-sync.sync c.make_lock.new.self 7 free made in
    let one = takes c.make_lock.new.self c.enter.new.self 7 1 c.in_ok-enter.field-0 free is_free c.in_ok-enter.ensures.ok c.in_ok-enter.ensures.taken.1 refl in
    let is_held = lock_is_now c.make_lock.new.self c.enter.new.self 7 held one in
    let two = queues c.enter.new.self c.enter-2.new.self 7 2 c.in_ok-enter-2.field-0 held is_held c.in_ok-enter-2.ensures.ok 1 refl (λ same. omega arith) c.in_ok-enter-2.ensures.taken.0 c.in_ok-enter-2.ensures.held.0 in
    let idle = is_idle c.in_ok-sync.sync c.make_lock.new.self 7 free 1 made (idle_at_first c.in_ok-sync.sync 1 c.in_ok-sync.ensures.none) (nobody 1) in
    let idle_held = is_idle c.make_lock.new.self c.enter.new.self 7 held 1 one idle (nobody 1) in
    is_idle c.enter.new.self c.enter-2.new.self 7 waited_for 1 two idle_held (another 1 2 (λ same. omega arith))

pub leave-requires-clause-made : goal.leave-requires-clause-made
leave-requires-clause-made g c = subst (λ o. IsLockAt o 7) (sym c.in_ok-enter-3.ensures.ok) (IsLockAt-with_lock c.enter-2.new.self 7 _)

pub leave-requires-clause-holds : goal.leave-requires-clause-holds
leave-requires-clause-holds g c =
    let made = c.in_ok-make_lock.ensures.ok in
    let is_free = lock_is_now c.in_ok-sync.sync c.make_lock.new.self 7 free made in
    let one = takes c.make_lock.new.self c.enter.new.self 7 1 c.in_ok-enter.field-0 free is_free c.in_ok-enter.ensures.ok c.in_ok-enter.ensures.taken.1 refl in
    let is_held = lock_is_now c.make_lock.new.self c.enter.new.self 7 held one in
    let two = queues c.enter.new.self c.enter-2.new.self 7 2 c.in_ok-enter-2.field-0 held is_held c.in_ok-enter-2.ensures.ok 1 refl (λ same. omega arith) c.in_ok-enter-2.ensures.taken.0 c.in_ok-enter-2.ensures.held.0 in
    let is_waited = lock_is_now c.enter.new.self c.enter-2.new.self 7 waited_for two in
    let three = holds c.enter-2.new.self c.enter-3.new.self 7 1 c.in_ok-enter-3.field-0 waited_for is_waited c.in_ok-enter-3.ensures.ok c.in_ok-enter-3.ensures.held.1 refl in
    subst (λ l. IsHeldBy l 1) (sym (lock_is_now c.enter-2.new.self c.enter-3.new.self 7 waited_for three)) refl
