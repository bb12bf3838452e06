-- The semaphore was made, and nobody waits at first.
use Rattle.std.proofs.Common.{sym, ap, subst, ◌∙◌}
use Rattle.node_sync.specs.Objects.{IsSemaphoreAt, IsUnmade, WaitsNowhere, none_yet, with_semaphore}
use Rattle.node_sync.specs.Semaphores.{counting}
use Rattle.call_tests.proofs.OneLock.{IsSemaphoreAt-with_semaphore, IsUnmade-none_yet, WaitsNowhere-none_yet, WaitsNowhere-with_semaphore, nobody}
use Rattle.call_tests.proofs.waiting.a_signal_counts_where_nobody_waits.Goals as goal

pub make_sem-requires-clause-unmade : goal.make_sem-requires-clause-unmade
make_sem-requires-clause-unmade g c = subst (λ o. IsUnmade o 9) (sym c.in_ok-sync.ensures.none) (IsUnmade-none_yet 9)

pub wait-requires-clause-made : goal.wait-requires-clause-made
wait-requires-clause-made g c = subst (λ o. IsSemaphoreAt o 9) (sym c.in_ok-make_sem.ensures.ok) (IsSemaphoreAt-with_semaphore c.in_ok-sync.sync 9 (counting 0))

pub wait-requires-clause-waits : goal.wait-requires-clause-waits
wait-requires-clause-waits g c =
    subst (λ o. WaitsNowhere o 1) (sym (c.in_ok-make_sem.ensures.ok ∙ ap (λ o. with_semaphore o 9 (counting 0)) c.in_ok-sync.ensures.none)) (WaitsNowhere-with_semaphore none_yet 9 (counting 0) 1 (WaitsNowhere-none_yet 1) (nobody 1))

pub cancel-requires : goal.cancel-requires
cancel-requires g c = subst (λ o. IsSemaphoreAt o 9) (sym c.in_ok-wait.ensures.ok) (IsSemaphoreAt-with_semaphore c.make_sem.new.self 9 _)

pub signal-requires : goal.signal-requires
signal-requires g c = subst (λ o. IsSemaphoreAt o 9) (sym c.cancel.ensures.cancelled) (IsSemaphoreAt-with_semaphore c.wait.new.self 9 _)
