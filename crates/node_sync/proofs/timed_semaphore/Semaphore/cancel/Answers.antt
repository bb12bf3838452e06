-- The process is taken out of the queue.
use Rattle.std.proofs.Common.{◌≡◌, ◌∙◌, not, nat_eq, ap, sym, rules}
use Rattle.node_sync.specs.Semaphores.{cancelled}
use Rattle.node_sync.proofs.Queues.{others, others-absent, filter-retained, OnFalse_if}
use Rattle.node_sync.proofs.timed_semaphore.Semaphore.cancel.Goals as goal
use Rattle.node_sync.proofs.timed_semaphore.Semaphore.cancel.Goals.{After-retain}

kept : (c : After-retain) → c.retain.new.self.items ≡ others c.args.pid c.self.inside.waiting.items
kept c = filter-retained _ (λ other. not (nat_eq other c.args.pid)) _ (λ x b g called. search rules) _ _ c.retain.ensures.filtered

pub returns-clause-cancelled : goal.returns-clause-cancelled
returns-clause-cancelled c = rw (kept c) (ap (λ s. cancelled s c.args.pid) c.self.view_is)

pub returns-clause-unchanged : goal.returns-clause-unchanged
returns-clause-unchanged c = OnFalse_if c.contains-waited.result (λ absent. rw (kept c, others-absent c.args.pid c.self.inside.waiting.items (sym c.contains-waited.ensures.value ∙ absent)) c.self.view_is)
