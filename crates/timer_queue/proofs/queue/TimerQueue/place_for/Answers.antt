-- The search ends where the limits that expire before the new one end.
use Rattle.std.proofs.Common.{◌≡◌, true, false, rules}
use Rattle.std.specs.List.Sorted.{IsPartitionPoint}
use Rattle.std.specs.Ordering.{is_lt}
use Rattle.std.proofs.lemmas.List.Sorted.{IsPartitionPoint-from_clause}
use Rattle.timer_queue.specs.Limits.{expiry_order}
use Rattle.timer_queue.proofs.Edits.{partitioned}
use Rattle.timer_queue.proofs.queue.TimerQueue.place_for.Goals as goal
use Rattle.timer_queue.proofs.queue.TimerQueue.place_for.Goals.{After-partition_point}

parts : (c : After-partition_point) → IsPartitionPoint (λ l. is_lt (expiry_order l c.args.new) ≡ true) (λ l. is_lt (expiry_order l c.args.new) ≡ false) c.args.self.now c.partition_point.result
parts c = rw (← c.self.view_is, ← c.deref.ensures.value) (IsPartitionPoint-from_clause (λ l. is_lt (expiry_order l c.args.new)) _ _ c.partition_point.ensures.partitioned (rw c.deref.ensures.value (partitioned _ c.args.new c.self.invariant)) (λ a r q called. search rules))

pub returns-clause-before : goal.returns-clause-before
returns-clause-before c = (parts (goal.at.returns-clause-before c).After-partition_point).0

pub returns-clause-behind : goal.returns-clause-behind
returns-clause-behind c = (parts (goal.at.returns-clause-behind c).After-partition_point).1
