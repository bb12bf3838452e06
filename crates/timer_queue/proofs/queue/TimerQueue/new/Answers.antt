-- The empty queue is in order.
use Rattle.std.proofs.Common.{[]}
use Rattle.std.specs.List.{IsDistinct}
use Rattle.std.specs.List.Sorted.{IsStrictlySortedBy}
use Rattle.timer_queue.specs.Limits.{IsQueue}
use Rattle.timer_queue.proofs.queue.TimerQueue.new.Goals as goal

nothing : IsQueue []
unfolding IsStrictlySortedBy IsDistinct
nothing = record { ordered = tt; distinct = tt }

pub invariant_of-result : goal.invariant_of-result
invariant_of-result c = rw c.new.ensures.items nothing

pub returns-clause-queue : goal.returns-clause-queue
returns-clause-queue c = rw c.new.ensures.items nothing
