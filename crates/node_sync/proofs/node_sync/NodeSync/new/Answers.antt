-- Nothing was made.
use Rattle.node_sync.proofs.Kept.{AreInOrder-none_yet}
use Rattle.node_sync.proofs.node_sync.NodeSync.new.Goals as goal

pub invariant_of-result : goal.invariant_of-result
invariant_of-result c = rw (c.new.ensures.empty, c.new-2.ensures.empty) AreInOrder-none_yet

pub returns-clause-in_order : goal.returns-clause-in_order
returns-clause-in_order c = rw (c.new.ensures.empty, c.new-2.ensures.empty) AreInOrder-none_yet
