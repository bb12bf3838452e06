use Rattle.std.proofs.Common.{length}
use Rattle.node_core.proofs.Expiring.{Gone}
use Rattle.node_core.proofs.limits.expire.Given as goal

abbrev pub invariant-loop-owner : goal.invariant-loop-owner
invariant-loop-owner l = Gone l.t l.initial.limits l.limits l.effects

abbrev pub decreases-loop-owner : goal.decreases-loop-owner
decreases-loop-owner l = length l.limits
