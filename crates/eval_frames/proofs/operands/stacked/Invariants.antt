use Rattle.std.proofs.Common.{◌≡◌, length, ◌++◌}
use Rattle.eval_frames.proofs.operands.stacked.Given as goal

abbrev pub invariant-loop-value : goal.invariant-loop-value
invariant-loop-value l = l.list.items ++ l.values ≡ l.initial.list.items

abbrev pub decreases-loop-value : goal.decreases-loop-value
decreases-loop-value l = length l.list.items
