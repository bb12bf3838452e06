use Rattle.std.proofs.Common.{◌≡◌, ◌≤◌, ◌++◌, length, take, drop, reverse}
use Rattle.eval_frames.proofs.operands.take_last.Given as goal

abbrev pub invariant-loop-left : goal.invariant-loop-left
invariant-loop-left l = (reverse (take l.left l.values) ++ l.taken ≡ reverse (take l.count l.initial.values)) × (drop l.left l.values ≡ drop l.count l.initial.values) × (l.left ≤ length l.values)

abbrev pub decreases-loop-left : goal.decreases-loop-left
decreases-loop-left l = l.left
