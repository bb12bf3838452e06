use Rattle.std.proofs.Common.{◌≡◌, length}
use Rattle.eval_objects.specs.Arms as rule
use Rattle.eval_objects.proofs.tags.chosen.Given as goal

abbrev pub invariant-loop-arms : goal.invariant-loop-arms
invariant-loop-arms l = rule.chosen l.arms l.tag ≡ rule.chosen l.initial.arms l.tag

abbrev pub decreases-loop-arms : goal.decreases-loop-arms
decreases-loop-arms l = length l.arms
