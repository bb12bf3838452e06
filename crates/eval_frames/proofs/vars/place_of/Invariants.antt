use Rattle.std.proofs.Common.{take}
use Rattle.eval_frames.specs.Places.{IsMissing}
use Rattle.eval_frames.proofs.vars.place_of.Given as goal

abbrev pub invariant-loop-i : goal.invariant-loop-i
invariant-loop-i l = IsMissing l.name (take l.i l.vars)
