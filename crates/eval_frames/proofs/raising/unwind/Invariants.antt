use Rattle.std.proofs.Common.{◌≡◌, length}
use Rattle.machine_rules.specs.Exceptions.{unwind}
use Rattle.eval_frames.proofs.raising.unwind.Given as goal

abbrev pub invariant-loop-frame : goal.invariant-loop-frame
invariant-loop-frame g l = unwind g.w l.left l.sig l.frames ≡ unwind g.w l.initial.left l.initial.sig l.initial.frames

abbrev pub decreases-loop-frame : goal.decreases-loop-frame
decreases-loop-frame g l = length l.frames
