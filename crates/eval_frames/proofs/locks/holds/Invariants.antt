use Rattle.std.proofs.Common.{◌≡◌, drop}
use Rattle.machine_rules.specs.Frames.{held, is_held}
use Rattle.eval_frames.proofs.locks.holds.Given as goal

abbrev pub invariant-loop-i : goal.invariant-loop-i
invariant-loop-i l = is_held l.addr (held (drop l.i l.frames)) ≡ is_held l.addr (held l.frames)
