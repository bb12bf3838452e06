use Rattle.std.proofs.Common.{◌≡◌, drop}
use Rattle.machine_rules.specs.Frames.{is_held, leaves}
use Rattle.eval_frames.proofs.locks.gives_back.Given as goal

abbrev pub invariant-loop-i : goal.invariant-loop-i
invariant-loop-i l = is_held l.addr (leaves (drop l.i l.work)) ≡ is_held l.addr (leaves l.work)
