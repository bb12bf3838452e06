use Rattle.std.proofs.Common.{◌≡◌, drop}
use Rattle.machine_rules.specs.Exceptions.{is_named}
use Rattle.eval_frames.proofs.landing.is_named.Given as goal

abbrev pub invariant-loop-other : goal.invariant-loop-other
invariant-loop-other l = is_named l.name (drop l.other-index l.names) ≡ is_named l.name l.names
