use Rattle.std.proofs.Common.{◌≡◌, drop, []}
use Rattle.machine_rules.specs.Frames.{bind}
use Rattle.eval_frames.proofs.starts.bind.Given as goal

abbrev pub invariant-loop-param : goal.invariant-loop-param
invariant-loop-param l = bind l.vars (drop l.param-index l.params) l.args ≡ bind [] l.params l.initial.args
