use Rattle.std.proofs.Common.{◌≡◌, length, ◌++◌}
use Rattle.machine_rules.specs.Exceptions.{landing}
use Rattle.machine_rules.specs.Frames.{leaves}
use Rattle.eval_frames.specs.Landings.{behind_all}
use Rattle.eval_frames.proofs.landing.land.Given as goal

abbrev pub invariant-loop-item : goal.invariant-loop-item
invariant-loop-item l = (landing l.name l.initial.work ≡ behind_all l.gone (landing l.name l.work)) × (leaves l.initial.work ≡ l.gone ++ leaves l.work)

abbrev pub decreases-loop-item : goal.decreases-loop-item
decreases-loop-item l = length l.work
