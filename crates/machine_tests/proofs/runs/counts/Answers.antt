use Rattle.machine_tests.proofs.Runnable.{counts}
use Rattle.machine_tests.proofs.runs.counts.Goals as goal

pub run-requires : goal.run-requires
run-requires g c = counts _ _ c.counting-body.ensures c.new.ensures
