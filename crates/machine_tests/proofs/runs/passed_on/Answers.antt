use Rattle.machine_tests.proofs.Runnable.{passed_on}
use Rattle.machine_tests.proofs.runs.passed_on.Goals as goal

pub run-requires : goal.run-requires
run-requires g c = passed_on _ _ c.passing-body.ensures c.three_routines-others.ensures
