use Rattle.machine_tests.proofs.Runnable.{left}
use Rattle.machine_tests.proofs.runs.left.Goals as goal

pub run-requires : goal.run-requires
run-requires g c = left _ _ c.leaving-body.ensures c.new.ensures
