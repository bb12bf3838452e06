use Rattle.machine_tests.proofs.Runnable.{region}
use Rattle.machine_tests.proofs.runs.region.Goals as goal

pub run-requires : goal.run-requires
run-requires g c = region _ _ c.locking-body.ensures c.new.ensures
