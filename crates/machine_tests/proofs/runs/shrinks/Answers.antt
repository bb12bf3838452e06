use Rattle.machine_tests.proofs.Runnable.{shrinks}
use Rattle.machine_tests.proofs.runs.shrinks.Goals as goal

pub run-requires : goal.run-requires
run-requires g c = shrinks _ _ c.shrinking-body.ensures c.new.ensures
