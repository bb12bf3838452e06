use Rattle.machine_tests.proofs.Runnable.{loops}
use Rattle.machine_tests.proofs.runs.loops.Goals as goal

pub run-requires : goal.run-requires
run-requires g c = loops _ _ c.numbers-body.ensures c.new.ensures
