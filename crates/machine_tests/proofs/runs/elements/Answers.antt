use Rattle.machine_tests.proofs.Runnable.{elements}
use Rattle.machine_tests.proofs.runs.elements.Goals as goal

pub run-requires : goal.run-requires
run-requires g c = elements _ _ c.array_loop-body.ensures c.new.ensures
