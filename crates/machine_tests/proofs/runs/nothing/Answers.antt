use Rattle.machine_tests.proofs.Runnable.{nothing}
use Rattle.machine_tests.proofs.runs.nothing.Goals as goal

pub run-requires : goal.run-requires
run-requires g c = nothing _ _ c.new.ensures
