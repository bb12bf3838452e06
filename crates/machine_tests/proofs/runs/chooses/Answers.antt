use Rattle.machine_tests.proofs.Runnable.{chooses}
use Rattle.machine_tests.proofs.runs.chooses.Goals as goal

pub run-requires : goal.run-requires
run-requires g c = chooses _ _ c.choosing-body.ensures c.new.ensures
