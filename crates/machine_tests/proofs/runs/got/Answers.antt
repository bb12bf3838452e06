use Rattle.machine_tests.proofs.Runnable.{got}
use Rattle.machine_tests.proofs.runs.got.Goals as goal

pub run_given-requires : goal.run_given-requires
run_given-requires g c = got _ _ c.waiting-body.ensures c.new.ensures
