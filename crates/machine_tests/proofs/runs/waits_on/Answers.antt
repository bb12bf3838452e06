use Rattle.machine_tests.proofs.Runnable.{waits_on}
use Rattle.machine_tests.proofs.runs.waits_on.Goals as goal

pub run_given-requires : goal.run_given-requires
run_given-requires g c = waits_on _ _ c.waiting_on-body.ensures c.new.ensures
