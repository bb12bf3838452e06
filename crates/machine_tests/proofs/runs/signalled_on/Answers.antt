use Rattle.machine_tests.proofs.Runnable.{signalled_on}
use Rattle.machine_tests.proofs.runs.signalled_on.Goals as goal

pub run_given-requires : goal.run_given-requires
run_given-requires g c = signalled_on _ _ c.signalling-body.ensures c.new.ensures
