use Rattle.machine_tests.proofs.Runnable.{nap}
use Rattle.machine_tests.proofs.runs.nap.Goals as goal

pub run-requires : goal.run-requires
run-requires g c = nap _ _ c.nap_body-body.ensures c.new.ensures
