use Rattle.machine_tests.proofs.Runnable.{no_nap}
use Rattle.machine_tests.proofs.runs.no_nap.Goals as goal

pub run-requires : goal.run-requires
run-requires g c = no_nap _ _ c.nap_body-body.ensures c.new.ensures
