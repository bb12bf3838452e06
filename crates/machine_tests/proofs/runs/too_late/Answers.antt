use Rattle.machine_tests.proofs.Runnable.{too_late}
use Rattle.machine_tests.proofs.runs.too_late.Goals as goal

pub run_given-requires : goal.run_given-requires
run_given-requires g c = too_late _ _ c.waiting-body.ensures c.new.ensures
