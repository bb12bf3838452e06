use Rattle.machine_tests.proofs.Runnable.{record_used}
use Rattle.machine_tests.proofs.runs.record_used.Goals as goal

pub run-requires : goal.run-requires
run-requires g c = record_used _ _ c.fields-body.ensures c.new.ensures
