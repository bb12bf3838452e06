use Rattle.machine_tests.proofs.Runnable.{tag_taken}
use Rattle.machine_tests.proofs.runs.tag_taken.Goals as goal

pub run-requires : goal.run-requires
run-requires g c = tag_taken _ _ c.tags-body.ensures c.new.ensures
