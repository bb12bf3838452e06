use Rattle.machine_tests.proofs.Runnable.{strings_shown}
use Rattle.machine_tests.proofs.runs.strings_shown.Goals as goal

pub run-requires : goal.run-requires
run-requires g c = strings_shown _ _ c.strings-body.ensures c.new.ensures
