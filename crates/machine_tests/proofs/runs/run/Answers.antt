use Rattle.machine_tests.proofs.runs.run.Goals as goal

pub run_with-requires : goal.run_with-requires
run_with-requires g c = rw c.new.ensures.items c.requires
