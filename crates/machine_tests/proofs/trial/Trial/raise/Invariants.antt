use Rattle.machine_tests.proofs.trial.Trial.raise.Given as goal

abbrev pub ghost-raise : goal.ghost-raise
ghost-raise g a = g.w
