use Rattle.eval_frames.proofs.raising.fail.Given as goal

abbrev pub ghost-raise : goal.ghost-raise
ghost-raise g a = g.w
