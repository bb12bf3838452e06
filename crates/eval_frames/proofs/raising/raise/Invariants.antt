use Rattle.eval_frames.proofs.raising.raise.Given as goal

abbrev pub ghost-unwind : goal.ghost-unwind
ghost-unwind g a = g.w
