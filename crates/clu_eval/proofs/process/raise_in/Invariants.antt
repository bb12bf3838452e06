use Rattle.clu_eval.proofs.process.raise_in.Given as goal

abbrev pub ghost-unwind : goal.ghost-unwind
ghost-unwind g a = g.w
