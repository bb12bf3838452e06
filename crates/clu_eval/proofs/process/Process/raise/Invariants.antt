use Rattle.clu_eval.proofs.process.Process.raise.Given as goal

abbrev pub ghost-raise_in : goal.ghost-raise_in
ghost-raise_in g a = g.w
