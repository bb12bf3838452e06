use Rattle.eval_objects.proofs.refusing.out_of_bounds.Given as goal

abbrev pub ghost-raise : goal.ghost-raise
ghost-raise g a = g.w
