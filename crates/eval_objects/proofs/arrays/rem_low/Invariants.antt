use Rattle.eval_objects.proofs.arrays.rem_low.Given as goal

abbrev pub ghost-refuse : goal.ghost-refuse
ghost-refuse g a = g.w
