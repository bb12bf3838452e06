use Rattle.eval_objects.proofs.arrays.add_high.Given as goal

abbrev pub ghost-refuse : goal.ghost-refuse
ghost-refuse g a = g.w
