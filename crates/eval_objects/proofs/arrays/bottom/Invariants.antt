use Rattle.eval_objects.proofs.arrays.bottom.Given as goal

abbrev pub ghost-out_of_bounds : goal.ghost-out_of_bounds
ghost-out_of_bounds g a = g.w
