use Rattle.eval_objects.proofs.arrays.set_item.Given as goal

abbrev pub ghost-refuse : goal.ghost-refuse
ghost-refuse g a = g.w
