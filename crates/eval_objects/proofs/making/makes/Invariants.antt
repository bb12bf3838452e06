use Rattle.eval_objects.proofs.making.makes.Given as goal

abbrev pub ghost-refuse : goal.ghost-refuse
ghost-refuse g a = g.w
