use Rattle.eval_objects.proofs.making.makes_array.Given as goal

abbrev pub ghost-refuse : goal.ghost-refuse
ghost-refuse g a = g.w

abbrev pub ghost-makes : goal.ghost-makes
ghost-makes g a = g.w
