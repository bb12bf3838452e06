use Rattle.eval_objects.proofs.fields.put.Given as goal

abbrev pub ghost-refuse : goal.ghost-refuse
ghost-refuse g a = g.w
