use Rattle.eval_objects.proofs.on_values.on_values.Given as goal

abbrev pub ghost-ended : goal.ghost-ended
ghost-ended g a = g.w
