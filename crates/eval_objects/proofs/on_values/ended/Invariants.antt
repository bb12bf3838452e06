use Rattle.eval_objects.proofs.on_values.ended.Given as goal

abbrev pub ghost-raise : goal.ghost-raise
ghost-raise g a = g.w
