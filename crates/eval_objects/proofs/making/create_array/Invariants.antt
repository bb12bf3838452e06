use Rattle.eval_objects.proofs.making.create_array.Given as goal

abbrev pub ghost-fail : goal.ghost-fail
ghost-fail g a = g.w

abbrev pub ghost-makes : goal.ghost-makes
ghost-makes g a = g.w
