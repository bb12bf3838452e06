use Rattle.eval_objects.proofs.making.make_record.Given as goal

abbrev pub ghost-makes : goal.ghost-makes
ghost-makes g a = g.w
