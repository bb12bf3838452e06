use Rattle.eval_objects.proofs.making.make_tag.Given as goal

abbrev pub ghost-makes : goal.ghost-makes
ghost-makes g a = g.w
