use Rattle.eval_items.proofs.calling.fall.Given as goal

abbrev pub ghost-falls : goal.ghost-falls
ghost-falls g a = g.w
