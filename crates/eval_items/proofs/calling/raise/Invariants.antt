use Rattle.eval_items.proofs.calling.raise.Given as goal

abbrev pub ghost-unwind : goal.ghost-unwind
ghost-unwind g a = g.w
