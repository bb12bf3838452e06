use Rattle.eval_items.proofs.calling.falls.Given as goal

abbrev pub ghost-unwind : goal.ghost-unwind
ghost-unwind g a = g.w
