use Rattle.eval_items.proofs.calling.enter.Given as goal

abbrev pub ghost-enters : goal.ghost-enters
ghost-enters g a = g.w
