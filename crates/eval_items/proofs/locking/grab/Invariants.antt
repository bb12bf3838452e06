use Rattle.eval_items.proofs.locking.grab.Given as goal

abbrev pub ghost-grabs : goal.ghost-grabs
ghost-grabs g a = g.w
