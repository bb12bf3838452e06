use Rattle.eval_items.proofs.locking.grabs.Given as goal

abbrev pub ghost-fail : goal.ghost-fail
ghost-fail g a = g.w
