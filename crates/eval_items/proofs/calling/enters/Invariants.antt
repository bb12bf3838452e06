use Rattle.eval_items.proofs.calling.enters.Given as goal

abbrev pub ghost-fail : goal.ghost-fail
ghost-fail g a = g.w
