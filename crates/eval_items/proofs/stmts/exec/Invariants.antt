use Rattle.eval_items.proofs.stmts.exec.Given as goal

abbrev pub ghost-begins : goal.ghost-begins
ghost-begins g a = g.w
