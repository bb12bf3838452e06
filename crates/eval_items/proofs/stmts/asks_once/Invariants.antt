use Rattle.eval_items.proofs.stmts.asks_once.Given as goal

abbrev pub ghost-operands : goal.ghost-operands
ghost-operands g a = g.w
