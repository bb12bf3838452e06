use Rattle.eval_items.proofs.stmts.asks_maybe.Given as goal

abbrev pub ghost-asks_once : goal.ghost-asks_once
ghost-asks_once g a = g.w
