use Rattle.eval_items.proofs.stmts.asks_then.Given as goal

abbrev pub ghost-asks_once : goal.ghost-asks_once
ghost-asks_once g a = g.w

abbrev pub ghost-asks_maybe : goal.ghost-asks_maybe
ghost-asks_maybe g a = g.w
