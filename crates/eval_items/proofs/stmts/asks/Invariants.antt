use Rattle.eval_items.proofs.stmts.asks.Given as goal

abbrev pub ghost-asks_then : goal.ghost-asks_then
ghost-asks_then g a = g.w
