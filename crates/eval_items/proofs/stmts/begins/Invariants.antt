use Rattle.eval_items.proofs.stmts.begins.Given as goal

abbrev pub ghost-assigns : goal.ghost-assigns
ghost-assigns g a = g.w

abbrev pub ghost-asks : goal.ghost-asks
ghost-asks g a = g.w

abbrev pub ghost-operands : goal.ghost-operands
ghost-operands g a = g.w

abbrev pub ghost-signals : goal.ghost-signals
ghost-signals g a = g.w
