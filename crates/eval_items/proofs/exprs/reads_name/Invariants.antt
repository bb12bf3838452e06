use Rattle.eval_items.proofs.exprs.reads_name.Given as goal

abbrev pub ghost-reads_local : goal.ghost-reads_local
ghost-reads_local g a = g.w

abbrev pub ghost-reads_node : goal.ghost-reads_node
ghost-reads_node g a = g.w
