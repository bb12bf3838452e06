use Rattle.eval_items.proofs.exprs.reads_local.Given as goal

abbrev pub ghost-reads : goal.ghost-reads
ghost-reads g a = g.w
