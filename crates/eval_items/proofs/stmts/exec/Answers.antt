use Rattle.eval_items.proofs.stmts.exec.Goals as goal

pub begins-requires : goal.begins-requires
begins-requires g c = rw c.line_of.ensures c.requires

pub returns : goal.returns
returns g c = rw (← c.line_of.ensures) c.begins.ensures
