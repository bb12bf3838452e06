use Rattle.eval_items.proofs.stmts.declares_unset.Goals as goal

pub returns : goal.returns
returns c = rw (← c.in_ok-declare.ensures) c.goes.ensures
