use Rattle.eval_items.proofs.stmts.declares_set.Goals as goal

pub returns : goal.returns
returns c = rw (← c.in_ok-declared.ensures, ← c.in_ok-put.ensures) c.goes.ensures
