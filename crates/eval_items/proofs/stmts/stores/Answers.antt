use Rattle.eval_items.proofs.stmts.stores.Goals as goal

pub returns : goal.returns
returns c = rw (← c.in_ok-behind.ensures, ← c.in_ok-before.ensures) c.goes.ensures
