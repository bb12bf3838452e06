use Rattle.eval_items.proofs.stmts.begins_while.Goals as goal

pub returns : goal.returns
returns c = rw (← c.in_ok-put_loop.ensures) c.goes.ensures
