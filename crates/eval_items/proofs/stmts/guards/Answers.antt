use Rattle.eval_items.proofs.stmts.guards.Goals as goal

pub returns : goal.returns
returns c = rw (← c.in_ok-push.ensures.ok, ← c.in_ok-push-2.ensures.ok) c.goes.ensures
