use Rattle.eval_items.proofs.placing.evals_all.Goals as goal

pub returns : goal.returns
returns c = rw (← c.in_ok-push.ensures.ok, ← c.in_ok-put_exprs.ensures) c.goes.ensures
