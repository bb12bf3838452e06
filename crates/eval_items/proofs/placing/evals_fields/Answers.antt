use Rattle.eval_items.proofs.placing.evals_fields.Goals as goal

pub returns : goal.returns
returns c = rw (← c.len.ensures, ← c.in_ok-push.ensures.ok, ← c.in_ok-put_fields.ensures) c.goes.ensures
