use Rattle.eval_items.proofs.placing.evals_then.Goals as goal

pub returns : goal.returns
returns c = rw (← c.in_ok-put_two.ensures) c.goes.ensures
