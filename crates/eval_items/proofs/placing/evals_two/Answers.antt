use Rattle.eval_items.proofs.placing.evals_two.Goals as goal

pub returns : goal.returns
returns c = rw (← c.in_ok-put_three.ensures) c.goes.ensures
