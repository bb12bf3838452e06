use Rattle.eval_items.proofs.exprs.makes_array.Goals as goal

pub returns : goal.returns
returns c = rw (← c.len-count.ensures) c.evals_all.ensures
