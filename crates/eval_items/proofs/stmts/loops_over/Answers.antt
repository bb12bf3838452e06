use Rattle.eval_items.proofs.stmts.loops_over.Goals as goal

pub returns-in-FromTo : goal.returns-in-FromTo
returns-in-FromTo c = rw c.in-FromTo.is c.evals_two.ensures

pub returns : goal.returns
returns c = rw c.in-Elements.is c.evals_then.ensures
