use Rattle.eval_items.proofs.stmts.returns.Goals as goal

pub returns-in_ok-left-in-None : goal.returns-in_ok-left-in-None
returns-in_ok-left-in-None c = rw (c.in-None.is, ← c.in_ok-left-in-None.ensures) c.ends.ensures

pub returns-in-Some : goal.returns-in-Some
returns-in-Some c = rw c.in-Some.is c.evals_then.ensures
