use Rattle.eval_items.proofs.locking.locks.Goals as goal

pub returns : goal.returns
returns c = rw (← c.in_ok-push.ensures.ok, ← c.in_ok-put_body.ensures) c.acts.ensures
