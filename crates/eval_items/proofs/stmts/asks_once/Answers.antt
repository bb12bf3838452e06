use Rattle.eval_items.proofs.stmts.asks_once.Goals as goal

pub operands-requires : goal.operands-requires
operands-requires g c = rw (c.in_ok-push.ensures.ok, c.in_ok-push-2.ensures.ok) c.requires

pub returns : goal.returns
returns g c = rw (← c.in_ok-push.ensures.ok, ← c.in_ok-push-2.ensures.ok) c.operands.ensures
