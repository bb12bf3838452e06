use Rattle.eval_items.proofs.stmts.sets_field.Goals as goal

pub two_operands-requires : goal.two_operands-requires
two_operands-requires g c = rw c.in_ok-push.ensures.ok c.requires

pub returns : goal.returns
returns g c = rw (← c.in_ok-push.ensures.ok) c.two_operands.ensures
