use Rattle.eval_items.proofs.calling.raise.Goals as goal

pub returns : goal.returns
returns g c = rw (c.in-Some.ensures, ← c.in_ok-left.ensures) c.unwind.ensures
