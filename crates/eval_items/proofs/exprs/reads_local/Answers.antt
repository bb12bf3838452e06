use Rattle.eval_items.proofs.exprs.reads_local.Goals as goal

pub reads-requires : goal.reads-requires
reads-requires g c = rw c.in_ok-value-in-Some.ensures (rw c.in-Some.ensures at c.requires)

pub returns : goal.returns
returns g c = rw (c.in-Some.ensures, ← c.in_ok-value-in-Some.ensures) c.reads.ensures
