use Rattle.machine_rules.specs.Row.{enters}
use Rattle.eval_items.proofs.Taking.{args-there, args-taken}
use Rattle.eval_items.proofs.calling.enter.Goals as goal

pub take_last-requires : goal.take_last-requires
take_last-requires g c = rw c.len.ensures (args-there c.in-Some.routine.now c.args.frame.values (enters g.w c.args.frame c.args.frames.now c.args.frame.work c.args.k) (rw (c.requires.0, ← c.in-Some.ensures.value) at c.requires.1))

pub returns : goal.returns
returns g c = rw (c.requires.0, ← c.in-Some.ensures.value, args-taken c.in-Some.routine.now c.args.frame.values (enters g.w c.args.frame c.args.frames.now c.args.frame.work c.args.k) (rw (c.requires.0, ← c.in-Some.ensures.value) at c.requires.1), ← c.len.ensures, ← c.in_ok-args.ensures.taken, ← c.in_ok-args.ensures.left) c.enters.ensures
