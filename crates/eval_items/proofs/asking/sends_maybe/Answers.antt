use Rattle.std.proofs.Common.{rules}
use Rattle.clu_tree.specs.declared.program.Routine.{Routine}
use Rattle.machine_rules.specs.Row.{sends_maybe}
use Rattle.eval_frames.proofs.Rows.{here}
use Rattle.eval_items.proofs.Taking.{args-there, args-taken}
use Rattle.eval_items.proofs.asking.sends_maybe.Goals as goal

pub take_args-requires : goal.take_args-requires
take_args-requires g c = rw c.len.ensures (args-there c.in-Some.routine.now c.args.frame.values (λ (r : Routine). sends_maybe g.w c.args.frame c.args.frames.now c.args.frame.work c.args.k c.args.to c.args.ms) (rw (← c.in-Some.ensures.value) at c.requires))

pub returns : goal.returns
returns g c = here g.w _ _ _ _ c.acts.ensures (rw (← c.in-Some.ensures.value, args-taken c.in-Some.routine.now c.args.frame.values (λ (r : Routine). sends_maybe g.w c.args.frame c.args.frames.now c.args.frame.work c.args.k c.args.to c.args.ms) (rw (← c.in-Some.ensures.value) at c.requires), ← c.len.ensures, ← c.in_ok-args.ensures.taken, ← c.in_ok-args.ensures.left) (search rules))
