use Rattle.std.proofs.Common.{[], ◌∷◌, refl}
use Rattle.clu_tree.specs.declared.program.Routine.{Routine}
use Rattle.machine_rules.specs.declared.act.Act.TheVariants as act
use Rattle.machine_rules.specs.Frames.{with}
use Rattle.machine_rules.specs.World.{gives}
use Rattle.eval_frames.proofs.Rows.{here}
use Rattle.eval_items.proofs.Taking.{args-there, args-taken}
use Rattle.eval_items.proofs.asking.spawn.Goals as goal

pub take_args-requires : goal.take_args-requires
take_args-requires g c = rw c.len.ensures (args-there c.in-Some.routine.now c.args.frame.values (λ (r : Routine) args values. gives g.w [] (act.Fork c.args.k args) (with c.args.frame c.args.frame.work values ∷ c.args.frames.now)) (rw (c.requires.0, ← c.in-Some.ensures.value) at c.requires.1))

pub returns : goal.returns
returns g c = here g.w _ _ _ _ c.acts.ensures (rw (c.requires.0, ← c.in-Some.ensures.value, args-taken c.in-Some.routine.now c.args.frame.values (λ (r : Routine) args values. gives g.w [] (act.Fork c.args.k args) (with c.args.frame c.args.frame.work values ∷ c.args.frames.now)) (rw (c.requires.0, ← c.in-Some.ensures.value) at c.requires.1), ← c.len.ensures, ← c.in_ok-args.ensures.taken, ← c.in_ok-args.ensures.left) refl)
