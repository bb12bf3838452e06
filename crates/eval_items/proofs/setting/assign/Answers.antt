use Rattle.std.proofs.Common.{refl}
use Rattle.machine_rules.specs.Frames.{assign}
use Rattle.eval_frames.proofs.Rows.{here}
use Rattle.eval_items.proofs.Settings.{local-there}
use Rattle.eval_items.proofs.setting.assign.Goals as goal

pub assign-requires : goal.assign-requires
assign-requires g c = local-there g.w c.args.frame c.args.frames.now c.args.frame.work c.pop.new.self (assign c.args.name c.in-Some.value c.args.frame.vars) (rw c.in-Some.ensures at c.requires)

pub returns : goal.returns
returns g c = here g.w _ _ _ _ c.goes.ensures (rw (c.in-Some.ensures, c.in_ok-assign.ensures) refl)
