use Rattle.eval_frames.proofs.Rows.{here}
use Rattle.eval_items.proofs.Settings.{node-there}
use Rattle.eval_items.proofs.setting.assign_node.Goals as goal

pub returns : goal.returns
returns g c = here g.w _ _ _ _ c.acts.ensures (rw c.in-Some.ensures (node-there g.w c.args.frame c.args.frames.now c.args.frame.work c.pop.new.self c.args.k c.in-Some.value _ (rw c.in-Some.ensures at c.requires)))
