use Rattle.eval_items.proofs.Arms.{next_arm}
use Rattle.eval_frames.proofs.Rows.{through}
use Rattle.eval_items.proofs.choosing.next_arm.Goals as goal

pub returns : goal.returns
returns c = through _ _ _ _ c.evals_then.ensures (λ w. next_arm w c.args.frame c.args.frames.now c.args.frame.work c.args.body c.args.arms _ c.args.others _ c.remove-test.ensures.item c.remove-test.ensures.rest)
