use Rattle.std.proofs.Common.{refl}
use Rattle.eval_frames.proofs.Rows.{here}
use Rattle.eval_items.proofs.placing.operand.Goals as goal

pub returns : goal.returns
returns g c = here g.w _ _ _ _ c.evals_then.ensures (rw c.in-Some.is refl)
