use Rattle.std.proofs.Common.{refl}
use Rattle.eval_frames.proofs.Rows.{here}
use Rattle.eval_items.proofs.exprs.binary.Goals as goal

pub returns-in-Cand : goal.returns-in-Cand
returns-in-Cand g c = here g.w _ _ _ _ c.evals_then.ensures (rw c.in-Cand.is refl)

pub returns-in-Cor : goal.returns-in-Cor
returns-in-Cor g c = here g.w _ _ _ _ c.evals_then-in-Cor.ensures (rw c.in-Cor.is refl)
