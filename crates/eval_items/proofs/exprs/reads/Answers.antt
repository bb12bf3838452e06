use Rattle.std.proofs.Common.{refl}
use Rattle.eval_frames.proofs.Rows.{by_row, here}
use Rattle.eval_items.proofs.exprs.reads.Goals as goal

pub returns-in-None : goal.returns-in-None
returns-in-None g c = by_row g.w.store _ _ _ _ c.fail.ensures (rw c.in-None.is refl)

pub returns-in-Some : goal.returns-in-Some
returns-in-Some g c = here g.w _ _ _ _ c.adds.ensures (rw c.in-Some.is refl)
