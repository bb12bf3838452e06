use Rattle.std.proofs.Common.{refl}
use Rattle.eval_frames.proofs.Rows.{here}
use Rattle.eval_items.proofs.stmts.assigns.Goals as goal

pub returns : goal.returns
returns g c = here g.w _ _ _ _ c.stores.ensures (rw c.in-Index.is refl)
