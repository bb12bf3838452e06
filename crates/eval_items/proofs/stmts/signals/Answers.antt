use Rattle.std.proofs.Common.{refl}
use Rattle.eval_frames.proofs.Rows.{by_row, here}
use Rattle.eval_items.proofs.stmts.signals.Goals as goal

pub returns-in_ok-left-in-None : goal.returns-in_ok-left-in-None
returns-in_ok-left-in-None g c = by_row g.w.store _ _ _ _ c.unwind.ensures (rw (c.in-None.is, c.in_ok-left-in-None.ensures) refl)

pub returns-in-Some : goal.returns-in-Some
returns-in-Some g c = here g.w _ _ _ _ c.evals_then.ensures (rw c.in-Some.is refl)
