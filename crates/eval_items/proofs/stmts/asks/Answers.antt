use Rattle.std.proofs.Common.{refl}
use Rattle.eval_frames.proofs.Rows.{by_row}
use Rattle.eval_items.proofs.stmts.asks.Goals as goal

pub returns : goal.returns
returns g c = by_row g.w.store _ _ _ _ c.asks_then.ensures (rw c.in-Some.is refl)
