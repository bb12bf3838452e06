use Rattle.std.proofs.Common.{refl, sym, ◌∙◌}
use Rattle.eval_frames.proofs.Rows.{here}
use Rattle.eval_items.proofs.locking.grabs.Goals as goal

pub returns : goal.returns
returns g c = here g.w _ _ _ _ c.locks.ensures (rw (sym c.requires.0 ∙ c.if-looked.false) refl)
