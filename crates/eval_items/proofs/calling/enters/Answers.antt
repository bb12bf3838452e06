use Rattle.std.proofs.Common.{length, refl, ◌∙◌, arith}
use Rattle.std.proofs.lemmas.Bool.{lt-ltb}
use Rattle.eval_frames.proofs.Rows.{here}
use Rattle.eval_items.proofs.Rows.{chosen}
use Rattle.eval_items.proofs.calling.enters.Goals as goal

pub returns-then-len-lt999 : goal.returns-then-len-lt999
returns-then-len-lt999 g c = here g.w _ _ _ _ c.goes.ensures (chosen _ _ _ (lt-ltb (length c.args.frames.now) 999 (omega arith)) ∙ rw (← c.in_ok-inner.ensures, ← c.in_ok-push.ensures.ok) refl)
