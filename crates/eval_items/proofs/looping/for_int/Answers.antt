use Rattle.std.proofs.Common.{rules}
use Rattle.eval_frames.proofs.Rows.{here}
use Rattle.eval_items.proofs.looping.for_int.Goals as goal

pub returns : goal.returns
returns g c = here g.w _ _ _ _ c.goes.ensures (search rules)
