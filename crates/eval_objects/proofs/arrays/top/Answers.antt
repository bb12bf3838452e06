use Rattle.std.proofs.Common.{rules}
use Rattle.eval_frames.proofs.Rows.{here}
use Rattle.eval_objects.proofs.arrays.top.Goals as goal

pub returns-in_ok-value-in-Some : goal.returns-in_ok-value-in-Some
returns-in_ok-value-in-Some g c = here g.w _ _ _ _ c.adds.ensures (search rules)
