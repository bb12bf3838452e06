use Rattle.std.proofs.Common.{rules}
use Rattle.eval_frames.proofs.Rows.{here}
use Rattle.eval_objects.proofs.on_values.ended.Goals as goal

pub returns-in-Value : goal.returns-in-Value
returns-in-Value g c = here g.w _ _ _ _ c.adds.ensures (search rules)
