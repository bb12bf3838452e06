use Rattle.std.proofs.Common.{rules}
use Rattle.eval_frames.proofs.Rows.{here}
use Rattle.eval_objects.proofs.arrays.fetch.Goals as goal

pub returns-in-Ok : goal.returns-in-Ok
returns-in-Ok g c = here g.w _ _ _ _ c.adds.ensures (search rules)
