use Rattle.std.proofs.Common.{rules}
use Rattle.eval_objects.proofs.Rows.{here_with}
use Rattle.eval_objects.proofs.making.makes.Goals as goal

pub returns-in-Ok-clause-row : goal.returns-in-Ok-clause-row
returns-in-Ok-clause-row g c = here_with g.w _ _ _ _ _ c.adds.ensures (search rules)
