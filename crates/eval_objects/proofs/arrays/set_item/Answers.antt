use Rattle.std.proofs.Common.{rules}
use Rattle.eval_objects.proofs.Rows.{by_row_in, done_refused, here_with}
use Rattle.eval_objects.proofs.arrays.set_item.Goals as goal

pub returns-in-Ok-clause-row : goal.returns-in-Ok-clause-row
returns-in-Ok-clause-row g c = here_with g.w _ _ _ _ _ c.adds.ensures (search rules)

pub returns-in-Err-clause-row : goal.returns-in-Err-clause-row
returns-in-Err-clause-row g c = by_row_in g.w _ _ _ _ _ c.refuse.ensures (search (rules, done_refused _ _ c.in-Err.ensures.answer)) (search rules)
