use Rattle.std.proofs.Common.{rules}
use Rattle.eval_objects.proofs.Rows.{by_row_in}
use Rattle.eval_objects.proofs.making.create_array.Goals as goal

pub returns-then-not-may_be_low-clause-row : goal.returns-then-not-may_be_low-clause-row
returns-then-not-may_be_low-clause-row g c = by_row_in g.w _ _ _ _ _ c.fail.ensures (search rules) c.requires.1.0.0
