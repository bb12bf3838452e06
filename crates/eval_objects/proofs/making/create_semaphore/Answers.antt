use Rattle.std.proofs.Common.{rules}
use Rattle.eval_frames.proofs.Rows.{by_row}
use Rattle.eval_objects.proofs.Rows.{by_row_in, counted}
use Rattle.eval_objects.proofs.making.create_semaphore.Goals as goal

pub returns-in-Some-clause-row : goal.returns-in-Some-clause-row
returns-in-Some-clause-row g c = by_row _ _ _ _ _ c.makes_sync.ensures.row (search (rules, counted))

pub returns-in-None-clause-row : goal.returns-in-None-clause-row
returns-in-None-clause-row g c = by_row_in g.w _ _ _ _ _ c.fail.ensures (search (rules, counted)) c.requires.1.0.0
