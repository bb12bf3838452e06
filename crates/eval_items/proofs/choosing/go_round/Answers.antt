use Rattle.std.proofs.Common.{rules}
use Rattle.eval_frames.proofs.Rows.{here}
use Rattle.eval_items.proofs.choosing.go_round.Goals as goal

pub returns-in-Some-Bool-true : goal.returns-in-Some-Bool-true
returns-in-Some-Bool-true g c = here g.w _ _ _ _ c.loops.ensures (search rules)

pub returns-in-Some-Bool-false : goal.returns-in-Some-Bool-false
returns-in-Some-Bool-false g c = here g.w _ _ _ _ c.goes.ensures (search rules)
