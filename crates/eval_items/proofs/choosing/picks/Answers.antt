use Rattle.std.proofs.Common.{rules}
use Rattle.eval_frames.proofs.Rows.{through}
use Rattle.eval_items.proofs.choosing.picks.Goals as goal

pub returns-in-true-true : goal.returns-in-true-true
returns-in-true-true c = through _ _ _ _ c.adds.ensures (λ w. search rules)

pub returns-in-true-false : goal.returns-in-true-false
returns-in-true-false c = through _ _ _ _ c.evals.ensures (λ w. search rules)

pub returns-in-false-true : goal.returns-in-false-true
returns-in-false-true c = through _ _ _ _ c.evals-in-false-true.ensures (λ w. search rules)

pub returns-in-false-false : goal.returns-in-false-false
returns-in-false-false c = through _ _ _ _ c.adds-in-false-false.ensures (λ w. search rules)
