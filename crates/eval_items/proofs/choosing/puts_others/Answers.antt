use Rattle.std.proofs.Common.{rules}
use Rattle.eval_frames.proofs.Rows.{through}
use Rattle.eval_items.proofs.choosing.puts_others.Goals as goal

pub returns-in-None : goal.returns-in-None
returns-in-None c = through _ _ _ _ c.goes.ensures (λ w. search rules)

pub returns-in-Some : goal.returns-in-Some
returns-in-Some c = through _ _ _ _ c.puts.ensures (λ w. search rules)
