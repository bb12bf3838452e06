use Rattle.std.proofs.Common.{rules}
use Rattle.eval_frames.proofs.Rows.{through}
use Rattle.eval_objects.proofs.tags.takes_arm.Goals as goal

pub returns-in-None : goal.returns-in-None
returns-in-None c = through _ _ _ _ c.puts.ensures (λ v. search rules)

pub returns-in-Some : goal.returns-in-Some
returns-in-Some c = through _ _ _ _ c.begins.ensures (λ v. search rules)
