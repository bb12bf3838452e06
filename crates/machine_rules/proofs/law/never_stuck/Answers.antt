use Rattle.machine_rules.proofs.Sound.{never_stuck}
use Rattle.machine_rules.proofs.law.never_stuck.Goals as goal

pub returns : goal.returns
returns c = λ p typed. never_stuck p typed
