use Rattle.world_rules.proofs.Laws.{cut_laws}
use Rattle.world_rules.proofs.law.cut_laws.Goals as goal

pub returns : goal.returns
returns c = cut_laws
