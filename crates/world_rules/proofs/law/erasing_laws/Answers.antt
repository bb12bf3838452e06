use Rattle.world_rules.proofs.Laws.{erasing_laws}
use Rattle.world_rules.proofs.law.erasing_laws.Goals as goal

pub returns : goal.returns
returns c = erasing_laws
