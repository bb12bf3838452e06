use Rattle.world_rules.proofs.Laws.{following_laws}
use Rattle.world_rules.proofs.law.following_laws.Goals as goal

pub returns : goal.returns
returns c = following_laws
