use Rattle.world_rules.proofs.Lines.{plain_law}
use Rattle.world_rules.proofs.law.plain_law.Goals as goal

pub returns : goal.returns
returns c = plain_law
