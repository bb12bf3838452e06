use Rattle.world_rules.proofs.Clocks.{lacks_reads}
use Rattle.world_rules.proofs.law.lagging_clock_law.Goals as goal

pub returns : goal.returns
returns c = λ told rs t h k. lacks_reads told rs t h k
