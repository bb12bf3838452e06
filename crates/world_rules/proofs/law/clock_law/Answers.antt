use Rattle.world_types.proofs.Clocks.{reads_cut}
use Rattle.world_rules.proofs.law.clock_law.Goals as goal

pub returns : goal.returns
returns c = λ rs s t h k. reads_cut rs s t h k
