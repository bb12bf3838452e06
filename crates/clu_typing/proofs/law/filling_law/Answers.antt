use Rattle.clu_typing.proofs.Filling.{filling_law}
use Rattle.clu_typing.proofs.law.filling_law.Goals as goal

pub returns : goal.returns
returns c = filling_law
