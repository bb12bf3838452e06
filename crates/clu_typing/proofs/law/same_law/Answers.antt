use Rattle.clu_typing.proofs.Sameness.{same_law}
use Rattle.clu_typing.proofs.law.same_law.Goals as goal

pub returns : goal.returns
returns c = same_law
