use Rattle.clu_typing.proofs.Guards.{guards_law}
use Rattle.clu_typing.proofs.law.guards_law.Goals as goal

pub returns : goal.returns
returns c = guards_law
