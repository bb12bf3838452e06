use Rattle.clu_typing.proofs.Rounds.{sending_law}
use Rattle.clu_typing.proofs.law.sending_law.Goals as goal

pub returns : goal.returns
returns c = sending_law
