use Rattle.clu_text.proofs.Filling.{all_spelled}
use Rattle.clu_text.proofs.laws.tokens_are_spelled.Goals as goal

pub returns : goal.returns
returns c = all_spelled
