use Rattle.clu_text.proofs.Filling.{in_order}
use Rattle.clu_text.proofs.laws.tokens_are_in_order.Goals as goal

pub returns : goal.returns
returns c = in_order
