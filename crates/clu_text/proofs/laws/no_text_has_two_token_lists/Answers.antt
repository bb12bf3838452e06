use Rattle.clu_text.proofs.Filling.{one_token_list}
use Rattle.clu_text.proofs.laws.no_text_has_two_token_lists.Goals as goal

pub returns : goal.returns
returns c = one_token_list
