use Rattle.clu_lexeme.proofs.OneWay.{one_list}
use Rattle.clu_lexeme.proofs.law.no_tokens_are_two_lists.Goals as goal

pub returns : goal.returns
returns c = one_list
