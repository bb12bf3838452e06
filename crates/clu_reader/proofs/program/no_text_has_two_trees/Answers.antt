use Rattle.clu_reader.proofs.Whole.{one_reading}
use Rattle.clu_reader.proofs.program.no_text_has_two_trees.Goals as goal

pub returns : goal.returns
returns c = one_reading c.no_text_has_two_token_lists.ensures c.no_tokens_are_two_lists.ensures c.no_text_has_two_trees.ensures
