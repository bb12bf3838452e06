use Rattle.clu_grammar.proofs.Complete.{one_expression}
use Rattle.clu_grammar.proofs.law.expressions_have_one_reading.Goals as goal

pub returns : goal.returns
returns c = one_expression
