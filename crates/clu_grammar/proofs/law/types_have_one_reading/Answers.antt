use Rattle.clu_grammar.proofs.Shapes.{one_type}
use Rattle.clu_grammar.proofs.law.types_have_one_reading.Goals as goal

pub returns : goal.returns
returns c = one_type
