use Rattle.clu_grammar.proofs.ProgramBoth.{one_program}
use Rattle.clu_grammar.proofs.law.no_text_has_two_trees.Goals as goal

pub returns : goal.returns
returns c = one_program
