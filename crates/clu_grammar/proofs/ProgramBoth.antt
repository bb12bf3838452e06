-- No text has two trees.
use Rattle.std.proofs.Common.{◌≡◌, max, Some, sym, ◌∙◌, arith}
use Rattle.clu_tree.specs.declared.program.Program.{Program}
use Rattle.clu_grammar.specs.Grammar.{Tokens, ReadsProgram}
use Rattle.clu_grammar.specs.Nesting.{program_nesting}
use Rattle.clu_grammar.proofs.ProgramComplete.{program_within-finds}

same_program : (p q : Program) → Some p ≡ Some q → p ≡ q
same_program p q h = cc

pub one_program : (ts : Tokens) (p q : Program) → ReadsProgram ts p → ReadsProgram ts q → p ≡ q
one_program ts p q r s =
    let d = max (program_nesting p) (program_nesting q) in
    same_program p q (sym (program_within-finds d ts p r (omega arith)) ∙ program_within-finds d ts q s (omega arith))
