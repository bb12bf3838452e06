use Rattle.std.proofs.Common.{◌≡◌, ◌-◌, length}
use Rattle.clu_grammar.specs.ExprPlan.{◌>>=◌}
use Rattle.clu_grammar.specs.ProgramPlan as plan
use Rattle.clu_stmt_reader.specs.Loops.{listed, behind}
use Rattle.clu_program_reader.specs.Parts as parts
use Rattle.clu_program_reader.proofs.literals.value_list.Given as goal

abbrev pub invariant-loop-turn : goal.invariant-loop-turn
invariant-loop-turn l = plan.value_list (length l.fn.cursor) l.fn.cursor ≡ (listed parts.signed (l._turn-end - l._turn) l.cursor >>= behind l.found)
