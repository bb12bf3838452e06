use Rattle.std.proofs.Common.{◌≡◌, ◌-◌, suc, length}
use Rattle.clu_grammar.specs.ExprPlan.{◌>>=◌}
use Rattle.clu_grammar.specs.ProgramPlan as plan
use Rattle.clu_stmt_reader.specs.Loops.{many, behind}
use Rattle.clu_program_reader.specs.Parts as parts
use Rattle.clu_program_reader.proofs.routine.routines.Given as goal

abbrev pub invariant-loop-turn : goal.invariant-loop-turn
invariant-loop-turn l = plan.routines 200 (suc (length l.fn.cursor)) l.fn.cursor ≡ (many parts.goes_on (plan.routine 200) (suc l._turn-end - l._turn) l.cursor >>= behind l.found)
