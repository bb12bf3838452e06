use Rattle.std.proofs.Common.{◌≡◌, ◌-◌, length}
use Rattle.clu_grammar.specs.ExprPlan.{◌>>=◌}
use Rattle.clu_grammar.specs.ProgramPlan as plan
use Rattle.clu_stmt_reader.specs.Loops.{listed, behind}
use Rattle.clu_program_reader.specs.Parts as parts
use Rattle.clu_program_reader.proofs.routine.listed.Given as goal

abbrev pub invariant-loop-turn : goal.invariant-loop-turn
invariant-loop-turn l = plan.listed 200 (length l.fn.cursor) l.fn.cursor ≡ (listed parts.one_listed (l._turn-end - l._turn) l.cursor >>= behind l.found)
