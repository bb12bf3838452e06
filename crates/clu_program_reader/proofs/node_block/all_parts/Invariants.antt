use Rattle.std.proofs.Common.{◌≡◌, ◌-◌, suc, length}
use Rattle.clu_grammar.specs.ExprPlan.{◌>>=◌}
use Rattle.clu_grammar.specs.ProgramPlan as plan
use Rattle.clu_stmt_reader.specs.Loops.{many, behind}
use Rattle.clu_program_reader.specs.Parts as parts
use Rattle.clu_program_reader.proofs.node_block.all_parts.Given as goal

abbrev pub invariant-loop-turn : goal.invariant-loop-turn
invariant-loop-turn l = parts.all_node_parts (suc (length l.fn.cursor)) l.fn.cursor ≡ (many parts.at_node_part parts.node_part (suc l._turn-end - l._turn) l.cursor >>= behind l.found)
