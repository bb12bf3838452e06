use Rattle.std.proofs.Common.{◌≡◌, ◌+◌, ◌-◌, ◌≤◌, length}
use Rattle.clu_grammar.specs.ProgramPlan as plan
use Rattle.clu_program_reader.specs.Whole.{with_rest}
use Rattle.clu_program_reader.proofs.program.all_parts.Given as goal

abbrev pub invariant-loop-turn : goal.invariant-loop-turn
invariant-loop-turn l = (plan.program l.fn.cursor ≡ with_rest l.program (plan.parts 200 (l._turn-end - l._turn) l.cursor)) × (length l.program.routines + length l.cursor ≤ 1048576)
