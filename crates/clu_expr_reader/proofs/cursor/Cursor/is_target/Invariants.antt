use Rattle.std.proofs.Common.{◌≡◌, ◌-◌}
use Rattle.clu_grammar.specs.Ahead.{assigns, is_target}
use Rattle.clu_expr_reader.proofs.cursor.Cursor.is_target.Given as goal

abbrev pub invariant-loop-turn : goal.invariant-loop-turn
invariant-loop-turn l = is_target l.self ≡ assigns (l._turn-end - l._turn) l.ahead
