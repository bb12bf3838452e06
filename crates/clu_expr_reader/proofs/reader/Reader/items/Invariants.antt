use Rattle.std.proofs.Common.{◌≡◌, ◌-◌, length, ◌++◌, Some}
use Rattle.clu_grammar.specs.ExprPlan.{levels, items, ◌>>=◌}
use Rattle.clu_expr_reader.proofs.reader.Reader.items.Given as goal

abbrev pub invariant-loop-turn : goal.invariant-loop-turn
invariant-loop-turn g l = items (levels l.self.below) l.self.depth (length l.fn.cursor) l.fn.cursor ≡ (items (levels l.self.below) l.self.depth (l._turn-end - l._turn) l.cursor >>= λ xs r. Some (l.found.items ++ xs, r))
