use Rattle.std.proofs.Common.{◌≡◌, ◌-◌, length, ◌++◌, Some}
use Rattle.clu_grammar.specs.ExprPlan.{levels, inits, ◌>>=◌}
use Rattle.clu_expr_reader.proofs.reader.Reader.inits.Given as goal

abbrev pub invariant-loop-turn : goal.invariant-loop-turn
invariant-loop-turn g l = inits (levels l.self.below) l.self.depth (length l.fn.cursor) l.fn.cursor ≡ (inits (levels l.self.below) l.self.depth (l._turn-end - l._turn) l.cursor >>= λ xs r. Some (l.found.inits ++ xs, r))
