use Rattle.std.proofs.Common.{◌≡◌, ◌-◌, suc}
use Rattle.clu_grammar.specs.ExprPlan.{levels, joins}
use Rattle.clu_expr_reader.proofs.reader.Reader.joins.Given as goal

abbrev pub invariant-loop-turn : goal.invariant-loop-turn
invariant-loop-turn g l =
    joins (levels l.self.below) l.self.depth (suc l.self.depth) l.looseness l.line l.fn.first.expr l.fn.cursor ≡ joins (levels l.self.below) l.self.depth (l._turn-end - l._turn) l.looseness l.line l.left.expr l.cursor
