use Rattle.std.proofs.Common.{◌≡◌, ◌-◌, suc}
use Rattle.clu_grammar.specs.ExprPlan.{levels, postfix}
use Rattle.clu_expr_reader.proofs.reader.Reader.postfix.Given as goal

abbrev pub invariant-loop-turn : goal.invariant-loop-turn
invariant-loop-turn g l =
    postfix (levels l.self.below) l.self.depth (suc l.self.depth) l.line l.fn.first.expr l.fn.cursor ≡ postfix (levels l.self.below) l.self.depth (l._turn-end - l._turn) l.line l.of.expr l.cursor
