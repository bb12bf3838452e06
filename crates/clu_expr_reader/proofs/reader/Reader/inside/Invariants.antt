use Rattle.std.proofs.Common.{◌≡◌, [], length, reverse, Some}
use Rattle.clu_grammar.specs.ExprPlan.{levels, inside, unwound}
use Rattle.clu_expr_reader.proofs.reader.Reader.inside.Given as goal

abbrev pub invariant-loop-line : goal.invariant-loop-line
invariant-loop-line g l = inside (levels l.self.below) l.self.depth [] l.fn.cursor ≡ unwound (levels l.self.below) l.self.depth (reverse l.lines) (Some (l.found.expr, l.cursor))

abbrev pub decreases-loop-line : goal.decreases-loop-line
decreases-loop-line g l = length l.lines
