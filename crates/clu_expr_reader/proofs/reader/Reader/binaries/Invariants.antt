use Rattle.std.proofs.Common.{◌≡◌, Some}
use Rattle.clu_grammar.specs.ExprPlan.{levels, binaries}
use Rattle.clu_expr_reader.proofs.reader.Reader.binaries.Given as goal

abbrev pub invariant-loop-tighter : goal.invariant-loop-tighter
invariant-loop-tighter g l = binaries (levels l.self.below) l.self.depth l.tighter l.line l.fn.first.expr l.fn.cursor ≡ Some (l.left.expr, l.cursor)
