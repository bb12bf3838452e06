use Rattle.std.proofs.Common.{◌≡◌, ℕ, [], length, reverse}
use Rattle.clu_tree.specs.declared.tree.Expr.{Expr}
use Rattle.clu_grammar.specs.ExprPlan.{Parser, inside}
use Rattle.clu_expr_reader.proofs.reader.open_brackets.Given as goal

abbrev pub invariant-loop-line : goal.invariant-loop-line
invariant-loop-line l = (below : ℕ → Parser Expr) (d : ℕ) → inside below d [] l.fn.cursor ≡ inside below d (reverse l.lines) l.cursor

abbrev pub decreases-loop-line : goal.decreases-loop-line
decreases-loop-line l = length l.cursor
