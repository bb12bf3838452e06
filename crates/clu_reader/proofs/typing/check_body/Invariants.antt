use Rattle.std.proofs.Common.{ℕ, ◌<◌, get_or}
use Rattle.clu_tree.specs.declared.tree.Stmt.{Stmt}
use Rattle.clu_tree.specs.Typed.{IsTypedStmt}
use Rattle.clu_reader.proofs.typing.check_body.Given as goal

abbrev pub invariant-loop-statement : goal.invariant-loop-statement
invariant-loop-statement l = (k : ℕ) (d : Stmt) → k < l.statement-index → IsTypedStmt (get_or l.statements k d)
