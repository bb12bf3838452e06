use Rattle.std.proofs.Common.{◌≡◌, ◌-◌, suc, length}
use Rattle.clu_grammar.specs.ExprPlan.{◌>>=◌}
use Rattle.clu_grammar.specs.StmtPlan as plan
use Rattle.clu_stmt_reader.specs.Loops.{many, behind}
use Rattle.clu_stmt_reader.specs.Parts as parts
use Rattle.clu_stmt_reader.proofs.reader.Reader.whens.Given as goal

abbrev pub invariant-loop-turn : goal.invariant-loop-turn
invariant-loop-turn g l = plan.whens (parts.inner l.self.depth) l.self.depth (suc (length l.fn.cursor)) l.fn.cursor ≡ (many parts.at_when (parts.when l.self.depth) (suc l._turn-end - l._turn) l.cursor >>= behind l.found.whens)
