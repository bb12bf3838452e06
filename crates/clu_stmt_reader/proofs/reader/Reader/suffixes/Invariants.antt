use Rattle.std.proofs.Common.{◌≡◌, ◌-◌, suc}
use Rattle.clu_grammar.specs.StmtPlan as plan
use Rattle.clu_stmt_reader.specs.Loops.{goes}
use Rattle.clu_stmt_reader.specs.Parts as parts
use Rattle.clu_stmt_reader.proofs.reader.Reader.suffixes.Given as goal

abbrev pub invariant-loop-turn : goal.invariant-loop-turn
invariant-loop-turn g l = plan.suffixes (parts.inner l.self.depth) l.self.depth (suc l.self.depth) l.fn.first.stmt l.fn.cursor ≡ goes parts.at_suffix (parts.suffix l.self.depth) (l._turn-end - l._turn) l.of.stmt l.cursor
