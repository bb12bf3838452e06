use Rattle.std.proofs.Common.{◌≡◌, ◌-◌, suc}
use Rattle.clu_grammar.specs.StmtPlan as plan
use Rattle.clu_stmt_reader.specs.Loops.{goes}
use Rattle.clu_stmt_reader.specs.Parts as parts
use Rattle.clu_stmt_reader.specs.Places.{place_of}
use Rattle.clu_stmt_reader.proofs.front.places.Given as goal

abbrev pub invariant-loop-turn : goal.invariant-loop-turn
invariant-loop-turn l = plan.places (parts.inner l.depth) l.depth (suc l.depth) l.line (place_of l.fn.first) l.fn.cursor ≡ goes parts.at_place (parts.further l.depth l.line) (l._turn-end - l._turn) (place_of l.place) l.cursor
