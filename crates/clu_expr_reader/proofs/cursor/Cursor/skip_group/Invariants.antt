use Rattle.std.proofs.Common.{◌≡◌, ◌+◌, ◌≤◌, length}
use Rattle.clu_grammar.specs.Ahead.{skip}
use Rattle.clu_expr_reader.proofs.cursor.Cursor.skip_group.Given as goal

abbrev pub invariant-loop-next : goal.invariant-loop-next
invariant-loop-next l = record {
  rest : skip 0 l.fn.self ≡ skip l.open l.self;
  few : l.open + length l.self ≤ l.left;
}

abbrev pub decreases-loop-next : goal.decreases-loop-next
decreases-loop-next l = length l.self
