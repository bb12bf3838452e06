use Rattle.std.proofs.Common.{drop}
use Rattle.clu_grammar.specs.Grammar.{Tokens}
use Rattle.clu_expr_reader.specs.Keys.{HasKeys}
use Rattle.clu_expr_reader.proofs.cursor.Cursor.keys.Given as goal

abbrev pub invariant-loop-key : goal.invariant-loop-key
invariant-loop-key l = record {
  done : (r : Tokens) → HasKeys (drop l.key-index l.keys) l.self r → HasKeys l.keys l.initial.self r;
  only : (r : Tokens) → HasKeys l.keys l.initial.self r → HasKeys (drop l.key-index l.keys) l.self r;
}
