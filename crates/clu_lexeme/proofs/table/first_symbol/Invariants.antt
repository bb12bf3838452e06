use Rattle.std.proofs.Common.{◌≡◌, drop}
use Rattle.clu_tree.specs.Lexical.{symbol_of}
use Rattle.clu_lexeme.specs.Table.{first_key}
use Rattle.clu_lexeme.proofs.table.first_symbol.Given as goal

abbrev pub invariant-loop-key : goal.invariant-loop-key
invariant-loop-key l = first_key symbol_of (drop l.key-index l.keys) l.spelling ≡ first_key symbol_of l.keys l.spelling
