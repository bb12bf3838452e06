use Rattle.clu_lexeme.specs.Lexemes.{symbol}
use Rattle.clu_lexeme.proofs.Contents.{symbol_token}
use Rattle.clu_lexeme.proofs.Keys.{symbol_is_found, symbol_key-finds}
use Rattle.clu_lexeme.proofs.lexeme.symbol.Goals as goal

pub unreachable-requires : goal.unreachable-requires
unreachable-requires c = symbol_is_found c.args.spelling.now (symbol_token c.args.spelling.now c.requires) cc

pub returns : goal.returns
returns c = symbol (symbol_key-finds c.args.spelling.now c.in-Some.key cc)
