use Rattle.clu_lexeme.specs.Lexemes.{name, reserved}
use Rattle.clu_lexeme.proofs.Keys.{word_key-finds, no_word}
use Rattle.clu_lexeme.proofs.lexeme.word.Goals as goal

pub returns-in-Some : goal.returns-in-Some
returns-in-Some c = reserved (word_key-finds c.args.spelling.now c.in-Some.key cc)

pub returns-in_ok-from_slice-in-None : goal.returns-in_ok-from_slice-in-None
returns-in_ok-from_slice-in-None c = rw c.in_ok-from_slice-in-None.ensures (name (no_word c.args.spelling.now cc))
