use Rattle.std.proofs.Common.{arith, w64}
use Rattle.std.proofs.lemmas.Int.{to_z-of_z}
use Rattle.clu_lexeme.specs.Lexemes.{int}
use Rattle.clu_lexeme.proofs.lexeme.lexeme.Goals as goal

pub returns-in-Int : goal.returns-in-Int
returns-in-Int c = rw c.in-Int.is (rw (to_z-of_z w64 c.number.result (rw c.number.ensures (omega (arith, c.requires.in_range c.in-Int.is)))) (rw c.number.ensures int))
