use Rattle.std.proofs.Common.{drop}
use Rattle.clu_lexeme.proofs.Listing.{GoesOn}
use Rattle.clu_lexeme.proofs.lexeme.lexemes.Given as goal

abbrev pub invariant-loop-token : goal.invariant-loop-token
invariant-loop-token l = GoesOn l.text l.tokens l.found.items (drop l.token-index l.tokens)
