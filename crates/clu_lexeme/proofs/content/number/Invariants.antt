use Rattle.std.proofs.Common.{◌≡◌, ◌<◌, ◌^◌, drop}
use Rattle.clu_text.proofs.Numbers.{int_from}
use Rattle.clu_lexeme.proofs.content.number.Given as goal

abbrev pub invariant-loop-digit : goal.invariant-loop-digit
invariant-loop-digit l = (int_from l.number (drop l.digit-index l.digits) ≡ int_from 0 l.digits) × (l.number < 2 ^ 63)
