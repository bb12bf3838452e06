use Rattle.std.proofs.Common.{◌≡◌, ◌++◌, take, map, decimal}
use Rattle.journal_text.specs.Spelling.{spaced}
use Rattle.journal_text.proofs.writing.put.Given as goal

abbrev pub invariant-loop-number : goal.invariant-loop-number
invariant-loop-number l = l.out.items ≡ l.initial.out.items ++ spaced (map decimal (take l.number-index l.numbers))
