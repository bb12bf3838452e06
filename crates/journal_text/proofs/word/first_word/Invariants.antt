use Rattle.std.proofs.Common.{◌≡◌, drop}
use Rattle.journal_text.specs.Reading.{first_word}
use Rattle.journal_text.proofs.word.first_word.Given as goal

abbrev pub invariant-loop-word : goal.invariant-loop-word
invariant-loop-word l = first_word (drop l.word-index l.words) l.bytes ≡ first_word l.words l.bytes
