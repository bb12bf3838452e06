use Rattle.std.proofs.Common.{length}
use Rattle.journal_text.proofs.Sequence.{IsReadSoFar}
use Rattle.journal_text.proofs.journal.lines.Given as goal

abbrev pub invariant-loop-rest : goal.invariant-loop-rest
invariant-loop-rest l = IsReadSoFar l.bytes l.lines.items l.rest

abbrev pub decreases-loop-rest : goal.decreases-loop-rest
decreases-loop-rest l = length l.rest
