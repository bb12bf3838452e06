use Rattle.std.proofs.Common.{length}
use Rattle.clu_lexeme.proofs.Contents.{Left}
use Rattle.clu_lexeme.proofs.content.content.Given as goal

abbrev pub invariant-loop-byte : goal.invariant-loop-byte
invariant-loop-byte l = Left l.quote l.bytes l.found.items l.left

abbrev pub decreases-loop-byte : goal.decreases-loop-byte
decreases-loop-byte l = length l.left
