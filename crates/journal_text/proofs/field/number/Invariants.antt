use Rattle.std.proofs.Common.{◌≡◌, ◌≤◌, length}
use Rattle.journal_text.specs.Reading.{number_at, digits_on}
use Rattle.journal_text.proofs.field.number.Given as goal

abbrev pub invariant-loop-next : goal.invariant-loop-next
invariant-loop-next l = record { reads : digits_on l.largest l.value l.rest ≡ number_at l.largest l.bytes; small : l.value ≤ l.largest }

abbrev pub decreases-loop-next : goal.decreases-loop-next
decreases-loop-next l = length l.rest
