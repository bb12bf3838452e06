use Rattle.std.proofs.Common.{◌≡◌}
use Rattle.turn_book.proofs.book.Book.take.Given as goal

abbrev pub invariant-loop : goal.invariant-loop
invariant-loop g l = l.waiting ≡ l.fn.pass
