use Rattle.std.proofs.Common.{rules}
use Rattle.turn_book.proofs.book.Book.split.Goals as goal

pub returns-clause-first : goal.returns-clause-first
returns-clause-first g c = search rules

pub returns-clause-new : goal.returns-clause-new
returns-clause-new g c = search rules
