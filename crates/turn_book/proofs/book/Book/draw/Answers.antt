use Rattle.std.proofs.Common.{rules}
use Rattle.turn_book.proofs.Turns.{draws}
use Rattle.turn_book.proofs.book.Book.draw.Goals as goal

pub fetch_add-ticket-requires : goal.fetch_add-ticket-requires
fetch_add-ticket-requires g c = (search rules, search rules, draws g.J.Kept.history g.J.Kept.label _ _ _ _ _ (search rules))
