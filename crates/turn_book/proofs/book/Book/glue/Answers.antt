use Rattle.std.proofs.Common.{rules}
use Rattle.turn_book.proofs.Joining.{joins}
use Rattle.turn_book.proofs.book.Book.glue.Goals as goal

pub join_seat-requires : goal.join_seat-requires
join_seat-requires g c = (search rules, search rules, search rules, search rules, joins g.J.Kept.history g.J.Kept.label _ _ _ _ _ _ (search rules) (search rules) (search rules))
