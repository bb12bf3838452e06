use Rattle.std.proofs.Common.{rules}
use Rattle.turn_book.proofs.Splitting.{splits}
use Rattle.turn_book.proofs.book.Book.cut.Goals as goal

pub split_seat-requires : goal.split_seat-requires
split_seat-requires g c = (search rules, search rules, splits g.J.Kept.history g.J.Kept.label _ _ _ _ (search rules) (search rules) (search rules))
