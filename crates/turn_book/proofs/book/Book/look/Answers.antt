use Rattle.std.proofs.Common.{rules}
use Rattle.turn_book.proofs.Turns.{looks}
use Rattle.turn_book.proofs.book.Book.look.Goals as goal

pub load-served-requires : goal.load-served-requires
load-served-requires g c = (search rules, search rules, looks g.J.Kept.history g.J.Kept.label _ _ _ _ _ c.waiting.invariant.0.0 (search rules))
