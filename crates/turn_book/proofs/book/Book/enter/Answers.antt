use Rattle.std.proofs.Common.{rules}
use Rattle.turn_book.proofs.Seats.{holds}
use Rattle.turn_book.proofs.Turns.{enters}
use Rattle.turn_book.proofs.book.Book.enter.Goals as goal

pub fetch_add-requires : goal.fetch_add-requires
fetch_add-requires g c = (
  search rules,
  search rules,
  enters g.J.Kept.history g.J.Kept.label _ _ _ _ _ c.holder.invariant.0.0 c.args.holder.now.state c.requires.entry.0 (search rules) (search (rules, holds)) (search rules),
)
