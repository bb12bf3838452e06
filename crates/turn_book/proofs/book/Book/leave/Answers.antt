use Rattle.std.proofs.Common.{rules}
use Rattle.turn_book.proofs.Seats.{value_is, holds}
use Rattle.turn_book.proofs.Turns.{leaves}
use Rattle.turn_book.proofs.book.Book.leave.Goals as goal

pub fetch_add-requires : goal.fetch_add-requires
fetch_add-requires g c = (
  search rules,
  search rules,
  leaves g.J.Kept.history g.J.Kept.label _ _ _ _ _ c.holder.invariant.0.0 c.args.holder.state (search rules) (search (rules, holds)) (search rules) (search (rules, value_is)),
)
