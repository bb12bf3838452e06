use Rattle.std.proofs.Common.{rules}
use Rattle.turn_book.proofs.Seats.{first_out}
use Rattle.turn_book.proofs.book.Book.lift.Goals as goal

pub exchange-requires : goal.exchange-requires
exchange-requires g c = (search rules, (_, first_out c.holder.inside.seat.me.1 _ c.holder.invariant.1))
