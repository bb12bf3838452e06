use Rattle.std.proofs.Common.{rules, arith}
use Rattle.turn_book.proofs.Opening.{opens}
use Rattle.turn_book.proofs.book.Book.begin.Goals as goal

pub new-requires : goal.new-requires
new-requires g c = opens g.J.Kept.history g.J.Kept.label c.args.first _ _ _ (search rules) (search rules) (omega arith) (omega arith) (search rules)
