use Rattle.std.proofs.Common.{rules}
use Rattle.book_tests.proofs.borrowing.place_in_turn.Goals as goal

pub enter_and_give-requires-clause-history : goal.enter_and_give-requires-clause-history
enter_and_give-requires-clause-history g c κs within = (record { stamp = c.read-stamp.result; text = c.args.text }, search rules)
