use Rattle.std.proofs.Common.{◌≡◌}
use Rattle.book_tests.proofs.logs.enter_many.Given as goal

abbrev pub invariant-loop-k : goal.invariant-loop-k
invariant-loop-k g l = l.pass ≡ record l.fn.pass { seen = l.pass.seen; mine = l.pass.mine }
