use Rattle.std.proofs.Common.{subst, sym, arith}
use Rattle.numbered_calls.specs.Numbers.{Rise}
use Rattle.numbered_calls.proofs.Rising.{are_numbered}
use Rattle.numbered_calls.proofs.calls.NumberedCalls.new.Goals as goal

pub returns-clause-numbered : goal.returns-clause-numbered
returns-clause-numbered g c = are_numbered 0 _ (subst (Rise 0 0) (sym c.new.ensures.empty) (omega arith), omega arith)
