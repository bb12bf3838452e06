use Rattle.std.proofs.Common.{◌≡◌}
use Rattle.call_tests.proofs.halting.tells_who_is_halted_and_since_when.Given as goal

abbrev pub invariant-loop-step : goal.invariant-loop-step
invariant-loop-step g l = l.rounds.nodes ≡ 2
