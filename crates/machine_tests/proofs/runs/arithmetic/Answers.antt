use Rattle.std.proofs.Common.{refl}
use Rattle.machine_tests.proofs.Runnable.{arithmetic}
use Rattle.machine_tests.proofs.runs.arithmetic.Goals as goal

pub run-requires : goal.run-requires
run-requires g c = arithmetic _ _ (rw (c.joined-body.ensures, c.three_quotients.ensures, c.array_and_third.ensures) refl) c.new.ensures
