use Rattle.std.proofs.Common.{refl}
use Rattle.machine_tests.proofs.Runnable.{arrays_used}
use Rattle.machine_tests.proofs.runs.arrays_used.Goals as goal

pub run-requires : goal.run-requires
run-requires g c = arrays_used _ _ (rw (c.joined-body.ensures, c.joined-start.ensures, c.growing.ensures, c.showing.ensures, c.losing.ensures) refl) c.new.ensures
