use Rattle.std.proofs.Common.{refl}
use Rattle.machine_tests.proofs.effects.waiting.Goals as goal

pub returns : goal.returns
returns g c = rw (c.two.ensures, c.semaphore-semaphore.ensures, c.if_then-waited.ensures, c.waits-test.ensures, c.line-got.ensures, c.line-late.ensures, c.new.ensures) refl
