use Rattle.std.proofs.Common.{refl}
use Rattle.machine_tests.proofs.effects.to_others.Goals as goal

pub returns : goal.returns
returns g c = rw (c.handlers.ensures, c.new.ensures, c.line-body.ensures) refl
