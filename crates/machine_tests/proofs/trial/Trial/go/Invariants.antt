use Rattle.std.proofs.Common.{◌≡◌}
use Rattle.std.specs.Prelude.{◌-◌}
use Rattle.machine_tests.specs.Examples.{standing, stepped}
use Rattle.machine_tests.proofs.trial.Trial.go.Given as goal

abbrev pub invariant-loop-step : goal.invariant-loop-step
invariant-loop-step g l =
    stepped (l.last - l.step) (standing l.self.program l.self.process l.self.store l.self.vars.items) ≡
    stepped (l.last - l.first) (standing l.fn.self.program l.fn.self.process l.fn.self.store l.fn.self.vars.items)
