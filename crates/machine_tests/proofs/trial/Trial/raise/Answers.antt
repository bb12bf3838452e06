use Rattle.machine_tests.specs.Examples.{Standing, standing}
use Rattle.machine_tests.proofs.Trials.{raised_goes_on, raised_row}
use Rattle.machine_tests.proofs.trial.Trial.raise.Goals as goal

pub raise-requires : goal.raise-requires
raise-requires g c =
    let s = c.args.self.now in
    let at : Standing = standing s.program s.process s.store s.vars.items in
    (raised_goes_on c.args.sig at c.requires.1.1, rw c.requires.1.0 (raised_row c.args.sig at c.requires.1.1))
