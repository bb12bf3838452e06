use Rattle.machine_tests.specs.Examples.{standing}
use Rattle.machine_tests.proofs.Trials.{given_goes_on}
use Rattle.machine_tests.proofs.trial.Trial.give.Goals as goal

pub give-requires : goal.give-requires
give-requires g c =
    let s = c.args.self.now in
    given_goes_on c.args.value (standing s.program s.process s.store s.vars.items) c.requires
