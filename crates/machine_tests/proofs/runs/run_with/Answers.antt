use Rattle.machine_tests.specs.Examples.{standing}
use Rattle.machine_rules.specs.Examples.{program}
use Rattle.machine_tests.proofs.Trials.{steps_there}
use Rattle.machine_tests.proofs.runs.run_with.Goals as goal

pub go-requires : goal.go-requires
go-requires g c =
    let t = c.new-trial.result in
    steps_there c.args.steps c.program-program.result (program c.args.body c.args.others) c.args.vars.items (standing t.program t.process t.store t.vars.items) c.program-program.ensures c.new-trial.ensures c.requires
