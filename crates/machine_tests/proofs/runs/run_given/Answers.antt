use Rattle.std.proofs.Common.{[]}
use Rattle.clu_tree.specs.declared.program.Program.{Program}
use Rattle.machine_tests.specs.Examples.{Standing, given, standing}
use Rattle.machine_rules.specs.Examples.{program}
use Rattle.machine_tests.proofs.Trials.{answer_there, begins_there, first_there, last_there, steps_there}
use Rattle.machine_tests.proofs.runs.run_given.Goals as goal

pub go-requires : goal.go-requires
go-requires g c =
    let q : Program = program c.args.body c.args.others in
    let t = c.new-trial.result in
    let at : Standing = standing t.program t.process t.store t.vars.items in
    steps_there c.args.steps c.program-program.result q [] at c.program-program.ensures (rw (← c.new.ensures.items) c.new-trial.ensures) (first_there c.args.steps c.args.last (given c.args.value) q c.requires)

pub give-requires : goal.give-requires
give-requires g c =
    let q : Program = program c.args.body c.args.others in
    let t = c.new-trial.result in
    let at : Standing = standing t.program t.process t.store t.vars.items in
    let s = c.go.new.self in
    let mid : Standing = standing s.program s.process s.store s.vars.items in
    answer_there c.args.steps c.args.last (given c.args.value) c.program-program.result q at mid c.program-program.ensures (rw (← c.new.ensures.items) c.new-trial.ensures) c.go.ensures c.requires

pub go-requires-2 : goal.go-requires-2
go-requires-2 g c =
    let q : Program = program c.args.body c.args.others in
    let t = c.new-trial.result in
    let at : Standing = standing t.program t.process t.store t.vars.items in
    let s = c.go.new.self in
    let mid : Standing = standing s.program s.process s.store s.vars.items in
    let n = c.give.new.self in
    let next : Standing = standing n.program n.process n.store n.vars.items in
    last_there c.args.steps c.args.last (given c.args.value) c.program-program.result q at mid next c.program-program.ensures (rw (← c.new.ensures.items) c.new-trial.ensures) c.go.ensures c.give.ensures c.requires
