use Rattle.std.proofs.Common.{sym, ◌∙◌}
use Rattle.std.proofs.lemmas.Result.{IfOk-at_ok}
use Rattle.machine_tests.proofs.Stepping.{goes_on}
use Rattle.machine_tests.proofs.trial.Trial.go.Goals as goal

pub loop-step-preserved : goal.loop-step-preserved
loop-step-preserved g c =
    rw c.set_var.ensures (
    sym (goes_on c.args.last c.loop-step.step c.loop-step.self.program c.loop-step.self.process c.loop-step.self.store c.loop-step.self.vars.items
    c.expect-end.result.left c.expect-end.result.act c.step.new.store c.step.new.self c.loop-step-test.true (rw (← c.as_slice.ensures.value) (IfOk-at_ok _ c.expect-end.ensures c.step.ensures.row)))
    ∙ c.loop-step.invariant)
