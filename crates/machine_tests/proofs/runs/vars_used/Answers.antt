use Rattle.machine_tests.proofs.Runnable.{vars_used}
use Rattle.machine_tests.proofs.runs.vars_used.Goals as goal

pub run_with-requires : goal.run_with-requires
run_with-requires g c = vars_used _ _ _ c.node_vars-body.ensures c.new.ensures c.five_and_none-vars.ensures
