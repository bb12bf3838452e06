use Rattle.clu_eval.specs.Steps.{world_at}
use Rattle.clu_eval.proofs.process.step_row.Given as goal

abbrev pub ghost-row_at : goal.ghost-row_at
ghost-row_at g a = world_at a.program.now (g.S.Store.seen a.store.now) a.vars.now a.time
