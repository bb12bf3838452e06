use Rattle.obj_region.specs.Answers.{region_seen}
use Rattle.clu_eval.specs.Steps.{world_at}
use Rattle.machine_tests.proofs.runs.run_raised.Given as goal

abbrev pub ghost-raise : goal.ghost-raise
ghost-raise g a = world_at a.self.now.program (region_seen a.self.now.store) a.self.now.vars.items 0
