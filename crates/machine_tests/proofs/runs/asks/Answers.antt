use Rattle.std.proofs.Common.{◌∷◌, [], ap, ◌∙◌}
use Rattle.clu_tree.specs.declared.program.Routine.{Routine}
use Rattle.machine_tests.proofs.Runnable.{asks}
use Rattle.machine_tests.proofs.runs.asks.Goals as goal

pub run_given-requires : goal.run_given-requires
run_given-requires g c = asks _ _ c.asking-body.ensures (c.one-others.ensures ∙ ap (λ (r : Routine). r ∷ []) c.adds.ensures)
