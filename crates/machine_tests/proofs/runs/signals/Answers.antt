use Rattle.std.proofs.Common.{◌∷◌, [], ap, ◌∙◌}
use Rattle.clu_tree.specs.declared.program.Routine.{Routine}
use Rattle.machine_tests.proofs.Runnable.{signals}
use Rattle.machine_tests.proofs.runs.signals.Goals as goal

pub run-requires : goal.run-requires
run-requires g c = signals _ _ c.two_signals-body.ensures (c.one-others.ensures ∙ ap (λ (r : Routine). r ∷ []) c.signals_bad.ensures)
