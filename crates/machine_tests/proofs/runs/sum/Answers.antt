use Rattle.std.proofs.Common.{◌∷◌, [], ap, ◌∙◌}
use Rattle.clu_tree.specs.declared.tree.Stmt.{Stmt}
use Rattle.clu_tree.specs.declared.program.Routine.{Routine}
use Rattle.machine_tests.proofs.Runnable.{sum}
use Rattle.machine_tests.proofs.runs.sum.Goals as goal

pub run-requires : goal.run-requires
run-requires g c = sum _ _ (c.one-body.ensures ∙ ap (λ (stmt : Stmt). stmt ∷ []) c.added.ensures) (c.one-others.ensures ∙ ap (λ (r : Routine). r ∷ []) c.adds.ensures)
