use Rattle.std.proofs.Common.{◌∷◌, [], ap, ◌∙◌}
use Rattle.clu_tree.specs.declared.tree.Stmt.{Stmt}
use Rattle.clu_tree.specs.declared.program.Routine.{Routine}
use Rattle.machine_tests.proofs.Runnable.{handled}
use Rattle.machine_tests.proofs.runs.handled.Goals as goal

pub run_raised-requires : goal.run_raised-requires
run_raised-requires g c = handled _ _ _ (c.one-body.ensures ∙ ap (λ (stmt : Stmt). stmt ∷ []) c.tried.ensures) (c.one-others.ensures ∙ ap (λ (r : Routine). r ∷ []) c.adds.ensures) c.late-sig.ensures
