use Rattle.std.proofs.Common.{◌∷◌, [], refl, ap, ◌∙◌}
use Rattle.clu_tree.specs.declared.tree.Stmt.{Stmt}
use Rattle.machine_tests.proofs.Runnable.{cluster}
use Rattle.machine_tests.proofs.runs.cluster.Goals as goal

pub run-requires : goal.run-requires
run-requires g c = cluster _ _ (c.one-body.ensures ∙ ap (λ (stmt : Stmt). stmt ∷ []) c.counter_shown.ensures) (rw (c.two-others.ensures, c.makes-first.ensures, c.gets.ensures) refl)
