use Rattle.std.proofs.Common.{◌∷◌, [], ap, ◌∙◌}
use Rattle.clu_tree.specs.declared.tree.Stmt.{Stmt}
use Rattle.machine_tests.proofs.Runnable.{hello}
use Rattle.machine_tests.proofs.runs.hello.Goals as goal

pub run-requires : goal.run-requires
run-requires g c = hello _ _ (c.one-body.ensures ∙ ap (λ (stmt : Stmt). stmt ∷ []) c.text.ensures) c.new.ensures
