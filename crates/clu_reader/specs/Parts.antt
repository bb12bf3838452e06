-- What `check` looks at in a program.
use Rattle.std.specs.Prelude.{◌≡◌, length, All}
use Rattle.clu_tree.specs.Typed.{IsTypedNode, AreNumbered}
use Rattle.clu_tree.specs.declared.program.Program.{Program}

-- The program has one node block, numbered 1, and it is typed.
pub record HasTypedNode (program : Program) : Type 0 where
  pub one : length program.nodes ≡ 1
  pub numbered : AreNumbered 1 program.nodes
  pub typed : All (IsTypedNode program) program.nodes
