-- The typing rules of programs that were read.
use Rattle.std.specs.Prelude.{ℕ, suc, ◌≤◌, ◌≡◌, List, [], ◌∷◌, length, None, pos, All, Any}
use Rattle.clu_tree.specs.declared.value.Value.{Value}
use Rattle.clu_tree.specs.declared.value.Value.TheVariants as v
use Rattle.clu_tree.specs.declared.shape.Shape.{Shape}
use Rattle.clu_tree.specs.declared.shape.Shape.TheVariants as shape
use Rattle.clu_tree.specs.declared.tree.Expr.{Expr, out-Expr}
use Rattle.clu_tree.specs.declared.tree.Expr.TheOpen as e
use Rattle.clu_tree.specs.declared.tree.FieldInit.{FieldInit}
use Rattle.clu_tree.specs.declared.tree.Stmt.{Stmt, out-Stmt}
use Rattle.clu_tree.specs.declared.tree.Stmt.TheOpen as st
use Rattle.clu_tree.specs.declared.tree.Arm.{Arm}
use Rattle.clu_tree.specs.declared.tree.TagArm.{TagArm}
use Rattle.clu_tree.specs.declared.tree.When.{When}
use Rattle.clu_tree.specs.declared.tree.Handlers.{Handlers}
use Rattle.clu_tree.specs.declared.program.Routine.{Routine}
use Rattle.clu_tree.specs.declared.program.NodePart.{NodePart}
use Rattle.clu_tree.specs.declared.program.NodePart.TheVariants as np
use Rattle.clu_tree.specs.declared.program.NodeDecl.{NodeDecl}
use Rattle.clu_tree.specs.declared.program.Program.{Program}

-- the value of a literal has the type
abbrev pub LiteralHas : Value → Shape → Type 0
LiteralHas v.Nil t = t ≡ shape.Null
LiteralHas (v.Bool b) t = t ≡ shape.Bool
LiteralHas (v.Int n) t = t ≡ shape.Int
LiteralHas (v.Char c) t = t ≡ shape.Char
LiteralHas (v.Str text) t = t ≡ shape.Str
LiteralHas (v.Ref at) t = ⊥

-- one layer of an expression has the type; only literals have one yet
abbrev pub LayerHas : e.Expr-F Expr FieldInit → Shape → Type 0
LayerHas (e.Literal value _) t = LiteralHas value t
LayerHas _ t = ⊥

-- the expression has the type
abbrev pub ExprHas : Expr → Shape → Type 0
ExprHas x t = LayerHas (out-Expr x) t

-- one layer of a statement is typed: `put_line` takes a string, `sleep` an int
abbrev pub IsTypedLayer : st.Stmt-F Stmt Arm Handlers TagArm When → Type 0
IsTypedLayer (st.PutLine text _) = ExprHas text shape.Str
IsTypedLayer (st.Sleep time _) = ExprHas time shape.Int
IsTypedLayer _ = ⊥

-- the statement is typed
abbrev pub IsTypedStmt : Stmt → Type 0
IsTypedStmt x = IsTypedLayer (out-Stmt x)

-- A routine has no parameters, no result and no signals, and its statements are typed.
pub record IsTypedRoutine (routine : Routine) : Type 0 where
  pub params : routine.params ≡ []
  pub returns : routine.result ≡ None
  pub signals : routine.signals ≡ []
  pub body : All IsTypedStmt routine.body

-- the program has a routine of this name
abbrev pub HasRoutine : Program → List ℕ → Type 0
HasRoutine program name = Any (λ (r : Routine). r.name ≡ name) program.routines

-- `start` names a routine of the program, with arguments of its parameters' types: none
abbrev pub IsTypedPart : Program → NodePart → Type 0
IsTypedPart program (np.Start name args _) = HasRoutine program name × (args ≡ [])
IsTypedPart program (np.Export _ _) = ⊥

-- A node block has at most one part, and it is typed.
pub record IsTypedNode (program : Program) (node : NodeDecl) : Type 0 where
  pub few : length node.parts ≤ 1
  pub parts : All (IsTypedPart program) node.parts

-- node blocks are numbered in order, from `first` on
abbrev pub AreNumbered : ℕ → List NodeDecl → Type 0
AreNumbered first [] = Unit {0}
AreNumbered first (node ∷ nodes) = (node.number ≡ pos first) × AreNumbered (suc first) nodes

-- A program has at most 10,000 routines and one node block, numbered 1, that are typed.
pub record IsTyped (program : Program) : Type 0 where
  pub equates : program.equates ≡ []
  pub node_vars : program.node_vars ≡ []
  pub clusters : program.clusters ≡ []
  pub few_routines : length program.routines ≤ 10000
  pub routines : All IsTypedRoutine program.routines
  pub one_node : length program.nodes ≡ 1
  pub numbered : AreNumbered 1 program.nodes
  pub nodes : All (IsTypedNode program) program.nodes
