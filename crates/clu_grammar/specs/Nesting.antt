-- How deep a tree is: the greatest number of statements, expressions and types inside one another.
use Rattle.std.specs.Prelude.{ℕ, ◌+◌, max, List, [], ◌∷◌, map, Option, Some, None}
use Rattle.clu_tree.specs.declared.shape.Shape.{Shape, Shape-F}
use Rattle.clu_tree.specs.declared.shape.Shape.TheOpen as sf
use Rattle.clu_tree.specs.declared.shape.Shape.TheFolds.{fold-Shape}
use Rattle.clu_tree.specs.declared.shape.Named.{Named, out-Named}
use Rattle.clu_tree.specs.declared.shape.Listed.{Listed}
use Rattle.clu_tree.specs.declared.tree.Expr.{Expr}
use Rattle.clu_tree.specs.declared.tree.Expr.TheOpen as ef
use Rattle.clu_tree.specs.declared.tree.Expr.TheFolds.{fold-Expr}
use Rattle.clu_tree.specs.declared.tree.FieldInit.{FieldInit, out-FieldInit}
use Rattle.clu_tree.specs.declared.tree.Target.{Target}
use Rattle.clu_tree.specs.declared.tree.Target.TheVariants as t
use Rattle.clu_tree.specs.declared.tree.Remote.{Remote}
use Rattle.clu_tree.specs.declared.tree.Remote.TheVariants as c
use Rattle.clu_tree.specs.declared.tree.Iter.{Iter}
use Rattle.clu_tree.specs.declared.tree.Iter.TheVariants as i
use Rattle.clu_tree.specs.declared.tree.Stmt.{Stmt}
use Rattle.clu_tree.specs.declared.tree.Stmt.TheOpen as f
use Rattle.clu_tree.specs.declared.tree.Stmt.TheFolds.{fold-Stmt, fold-Arm, fold-TagArm, fold-When, fold-Handlers}
use Rattle.clu_tree.specs.declared.tree.Arm.{Arm}
use Rattle.clu_tree.specs.declared.tree.TagArm.{TagArm}
use Rattle.clu_tree.specs.declared.tree.When.{When}
use Rattle.clu_tree.specs.declared.tree.Handlers.{Handlers}
use Rattle.clu_tree.specs.declared.program.Initial.{Initial}
use Rattle.clu_tree.specs.declared.program.Initial.TheVariants as n
use Rattle.clu_tree.specs.declared.program.Equate.{Equate}
use Rattle.clu_tree.specs.declared.program.NodeVar.{NodeVar}
use Rattle.clu_tree.specs.declared.program.Routine.{Routine}
use Rattle.clu_tree.specs.declared.program.Cluster.{Cluster}
use Rattle.clu_tree.specs.declared.program.Program.{Program}

-- the greatest of the numbers, or 0
abbrev pub deepest : List ℕ → ℕ
deepest [] = 0
deepest (n ∷ ns) = max n (deepest ns)

-- one level of a type
abbrev pub shape_step : Shape-F ℕ ℕ → ℕ
shape_step (sf.Arr item) = 1 + item
shape_step (sf.Rec fields) = 1 + deepest fields
shape_step (sf.Oneof fields) = 1 + deepest fields
shape_step _ = 1

abbrev pub shape_nesting : Shape → ℕ
shape_nesting = fold-Shape ℕ ℕ shape_step (λ f. f.shape)

-- one level of an expression; the type in `T$op(..)` counts as a level inside it
abbrev pub expr_step : ef.Expr-F ℕ ℕ → ℕ
expr_step (ef.Literal _ _) = 1
expr_step (ef.Name _ _ _) = 1
expr_step (ef.Binary l _ r _ _) = 1 + max l r
expr_step (ef.Unary _ e _ _) = 1 + e
expr_step (ef.Call _ args _ _) = 1 + deepest args
expr_step (ef.Op shape _ args _ _) = 1 + max (shape_nesting shape) (deepest args)
expr_step (ef.Record shape fields _ _) = 1 + max (shape_nesting shape) (deepest fields)
expr_step (ef.Array shape items _ _) = 1 + max (shape_nesting shape) (deepest items)
expr_step (ef.Up e _) = 1 + e
expr_step (ef.Down e _) = 1 + e
expr_step (ef.Now _) = 1
expr_step (ef.Field e _ _ _) = 1 + e
expr_step (ef.Index e at _ _) = 1 + max e at

abbrev pub expr_nesting : Expr → ℕ
expr_nesting = fold-Expr ℕ ℕ expr_step (λ f. f.value)

-- `field: value`, which is no level of its own
abbrev pub init_nesting : FieldInit → ℕ
init_nesting x = expr_nesting (out-FieldInit x).value

-- `name: type`, which is no level of its own
abbrev pub named_nesting : Named → ℕ
named_nesting x = shape_nesting (out-Named x).shape

-- a target, a remote call and what a `for` goes over are no levels of their own
abbrev pub target_nesting : Target → ℕ
target_nesting (t.Name _ _ _) = 0
target_nesting (t.Field a _ _ _) = expr_nesting a
target_nesting (t.Index a b _ _) = max (expr_nesting a) (expr_nesting b)

abbrev pub remote_nesting : Remote → ℕ
remote_nesting (c.Once _ xs a _ _) = max (deepest (map expr_nesting xs)) (expr_nesting a)
remote_nesting (c.Maybe _ xs a b _ _) = max (deepest (map expr_nesting xs)) (max (expr_nesting a) (expr_nesting b))

abbrev pub iter_nesting : Iter → ℕ
iter_nesting (i.FromTo a b _) = max (expr_nesting a) (expr_nesting b)
iter_nesting (i.Elements s a _) = max (shape_nesting s) (expr_nesting a)

abbrev pub value_nesting : Option Expr → ℕ
value_nesting None = 0
value_nesting (Some a) = expr_nesting a

abbrev pub carried_nesting : Option Shape → ℕ
carried_nesting None = 0
carried_nesting (Some s) = shape_nesting s

abbrev pub body_nesting : Option (List ℕ) → ℕ
body_nesting None = 0
body_nesting (Some ns) = deepest ns

abbrev pub variable_nesting : Option Named → ℕ
variable_nesting None = 0
variable_nesting (Some x) = named_nesting x

-- one level of a statement
abbrev pub stmt_step : f.Stmt-F ℕ ℕ ℕ ℕ ℕ → ℕ
stmt_step (f.Declare _ s a _) = 1 + max (shape_nesting s) (value_nesting a)
stmt_step (f.Assign x a _) = 1 + max (target_nesting x) (expr_nesting a)
stmt_step (f.Remote _ x _ _) = 1 + remote_nesting x
stmt_step (f.Call a _) = 1 + expr_nesting a
stmt_step (f.PutLine a _) = 1 + expr_nesting a
stmt_step (f.Sleep a _) = 1 + expr_nesting a
stmt_step (f.Fork _ xs _ _) = 1 + deepest (map expr_nesting xs)
stmt_step (f.Return a _) = 1 + value_nesting a
stmt_step (f.Signal _ a _) = 1 + value_nesting a
stmt_step (f.If a b arms o _) = 1 + max (expr_nesting a) (max (deepest b) (max (deepest arms) (body_nesting o)))
stmt_step (f.While a b _) = 1 + max (expr_nesting a) (deepest b)
stmt_step (f.For _ s i b _) = 1 + max (shape_nesting s) (max (iter_nesting i) (deepest b))
stmt_step (f.Tagcase a arms o _) = 1 + max (expr_nesting a) (max (deepest arms) (body_nesting o))
stmt_step (f.Begin b _) = 1 + deepest b
stmt_step (f.Region a b _) = 1 + max (expr_nesting a) (deepest b)
stmt_step (f.Except x h) = 1 + max x h
stmt_step (f.Resignal x _) = 1 + x

abbrev pub arm_step : f.Arm-F ℕ ℕ ℕ ℕ ℕ → ℕ
arm_step a = max (expr_nesting a.test) (deepest a.body)

abbrev pub handlers_step : f.Handlers-F ℕ ℕ ℕ ℕ ℕ → ℕ
handlers_step h = max (deepest h.whens) (body_nesting h.others)

abbrev pub tag_step : f.TagArm-F ℕ ℕ ℕ ℕ ℕ → ℕ
tag_step a = max (variable_nesting a.variable) (deepest a.body)

abbrev pub when_step : f.When-F ℕ ℕ ℕ ℕ ℕ → ℕ
when_step w = max (variable_nesting w.variable) (deepest w.body)

abbrev pub stmt_nesting : Stmt → ℕ
stmt_nesting = fold-Stmt ℕ ℕ ℕ ℕ ℕ stmt_step arm_step handlers_step tag_step when_step

abbrev pub handlers_nesting : Handlers → ℕ
handlers_nesting = fold-Handlers ℕ ℕ ℕ ℕ ℕ stmt_step arm_step handlers_step tag_step when_step

abbrev pub arm_nesting : Arm → ℕ
arm_nesting = fold-Arm ℕ ℕ ℕ ℕ ℕ stmt_step arm_step handlers_step tag_step when_step

abbrev pub tag_nesting : TagArm → ℕ
tag_nesting = fold-TagArm ℕ ℕ ℕ ℕ ℕ stmt_step arm_step handlers_step tag_step when_step

abbrev pub when_nesting : When → ℕ
when_nesting = fold-When ℕ ℕ ℕ ℕ ℕ stmt_step arm_step handlers_step tag_step when_step

abbrev pub listed_nesting : Listed → ℕ
listed_nesting x = carried_nesting x.value

abbrev pub routine_nesting : Routine → ℕ
routine_nesting x =
    max (deepest (map named_nesting x.params)) (max (carried_nesting x.result) (max (deepest (map listed_nesting x.signals)) (deepest (map stmt_nesting x.body))))

abbrev pub initial_nesting : Option Initial → ℕ
initial_nesting (Some (n.Empty s)) = shape_nesting s
initial_nesting _ = 0

abbrev pub node_var_nesting : NodeVar → ℕ
node_var_nesting x = max (shape_nesting x.shape) (initial_nesting x.first)

-- Literals of `start` and of initial values are no levels.
abbrev pub program_nesting : Program → ℕ
program_nesting p =
    max (deepest (map (λ (x : Equate). shape_nesting x.shape) p.equates))
    (max (deepest (map node_var_nesting p.node_vars)) (max (deepest (map routine_nesting p.routines)) (deepest (map (λ (x : Cluster). shape_nesting x.rep) p.clusters))))
