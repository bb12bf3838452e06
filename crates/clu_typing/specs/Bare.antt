-- Trees without what their names and operators stand for.
use Rattle.std.specs.Prelude.{map}
use Rattle.std.specs.Option.{option_map}
use Rattle.clu_tree.specs.declared.tree.Meant.TheVariants as m
use Rattle.clu_tree.specs.declared.tree.Expr.{Expr}
use Rattle.clu_tree.specs.declared.tree.Expr.TheVariants as e
use Rattle.clu_tree.specs.declared.tree.Expr.TheOpen as ef
use Rattle.clu_tree.specs.declared.tree.Expr.TheFolds.{fold-Expr}
use Rattle.clu_tree.specs.declared.tree.FieldInit.{FieldInit, roll-FieldInit}
use Rattle.clu_tree.specs.declared.tree.Target.{Target}
use Rattle.clu_tree.specs.declared.tree.Target.TheVariants as target
use Rattle.clu_tree.specs.declared.tree.Remote.{Remote}
use Rattle.clu_tree.specs.declared.tree.Remote.TheVariants as remote
use Rattle.clu_tree.specs.declared.tree.Iter.{Iter}
use Rattle.clu_tree.specs.declared.tree.Iter.TheVariants as iter
use Rattle.clu_tree.specs.declared.tree.Stmt.{Stmt}
use Rattle.clu_tree.specs.declared.tree.Stmt.TheVariants as st
use Rattle.clu_tree.specs.declared.tree.Stmt.TheOpen as sf
use Rattle.clu_tree.specs.declared.tree.Stmt.TheFolds.{fold-Stmt}
use Rattle.clu_tree.specs.declared.tree.Arm.{Arm, roll-Arm}
use Rattle.clu_tree.specs.declared.tree.TagArm.{TagArm, roll-TagArm}
use Rattle.clu_tree.specs.declared.tree.When.{When, roll-When}
use Rattle.clu_tree.specs.declared.tree.Handlers.{Handlers, roll-Handlers}
use Rattle.clu_tree.specs.declared.program.Routine.{Routine}
use Rattle.clu_tree.specs.declared.program.Program.{Program}

-- one level of an expression
abbrev pub bare_step : ef.Expr-F Expr FieldInit → Expr
bare_step (ef.Literal value line) = e.Literal value line
bare_step (ef.Name x line _) = e.Name x line m.Unknown
bare_step (ef.Binary a o b line _) = e.Binary a o b line m.Unknown
bare_step (ef.Unary o a line _) = e.Unary o a line m.Unknown
bare_step (ef.Call f args line _) = e.Call f args line m.Unknown
bare_step (ef.Op t x args line _) = e.Op t x args line m.Unknown
bare_step (ef.Record t inits line _) = e.Record t inits line m.Unknown
bare_step (ef.Array t items line _) = e.Array t items line m.Unknown
bare_step (ef.Up a line) = e.Up a line
bare_step (ef.Down a line) = e.Down a line
bare_step (ef.Now line) = e.Now line
bare_step (ef.Field a f line _) = e.Field a f line m.Unknown
bare_step (ef.Index a i line _) = e.Index a i line m.Unknown

-- an expression
unfoldable pub bare_expr : Expr → Expr
bare_expr = fold-Expr Expr FieldInit bare_step roll-FieldInit

-- what stands before `:=`
abbrev pub bare_target : Target → Target
bare_target (target.Name x line _) = target.Name x line m.Unknown
bare_target (target.Field a f line _) = target.Field (bare_expr a) f line m.Unknown
bare_target (target.Index a i line _) = target.Index (bare_expr a) (bare_expr i) line m.Unknown

-- a remote call
abbrev pub bare_remote : Remote → Remote
bare_remote (remote.Once f args at line _) = remote.Once f (map bare_expr args) (bare_expr at) line m.Unknown
bare_remote (remote.Maybe f args at within line _) = remote.Maybe f (map bare_expr args) (bare_expr at) (bare_expr within) line m.Unknown

-- what a `for` goes over
abbrev pub bare_iter : Iter → Iter
bare_iter (iter.FromTo a b line) = iter.FromTo (bare_expr a) (bare_expr b) line
bare_iter (iter.Elements t a line) = iter.Elements t (bare_expr a) line

-- one level of a statement
abbrev pub bare_stmt_step : sf.Stmt-F Stmt Arm Handlers TagArm When → Stmt
bare_stmt_step (sf.Declare x t first line) = st.Declare x t (option_map bare_expr first) line
bare_stmt_step (sf.Assign to a line) = st.Assign (bare_target to) (bare_expr a) line
bare_stmt_step (sf.Remote x ask line _) = st.Remote x (bare_remote ask) line m.Unknown
bare_stmt_step (sf.Call a line) = st.Call (bare_expr a) line
bare_stmt_step (sf.PutLine a line) = st.PutLine (bare_expr a) line
bare_stmt_step (sf.Sleep a line) = st.Sleep (bare_expr a) line
bare_stmt_step (sf.Fork f args line _) = st.Fork f (map bare_expr args) line m.Unknown
bare_stmt_step (sf.Return a line) = st.Return (option_map bare_expr a) line
bare_stmt_step (sf.Signal n a line) = st.Signal n (option_map bare_expr a) line
bare_stmt_step (sf.If a ss arms others line) = st.If (bare_expr a) ss arms others line
bare_stmt_step (sf.While a ss line) = st.While (bare_expr a) ss line
bare_stmt_step (sf.For x t over ss line) = st.For x t (bare_iter over) ss line
bare_stmt_step (sf.Tagcase a arms others line) = st.Tagcase (bare_expr a) arms others line
bare_stmt_step (sf.Begin ss line) = st.Begin ss line
bare_stmt_step (sf.Region a ss line) = st.Region (bare_expr a) ss line
bare_stmt_step (sf.Except s h) = st.Except s h
bare_stmt_step (sf.Resignal s ns) = st.Resignal s ns

abbrev pub bare_arm_step : sf.Arm-F Stmt Arm Handlers TagArm When → Arm
bare_arm_step a = roll-Arm (record { test = bare_expr a.test; body = a.body })

abbrev pub bare_tag_step : sf.TagArm-F Stmt Arm Handlers TagArm When → TagArm
bare_tag_step a = roll-TagArm (record { tag = a.tag; variable = a.variable; body = a.body; meant = m.Unknown })

-- a statement
unfoldable pub bare_stmt : Stmt → Stmt
bare_stmt = fold-Stmt Stmt Arm Handlers TagArm When bare_stmt_step bare_arm_step roll-Handlers bare_tag_step roll-When

abbrev pub bare_routine : Routine → Routine
bare_routine r = record r { body = map bare_stmt r.body }

-- a program
abbrev pub bare : Program → Program
bare p = record p { routines = map bare_routine p.routines }
