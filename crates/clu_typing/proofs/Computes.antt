-- What typing is at each kind of node that the computed examples have.
use Rattle.std.proofs.Common.{◌≡◌, ℕ, List, sym, ap, ◌∙◌}
use Rattle.clu_tree.specs.declared.shape.Shape.{Shape, roll-Shape}
use Rattle.clu_tree.specs.declared.shape.Shape.TheVariants as shape
use Rattle.clu_tree.specs.declared.shape.Shape.TheOpen as shf
use Rattle.clu_tree.specs.declared.shape.Shape.TheFolds as ho
use Rattle.clu_tree.specs.declared.value.Value.{Value}
use Rattle.clu_tree.specs.declared.tree.Expr.{Expr}
use Rattle.clu_tree.specs.declared.tree.Expr.TheVariants as e
use Rattle.clu_tree.specs.declared.tree.Expr.TheOpen as ef
use Rattle.clu_tree.specs.declared.tree.Stmt.TheVariants as st
use Rattle.clu_tree.specs.declared.tree.Stmt.TheOpen as sf
use Rattle.clu_typing.specs.Same.{Rows, Key, KeyPart, Kind, key_step, key}
use Rattle.clu_typing.specs.Exceptions.{Guard}
use Rattle.clu_typing.specs.Exprs.{Place, Scope, expr_step, expr}
use Rattle.clu_typing.specs.Stmts.{stmt_step, plan}
use Rattle.clu_typing.proofs.FilledExprs.{expr_roll}
use Rattle.clu_typing.proofs.FilledStmts.{at_roll}

-- ---- types

key_roll : (rows : Rows) (y : shf.Shape-F Shape _) → key rows (roll-Shape y) ≡ key_step rows (ho.map-Shape _ _ _ _ (key rows) (ho.fold-Named Key KeyPart (key_step rows) (λ f. (f.name, f.shape))) y)
key_roll rows = ho.fold-roll-Shape Key KeyPart (key_step rows) (λ f. (f.name, f.shape))

pub key-Str : (rows : Rows) → key rows shape.Str ≡ Kind 4
key-Str rows = ap (key rows) (sym shape.rolls-Str) ∙ key_roll rows shf.Str

pub key-Int : (rows : Rows) → key rows shape.Int ≡ Kind 2
key-Int rows = ap (key rows) (sym shape.rolls-Int) ∙ key_roll rows shf.Int

-- ---- expressions

pub expr-Literal : (p : Place) (scope : Scope) (guards : List Guard) (v : Value) (l : ℕ) → expr p scope guards (e.Literal v l) ≡ expr_step p scope guards (ef.Literal v l)
expr-Literal p scope guards v l = ap (expr p scope guards) (sym (e.rolls-Literal v l)) ∙ expr_roll p scope guards (ef.Literal v l)

-- ---- statements

pub plan-PutLine : (p : Place) (a : Expr) (l : ℕ) → plan p (st.PutLine a l) ≡ stmt_step p (sf.PutLine a l)
plan-PutLine p a l = ap (plan p) (sym (st.rolls-PutLine a l)) ∙ at_roll p (sf.PutLine a l)

pub plan-Sleep : (p : Place) (a : Expr) (l : ℕ) → plan p (st.Sleep a l) ≡ stmt_step p (sf.Sleep a l)
plan-Sleep p a l = ap (plan p) (sym (st.rolls-Sleep a l)) ∙ at_roll p (sf.Sleep a l)
