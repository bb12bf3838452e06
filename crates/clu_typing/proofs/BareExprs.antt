-- Bare expressions, by their kinds.
use Rattle.std.proofs.Common.{◌≡◌, ℕ, List, map, sym, ap, ◌∙◌}
use Rattle.clu_tree.specs.declared.shape.Shape.{Shape}
use Rattle.clu_tree.specs.declared.value.Value.{Value}
use Rattle.clu_tree.specs.declared.tree.Meant.{Meant}
use Rattle.clu_tree.specs.declared.tree.Meant.TheVariants as m
use Rattle.clu_tree.specs.declared.tree.Infix.{Infix}
use Rattle.clu_tree.specs.declared.tree.Prefix.{Prefix}
use Rattle.clu_tree.specs.declared.tree.Expr.{Expr, roll-Expr}
use Rattle.clu_tree.specs.declared.tree.Expr.TheVariants as e
use Rattle.clu_tree.specs.declared.tree.Expr.TheOpen as ef
use Rattle.clu_tree.specs.declared.tree.Expr.TheFolds as eo
use Rattle.clu_tree.specs.declared.tree.FieldInit.{FieldInit, out-FieldInit, roll-FieldInit}
use Rattle.clu_typing.specs.Bare.{bare_step, bare_expr}

abbrev pub bare_init : FieldInit → FieldInit
bare_init = eo.fold-FieldInit Expr FieldInit bare_step roll-FieldInit

pub init_bare : (x : FieldInit) → bare_init x ≡ roll-FieldInit (record { name = (out-FieldInit x).name; value = bare_expr (out-FieldInit x).value })
unfolding bare_expr
init_bare x = eo.fold_out-FieldInit Expr FieldInit bare_step roll-FieldInit x

abbrev pub bares : ef.Expr-F Expr FieldInit → ef.Expr-F Expr FieldInit
bares = eo.map-Expr Expr FieldInit Expr FieldInit bare_expr bare_init

pub bare_roll : (y : ef.Expr-F Expr FieldInit) → bare_expr (roll-Expr y) ≡ bare_step (bares y)
unfolding bare_expr
bare_roll y = eo.fold-roll-Expr Expr FieldInit bare_step roll-FieldInit y

pub bare-Literal : (v : Value) (l : ℕ) → bare_expr (e.Literal v l) ≡ e.Literal v l
bare-Literal v l = ap bare_expr (sym (e.rolls-Literal v l)) ∙ bare_roll (ef.Literal v l)

pub bare-Name : (x : List ℕ) (l : ℕ) (k : Meant) → bare_expr (e.Name x l k) ≡ e.Name x l m.Unknown
bare-Name x l k = ap bare_expr (sym (e.rolls-Name x l k)) ∙ bare_roll (ef.Name x l k)

pub bare-Binary : (a : Expr) (o : Infix) (b : Expr) (l : ℕ) (k : Meant) → bare_expr (e.Binary a o b l k) ≡ e.Binary (bare_expr a) o (bare_expr b) l m.Unknown
bare-Binary a o b l k = ap bare_expr (sym (e.rolls-Binary a o b l k)) ∙ bare_roll (ef.Binary a o b l k)

pub bare-Unary : (o : Prefix) (a : Expr) (l : ℕ) (k : Meant) → bare_expr (e.Unary o a l k) ≡ e.Unary o (bare_expr a) l m.Unknown
bare-Unary o a l k = ap bare_expr (sym (e.rolls-Unary o a l k)) ∙ bare_roll (ef.Unary o a l k)

pub bare-Call : (f : List ℕ) (xs : List Expr) (l : ℕ) (k : Meant) → bare_expr (e.Call f xs l k) ≡ e.Call f (map bare_expr xs) l m.Unknown
bare-Call f xs l k = ap bare_expr (sym (e.rolls-Call f xs l k)) ∙ bare_roll (ef.Call f xs l k)

pub bare-Op : (t : Shape) (x : List ℕ) (xs : List Expr) (l : ℕ) (k : Meant) → bare_expr (e.Op t x xs l k) ≡ e.Op t x (map bare_expr xs) l m.Unknown
bare-Op t x xs l k = ap bare_expr (sym (e.rolls-Op t x xs l k)) ∙ bare_roll (ef.Op t x xs l k)

pub bare-Record : (t : Shape) (xs : List FieldInit) (l : ℕ) (k : Meant) → bare_expr (e.Record t xs l k) ≡ e.Record t (map bare_init xs) l m.Unknown
bare-Record t xs l k = ap bare_expr (sym (e.rolls-Record t xs l k)) ∙ bare_roll (ef.Record t xs l k)

pub bare-Array : (t : Shape) (xs : List Expr) (l : ℕ) (k : Meant) → bare_expr (e.Array t xs l k) ≡ e.Array t (map bare_expr xs) l m.Unknown
bare-Array t xs l k = ap bare_expr (sym (e.rolls-Array t xs l k)) ∙ bare_roll (ef.Array t xs l k)

pub bare-Up : (a : Expr) (l : ℕ) → bare_expr (e.Up a l) ≡ e.Up (bare_expr a) l
bare-Up a l = ap bare_expr (sym (e.rolls-Up a l)) ∙ bare_roll (ef.Up a l)

pub bare-Down : (a : Expr) (l : ℕ) → bare_expr (e.Down a l) ≡ e.Down (bare_expr a) l
bare-Down a l = ap bare_expr (sym (e.rolls-Down a l)) ∙ bare_roll (ef.Down a l)

pub bare-Now : (l : ℕ) → bare_expr (e.Now l) ≡ e.Now l
bare-Now l = ap bare_expr (sym (e.rolls-Now l)) ∙ bare_roll (ef.Now l)

pub bare-Field : (a : Expr) (f : List ℕ) (l : ℕ) (k : Meant) → bare_expr (e.Field a f l k) ≡ e.Field (bare_expr a) f l m.Unknown
bare-Field a f l k = ap bare_expr (sym (e.rolls-Field a f l k)) ∙ bare_roll (ef.Field a f l k)

pub bare-Index : (a i : Expr) (l : ℕ) (k : Meant) → bare_expr (e.Index a i l k) ≡ e.Index (bare_expr a) (bare_expr i) l m.Unknown
bare-Index a i l k = ap bare_expr (sym (e.rolls-Index a i l k)) ∙ bare_roll (ef.Index a i l k)
