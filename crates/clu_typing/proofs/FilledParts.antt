-- What stands in statements, filled, is what was given but for what its nodes stand for.
use Rattle.std.proofs.Common.{◌≡◌, List, [], ◌∷◌, map, Option, Some, None, refl, sym, ap, ◌∙◌, subst}
use Rattle.std.specs.Option.{option_map}
use Rattle.clu_tree.specs.declared.shape.Shape.{Shape}
use Rattle.clu_tree.specs.declared.shape.Shape.TheVariants as shape
use Rattle.clu_tree.specs.declared.op.Op.TheVariants as op
use Rattle.clu_tree.specs.declared.tree.Meant.TheVariants as m
use Rattle.clu_tree.specs.declared.tree.Expr.{Expr}
use Rattle.clu_tree.specs.declared.tree.Target.{Target}
use Rattle.clu_tree.specs.declared.tree.Target.TheVariants as target
use Rattle.clu_tree.specs.declared.tree.Remote.{Remote}
use Rattle.clu_tree.specs.declared.tree.Remote.TheVariants as remote
use Rattle.clu_tree.specs.declared.tree.Iter.{Iter}
use Rattle.clu_tree.specs.declared.tree.Iter.TheVariants as iter
use Rattle.clu_typing.specs.Types.{layer}
use Rattle.clu_typing.specs.Exceptions.{Guard}
use Rattle.clu_typing.specs.Exprs.{Place, Scope, Valued, written, exprs_of, variable, item_in, field_in, value, typed, values}
use Rattle.clu_typing.specs.Stmts.{value_where, first_of, target_of, remote_routine, remote_of, iter_of}
use Rattle.clu_typing.specs.Bare.{bare_expr, bare_target, bare_remote, bare_iter}
use Rattle.clu_typing.proofs.Binds.{some_inj, bind_some, needs_some}
use Rattle.clu_typing.proofs.FilledExprs.{value_keeps, of_type_keeps, expr_keeps}

module _ (p : Place) (scope : Scope) (guards : List Guard) where
  pub worth_keeps : (x : Expr) (v : Valued) → value p scope guards x ≡ Some v → bare_expr v.0 ≡ bare_expr x
  worth_keeps x v h = value_keeps p scope guards x (expr_keeps p scope guards x) v h

  pub typed_keeps : (t : Shape) (x y : Expr) → typed p scope guards t x ≡ Some y → bare_expr y ≡ bare_expr x
  typed_keeps t x y h = of_type_keeps p scope guards x (expr_keeps p scope guards x) t y h

  pub values_keep : (xs : List Expr) (vs : List Valued) → values p scope guards xs ≡ Some vs → map bare_expr (exprs_of vs) ≡ map bare_expr xs
  values_keep [] vs h = subst (λ (ws : List Valued). map bare_expr (exprs_of ws) ≡ []) (some_inj [] vs h) refl
  values_keep (x ∷ xs) vs h =
      let a = bind_some (value p scope guards x) _ _ h in
      let b = bind_some (values p scope guards xs) _ _ a.2 in
      let k : bare_expr a.0.0 ≡ bare_expr x = worth_keeps x a.0 a.1 in
      let r : map bare_expr (exprs_of b.0) ≡ map bare_expr xs = values_keep xs b.0 b.1 in
      subst (λ (ws : List Valued). map bare_expr (exprs_of ws) ≡ bare_expr x ∷ map bare_expr xs) (some_inj (a.0 ∷ b.0) vs b.2) (rw (k, r) refl)

  pub first_keeps : (t : Shape) (o y : Option Expr) → first_of p scope guards t o ≡ Some y → option_map bare_expr y ≡ option_map bare_expr o
  first_keeps t None y h = ap (option_map bare_expr) (sym (some_inj None y h))
  first_keeps t (Some x) y h =
      let a = bind_some (typed p scope guards t x) _ _ h in
      ap (option_map bare_expr) (sym (some_inj (Some a.0) y a.2)) ∙ ap Some (typed_keeps t x a.0 a.1)

  pub where_keeps : (t : Option Shape) (o y : Option Expr) → value_where p scope guards t o ≡ Some y → option_map bare_expr y ≡ option_map bare_expr o
  where_keeps None None y h = ap (option_map bare_expr) (sym (some_inj None y h))
  where_keeps None (Some x) y h = absurd cc
  where_keeps (Some t) None y h = absurd cc
  where_keeps (Some t) (Some x) y h =
      let a = bind_some (typed p scope guards t x) _ _ h in
      ap (option_map bare_expr) (sym (some_inj (Some a.0) y a.2)) ∙ ap Some (typed_keeps t x a.0 a.1)

  target_ends : (a : Target) (t : Shape) (y : Target × Shape) (b : Target) → Some (a, t) ≡ Some y → bare_target a ≡ b → bare_target y.0 ≡ b
  target_ends a t y b h k = subst (λ (q : Target × Shape). bare_target q.0 ≡ b) (some_inj (a, t) y h) k

  pub target_keeps : (a : Target) (y : Target × Shape) → target_of p scope guards a ≡ Some y → bare_target y.0 ≡ bare_target a
  target_keeps (target.Name x l _) y h =
      let a = bind_some (variable p.declarations scope x) _ _ h in
      target_ends (target.Name x l a.0.1) a.0.0 y _ a.2 refl
  target_keeps (target.Field x f l _) y h =
      let a = bind_some (value p scope guards x) _ _ h in
      let b = bind_some (field_in p.declarations a.0.1 f) _ _ a.2 in
      let c = needs_some _ _ _ b.2 in
      target_ends (target.Field a.0.0 f l (m.Field b.0.0)) b.0.1 y _ c.1 (ap (λ z. target.Field z f l m.Unknown) (worth_keeps x a.0 a.1))
  target_keeps (target.Index x i l _) y h =
      let a = bind_some (value p scope guards x) _ _ h in
      let b = bind_some (item_in (layer p.declarations a.0.1)) _ _ a.2 in
      let c = bind_some (typed p scope guards shape.Int i) _ _ b.2 in
      let d = needs_some _ _ _ c.2 in
      let j : bare_expr a.0.0 ≡ bare_expr x = worth_keeps x a.0 a.1 in
      let k : bare_expr c.0 ≡ bare_expr i = typed_keeps shape.Int i c.0 c.1 in
      target_ends (target.Index a.0.0 c.0 l (m.Op op.ArrStore)) b.0 y _ d.1 (rw (j, k) refl)

  remote_ends : (a : Remote) (t : Option Shape) (y : Remote × Option Shape) (b : Remote) → ◌≡◌ {A = Option (Remote × Option Shape)} (Some (a, t)) (Some y) → bare_remote a ≡ b → bare_remote y.0 ≡ b
  remote_ends a t y b h k = subst (λ (q : Remote × Option Shape). bare_remote q.0 ≡ b) (some_inj (a, t) y h) k

  pub remote_keeps : (a : Remote) (y : Remote × Option Shape) → remote_of p scope guards a ≡ Some y → bare_remote y.0 ≡ bare_remote a
  remote_keeps (remote.Once f args at l _) y h =
      let a = bind_some (remote_routine p.declarations f) _ _ h in
      let b = bind_some (values p scope guards args) _ _ a.2 in
      let c = bind_some (typed p scope guards shape.Int at) _ _ b.2 in
      let d = needs_some _ _ _ c.2 in
      let j : map bare_expr (exprs_of b.0) ≡ map bare_expr args = values_keep args b.0 b.1 in
      let k : bare_expr c.0 ≡ bare_expr at = typed_keeps shape.Int at c.0 c.1 in
      remote_ends (remote.Once f (exprs_of b.0) c.0 l (m.Routine (a.0).number)) ((a.0).outside).result y _ d.1 (rw (j, k) refl)
  remote_keeps (remote.Maybe f args at within l _) y h =
      let a = bind_some (remote_routine p.declarations f) _ _ h in
      let b = bind_some (values p scope guards args) _ _ a.2 in
      let c = bind_some (typed p scope guards shape.Int at) _ _ b.2 in
      let e = bind_some (typed p scope guards shape.Int within) _ _ c.2 in
      let d = needs_some _ _ _ e.2 in
      let j : map bare_expr (exprs_of b.0) ≡ map bare_expr args = values_keep args b.0 b.1 in
      let k : bare_expr c.0 ≡ bare_expr at = typed_keeps shape.Int at c.0 c.1 in
      let w : bare_expr e.0 ≡ bare_expr within = typed_keeps shape.Int within e.0 e.1 in
      remote_ends (remote.Maybe f (exprs_of b.0) c.0 e.0 l (m.Routine (a.0).number)) ((a.0).outside).result y _ d.1 (rw (j, k, w) refl)

  pub iter_keeps : (a : Iter) (y : Iter × Shape) → iter_of p scope guards a ≡ Some y → bare_iter y.0 ≡ bare_iter a
  iter_keeps (iter.FromTo a b l) y h =
      let c = bind_some (typed p scope guards shape.Int a) _ _ h in
      let d = bind_some (typed p scope guards shape.Int b) _ _ c.2 in
      let j : bare_expr c.0 ≡ bare_expr a = typed_keeps shape.Int a c.0 c.1 in
      let k : bare_expr d.0 ≡ bare_expr b = typed_keeps shape.Int b d.0 d.1 in
      subst (λ (q : Iter × Shape). bare_iter q.0 ≡ iter.FromTo (bare_expr a) (bare_expr b) l) (some_inj (iter.FromTo c.0 d.0 l, shape.Int) y d.2) (rw (j, k) refl)
  iter_keeps (iter.Elements t a l) y h =
      let w = bind_some (written p t) _ _ h in
      let i = bind_some (item_in (layer p.declarations w.0)) _ _ w.2 in
      let c = bind_some (typed p scope guards w.0 a) _ _ i.2 in
      subst (λ (q : Iter × Shape). bare_iter q.0 ≡ iter.Elements t (bare_expr a) l) (some_inj (iter.Elements t c.0 l, i.0) y c.2) (ap (λ z. iter.Elements t z l) (typed_keeps w.0 a c.0 c.1))
