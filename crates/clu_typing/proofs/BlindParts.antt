-- Typing what stands in statements sees nothing of what its nodes stand for.
use Rattle.std.proofs.Common.{◌≡◌, List, [], ◌∷◌, map, Option, Some, None, refl, ap}
use Rattle.std.specs.Option.{option_map}
use Rattle.clu_tree.specs.declared.shape.Shape.{Shape}
use Rattle.clu_tree.specs.declared.tree.Expr.{Expr}
use Rattle.clu_tree.specs.declared.tree.Target.{Target}
use Rattle.clu_tree.specs.declared.tree.Target.TheVariants as target
use Rattle.clu_tree.specs.declared.tree.Remote.{Remote}
use Rattle.clu_tree.specs.declared.tree.Remote.TheVariants as remote
use Rattle.clu_tree.specs.declared.tree.Iter.{Iter}
use Rattle.clu_tree.specs.declared.tree.Iter.TheVariants as iter
use Rattle.clu_typing.specs.Options.{◌>>=◌}
use Rattle.clu_typing.specs.Exceptions.{Guard}
use Rattle.clu_typing.specs.Exprs.{Place, Scope, Found, value_of, values_of, of_type, expr, value, typed, values}
use Rattle.clu_typing.specs.Stmts.{value_where, first_of, target_of, remote_of, iter_of}
use Rattle.clu_typing.specs.Bare.{bare_expr, bare_target, bare_remote, bare_iter}
use Rattle.clu_typing.proofs.BlindExprs.{expr_blind}

-- what follows is alike
pub bind_alike : {A B : Type 0} (o : Option A) (f g : A → Option B) → ((x : A) → f x ≡ g x) → (o >>= f) ≡ (o >>= g)
bind_alike None f g h = refl
bind_alike (Some x) f g h = h x

module _ (p : Place) (scope : Scope) (guards : List Guard) where
  pub typed_blind : (t : Shape) (x : Expr) → typed p scope guards t (bare_expr x) ≡ typed p scope guards t x
  typed_blind t x = ap (λ (z : Found). of_type p.declarations t (value_of z)) (expr_blind p scope guards x)

  pub worth_blind : (x : Expr) → value p scope guards (bare_expr x) ≡ value p scope guards x
  worth_blind x = ap value_of (expr_blind p scope guards x)

  pub found_blind : (xs : List Expr) → map (expr p scope guards) (map bare_expr xs) ≡ map (expr p scope guards) xs
  found_blind [] = refl
  found_blind (x ∷ xs) = let k : expr p scope guards (bare_expr x) ≡ expr p scope guards x = expr_blind p scope guards x in rw (k, found_blind xs) refl

  pub values_blind : (xs : List Expr) → values p scope guards (map bare_expr xs) ≡ values p scope guards xs
  values_blind xs = ap values_of (found_blind xs)

  pub first_blind : (t : Shape) (o : Option Expr) → first_of p scope guards t (option_map bare_expr o) ≡ first_of p scope guards t o
  first_blind t None = refl
  first_blind t (Some x) = ap (λ (z : Option Expr). z >>= λ y. Some (Some y)) (typed_blind t x)

  pub where_blind : (t : Option Shape) (o : Option Expr) → value_where p scope guards t (option_map bare_expr o) ≡ value_where p scope guards t o
  where_blind None None = refl
  where_blind None (Some x) = refl
  where_blind (Some t) None = refl
  where_blind (Some t) (Some x) = ap (λ (z : Option Expr). z >>= λ y. Some (Some y)) (typed_blind t x)

  pub target_blind : (a : Target) → target_of p scope guards (bare_target a) ≡ target_of p scope guards a
  target_blind (target.Name x l _) = refl
  target_blind (target.Field a f l _) = let k : expr p scope guards (bare_expr a) ≡ expr p scope guards a = expr_blind p scope guards a in rw k refl
  target_blind (target.Index a i l _) =
      let j : expr p scope guards (bare_expr a) ≡ expr p scope guards a = expr_blind p scope guards a in
      let k : expr p scope guards (bare_expr i) ≡ expr p scope guards i = expr_blind p scope guards i in
      rw (j, k) refl

  pub remote_blind : (a : Remote) → remote_of p scope guards (bare_remote a) ≡ remote_of p scope guards a
  remote_blind (remote.Once f args at l _) =
      let j : map (expr p scope guards) (map bare_expr args) ≡ map (expr p scope guards) args = found_blind args in
      let k : expr p scope guards (bare_expr at) ≡ expr p scope guards at = expr_blind p scope guards at in
      rw (j, k) refl
  remote_blind (remote.Maybe f args at within l _) =
      let j : map (expr p scope guards) (map bare_expr args) ≡ map (expr p scope guards) args = found_blind args in
      let k : expr p scope guards (bare_expr at) ≡ expr p scope guards at = expr_blind p scope guards at in
      let w : expr p scope guards (bare_expr within) ≡ expr p scope guards within = expr_blind p scope guards within in
      rw (j, k, w) refl

  pub iter_blind : (a : Iter) → iter_of p scope guards (bare_iter a) ≡ iter_of p scope guards a
  iter_blind (iter.FromTo a b l) =
      let j : expr p scope guards (bare_expr a) ≡ expr p scope guards a = expr_blind p scope guards a in
      let k : expr p scope guards (bare_expr b) ≡ expr p scope guards b = expr_blind p scope guards b in
      rw (j, k) refl
  iter_blind (iter.Elements t a l) = let k : expr p scope guards (bare_expr a) ≡ expr p scope guards a = expr_blind p scope guards a in rw k refl
