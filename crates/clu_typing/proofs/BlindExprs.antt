-- Typing an expression sees nothing of what its nodes stand for.
use Rattle.std.proofs.Common.{◌≡◌, List, [], ◌∷◌, map, refl, sym, ap, ◌∙◌, subst}
use Rattle.clu_tree.specs.declared.tree.Meant.TheVariants as m
use Rattle.clu_tree.specs.declared.tree.Expr.{Expr, roll-Expr}
use Rattle.clu_tree.specs.declared.tree.Expr.TheVariants as e
use Rattle.clu_tree.specs.declared.tree.Expr.TheOpen as ef
use Rattle.clu_tree.specs.declared.tree.Expr.TheViews as ev
use Rattle.clu_tree.specs.declared.tree.Expr.TheFolds as eo
use Rattle.clu_tree.specs.declared.tree.FieldInit.{FieldInit, out-FieldInit}
use Rattle.clu_typing.specs.Exceptions.{Guard}
use Rattle.clu_typing.specs.Exprs.{Place, Scope, Found, Init, expr_step, expr}
use Rattle.clu_typing.specs.Bare.{bare_step, bare_expr}
use Rattle.clu_typing.proofs.BareExprs.{bare_init, init_bare, bares, bare_roll}
use Rattle.clu_typing.proofs.FilledExprs.{init_found, found, expr_roll, init_is}

module _ (p : Place) (scope : Scope) (guards : List Guard) where
  abbrev at : Expr → Found
  at = expr p scope guards

  abbrev pub IsBlind : Expr → Type 0
  IsBlind x = at (bare_expr x) ≡ at x

  abbrev IsBlindIn : FieldInit → Type 0
  IsBlindIn f = IsBlind (out-FieldInit f).value

  abbrev Good : Type 0
  Good = (x : Expr) × IsBlind x

  abbrev GoodIn : Type 0
  GoodIn = (f : FieldInit) × IsBlindIn f

  abbrev below : ef.Expr-F Good GoodIn → ef.Expr-F Expr FieldInit
  below = eo.map-Expr Good GoodIn Expr FieldInit (λ (g : Good). g.0) (λ (g : GoodIn). g.0)

  abbrev steps : ef.Expr-F Expr FieldInit → Found
  steps y = expr_step p scope guards (found p scope guards y)

  made : (y : ef.Expr-F Expr FieldInit) (x : Expr) → roll-Expr y ≡ x → at x ≡ steps y
  made y x h = ap at (sym h) ∙ expr_roll p scope guards y

  all_blind : (gs : List Good) → map at (map bare_expr (map (λ (g : Good). g.0) gs)) ≡ map at (map (λ (g : Good). g.0) gs)
  all_blind [] = refl
  all_blind (g ∷ gs) = let k : at (bare_expr g.0) ≡ at g.0 = g.1 in rw (k, all_blind gs) refl

  init_blind : (g : GoodIn) → init_found p scope guards (bare_init g.0) ≡ init_found p scope guards g.0
  init_blind g =
      ap (init_found p scope guards) (init_bare g.0) ∙ init_is p scope guards _
      ∙ ap (λ (z : ef.FieldInit-F Expr FieldInit). (z.name, at z.value)) (ev.out-roll-FieldInit (record { name = (out-FieldInit g.0).name; value = bare_expr (out-FieldInit g.0).value }))
      ∙ ap (λ (z : Found). ((out-FieldInit g.0).name, z)) g.1 ∙ sym (init_is p scope guards g.0)

  inits_blind : (gs : List GoodIn) → map (init_found p scope guards) (map bare_init (map (λ (g : GoodIn). g.0) gs)) ≡ map (init_found p scope guards) (map (λ (g : GoodIn). g.0) gs)
  inits_blind [] = refl
  inits_blind (g ∷ gs) = rw (init_blind g, inits_blind gs) refl

  layer_blind : (g : ef.Expr-F Good GoodIn) → at (bare_step (bares (below g))) ≡ steps (below g)
  layer_blind (ef.Literal v l) = made (ef.Literal v l) _ (e.rolls-Literal v l)
  layer_blind (ef.Name x l k) = made (ef.Name x l m.Unknown) _ (e.rolls-Name x l m.Unknown)
  layer_blind (ef.Binary a o b l k) = made (ef.Binary (bare_expr a.0) o (bare_expr b.0) l m.Unknown) _ (e.rolls-Binary _ o _ l m.Unknown)
      ∙ ap (λ (z : Found). expr_step p scope guards (ef.Binary z o (at (bare_expr b.0)) l m.Unknown)) a.1 ∙ ap (λ (z : Found). expr_step p scope guards (ef.Binary (at a.0) o z l m.Unknown)) b.1
  layer_blind (ef.Unary o a l k) = made (ef.Unary o (bare_expr a.0) l m.Unknown) _ (e.rolls-Unary o _ l m.Unknown) ∙ ap (λ (z : Found). expr_step p scope guards (ef.Unary o z l m.Unknown)) a.1
  layer_blind (ef.Call f gs l k) = made (ef.Call f (map bare_expr (map (λ (g : Good). g.0) gs)) l m.Unknown) _ (e.rolls-Call f _ l m.Unknown) ∙ ap (λ (z : List Found). expr_step p scope guards (ef.Call f z l m.Unknown)) (all_blind gs)
  layer_blind (ef.Op s x gs l k) = made (ef.Op s x (map bare_expr (map (λ (g : Good). g.0) gs)) l m.Unknown) _ (e.rolls-Op s x _ l m.Unknown) ∙ ap (λ (z : List Found). expr_step p scope guards (ef.Op s x z l m.Unknown)) (all_blind gs)
  layer_blind (ef.Record s gs l k) = made (ef.Record s (map bare_init (map (λ (g : GoodIn). g.0) gs)) l m.Unknown) _ (e.rolls-Record s _ l m.Unknown) ∙ ap (λ (z : List Init). expr_step p scope guards (ef.Record s z l m.Unknown)) (inits_blind gs)
  layer_blind (ef.Array s gs l k) = made (ef.Array s (map bare_expr (map (λ (g : Good). g.0) gs)) l m.Unknown) _ (e.rolls-Array s _ l m.Unknown) ∙ ap (λ (z : List Found). expr_step p scope guards (ef.Array s z l m.Unknown)) (all_blind gs)
  layer_blind (ef.Up a l) = made (ef.Up (bare_expr a.0) l) _ (e.rolls-Up _ l) ∙ ap (λ (z : Found). expr_step p scope guards (ef.Up z l)) a.1
  layer_blind (ef.Down a l) = made (ef.Down (bare_expr a.0) l) _ (e.rolls-Down _ l) ∙ ap (λ (z : Found). expr_step p scope guards (ef.Down z l)) a.1
  layer_blind (ef.Now l) = made (ef.Now l) _ (e.rolls-Now l)
  layer_blind (ef.Field a f l k) = made (ef.Field (bare_expr a.0) f l m.Unknown) _ (e.rolls-Field _ f l m.Unknown) ∙ ap (λ (z : Found). expr_step p scope guards (ef.Field z f l m.Unknown)) a.1
  layer_blind (ef.Index a i l k) = made (ef.Index (bare_expr a.0) (bare_expr i.0) l m.Unknown) _ (e.rolls-Index _ _ l m.Unknown)
      ∙ ap (λ (z : Found). expr_step p scope guards (ef.Index z (at (bare_expr i.0)) l m.Unknown)) a.1 ∙ ap (λ (z : Found). expr_step p scope guards (ef.Index (at a.0) z l m.Unknown)) i.1

  -- the bare expression is typed as the expression is
  pub expr_blind : (x : Expr) → IsBlind x
  expr_blind = eo.ind-Expr IsBlind IsBlindIn
      (λ x g is. ap at (bare_roll x) ∙ ap (λ z. at (bare_step (bares z))) (sym is) ∙ layer_blind g ∙ ap steps is ∙ sym (expr_roll p scope guards x))
      (λ x g is. subst IsBlind (ap (λ (z : ef.FieldInit-F Expr FieldInit). z.value) (is ∙ sym (ev.out-roll-FieldInit x))) g.value.1)
