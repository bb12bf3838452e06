-- A filled expression is the one that was given but for what its nodes stand for, of which typing sees nothing.
use Rattle.std.proofs.Common.{◌≡◌, ℕ, true, false, List, [], ◌∷◌, map, Option, Some, None, refl, sym, ap, ◌∙◌, subst}
use Rattle.std.specs.Str.{bytes_eq}
use Rattle.clu_tree.specs.declared.shape.Shape.{Shape}
use Rattle.clu_tree.specs.declared.shape.Shape.TheVariants as shape
use Rattle.clu_tree.specs.declared.shape.Named.{Named, out-Named}
use Rattle.clu_tree.specs.declared.tree.Meant.TheVariants as m
use Rattle.clu_tree.specs.declared.tree.Infix.{Infix}
use Rattle.clu_tree.specs.declared.tree.Expr.{Expr, roll-Expr}
use Rattle.clu_tree.specs.declared.tree.Expr.TheVariants as e
use Rattle.clu_tree.specs.declared.tree.Expr.TheOpen as ef
use Rattle.clu_tree.specs.declared.tree.Expr.TheViews as ev
use Rattle.clu_tree.specs.declared.tree.Expr.TheFolds as eo
use Rattle.clu_tree.specs.declared.tree.FieldInit.{FieldInit, out-FieldInit, roll-FieldInit}
use Rattle.clu_typing.specs.Types.{layer, same}
use Rattle.clu_typing.specs.Operations.{infix_name, prefix_name}
use Rattle.clu_typing.specs.Exceptions.{Guard, accepts_failure}
use Rattle.clu_typing.specs.Exprs.{Place, Scope, Found, Init, Valued, written, value_of, values_of, of_type, exprs_of, variable, routine_named, operation, literal_type, fields_in, item_in, field_in, fetched, inits_of, binary_of, expr_step, expr}
use Rattle.clu_typing.specs.Bare.{bare_step, bare_expr}
use Rattle.clu_typing.proofs.Binds.{some_inj, bind_some, needs_some}
use Rattle.clu_typing.proofs.BareExprs.{bare_init, init_bare, bares, bare_roll, bare-Literal, bare-Name, bare-Binary, bare-Unary, bare-Call, bare-Op, bare-Record, bare-Array, bare-Up, bare-Down, bare-Now, bare-Field, bare-Index}

module _ (p : Place) (scope : Scope) (guards : List Guard) where
  abbrev at : Expr → Found
  at = expr p scope guards

  -- what is found is this expression, but for what its nodes stand for
  abbrev pub Keeps : Expr → Type 0
  Keeps x = (y : Expr) (t : Option Shape) → at x ≡ Some (y, t) → bare_expr y ≡ bare_expr x

  abbrev KeepsIn : FieldInit → Type 0
  KeepsIn f = Keeps (out-FieldInit f).value

  abbrev Good : Type 0
  Good = (x : Expr) × Keeps x

  abbrev GoodIn : Type 0
  GoodIn = (f : FieldInit) × KeepsIn f

  abbrev below : ef.Expr-F Good GoodIn → ef.Expr-F Expr FieldInit
  below = eo.map-Expr Good GoodIn Expr FieldInit (λ (g : Good). g.0) (λ (g : GoodIn). g.0)

  abbrev pub init_found : FieldInit → Init
  init_found = eo.fold-FieldInit Found Init (expr_step p scope guards) (λ f. (f.name, f.value))

  abbrev pub found : ef.Expr-F Expr FieldInit → ef.Expr-F Found Init
  found = eo.map-Expr Expr FieldInit Found Init at init_found

  pub expr_roll : (y : ef.Expr-F Expr FieldInit) → at (roll-Expr y) ≡ expr_step p scope guards (found y)
  expr_roll y = eo.fold-roll-Expr Found Init (expr_step p scope guards) (λ f. (f.name, f.value)) y

  pub init_is : (f : FieldInit) → init_found f ≡ ((out-FieldInit f).name, at (out-FieldInit f).value)
  init_is f = eo.fold_out-FieldInit Found Init (expr_step p scope guards) (λ f. (f.name, f.value)) f

  -- the filled one is x, of which the bare one is known
  ends : (x y : Expr) (t u : Option Shape) (b : Expr) → ◌≡◌ {A = Found} (Some (x, u)) (Some (y, t)) → bare_expr x ≡ b → bare_expr y ≡ b
  ends x y t u b h k = subst (λ (q : Expr × Option Shape). bare_expr q.0 ≡ b) (some_inj (x, u) (y, t) h) k

  pub value_keeps : (x : Expr) → Keeps x → (v : Valued) → value_of (at x) ≡ Some v → bare_expr v.0 ≡ bare_expr x
  value_keeps x k v h =
      let a = bind_some (at x) _ _ h in
      let b = bind_some a.0.1 _ _ a.2 in
      subst (λ (w : Valued). bare_expr w.0 ≡ bare_expr x) (some_inj (a.0.0, b.0) v b.2) (k a.0.0 a.0.1 a.1)

  pub of_type_keeps : (x : Expr) → Keeps x → (t : Shape) (y : Expr) → of_type p.declarations t (value_of (at x)) ≡ Some y → bare_expr y ≡ bare_expr x
  of_type_keeps x k t y h =
      let a = bind_some (value_of (at x)) _ _ h in
      let b = needs_some (same p.declarations a.0.1 t) _ _ a.2 in
      subst (λ (w : Expr). bare_expr w ≡ bare_expr x) (some_inj a.0.0 y b.1) (value_keeps x k a.0 a.1)

  abbrev trees : List Good → List Expr
  trees gs = map (λ (g : Good). g.0) gs

  values_keep : (gs : List Good) (vs : List Valued) → values_of (map at (trees gs)) ≡ Some vs → map bare_expr (exprs_of vs) ≡ map bare_expr (trees gs)
  values_keep [] vs h = subst (λ (ws : List Valued). map bare_expr (exprs_of ws) ≡ []) (some_inj [] vs h) refl
  values_keep (g ∷ gs) vs h =
      let a = bind_some (value_of (at g.0)) _ _ h in
      let b = bind_some (values_of (map at (trees gs))) _ _ a.2 in
      let k : bare_expr a.0.0 ≡ bare_expr g.0 = value_keeps g.0 g.1 a.0 a.1 in
      let r : map bare_expr (exprs_of b.0) ≡ map bare_expr (trees gs) = values_keep gs b.0 b.1 in
      subst (λ (ws : List Valued). map bare_expr (exprs_of ws) ≡ bare_expr g.0 ∷ map bare_expr (trees gs)) (some_inj (a.0 ∷ b.0) vs b.2) (rw (k, r) refl)

  abbrev init_trees : List GoodIn → List FieldInit
  init_trees gs = map (λ (g : GoodIn). g.0) gs

  init_keeps : (f : FieldInit) (y : Expr) → bare_expr y ≡ bare_expr (out-FieldInit f).value → bare_init (roll-FieldInit (record { name = (out-FieldInit f).name; value = y })) ≡ bare_init f
  init_keeps f y k =
      let o : ◌≡◌ {A = ef.FieldInit-F Expr FieldInit} (out-FieldInit (roll-FieldInit (record { name = (out-FieldInit f).name; value = y }))) (record { name = (out-FieldInit f).name; value = y }) = ev.out-roll-FieldInit _ in
      init_bare (roll-FieldInit (record { name = (out-FieldInit f).name; value = y }))
      ∙ ap (λ (z : ef.FieldInit-F Expr FieldInit). roll-FieldInit (record { name = z.name; value = bare_expr z.value })) o
      ∙ ap (λ (z : Expr). roll-FieldInit (record { name = (out-FieldInit f).name; value = z })) k
      ∙ sym (init_bare f)

  abbrev Inits : List GoodIn → List FieldInit → Type 0
  Inits gs ys = map bare_init ys ≡ map bare_init (init_trees gs)

  inits_keep : (gs : List GoodIn) (fs : List Named) (ys : List FieldInit) → inits_of p.declarations (map init_found (init_trees gs)) fs ≡ Some ys → Inits gs ys
  inits_keep [] [] ys h = subst (Inits []) (some_inj [] ys h) refl
  inits_keep [] (f ∷ fs) ys h = absurd cc
  inits_keep (g ∷ gs) [] ys h = absurd cc
  inits_keep (g ∷ gs) (f ∷ fs) ys h =
      let k = subst (λ (i : Init). inits_of p.declarations (i ∷ map init_found (init_trees gs)) (f ∷ fs) ≡ Some ys) (init_is g.0) h in
      let a = needs_some (bytes_eq (out-FieldInit g.0).name (out-Named f).name) _ _ k in
      let b = bind_some (of_type p.declarations (out-Named f).shape (value_of (at (out-FieldInit g.0).value))) _ _ a.1 in
      let c = bind_some (inits_of p.declarations (map init_found (init_trees gs)) fs) _ _ b.2 in
      let first : bare_init (roll-FieldInit (record { name = (out-FieldInit g.0).name; value = b.0 })) ≡ bare_init g.0 = init_keeps g.0 b.0 (of_type_keeps (out-FieldInit g.0).value g.1 (out-Named f).shape b.0 b.1) in
      let rest : map bare_init c.0 ≡ map bare_init (init_trees gs) = inits_keep gs fs c.0 c.1 in
      subst (Inits (g ∷ gs)) (some_inj (roll-FieldInit (record { name = (out-FieldInit g.0).name; value = b.0 }) ∷ c.0) ys c.2) (rw (first, rest) refl)

  binary_keeps : (n : Option (List ℕ)) (a b : Valued) (o : Infix) (l : ℕ) (y : Expr) (t : Option Shape) → binary_of p guards n a o b l ≡ Some (y, t) → bare_expr y ≡ e.Binary (bare_expr a.0) o (bare_expr b.0) l m.Unknown
  binary_keeps None a b o l y t h =
      let c = needs_some _ _ _ h in
      ends (e.Binary a.0 o b.0 l m.Unknown) y t (Some shape.Bool) _ c.1 (bare-Binary a.0 o b.0 l m.Unknown)
  binary_keeps (Some n) a b o l y t h =
      let c = bind_some (operation p false a.1 n) _ _ h in
      let d = bind_some (c.0).gives _ _ c.2 in
      let q = needs_some _ _ _ d.2 in
      ends (e.Binary a.0 o b.0 l (c.0).meant) y t (Some d.0) _ q.1 (bare-Binary a.0 o b.0 l (c.0).meant)

  layer_keeps : (g : ef.Expr-F Good GoodIn) (y : Expr) (t : Option Shape) → expr_step p scope guards (found (below g)) ≡ Some (y, t) → bare_expr y ≡ bare_step (bares (below g))
  layer_keeps (ef.Literal v l) y t h =
      let a = bind_some (literal_type v) _ _ h in
      ends (e.Literal v l) y t (Some a.0) _ a.2 (bare-Literal v l)
  layer_keeps (ef.Name x l _) y t h =
      let a = bind_some (variable p.declarations scope x) _ _ h in
      let b = needs_some (accepts_failure p.declarations guards) _ _ a.2 in
      ends (e.Name x l a.0.1) y t (Some a.0.0) _ b.1 (bare-Name x l a.0.1)
  layer_keeps (ef.Binary a o b l _) y t h =
      let u = bind_some (value_of (at a.0)) _ _ h in
      let v = bind_some (value_of (at b.0)) _ _ u.2 in
      let j : bare_expr u.0.0 ≡ bare_expr a.0 = value_keeps a.0 a.1 u.0 u.1 in
      let k : bare_expr v.0.0 ≡ bare_expr b.0 = value_keeps b.0 b.1 v.0 v.1 in
      binary_keeps (infix_name o) u.0 v.0 o l y t v.2 ∙ rw (j, k) refl
  layer_keeps (ef.Unary o a l _) y t h =
      let u = bind_some (value_of (at a.0)) _ _ h in
      let c = bind_some (operation p false u.0.1 (prefix_name o)) _ _ u.2 in
      let d = bind_some (c.0).gives _ _ c.2 in
      let q = needs_some _ _ _ d.2 in
      ends (e.Unary o u.0.0 l (c.0).meant) y t (Some d.0) _ q.1 (bare-Unary o u.0.0 l (c.0).meant ∙ ap (λ z. e.Unary o z l m.Unknown) (value_keeps a.0 a.1 u.0 u.1))
  layer_keeps (ef.Call f gs l _) y t h =
      let u = bind_some (values_of (map at (trees gs))) _ _ h in
      let c = bind_some (routine_named p.declarations f) _ _ u.2 in
      let q = needs_some _ _ _ c.2 in
      ends (e.Call f (exprs_of u.0) l (m.Routine (c.0).number)) y t ((c.0).outside).result _ q.1 (bare-Call f (exprs_of u.0) l _ ∙ ap (λ z. e.Call f z l m.Unknown) (values_keep gs u.0 u.1))
  layer_keeps (ef.Op s x gs l _) y t h =
      let u = bind_some (values_of (map at (trees gs))) _ _ h in
      let w = bind_some (written p s) _ _ u.2 in
      let c = bind_some (operation p true w.0 x) _ _ w.2 in
      let q = needs_some _ _ _ c.2 in
      ends (e.Op s x (exprs_of u.0) l (c.0).meant) y t (c.0).gives _ q.1 (bare-Op s x (exprs_of u.0) l _ ∙ ap (λ z. e.Op s x z l m.Unknown) (values_keep gs u.0 u.1))
  layer_keeps (ef.Record s gs l _) y t h =
      let w = bind_some (written p s) _ _ h in
      let f = bind_some (fields_in (layer p.declarations w.0)) _ _ w.2 in
      let u = bind_some (inits_of p.declarations (map init_found (init_trees gs)) f.0) _ _ f.2 in
      let q = needs_some _ _ _ u.2 in
      ends (e.Record s u.0 l m.Unknown) y t (Some w.0) _ q.1 (bare-Record s u.0 l _ ∙ ap (λ z. e.Record s z l m.Unknown) (inits_keep gs f.0 u.0 u.1))
  layer_keeps (ef.Array s gs l _) y t h =
      let u = bind_some (values_of (map at (trees gs))) _ _ h in
      let w = bind_some (written p s) _ _ u.2 in
      let f = bind_some (item_in (layer p.declarations w.0)) _ _ w.2 in
      let q = needs_some _ _ _ f.2 in
      ends (e.Array s (exprs_of u.0) l m.Unknown) y t (Some w.0) _ q.1 (bare-Array s (exprs_of u.0) l _ ∙ ap (λ z. e.Array s z l m.Unknown) (values_keep gs u.0 u.1))
  layer_keeps (ef.Up a l) y t h =
      let u = bind_some (value_of (at a.0)) _ _ h in
      let c = bind_some (p.head).owner _ _ u.2 in
      let q = needs_some _ _ _ c.2 in
      ends (e.Up u.0.0 l) y t (Some (shape.Name (c.0).name)) _ q.1 (bare-Up u.0.0 l ∙ ap (λ z. e.Up z l) (value_keeps a.0 a.1 u.0 u.1))
  layer_keeps (ef.Down a l) y t h =
      let u = bind_some (value_of (at a.0)) _ _ h in
      let c = bind_some (p.head).owner _ _ u.2 in
      let q = needs_some _ _ _ c.2 in
      ends (e.Down u.0.0 l) y t (Some (c.0).rep) _ q.1 (bare-Down u.0.0 l ∙ ap (λ z. e.Down z l) (value_keeps a.0 a.1 u.0 u.1))
  layer_keeps (ef.Now l) y t h = ends (e.Now l) y t (Some shape.Int) _ h (bare-Now l)
  layer_keeps (ef.Field a f l _) y t h =
      let u = bind_some (value_of (at a.0)) _ _ h in
      let c = bind_some (field_in p.declarations u.0.1 f) _ _ u.2 in
      let q = needs_some _ _ _ c.2 in
      ends (e.Field u.0.0 f l (m.Field c.0.0)) y t (Some c.0.1) _ q.1 (bare-Field u.0.0 f l _ ∙ ap (λ z. e.Field z f l m.Unknown) (value_keeps a.0 a.1 u.0 u.1))
  layer_keeps (ef.Index a i l _) y t h =
      let u = bind_some (value_of (at a.0)) _ _ h in
      let v = bind_some (value_of (at i.0)) _ _ u.2 in
      let c = bind_some (fetched (layer p.declarations u.0.1)) _ _ v.2 in
      let q = needs_some _ _ _ c.2 in
      let j : bare_expr u.0.0 ≡ bare_expr a.0 = value_keeps a.0 a.1 u.0 u.1 in
      let k : bare_expr v.0.0 ≡ bare_expr i.0 = value_keeps i.0 i.1 v.0 v.1 in
      ends (e.Index u.0.0 v.0.0 l c.0.1) y t (Some c.0.0) _ q.1 (bare-Index u.0.0 v.0.0 l _ ∙ rw (j, k) refl)

  -- filling an expression changes nothing but what its nodes stand for
  pub expr_keeps : (x : Expr) → Keeps x
  expr_keeps = eo.ind-Expr Keeps KeepsIn
      (λ x g is y t h. layer_keeps g y t (ap (λ z. expr_step p scope guards (found z)) is ∙ sym (expr_roll x) ∙ h) ∙ ap (λ z. bare_step (bares z)) is ∙ sym (bare_roll x))
      (λ x g is. subst Keeps (ap (λ (z : ef.FieldInit-F Expr FieldInit). z.value) (is ∙ sym (ev.out-roll-FieldInit x))) g.value.1)
