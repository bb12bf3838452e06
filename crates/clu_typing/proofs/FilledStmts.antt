-- A filled statement is the one that was given but for what its nodes stand for.
use Rattle.std.proofs.Common.{◌≡◌, ◌&&◌, List, [], ◌∷◌, ◌++◌, map, Option, Some, None, refl, sym, ap, ◌∙◌, subst}
use Rattle.clu_tree.specs.declared.shape.Shape.TheVariants as shape
use Rattle.clu_tree.specs.declared.shape.Named.{Named}
use Rattle.clu_tree.specs.declared.tree.Meant.TheVariants as m
use Rattle.clu_tree.specs.declared.tree.Stmt.{Stmt, roll-Stmt}
use Rattle.clu_tree.specs.declared.tree.Stmt.TheVariants as st
use Rattle.clu_tree.specs.declared.tree.Stmt.TheOpen as sf
use Rattle.clu_tree.specs.declared.tree.Stmt.TheFolds as so
use Rattle.clu_tree.specs.declared.tree.Arm.{Arm, roll-Arm}
use Rattle.clu_tree.specs.declared.tree.TagArm.{TagArm, roll-TagArm}
use Rattle.clu_tree.specs.declared.tree.When.{When, roll-When}
use Rattle.clu_tree.specs.declared.tree.Handlers.{Handlers, roll-Handlers}
use Rattle.clu_typing.specs.Options.{◌>>=◌, needs, all_of}
use Rattle.clu_typing.specs.Names.{distinct}
use Rattle.clu_typing.specs.Types.{layer, same}
use Rattle.clu_typing.specs.Exceptions.{Guard, accepts_failure, signalled}
use Rattle.clu_typing.specs.Exprs.{Place, Scope, written, exprs_of, fit, routine_named, tags_in, expr, value, typed, values}
use Rattle.clu_typing.specs.Stmts.{Plan, ArmPlan, TagPlan, WhenPlan, HandlersPlan, declared, body, covered, with_variable, optional, value_where, first_of, target_of, remote_of, receiver_of, iter_of, tag_of, tag_step, arms_of, arm_step, when_step, handlers_step, resignals, stmt_step, plan}
use Rattle.clu_typing.specs.Bare.{bare_expr, bare_target, bare_iter, bare_stmt_step, bare_stmt}
use Rattle.clu_typing.proofs.Binds.{some_inj, bind_some, needs_some}
use Rattle.clu_typing.proofs.BareStmts.{bare_arm, bare_handlers, bare_tag, bare_when, bares, bare_parts, bare_roll, arm_roll, handlers_roll, tag_roll, when_roll, bare_of}
use Rattle.clu_typing.proofs.FilledExprs.{expr_keeps}
use Rattle.clu_typing.proofs.FilledParts.{worth_keeps, typed_keeps, values_keep, first_keeps, where_keeps, target_keeps, remote_keeps, iter_keeps}

module _ (p : Place) where
  abbrev pub at : Stmt → Plan
  at = plan p

  abbrev pub arm_at : Arm → ArmPlan
  arm_at = so.fold-Arm Plan ArmPlan HandlersPlan TagPlan WhenPlan (stmt_step p) (arm_step p) (handlers_step p) (tag_step p) (when_step p)

  abbrev pub handlers_at : Handlers → HandlersPlan
  handlers_at = so.fold-Handlers Plan ArmPlan HandlersPlan TagPlan WhenPlan (stmt_step p) (arm_step p) (handlers_step p) (tag_step p) (when_step p)

  abbrev pub tag_at : TagArm → TagPlan
  tag_at = so.fold-TagArm Plan ArmPlan HandlersPlan TagPlan WhenPlan (stmt_step p) (arm_step p) (handlers_step p) (tag_step p) (when_step p)

  abbrev pub when_at : When → WhenPlan
  when_at = so.fold-When Plan ArmPlan HandlersPlan TagPlan WhenPlan (stmt_step p) (arm_step p) (handlers_step p) (tag_step p) (when_step p)

  abbrev pub planned : sf.Stmt-F Stmt Arm Handlers TagArm When → sf.Stmt-F Plan ArmPlan HandlersPlan TagPlan WhenPlan
  planned = so.map-Stmt Stmt Arm Handlers TagArm When Plan ArmPlan HandlersPlan TagPlan WhenPlan at arm_at handlers_at tag_at when_at

  abbrev pub planned_arm : sf.Arm-F Stmt Arm Handlers TagArm When → sf.Arm-F Plan ArmPlan HandlersPlan TagPlan WhenPlan
  planned_arm = so.map-Arm Stmt Arm Handlers TagArm When Plan ArmPlan HandlersPlan TagPlan WhenPlan at arm_at handlers_at tag_at when_at

  abbrev pub planned_handlers : sf.Handlers-F Stmt Arm Handlers TagArm When → sf.Handlers-F Plan ArmPlan HandlersPlan TagPlan WhenPlan
  planned_handlers = so.map-Handlers Stmt Arm Handlers TagArm When Plan ArmPlan HandlersPlan TagPlan WhenPlan at arm_at handlers_at tag_at when_at

  abbrev pub planned_tag : sf.TagArm-F Stmt Arm Handlers TagArm When → sf.TagArm-F Plan ArmPlan HandlersPlan TagPlan WhenPlan
  planned_tag = so.map-TagArm Stmt Arm Handlers TagArm When Plan ArmPlan HandlersPlan TagPlan WhenPlan at arm_at handlers_at tag_at when_at

  abbrev pub planned_when : sf.When-F Stmt Arm Handlers TagArm When → sf.When-F Plan ArmPlan HandlersPlan TagPlan WhenPlan
  planned_when = so.map-When Stmt Arm Handlers TagArm When Plan ArmPlan HandlersPlan TagPlan WhenPlan at arm_at handlers_at tag_at when_at

  pub at_roll : (y : sf.Stmt-F Stmt Arm Handlers TagArm When) → at (roll-Stmt y) ≡ stmt_step p (planned y)
  at_roll y = so.fold-roll-Stmt Plan ArmPlan HandlersPlan TagPlan WhenPlan (stmt_step p) (arm_step p) (handlers_step p) (tag_step p) (when_step p) y

  pub arm_at_roll : (y : sf.Arm-F Stmt Arm Handlers TagArm When) → arm_at (roll-Arm y) ≡ arm_step p (planned_arm y)
  arm_at_roll y = so.fold-roll-Arm Plan ArmPlan HandlersPlan TagPlan WhenPlan (stmt_step p) (arm_step p) (handlers_step p) (tag_step p) (when_step p) y

  pub handlers_at_roll : (y : sf.Handlers-F Stmt Arm Handlers TagArm When) → handlers_at (roll-Handlers y) ≡ handlers_step p (planned_handlers y)
  handlers_at_roll y = so.fold-roll-Handlers Plan ArmPlan HandlersPlan TagPlan WhenPlan (stmt_step p) (arm_step p) (handlers_step p) (tag_step p) (when_step p) y

  pub tag_at_roll : (y : sf.TagArm-F Stmt Arm Handlers TagArm When) → tag_at (roll-TagArm y) ≡ tag_step p (planned_tag y)
  tag_at_roll y = so.fold-roll-TagArm Plan ArmPlan HandlersPlan TagPlan WhenPlan (stmt_step p) (arm_step p) (handlers_step p) (tag_step p) (when_step p) y

  pub when_at_roll : (y : sf.When-F Stmt Arm Handlers TagArm When) → when_at (roll-When y) ≡ when_step p (planned_when y)
  when_at_roll y = so.fold-roll-When Plan ArmPlan HandlersPlan TagPlan WhenPlan (stmt_step p) (arm_step p) (handlers_step p) (tag_step p) (when_step p) y

  -- what is filled in is this one, but for what its nodes stand for
  abbrev pub Keeps : Stmt → Type 0
  Keeps s = (guards : List Guard) (scope : Scope) (y : Stmt × Scope) → at s guards scope ≡ Some y → bare_stmt y.0 ≡ bare_stmt s

  abbrev KeepsArm : Arm → Type 0
  KeepsArm a = (guards : List Guard) (scope : Scope) (y : Arm) → arm_at a guards scope ≡ Some y → bare_arm y ≡ bare_arm a

  abbrev KeepsHandlers : Handlers → Type 0
  KeepsHandlers h = (guards : List Guard) (scope : Scope) (y : Handlers) → (handlers_at h).run guards scope ≡ Some y → bare_handlers y ≡ bare_handlers h

  abbrev KeepsTag : TagArm → Type 0
  KeepsTag a = (tags : List Named) (guards : List Guard) (scope : Scope) (y : TagArm) → (tag_at a).run tags guards scope ≡ Some y → bare_tag y ≡ bare_tag a

  abbrev KeepsWhen : When → Type 0
  KeepsWhen w = (guards : List Guard) (scope : Scope) (y : When) → (when_at w).run guards scope ≡ Some y → bare_when y ≡ bare_when w

  abbrev Good : Type 0
  Good = (s : Stmt) × Keeps s

  abbrev GoodArm : Type 0
  GoodArm = (a : Arm) × KeepsArm a

  abbrev GoodHandlers : Type 0
  GoodHandlers = (h : Handlers) × KeepsHandlers h

  abbrev GoodTag : Type 0
  GoodTag = (a : TagArm) × KeepsTag a

  abbrev GoodWhen : Type 0
  GoodWhen = (w : When) × KeepsWhen w

  abbrev below : sf.Stmt-F Good GoodArm GoodHandlers GoodTag GoodWhen → sf.Stmt-F Stmt Arm Handlers TagArm When
  below = so.map-Stmt Good GoodArm GoodHandlers GoodTag GoodWhen Stmt Arm Handlers TagArm When (λ (g : Good). g.0) (λ (g : GoodArm). g.0) (λ (g : GoodHandlers). g.0) (λ (g : GoodTag). g.0) (λ (g : GoodWhen). g.0)

  abbrev below_handlers : sf.Handlers-F Good GoodArm GoodHandlers GoodTag GoodWhen → sf.Handlers-F Stmt Arm Handlers TagArm When
  below_handlers = so.map-Handlers Good GoodArm GoodHandlers GoodTag GoodWhen Stmt Arm Handlers TagArm When (λ (g : Good). g.0) (λ (g : GoodArm). g.0) (λ (g : GoodHandlers). g.0) (λ (g : GoodTag). g.0) (λ (g : GoodWhen). g.0)

  abbrev trees : List Good → List Stmt
  trees gs = map (λ (g : Good). g.0) gs

  abbrev arm_trees : List GoodArm → List Arm
  arm_trees gs = map (λ (g : GoodArm). g.0) gs

  abbrev tag_trees : List GoodTag → List TagArm
  tag_trees gs = map (λ (g : GoodTag). g.0) gs

  body_keeps : (guards : List Guard) (scope : Scope) (gs : List Good) (ys : List Stmt) → body (map at (trees gs)) guards scope ≡ Some ys → map bare_stmt ys ≡ map bare_stmt (trees gs)
  body_keeps guards scope [] ys h = ap (map bare_stmt) (sym (some_inj [] ys h))
  body_keeps guards scope (g ∷ gs) ys h =
      let a = bind_some (at g.0 guards scope) _ _ h in
      let b = bind_some (body (map at (trees gs)) guards a.0.1) _ _ a.2 in
      let k : bare_stmt a.0.0 ≡ bare_stmt g.0 = g.1 guards scope a.0 a.1 in
      let r : map bare_stmt b.0 ≡ map bare_stmt (trees gs) = body_keeps guards a.0.1 gs b.0 b.1 in
      subst (λ zs. map bare_stmt zs ≡ bare_stmt g.0 ∷ map bare_stmt (trees gs)) (some_inj (a.0.0 ∷ b.0) ys b.2) (rw (k, r) refl)

  arms_keep : (guards : List Guard) (scope : Scope) (gs : List GoodArm) (ys : List Arm) → arms_of (map arm_at (map (λ (g : GoodArm). g.0) gs)) guards scope ≡ Some ys → map bare_arm ys ≡ map bare_arm (map (λ (g : GoodArm). g.0) gs)
  arms_keep guards scope [] ys h = ap (map bare_arm) (sym (some_inj [] ys h))
  arms_keep guards scope (g ∷ gs) ys h =
      let a = bind_some (arm_at g.0 guards scope) _ _ h in
      let b = bind_some (arms_of (map arm_at (map (λ (g : GoodArm). g.0) gs)) guards scope) _ _ a.2 in
      let k : bare_arm a.0 ≡ bare_arm g.0 = g.1 guards scope a.0 a.1 in
      let r : map bare_arm b.0 ≡ map bare_arm (map (λ (g : GoodArm). g.0) gs) = arms_keep guards scope gs b.0 b.1 in
      subst (λ zs. map bare_arm zs ≡ bare_arm g.0 ∷ map bare_arm (map (λ (g : GoodArm). g.0) gs)) (some_inj (a.0 ∷ b.0) ys b.2) (rw (k, r) refl)

  abbrev runs_tags : List Named → List Guard → Scope → List GoodTag → Option (List TagArm)
  runs_tags tags guards scope gs = all_of (map (λ (k : TagPlan). k.run tags guards scope) (map tag_at (map (λ (g : GoodTag). g.0) gs)))

  tags_keep : (tags : List Named) (guards : List Guard) (scope : Scope) (gs : List GoodTag) (ys : List TagArm) → runs_tags tags guards scope gs ≡ Some ys → map bare_tag ys ≡ map bare_tag (map (λ (g : GoodTag). g.0) gs)
  tags_keep tags guards scope [] ys h = ap (map bare_tag) (sym (some_inj [] ys h))
  tags_keep tags guards scope (g ∷ gs) ys h =
      let a = bind_some ((tag_at g.0).run tags guards scope) _ _ h in
      let b = bind_some (runs_tags tags guards scope gs) _ _ a.2 in
      let k : bare_tag a.0 ≡ bare_tag g.0 = g.1 tags guards scope a.0 a.1 in
      let r : map bare_tag b.0 ≡ map bare_tag (map (λ (g : GoodTag). g.0) gs) = tags_keep tags guards scope gs b.0 b.1 in
      subst (λ zs. map bare_tag zs ≡ bare_tag g.0 ∷ map bare_tag (map (λ (g : GoodTag). g.0) gs)) (some_inj (a.0 ∷ b.0) ys b.2) (rw (k, r) refl)

  abbrev runs_whens : List Guard → Scope → List GoodWhen → Option (List When)
  runs_whens guards scope gs = all_of (map (λ (w : WhenPlan). w.run guards scope) (map when_at (map (λ (g : GoodWhen). g.0) gs)))

  whens_keep : (guards : List Guard) (scope : Scope) (gs : List GoodWhen) (ys : List When) → runs_whens guards scope gs ≡ Some ys → map bare_when ys ≡ map bare_when (map (λ (g : GoodWhen). g.0) gs)
  whens_keep guards scope [] ys h = ap (map bare_when) (sym (some_inj [] ys h))
  whens_keep guards scope (g ∷ gs) ys h =
      let a = bind_some ((when_at g.0).run guards scope) _ _ h in
      let b = bind_some (runs_whens guards scope gs) _ _ a.2 in
      let k : bare_when a.0 ≡ bare_when g.0 = g.1 guards scope a.0 a.1 in
      let r : map bare_when b.0 ≡ map bare_when (map (λ (g : GoodWhen). g.0) gs) = whens_keep guards scope gs b.0 b.1 in
      subst (λ zs. map bare_when zs ≡ bare_when g.0 ∷ map bare_when (map (λ (g : GoodWhen). g.0) gs)) (some_inj (a.0 ∷ b.0) ys b.2) (rw (k, r) refl)

  -- the filled one is x, rolled of this layer, of which the bare one is known
  ends : (y : Stmt × Scope) (layer : sf.Stmt-F Stmt Arm Handlers TagArm When) (x : Stmt) (next : Scope) (b : Stmt) → roll-Stmt layer ≡ x → ◌≡◌ {A = Option (Stmt × Scope)} (Some (x, next)) (Some y) → bare_stmt_step (bares layer) ≡ b → bare_stmt y.0 ≡ b
  ends y layer x next b r h k = subst (λ (q : Stmt × Scope). bare_stmt q.0 ≡ b) (some_inj (x, next) y h) (bare_of layer x r ∙ k)

  abbrev Result : sf.Stmt-F Good GoodArm GoodHandlers GoodTag GoodWhen → Type 0
  Result g = (guards : List Guard) (scope : Scope) (y : Stmt × Scope) → stmt_step p (planned (below g)) guards scope ≡ Some y → bare_stmt y.0 ≡ bare_stmt_step (bares (below g))

  layer_keeps : (g : sf.Stmt-F Good GoodArm GoodHandlers GoodTag GoodWhen) → Result g
  layer_keeps (sf.Declare x t first l) guards scope y h =
      let a = bind_some (written p t) _ _ h in
      let b = bind_some (declared p scope x a.0) _ _ a.2 in
      let c = bind_some (first_of p b.0 guards a.0 first) _ _ b.2 in
      ends y (sf.Declare x t c.0 l) _ b.0 _ (st.rolls-Declare x t c.0 l) c.2 (ap (λ z. st.Declare x t z l) (first_keeps p b.0 guards a.0 first c.0 c.1))
  layer_keeps (sf.Assign to v l) guards scope y h =
      let s = bind_some (target_of p scope guards to >>= λ k. typed p scope guards k.1 v >>= λ z. Some (st.Assign k.0 z l)) _ _ h in
      let a = bind_some (target_of p scope guards to) _ _ s.1 in
      let b = bind_some (typed p scope guards a.0.1 v) _ _ a.2 in
      let j : bare_target a.0.0 ≡ bare_target to = target_keeps p scope guards to a.0 a.1 in
      let k : bare_expr b.0 ≡ bare_expr v = typed_keeps p scope guards a.0.1 v b.0 b.1 in
      ends y (sf.Assign a.0.0 b.0 l) s.0 scope _ (st.rolls-Assign a.0.0 b.0 l ∙ some_inj _ s.0 b.2) s.2 (rw (j, k) refl)
  layer_keeps (sf.Remote x ask l _) guards scope y h =
      let s = bind_some (remote_of p scope guards ask >>= λ k. receiver_of p scope x k.1 >>= λ meant. Some (st.Remote x k.0 l meant)) _ _ h in
      let a = bind_some (remote_of p scope guards ask) _ _ s.1 in
      let b = bind_some (receiver_of p scope x a.0.1) _ _ a.2 in
      ends y (sf.Remote x a.0.0 l b.0) s.0 scope _ (st.rolls-Remote x a.0.0 l b.0 ∙ some_inj _ s.0 b.2) s.2 (ap (λ z. st.Remote x z l m.Unknown) (remote_keeps p scope guards ask a.0 a.1))
  layer_keeps (sf.Call v l) guards scope y h =
      let s = bind_some (expr p scope guards v >>= λ x. Some (st.Call x.0 l)) _ _ h in
      let a = bind_some (expr p scope guards v) _ _ s.1 in
      ends y (sf.Call a.0.0 l) s.0 scope _ (st.rolls-Call a.0.0 l ∙ some_inj _ s.0 a.2) s.2 (ap (λ z. st.Call z l) (expr_keeps p scope guards v a.0.0 a.0.1 a.1))
  layer_keeps (sf.PutLine v l) guards scope y h =
      let s = bind_some (typed p scope guards shape.Str v >>= λ x. Some (st.PutLine x l)) _ _ h in
      let a = bind_some (typed p scope guards shape.Str v) _ _ s.1 in
      ends y (sf.PutLine a.0 l) s.0 scope _ (st.rolls-PutLine a.0 l ∙ some_inj _ s.0 a.2) s.2 (ap (λ z. st.PutLine z l) (typed_keeps p scope guards shape.Str v a.0 a.1))
  layer_keeps (sf.Sleep v l) guards scope y h =
      let s = bind_some (typed p scope guards shape.Int v >>= λ x. Some (st.Sleep x l)) _ _ h in
      let a = bind_some (typed p scope guards shape.Int v) _ _ s.1 in
      ends y (sf.Sleep a.0 l) s.0 scope _ (st.rolls-Sleep a.0 l ∙ some_inj _ s.0 a.2) s.2 (ap (λ z. st.Sleep z l) (typed_keeps p scope guards shape.Int v a.0 a.1))
  layer_keeps (sf.Fork f args l _) guards scope y h =
      let s = bind_some (routine_named p.declarations f >>= λ r. values p scope guards args >>= λ xs.
      needs (fit p.declarations xs (r.outside).params && accepts_failure p.declarations guards) (Some (st.Fork f (exprs_of xs) l (m.Routine r.number)))) _ _ h in
      let a = bind_some (routine_named p.declarations f) _ _ s.1 in
      let b = bind_some (values p scope guards args) _ _ a.2 in
      let c = needs_some _ _ _ b.2 in
      ends y (sf.Fork f (exprs_of b.0) l (m.Routine (a.0).number)) s.0 scope _ (st.rolls-Fork f (exprs_of b.0) l _ ∙ some_inj _ s.0 c.1) s.2 (ap (λ z. st.Fork f z l m.Unknown) (values_keep p scope guards args b.0 b.1))
  layer_keeps (sf.Return v l) guards scope y h =
      let s = bind_some (value_where p scope guards ((p.head).inside).result v >>= λ z. Some (st.Return z l)) _ _ h in
      let a = bind_some (value_where p scope guards ((p.head).inside).result v) _ _ s.1 in
      ends y (sf.Return a.0 l) s.0 scope _ (st.rolls-Return a.0 l ∙ some_inj _ s.0 a.2) s.2 (ap (λ z. st.Return z l) (where_keeps p scope guards ((p.head).inside).result v a.0 a.1))
  layer_keeps (sf.Signal n v l) guards scope y h =
      let s = bind_some (signalled ((p.head).inside) n >>= λ t. value_where p scope guards t v >>= λ z. Some (st.Signal n z l)) _ _ h in
      let t = bind_some (signalled ((p.head).inside) n) _ _ s.1 in
      let a = bind_some (value_where p scope guards t.0 v) _ _ t.2 in
      ends y (sf.Signal n a.0 l) s.0 scope _ (st.rolls-Signal n a.0 l ∙ some_inj _ s.0 a.2) s.2 (ap (λ z. st.Signal n z l) (where_keeps p scope guards t.0 v a.0 a.1))
  layer_keeps (sf.While v gs l) guards scope y h =
      let s = bind_some (typed p scope guards shape.Bool v >>= λ x. body (map at (trees gs)) guards scope >>= λ ys. Some (st.While x ys l)) _ _ h in
      let a = bind_some (typed p scope guards shape.Bool v) _ _ s.1 in
      let b = bind_some (body (map at (trees gs)) guards scope) _ _ a.2 in
      let j : bare_expr a.0 ≡ bare_expr v = typed_keeps p scope guards shape.Bool v a.0 a.1 in
      let k : map bare_stmt b.0 ≡ map bare_stmt (trees gs) = body_keeps guards scope gs b.0 b.1 in
      ends y (sf.While a.0 b.0 l) s.0 scope _ (st.rolls-While a.0 b.0 l ∙ some_inj _ s.0 b.2) s.2 (rw (j, k) refl)
  layer_keeps (sf.Begin gs l) guards scope y h =
      let s = bind_some (body (map at (trees gs)) guards scope >>= λ ys. Some (st.Begin ys l)) _ _ h in
      let b = bind_some (body (map at (trees gs)) guards scope) _ _ s.1 in
      ends y (sf.Begin b.0 l) s.0 scope _ (st.rolls-Begin b.0 l ∙ some_inj _ s.0 b.2) s.2 (ap (λ z. st.Begin z l) (body_keeps guards scope gs b.0 b.1))
  layer_keeps (sf.If v gs arms None l) guards scope y h =
      let s = bind_some (typed p scope guards shape.Bool v >>= λ x. body (map at (trees gs)) guards scope >>= λ ys. arms_of (map arm_at (arm_trees arms)) guards scope >>= λ zs. Some (st.If x ys zs None l)) _ _ h in
      let a = bind_some (typed p scope guards shape.Bool v) _ _ s.1 in
      let b = bind_some (body (map at (trees gs)) guards scope) _ _ a.2 in
      let c = bind_some (arms_of (map arm_at (arm_trees arms)) guards scope) _ _ b.2 in
      let i : bare_expr a.0 ≡ bare_expr v = typed_keeps p scope guards shape.Bool v a.0 a.1 in
      let j : map bare_stmt b.0 ≡ map bare_stmt (trees gs) = body_keeps guards scope gs b.0 b.1 in
      let k : map bare_arm c.0 ≡ map bare_arm (arm_trees arms) = arms_keep guards scope arms c.0 c.1 in
      ends y (sf.If a.0 b.0 c.0 None l) s.0 scope _ (st.rolls-If a.0 b.0 c.0 None l ∙ some_inj _ s.0 c.2) s.2 (rw (i, j, k) refl)
  layer_keeps (sf.If v gs arms (Some os) l) guards scope y h =
      let s = bind_some (typed p scope guards shape.Bool v >>= λ x. body (map at (trees gs)) guards scope >>= λ ys. arms_of (map arm_at (arm_trees arms)) guards scope >>= λ zs.
      optional (Some (map at (trees os))) guards scope >>= λ o. Some (st.If x ys zs o l)) _ _ h in
      let a = bind_some (typed p scope guards shape.Bool v) _ _ s.1 in
      let b = bind_some (body (map at (trees gs)) guards scope) _ _ a.2 in
      let c = bind_some (arms_of (map arm_at (arm_trees arms)) guards scope) _ _ b.2 in
      let d = bind_some (optional (Some (map at (trees os))) guards scope) _ _ c.2 in
      let o = bind_some (body (map at (trees os)) guards scope) _ _ d.1 in
      let i : bare_expr a.0 ≡ bare_expr v = typed_keeps p scope guards shape.Bool v a.0 a.1 in
      let j : map bare_stmt b.0 ≡ map bare_stmt (trees gs) = body_keeps guards scope gs b.0 b.1 in
      let k : map bare_arm c.0 ≡ map bare_arm (arm_trees arms) = arms_keep guards scope arms c.0 c.1 in
      let n : map bare_stmt o.0 ≡ map bare_stmt (trees os) = body_keeps guards scope os o.0 o.1 in
      ends y (sf.If a.0 b.0 c.0 (Some o.0) l) s.0 scope _ (st.rolls-If a.0 b.0 c.0 (Some o.0) l ∙ ap (λ z. st.If a.0 b.0 c.0 z l) (some_inj (Some o.0) d.0 o.2) ∙ some_inj _ s.0 d.2) s.2 (rw (i, j, k, n) refl)
  layer_keeps (sf.For x t over gs l) guards scope y h =
      let s = bind_some (written p t >>= λ s. iter_of p scope guards over >>= λ k. needs (same p.declarations s k.1)
      (declared p scope x s >>= λ inner. body (map at (trees gs)) guards inner >>= λ ys. Some (st.For x t k.0 ys l))) _ _ h in
      let a = bind_some (written p t) _ _ s.1 in
      let b = bind_some (iter_of p scope guards over) _ _ a.2 in
      let c = needs_some (same p.declarations a.0 b.0.1) _ _ b.2 in
      let d = bind_some (declared p scope x a.0) _ _ c.1 in
      let o = bind_some (body (map at (trees gs)) guards d.0) _ _ d.2 in
      let i : bare_iter b.0.0 ≡ bare_iter over = iter_keeps p scope guards over b.0 b.1 in
      let j : map bare_stmt o.0 ≡ map bare_stmt (trees gs) = body_keeps guards d.0 gs o.0 o.1 in
      ends y (sf.For x t b.0.0 o.0 l) s.0 scope _ (st.rolls-For x t b.0.0 o.0 l ∙ some_inj _ s.0 o.2) s.2 (rw (i, j) refl)
  layer_keeps (sf.Tagcase v arms None l) guards scope y h =
      let s = bind_some (value p scope guards v >>= λ x. tags_in (layer p.declarations x.1) >>= λ tags.
      needs (distinct (map (λ (k : TagPlan). k.tag) (map tag_at (tag_trees arms))) && covered tags (map tag_at (tag_trees arms)) None) (runs_tags tags guards scope arms >>= λ zs.
      Some (st.Tagcase x.0 zs None l))) _ _ h in
      let a = bind_some (value p scope guards v) _ _ s.1 in
      let b = bind_some (tags_in (layer p.declarations a.0.1)) _ _ a.2 in
      let c = needs_some (distinct (map (λ (k : TagPlan). k.tag) (map tag_at (tag_trees arms))) && covered b.0 (map tag_at (tag_trees arms)) None) (runs_tags b.0 guards scope arms >>= λ zs. Some (st.Tagcase a.0.0 zs None l)) s.0 b.2 in
      let d = bind_some (runs_tags b.0 guards scope arms) _ _ c.1 in
      let i : bare_expr a.0.0 ≡ bare_expr v = worth_keeps p scope guards v a.0 a.1 in
      let j : map bare_tag d.0 ≡ map bare_tag (tag_trees arms) = tags_keep b.0 guards scope arms d.0 d.1 in
      ends y (sf.Tagcase a.0.0 d.0 None l) s.0 scope _ (st.rolls-Tagcase a.0.0 d.0 None l ∙ some_inj _ s.0 d.2) s.2 (rw (i, j) refl)
  layer_keeps (sf.Tagcase v arms (Some os) l) guards scope y h =
      let s = bind_some (value p scope guards v >>= λ x. tags_in (layer p.declarations x.1) >>= λ tags.
      needs (distinct (map (λ (k : TagPlan). k.tag) (map tag_at (tag_trees arms))) && covered tags (map tag_at (tag_trees arms)) (Some (map at (trees os)))) (runs_tags tags guards scope arms >>= λ zs.
      optional (Some (map at (trees os))) guards scope >>= λ o. Some (st.Tagcase x.0 zs o l))) _ _ h in
      let a = bind_some (value p scope guards v) _ _ s.1 in
      let b = bind_some (tags_in (layer p.declarations a.0.1)) _ _ a.2 in
      let c = needs_some (distinct (map (λ (k : TagPlan). k.tag) (map tag_at (tag_trees arms))) && covered b.0 (map tag_at (tag_trees arms)) (Some (map at (trees os)))) (runs_tags b.0 guards scope arms >>= λ zs. optional (Some (map at (trees os))) guards scope >>= λ o. Some (st.Tagcase a.0.0 zs o l)) s.0 b.2 in
      let d = bind_some (runs_tags b.0 guards scope arms) _ _ c.1 in
      let f = bind_some (optional (Some (map at (trees os))) guards scope) _ _ d.2 in
      let o = bind_some (body (map at (trees os)) guards scope) _ _ f.1 in
      let i : bare_expr a.0.0 ≡ bare_expr v = worth_keeps p scope guards v a.0 a.1 in
      let j : map bare_tag d.0 ≡ map bare_tag (tag_trees arms) = tags_keep b.0 guards scope arms d.0 d.1 in
      let n : map bare_stmt o.0 ≡ map bare_stmt (trees os) = body_keeps guards scope os o.0 o.1 in
      ends y (sf.Tagcase a.0.0 d.0 (Some o.0) l) s.0 scope _ (st.rolls-Tagcase a.0.0 d.0 (Some o.0) l ∙ ap (λ z. st.Tagcase a.0.0 d.0 z l) (some_inj (Some o.0) f.0 o.2) ∙ some_inj _ s.0 f.2) s.2 (rw (i, j, n) refl)
  layer_keeps (sf.Region v gs l) guards scope y h =
      let s = bind_some (typed p scope guards shape.Lock v >>= λ x. needs (accepts_failure p.declarations guards) (body (map at (trees gs)) guards scope >>= λ ys. Some (st.Region x ys l))) _ _ h in
      let a = bind_some (typed p scope guards shape.Lock v) _ _ s.1 in
      let c = needs_some (accepts_failure p.declarations guards) _ _ a.2 in
      let b = bind_some (body (map at (trees gs)) guards scope) _ _ c.1 in
      let j : bare_expr a.0 ≡ bare_expr v = typed_keeps p scope guards shape.Lock v a.0 a.1 in
      let k : map bare_stmt b.0 ≡ map bare_stmt (trees gs) = body_keeps guards scope gs b.0 b.1 in
      ends y (sf.Region a.0 b.0 l) s.0 scope _ (st.rolls-Region a.0 b.0 l ∙ some_inj _ s.0 b.2) s.2 (rw (j, k) refl)
  layer_keeps (sf.Except g hs) guards scope y h =
      let a = bind_some (handlers_at hs.0).guards (λ inner. at g.0 (inner ++ guards) scope >>= λ x. (handlers_at hs.0).run guards x.1 >>= λ ws. Some (st.Except x.0 ws, x.1)) y h in
      let b = bind_some (at g.0 (a.0 ++ guards) scope) (λ x. (handlers_at hs.0).run guards x.1 >>= λ ws. Some (st.Except x.0 ws, x.1)) y a.2 in
      let c = bind_some ((handlers_at hs.0).run guards b.0.1) (λ ws. Some (st.Except b.0.0 ws, b.0.1)) y b.2 in
      let j : bare_stmt b.0.0 ≡ bare_stmt g.0 = g.1 (a.0 ++ guards) scope b.0 b.1 in
      let k : bare_handlers c.0 ≡ bare_handlers hs.0 = hs.1 guards b.0.1 c.0 c.1 in
      ends y (sf.Except b.0.0 c.0) (st.Except b.0.0 c.0) b.0.1 (st.Except (bare_stmt g.0) (bare_handlers hs.0)) (st.rolls-Except b.0.0 c.0) c.2 (rw (j, k) refl)
  layer_keeps (sf.Resignal g ns) guards scope y h =
      let a = bind_some (resignals p ns) (λ inner. at g.0 (inner ++ guards) scope >>= λ x. Some (st.Resignal x.0 ns, x.1)) y h in
      let b = bind_some (at g.0 (a.0 ++ guards) scope) (λ x. Some (st.Resignal x.0 ns, x.1)) y a.2 in
      ends y (sf.Resignal b.0.0 ns) (st.Resignal b.0.0 ns) b.0.1 (st.Resignal (bare_stmt g.0) ns) (st.rolls-Resignal b.0.0 ns) b.2 (ap (λ z. st.Resignal z ns) (g.1 (a.0 ++ guards) scope b.0 b.1))

  arm_keeps : (g : sf.Arm-F Good GoodArm GoodHandlers GoodTag GoodWhen) (guards : List Guard) (scope : Scope) (y : Arm) → arm_step p (record { test = g.test; body = map at (trees g.body) }) guards scope ≡ Some y
      → bare_arm y ≡ roll-Arm (record { test = bare_expr g.test; body = map bare_stmt (trees g.body) })
  arm_keeps g guards scope y h =
      let a = bind_some (typed p scope guards shape.Bool g.test) _ _ h in
      let b = bind_some (body (map at (trees g.body)) guards scope) _ _ a.2 in
      let j : bare_expr a.0 ≡ bare_expr g.test = typed_keeps p scope guards shape.Bool g.test a.0 a.1 in
      let k : map bare_stmt b.0 ≡ map bare_stmt (trees g.body) = body_keeps guards scope g.body b.0 b.1 in
      ap bare_arm (sym (some_inj _ y b.2)) ∙ arm_roll (record { test = a.0; body = b.0 }) ∙ rw (j, k) refl

  tag_keeps : (g : sf.TagArm-F Good GoodArm GoodHandlers GoodTag GoodWhen) (tags : List Named) (guards : List Guard) (scope : Scope) (y : TagArm)
      → (tag_step p (record { tag = g.tag; variable = g.variable; body = map at (trees g.body); meant = g.meant })).run tags guards scope ≡ Some y
      → bare_tag y ≡ roll-TagArm (record { tag = g.tag; variable = g.variable; body = map bare_stmt (trees g.body); meant = m.Unknown })
  tag_keeps g tags guards scope y h =
      let a = bind_some (tag_of p tags g.variable g.tag) _ _ h in
      let c = bind_some (with_variable p scope g.variable) _ _ a.2 in
      let b = bind_some (body (map at (trees g.body)) guards c.0) _ _ c.2 in
      let k : map bare_stmt b.0 ≡ map bare_stmt (trees g.body) = body_keeps guards c.0 g.body b.0 b.1 in
      ap bare_tag (sym (some_inj _ y b.2)) ∙ tag_roll (record { tag = g.tag; variable = g.variable; body = b.0; meant = m.Tag a.0 }) ∙ rw k refl

  when_keeps : (g : sf.When-F Good GoodArm GoodHandlers GoodTag GoodWhen) (guards : List Guard) (scope : Scope) (y : When)
      → (when_step p (record { names = g.names; variable = g.variable; body = map at (trees g.body) })).run guards scope ≡ Some y
      → bare_when y ≡ roll-When (record { names = g.names; variable = g.variable; body = map bare_stmt (trees g.body) })
  when_keeps g guards scope y h =
      let c = bind_some (with_variable p scope g.variable) _ _ h in
      let b = bind_some (body (map at (trees g.body)) guards c.0) _ _ c.2 in
      let k : map bare_stmt b.0 ≡ map bare_stmt (trees g.body) = body_keeps guards c.0 g.body b.0 b.1 in
      ap bare_when (sym (some_inj _ y b.2)) ∙ when_roll (record { names = g.names; variable = g.variable; body = b.0 }) ∙ rw k refl

  handlers_keep : (ws : List GoodWhen) (others : Option (List Good)) (guards : List Guard) (scope : Scope) (y : Handlers) → (handlers_step p (planned_handlers (below_handlers (record { whens = ws; others = others })))).run guards scope ≡ Some y
      → bare_handlers y ≡ roll-Handlers (bare_parts (below_handlers (record { whens = ws; others = others })))
  handlers_keep ws None guards scope y h =
      let a = bind_some (runs_whens guards scope ws) _ _ h in
      let k : map bare_when a.0 ≡ map bare_when (map (λ (g : GoodWhen). g.0) ws) = whens_keep guards scope ws a.0 a.1 in
      ap bare_handlers (sym (some_inj _ y a.2)) ∙ handlers_roll (record { whens = a.0; others = None }) ∙ rw k refl
  handlers_keep ws (Some os) guards scope y h =
      let a = bind_some (runs_whens guards scope ws) _ _ h in
      let d = bind_some (optional (Some (map at (trees os))) guards scope) _ _ a.2 in
      let o = bind_some (body (map at (trees os)) guards scope) _ _ d.1 in
      let k : map bare_when a.0 ≡ map bare_when (map (λ (g : GoodWhen). g.0) ws) = whens_keep guards scope ws a.0 a.1 in
      let n : map bare_stmt o.0 ≡ map bare_stmt (trees os) = body_keeps guards scope os o.0 o.1 in
      ap bare_handlers (sym (ap (λ z. roll-Handlers (record { whens = a.0; others = z })) (some_inj (Some o.0) d.0 o.2) ∙ some_inj _ y d.2))
      ∙ handlers_roll (record { whens = a.0; others = Some o.0 }) ∙ rw (k, n) refl

  -- filling a statement changes nothing but what its nodes stand for
  pub stmt_keeps : (s : Stmt) → Keeps s
  stmt_keeps = so.ind-Stmt Keeps KeepsArm KeepsHandlers KeepsTag KeepsWhen
      (λ x g is guards scope y h. layer_keeps g guards scope y (ap (λ z. stmt_step p (planned z) guards scope) is ∙ ap (λ (q : Plan). q guards scope) (sym (at_roll x)) ∙ h) ∙ ap (λ z. bare_stmt_step (bares z)) is ∙ sym (bare_roll x))
      (λ x g is guards scope y h. arm_keeps g guards scope y (ap (λ z. arm_step p (planned_arm z) guards scope) is ∙ ap (λ (q : ArmPlan). q guards scope) (sym (arm_at_roll x)) ∙ h)
      ∙ ap (λ (z : sf.Arm-F Stmt Arm Handlers TagArm When). roll-Arm (record { test = bare_expr z.test; body = map bare_stmt z.body })) is ∙ sym (arm_roll x))
      (λ x g is guards scope y h. handlers_keep g.whens g.others guards scope y (ap (λ z. (handlers_step p (planned_handlers z)).run guards scope) is ∙ ap (λ (q : HandlersPlan). q.run guards scope) (sym (handlers_at_roll x)) ∙ h)
      ∙ ap (λ (z : sf.Handlers-F Stmt Arm Handlers TagArm When). roll-Handlers (bare_parts z)) is ∙ sym (handlers_roll x))
      (λ x g is tags guards scope y h. tag_keeps g tags guards scope y (ap (λ z. (tag_step p (planned_tag z)).run tags guards scope) is ∙ ap (λ (q : TagPlan). q.run tags guards scope) (sym (tag_at_roll x)) ∙ h)
      ∙ ap (λ (z : sf.TagArm-F Stmt Arm Handlers TagArm When). roll-TagArm (record { tag = z.tag; variable = z.variable; body = map bare_stmt z.body; meant = m.Unknown })) is ∙ sym (tag_roll x))
      (λ x g is guards scope y h. when_keeps g guards scope y (ap (λ z. (when_step p (planned_when z)).run guards scope) is ∙ ap (λ (q : WhenPlan). q.run guards scope) (sym (when_at_roll x)) ∙ h)
      ∙ ap (λ (z : sf.When-F Stmt Arm Handlers TagArm When). roll-When (record { names = z.names; variable = z.variable; body = map bare_stmt z.body })) is ∙ sym (when_roll x))
