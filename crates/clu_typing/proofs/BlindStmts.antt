-- Typing a statement sees nothing of what its nodes stand for.
use Rattle.std.proofs.Common.{◌≡◌, List, [], ◌∷◌, map, Option, Some, None, refl, sym, ap, ◌∙◌, subst}
use Rattle.std.proofs.Math.Path.{fun_ext}
use Rattle.std.specs.Option.{option_map}
use Rattle.clu_tree.specs.declared.tree.Meant.TheVariants as m
use Rattle.clu_tree.specs.declared.tree.Expr.{Expr}
use Rattle.clu_tree.specs.declared.tree.Stmt.{Stmt, roll-Stmt}
use Rattle.clu_tree.specs.declared.tree.Stmt.TheVariants as st
use Rattle.clu_tree.specs.declared.tree.Stmt.TheOpen as sf
use Rattle.clu_tree.specs.declared.tree.Stmt.TheFolds as so
use Rattle.clu_tree.specs.declared.tree.Arm.{Arm, roll-Arm}
use Rattle.clu_tree.specs.declared.tree.TagArm.{TagArm, roll-TagArm}
use Rattle.clu_tree.specs.declared.tree.When.{When, roll-When}
use Rattle.clu_tree.specs.declared.tree.Handlers.{Handlers, roll-Handlers}
use Rattle.clu_typing.specs.Options.{◌>>=◌}
use Rattle.clu_typing.specs.Exceptions.{Guard, signalled}
use Rattle.clu_typing.specs.Exprs.{Place, Scope, written, expr}
use Rattle.clu_typing.specs.Stmts.{Plan, ArmPlan, TagPlan, WhenPlan, HandlersPlan, declared, target_of, remote_of, iter_of, stays, tag_step, arm_step, when_step, handlers_step, stmt_step}
use Rattle.clu_typing.specs.Bare.{bare_expr, bare_target, bare_remote, bare_iter, bare_stmt_step, bare_stmt}
use Rattle.clu_typing.proofs.BareStmts.{bare_arm, bare_handlers, bare_tag, bare_when, bares, bare_parts, bare_roll, arm_roll, handlers_roll, tag_roll, when_roll}
use Rattle.clu_typing.proofs.BlindExprs.{expr_blind}
use Rattle.clu_typing.proofs.BlindParts.{bind_alike, found_blind, first_blind, where_blind, target_blind, remote_blind, iter_blind}
use Rattle.clu_typing.proofs.FilledStmts.{at, arm_at, handlers_at, tag_at, when_at, planned, planned_arm, planned_handlers, planned_tag, planned_when, at_roll, arm_at_roll, handlers_at_roll, tag_at_roll, when_at_roll}

-- plans that give the same everywhere are one
plan_same : (f g : Plan) → ((guards : List Guard) (scope : Scope) → f guards scope ≡ g guards scope) → f ≡ g
plan_same f g h = fun_ext (λ guards. fun_ext (λ scope. h guards scope))

arm_same : (f g : ArmPlan) → ((guards : List Guard) (scope : Scope) → f guards scope ≡ g guards scope) → f ≡ g
arm_same f g h = fun_ext (λ guards. fun_ext (λ scope. h guards scope))

module _ (p : Place) where
  abbrev pub IsBlind : Stmt → Type 0
  IsBlind s = at p (bare_stmt s) ≡ at p s

  abbrev IsBlindArm : Arm → Type 0
  IsBlindArm a = arm_at p (bare_arm a) ≡ arm_at p a

  abbrev AreBlind : Handlers → Type 0
  AreBlind h = handlers_at p (bare_handlers h) ≡ handlers_at p h

  abbrev IsBlindTag : TagArm → Type 0
  IsBlindTag a = tag_at p (bare_tag a) ≡ tag_at p a

  abbrev IsBlindWhen : When → Type 0
  IsBlindWhen w = when_at p (bare_when w) ≡ when_at p w

  abbrev Good : Type 0
  Good = (s : Stmt) × IsBlind s

  abbrev GoodArm : Type 0
  GoodArm = (a : Arm) × IsBlindArm a

  abbrev GoodHandlers : Type 0
  GoodHandlers = (h : Handlers) × AreBlind h

  abbrev GoodTag : Type 0
  GoodTag = (a : TagArm) × IsBlindTag a

  abbrev GoodWhen : Type 0
  GoodWhen = (w : When) × IsBlindWhen w

  abbrev below : sf.Stmt-F Good GoodArm GoodHandlers GoodTag GoodWhen → sf.Stmt-F Stmt Arm Handlers TagArm When
  below = so.map-Stmt Good GoodArm GoodHandlers GoodTag GoodWhen Stmt Arm Handlers TagArm When (λ (g : Good). g.0) (λ (g : GoodArm). g.0) (λ (g : GoodHandlers). g.0) (λ (g : GoodTag). g.0) (λ (g : GoodWhen). g.0)

  abbrev below_handlers : sf.Handlers-F Good GoodArm GoodHandlers GoodTag GoodWhen → sf.Handlers-F Stmt Arm Handlers TagArm When
  below_handlers = so.map-Handlers Good GoodArm GoodHandlers GoodTag GoodWhen Stmt Arm Handlers TagArm When (λ (g : Good). g.0) (λ (g : GoodArm). g.0) (λ (g : GoodHandlers). g.0) (λ (g : GoodTag). g.0) (λ (g : GoodWhen). g.0)

  abbrev trees : List Good → List Stmt
  trees gs = map (λ (g : Good). g.0) gs

  body_blind : (gs : List Good) → map (at p) (map bare_stmt (trees gs)) ≡ map (at p) (trees gs)
  body_blind [] = refl
  body_blind (g ∷ gs) = let k : at p (bare_stmt g.0) ≡ at p g.0 = g.1 in rw (k, body_blind gs) refl

  abbrev arm_trees : List GoodArm → List Arm
  arm_trees gs = map (λ (g : GoodArm). g.0) gs

  arms_blind : (gs : List GoodArm) → map (arm_at p) (map bare_arm (arm_trees gs)) ≡ map (arm_at p) (arm_trees gs)
  arms_blind [] = refl
  arms_blind (g ∷ gs) = let k : arm_at p (bare_arm g.0) ≡ arm_at p g.0 = g.1 in rw (k, arms_blind gs) refl

  abbrev tag_trees : List GoodTag → List TagArm
  tag_trees gs = map (λ (g : GoodTag). g.0) gs

  tags_blind : (gs : List GoodTag) → map (tag_at p) (map bare_tag (tag_trees gs)) ≡ map (tag_at p) (tag_trees gs)
  tags_blind [] = refl
  tags_blind (g ∷ gs) = let k : tag_at p (bare_tag g.0) ≡ tag_at p g.0 = g.1 in rw (k, tags_blind gs) refl

  abbrev when_trees : List GoodWhen → List When
  when_trees gs = map (λ (g : GoodWhen). g.0) gs

  whens_blind : (gs : List GoodWhen) → map (when_at p) (map bare_when (when_trees gs)) ≡ map (when_at p) (when_trees gs)
  whens_blind [] = refl
  whens_blind (g ∷ gs) = let k : when_at p (bare_when g.0) ≡ when_at p g.0 = g.1 in rw (k, whens_blind gs) refl

  abbrev Layer : Type 0
  Layer = sf.Stmt-F Plan ArmPlan HandlersPlan TagPlan WhenPlan

  abbrev step : Layer → Plan
  step = stmt_step p

  made : (y : sf.Stmt-F Stmt Arm Handlers TagArm When) (x : Stmt) → roll-Stmt y ≡ x → at p x ≡ step (planned p y)
  made y x h = ap (at p) (sym h) ∙ at_roll p y

  layer_blind : (g : sf.Stmt-F Good GoodArm GoodHandlers GoodTag GoodWhen) → at p (bare_stmt_step (bares (below g))) ≡ step (planned p (below g))
  layer_blind (sf.Declare x t first l) =
      made (sf.Declare x t (option_map bare_expr first) l) _ (st.rolls-Declare x t (option_map bare_expr first) l)
      ∙ plan_same (step (sf.Declare x t (option_map bare_expr first) l)) (step (sf.Declare x t first l)) (λ guards scope.
      bind_alike (written p t) _ _ (λ s. bind_alike (declared p scope x s) _ _ (λ next. ap (λ (z : Option (Option Expr)). z >>= λ y. Some (st.Declare x t y l, next)) (first_blind p next guards s first))))
  layer_blind (sf.Assign to v l) =
      made (sf.Assign (bare_target to) (bare_expr v) l) _ (st.rolls-Assign (bare_target to) (bare_expr v) l)
      ∙ plan_same (step (sf.Assign (bare_target to) (bare_expr v) l)) (step (sf.Assign to v l)) (λ guards scope.
      let j : target_of p scope guards (bare_target to) ≡ target_of p scope guards to = target_blind p scope guards to in
      let k : expr p scope guards (bare_expr v) ≡ expr p scope guards v = expr_blind p scope guards v in rw (j, k) refl)
  layer_blind (sf.Remote x ask l k) =
      made (sf.Remote x (bare_remote ask) l m.Unknown) _ (st.rolls-Remote x (bare_remote ask) l m.Unknown)
      ∙ plan_same (step (sf.Remote x (bare_remote ask) l m.Unknown)) (step (sf.Remote x ask l k)) (λ guards scope.
      let j : remote_of p scope guards (bare_remote ask) ≡ remote_of p scope guards ask = remote_blind p scope guards ask in rw j refl)
  layer_blind (sf.Call v l) =
      made (sf.Call (bare_expr v) l) _ (st.rolls-Call (bare_expr v) l)
      ∙ plan_same (step (sf.Call (bare_expr v) l)) (step (sf.Call v l)) (λ guards scope. let k : expr p scope guards (bare_expr v) ≡ expr p scope guards v = expr_blind p scope guards v in rw k refl)
  layer_blind (sf.PutLine v l) =
      made (sf.PutLine (bare_expr v) l) _ (st.rolls-PutLine (bare_expr v) l)
      ∙ plan_same (step (sf.PutLine (bare_expr v) l)) (step (sf.PutLine v l)) (λ guards scope. let k : expr p scope guards (bare_expr v) ≡ expr p scope guards v = expr_blind p scope guards v in rw k refl)
  layer_blind (sf.Sleep v l) =
      made (sf.Sleep (bare_expr v) l) _ (st.rolls-Sleep (bare_expr v) l)
      ∙ plan_same (step (sf.Sleep (bare_expr v) l)) (step (sf.Sleep v l)) (λ guards scope. let k : expr p scope guards (bare_expr v) ≡ expr p scope guards v = expr_blind p scope guards v in rw k refl)
  layer_blind (sf.Fork f args l k) =
      made (sf.Fork f (map bare_expr args) l m.Unknown) _ (st.rolls-Fork f (map bare_expr args) l m.Unknown)
      ∙ plan_same (step (sf.Fork f (map bare_expr args) l m.Unknown)) (step (sf.Fork f args l k)) (λ guards scope.
      let j : map (expr p scope guards) (map bare_expr args) ≡ map (expr p scope guards) args = found_blind p scope guards args in rw j refl)
  layer_blind (sf.Return v l) =
      made (sf.Return (option_map bare_expr v) l) _ (st.rolls-Return (option_map bare_expr v) l)
      ∙ plan_same (step (sf.Return (option_map bare_expr v) l)) (step (sf.Return v l)) (λ guards scope.
      ap (λ (z : Option (Option Expr)). stays scope (z >>= λ y. Some (st.Return y l))) (where_blind p scope guards ((p.head).inside).result v))
  layer_blind (sf.Signal n v l) =
      made (sf.Signal n (option_map bare_expr v) l) _ (st.rolls-Signal n (option_map bare_expr v) l)
      ∙ plan_same (step (sf.Signal n (option_map bare_expr v) l)) (step (sf.Signal n v l)) (λ guards scope.
      ap (stays scope) (bind_alike (signalled ((p.head).inside) n) _ _ (λ t. ap (λ (z : Option (Option Expr)). z >>= λ y. Some (st.Signal n y l)) (where_blind p scope guards t v))))
  layer_blind (sf.If v gs arms None l) =
      made (sf.If (bare_expr v) (map bare_stmt (trees gs)) (map bare_arm (arm_trees arms)) None l) _ (st.rolls-If (bare_expr v) (map bare_stmt (trees gs)) (map bare_arm (arm_trees arms)) None l)
      ∙ ap (λ (z : List Plan). step (sf.If (bare_expr v) z (map (arm_at p) (map bare_arm (arm_trees arms))) None l)) (body_blind gs)
      ∙ ap (λ (z : List ArmPlan). step (sf.If (bare_expr v) (map (at p) (trees gs)) z None l)) (arms_blind arms)
      ∙ plan_same (step (sf.If (bare_expr v) (map (at p) (trees gs)) (map (arm_at p) (arm_trees arms)) None l)) (step (sf.If v (map (at p) (trees gs)) (map (arm_at p) (arm_trees arms)) None l)) (λ guards scope.
      let k : expr p scope guards (bare_expr v) ≡ expr p scope guards v = expr_blind p scope guards v in rw k refl)
  layer_blind (sf.If v gs arms (Some os) l) =
      made (sf.If (bare_expr v) (map bare_stmt (trees gs)) (map bare_arm (arm_trees arms)) (Some (map bare_stmt (trees os))) l) _ (st.rolls-If (bare_expr v) (map bare_stmt (trees gs)) (map bare_arm (arm_trees arms)) (Some (map bare_stmt (trees os))) l)
      ∙ ap (λ (z : List Plan). step (sf.If (bare_expr v) z (map (arm_at p) (map bare_arm (arm_trees arms))) (Some (map (at p) (map bare_stmt (trees os)))) l)) (body_blind gs)
      ∙ ap (λ (z : List ArmPlan). step (sf.If (bare_expr v) (map (at p) (trees gs)) z (Some (map (at p) (map bare_stmt (trees os)))) l)) (arms_blind arms)
      ∙ ap (λ (z : List Plan). step (sf.If (bare_expr v) (map (at p) (trees gs)) (map (arm_at p) (arm_trees arms)) (Some z) l)) (body_blind os)
      ∙ plan_same (step (sf.If (bare_expr v) (map (at p) (trees gs)) (map (arm_at p) (arm_trees arms)) (Some (map (at p) (trees os))) l)) (step (sf.If v (map (at p) (trees gs)) (map (arm_at p) (arm_trees arms)) (Some (map (at p) (trees os))) l)) (λ guards scope.
      let k : expr p scope guards (bare_expr v) ≡ expr p scope guards v = expr_blind p scope guards v in rw k refl)
  layer_blind (sf.While v gs l) =
      made (sf.While (bare_expr v) (map bare_stmt (trees gs)) l) _ (st.rolls-While (bare_expr v) (map bare_stmt (trees gs)) l)
      ∙ ap (λ (z : List Plan). step (sf.While (bare_expr v) z l)) (body_blind gs)
      ∙ plan_same (step (sf.While (bare_expr v) (map (at p) (trees gs)) l)) (step (sf.While v (map (at p) (trees gs)) l)) (λ guards scope. let k : expr p scope guards (bare_expr v) ≡ expr p scope guards v = expr_blind p scope guards v in rw k refl)
  layer_blind (sf.For x t over gs l) =
      made (sf.For x t (bare_iter over) (map bare_stmt (trees gs)) l) _ (st.rolls-For x t (bare_iter over) (map bare_stmt (trees gs)) l)
      ∙ ap (λ (z : List Plan). step (sf.For x t (bare_iter over) z l)) (body_blind gs)
      ∙ plan_same (step (sf.For x t (bare_iter over) (map (at p) (trees gs)) l)) (step (sf.For x t over (map (at p) (trees gs)) l)) (λ guards scope.
      let k : iter_of p scope guards (bare_iter over) ≡ iter_of p scope guards over = iter_blind p scope guards over in rw k refl)
  layer_blind (sf.Tagcase v arms None l) =
      made (sf.Tagcase (bare_expr v) (map bare_tag (tag_trees arms)) None l) _ (st.rolls-Tagcase (bare_expr v) (map bare_tag (tag_trees arms)) None l)
      ∙ ap (λ (z : List TagPlan). step (sf.Tagcase (bare_expr v) z None l)) (tags_blind arms)
      ∙ plan_same (step (sf.Tagcase (bare_expr v) (map (tag_at p) (tag_trees arms)) None l)) (step (sf.Tagcase v (map (tag_at p) (tag_trees arms)) None l)) (λ guards scope.
      let k : expr p scope guards (bare_expr v) ≡ expr p scope guards v = expr_blind p scope guards v in rw k refl)
  layer_blind (sf.Tagcase v arms (Some os) l) =
      made (sf.Tagcase (bare_expr v) (map bare_tag (tag_trees arms)) (Some (map bare_stmt (trees os))) l) _ (st.rolls-Tagcase (bare_expr v) (map bare_tag (tag_trees arms)) (Some (map bare_stmt (trees os))) l)
      ∙ ap (λ (z : List TagPlan). step (sf.Tagcase (bare_expr v) z (Some (map (at p) (map bare_stmt (trees os)))) l)) (tags_blind arms)
      ∙ ap (λ (z : List Plan). step (sf.Tagcase (bare_expr v) (map (tag_at p) (tag_trees arms)) (Some z) l)) (body_blind os)
      ∙ plan_same (step (sf.Tagcase (bare_expr v) (map (tag_at p) (tag_trees arms)) (Some (map (at p) (trees os))) l)) (step (sf.Tagcase v (map (tag_at p) (tag_trees arms)) (Some (map (at p) (trees os))) l)) (λ guards scope.
      let k : expr p scope guards (bare_expr v) ≡ expr p scope guards v = expr_blind p scope guards v in rw k refl)
  layer_blind (sf.Begin gs l) =
      made (sf.Begin (map bare_stmt (trees gs)) l) _ (st.rolls-Begin (map bare_stmt (trees gs)) l) ∙ ap (λ (z : List Plan). step (sf.Begin z l)) (body_blind gs)
  layer_blind (sf.Region v gs l) =
      made (sf.Region (bare_expr v) (map bare_stmt (trees gs)) l) _ (st.rolls-Region (bare_expr v) (map bare_stmt (trees gs)) l)
      ∙ ap (λ (z : List Plan). step (sf.Region (bare_expr v) z l)) (body_blind gs)
      ∙ plan_same (step (sf.Region (bare_expr v) (map (at p) (trees gs)) l)) (step (sf.Region v (map (at p) (trees gs)) l)) (λ guards scope. let k : expr p scope guards (bare_expr v) ≡ expr p scope guards v = expr_blind p scope guards v in rw k refl)
  layer_blind (sf.Except g hs) =
      made (sf.Except (bare_stmt g.0) (bare_handlers hs.0)) _ (st.rolls-Except (bare_stmt g.0) (bare_handlers hs.0))
      ∙ ap (λ (z : Plan). step (sf.Except z (handlers_at p (bare_handlers hs.0)))) g.1 ∙ ap (λ (z : HandlersPlan). step (sf.Except (at p g.0) z)) hs.1
  layer_blind (sf.Resignal g ns) =
      made (sf.Resignal (bare_stmt g.0) ns) _ (st.rolls-Resignal (bare_stmt g.0) ns) ∙ ap (λ (z : Plan). step (sf.Resignal z ns)) g.1

  abbrev ArmIs : sf.Arm-F Stmt Arm Handlers TagArm When → Type 0
  ArmIs x = arm_at p (roll-Arm (record { test = bare_expr x.test; body = map bare_stmt x.body })) ≡ arm_step p (planned_arm p x)

  arm_blind : (g : sf.Arm-F Good GoodArm GoodHandlers GoodTag GoodWhen) → ArmIs (record { test = g.test; body = trees g.body })
  arm_blind g =
      arm_at_roll p (record { test = bare_expr g.test; body = map bare_stmt (trees g.body) })
      ∙ ap (λ (z : List Plan). arm_step p (record { test = bare_expr g.test; body = z })) (body_blind g.body)
      ∙ arm_same (arm_step p (record { test = bare_expr g.test; body = map (at p) (trees g.body) })) (arm_step p (record { test = g.test; body = map (at p) (trees g.body) })) (λ guards scope.
      let k : expr p scope guards (bare_expr g.test) ≡ expr p scope guards g.test = expr_blind p scope guards g.test in rw k refl)

  abbrev TagIs : sf.TagArm-F Stmt Arm Handlers TagArm When → Type 0
  TagIs x = tag_at p (roll-TagArm (record { tag = x.tag; variable = x.variable; body = map bare_stmt x.body; meant = m.Unknown })) ≡ tag_step p (planned_tag p x)

  tag_blind : (g : sf.TagArm-F Good GoodArm GoodHandlers GoodTag GoodWhen) → TagIs (record { tag = g.tag; variable = g.variable; body = trees g.body; meant = g.meant })
  tag_blind g =
      tag_at_roll p (record { tag = g.tag; variable = g.variable; body = map bare_stmt (trees g.body); meant = m.Unknown })
      ∙ ap (λ (z : List Plan). tag_step p (record { tag = g.tag; variable = g.variable; body = z; meant = g.meant })) (body_blind g.body)

  abbrev WhenIs : sf.When-F Stmt Arm Handlers TagArm When → Type 0
  WhenIs x = when_at p (roll-When (record { names = x.names; variable = x.variable; body = map bare_stmt x.body })) ≡ when_step p (planned_when p x)

  when_blind : (g : sf.When-F Good GoodArm GoodHandlers GoodTag GoodWhen) → WhenIs (record { names = g.names; variable = g.variable; body = trees g.body })
  when_blind g =
      when_at_roll p (record { names = g.names; variable = g.variable; body = map bare_stmt (trees g.body) })
      ∙ ap (λ (z : List Plan). when_step p (record { names = g.names; variable = g.variable; body = z })) (body_blind g.body)

  abbrev HandlersAre : sf.Handlers-F Stmt Arm Handlers TagArm When → Type 0
  HandlersAre x = handlers_at p (roll-Handlers (bare_parts x)) ≡ handlers_step p (planned_handlers p x)

  handlers_blind : (ws : List GoodWhen) (others : Option (List Good)) → HandlersAre (below_handlers (record { whens = ws; others = others }))
  handlers_blind ws None =
      handlers_at_roll p (record { whens = map bare_when (when_trees ws); others = None })
      ∙ ap (λ (z : List WhenPlan). handlers_step p (record { whens = z; others = None })) (whens_blind ws)
  handlers_blind ws (Some os) =
      handlers_at_roll p (record { whens = map bare_when (when_trees ws); others = Some (map bare_stmt (trees os)) })
      ∙ ap (λ (z : List WhenPlan). handlers_step p (record { whens = z; others = Some (map (at p) (map bare_stmt (trees os))) })) (whens_blind ws)
      ∙ ap (λ (z : List Plan). handlers_step p (record { whens = map (when_at p) (when_trees ws); others = Some z })) (body_blind os)

  -- the bare statement is typed as the statement is
  pub stmt_blind : (s : Stmt) → IsBlind s
  stmt_blind = so.ind-Stmt IsBlind IsBlindArm AreBlind IsBlindTag IsBlindWhen
      (λ x g is. ap (at p) (bare_roll x) ∙ ap (λ z. at p (bare_stmt_step (bares z))) (sym is) ∙ layer_blind g ∙ ap (λ z. step (planned p z)) is ∙ sym (at_roll p x))
      (λ x g is. ap (arm_at p) (arm_roll x) ∙ subst ArmIs is (arm_blind g) ∙ sym (arm_at_roll p x))
      (λ x g is. ap (handlers_at p) (handlers_roll x) ∙ subst HandlersAre is (handlers_blind g.whens g.others) ∙ sym (handlers_at_roll p x))
      (λ x g is. ap (tag_at p) (tag_roll x) ∙ subst TagIs is (tag_blind g) ∙ sym (tag_at_roll p x))
      (λ x g is. ap (when_at p) (when_roll x) ∙ subst WhenIs is (when_blind g) ∙ sym (when_at_roll p x))
