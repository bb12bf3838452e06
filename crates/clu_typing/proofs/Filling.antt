-- Filling a program changes nothing but what its nodes stand for, and sees nothing of it.
use Rattle.std.proofs.Common.{◌≡◌, ℕ, suc, Bool, List, [], ◌∷◌, map, length, Option, Some, refl, sym, ap, ◌∙◌, subst}
use Rattle.clu_tree.specs.declared.tree.Stmt.{Stmt}
use Rattle.clu_tree.specs.declared.program.Cluster.{Cluster}
use Rattle.clu_tree.specs.declared.program.Routine.{Routine}
use Rattle.clu_tree.specs.declared.program.Program.{Program}
use Rattle.clu_typing.specs.Options.{◌>>=◌, needs}
use Rattle.clu_typing.specs.Types.{Declarations, Head, head_of, heads_of}
use Rattle.clu_typing.specs.Exceptions.{Guard}
use Rattle.clu_typing.specs.Exprs.{Place, Scope}
use Rattle.clu_typing.specs.Stmts.{Plan, plan, body}
use Rattle.clu_typing.specs.Programs.{declarations_of, within_limits, declarations_typed, head_typed, param_names, params_scope, place, routine_of, routines_of, filled_by, filled}
use Rattle.clu_typing.specs.Bare.{bare_stmt, bare_routine, bare}
use Rattle.clu_typing.specs.Laws.{FillingLaw}
use Rattle.clu_typing.proofs.Binds.{some_inj, bind_some, needs_some}
use Rattle.clu_typing.proofs.FilledStmts.{stmt_keeps}
use Rattle.clu_typing.proofs.BlindStmts.{stmt_blind}

-- ---- nothing but what nodes stand for is changed

body_keeps : (p : Place) (guards : List Guard) (scope : Scope) (ss ys : List Stmt) → body (map (plan p) ss) guards scope ≡ Some ys → map bare_stmt ys ≡ map bare_stmt ss
body_keeps p guards scope [] ys h = ap (map bare_stmt) (sym (some_inj [] ys h))
body_keeps p guards scope (s ∷ ss) ys h =
    let a = bind_some (plan p s guards scope) _ _ h in
    let b = bind_some (body (map (plan p) ss) guards a.0.1) _ _ a.2 in
    let k : bare_stmt a.0.0 ≡ bare_stmt s = stmt_keeps p s guards scope a.0 a.1 in
    let r : map bare_stmt b.0 ≡ map bare_stmt ss = body_keeps p guards a.0.1 ss b.0 b.1 in
    subst (λ zs. map bare_stmt zs ≡ bare_stmt s ∷ map bare_stmt ss) (some_inj (a.0.0 ∷ b.0) ys b.2) (rw (k, r) refl)

routine_keeps : (d : Declarations) (h : Head) (r x : Routine) → routine_of d h r ≡ Some x → bare_routine x ≡ bare_routine r
routine_keeps d h r x e =
    let a = needs_some (head_typed d h r) _ _ e in
    let b = bind_some (body (map (plan (place d h)) r.body) [] (params_scope (param_names r) (h.inside).params)) _ _ a.1 in
    ap bare_routine (sym (some_inj _ x b.2)) ∙ ap (λ (ss : List Stmt). record r { body = ss }) (body_keeps (place d h) [] (params_scope (param_names r) (h.inside).params) r.body b.0 b.1)

routines_keep : (d : Declarations) (cs : List Cluster) (k : ℕ) (rs xs : List Routine) → routines_of d (heads_of cs k rs) rs ≡ Some xs → map bare_routine xs ≡ map bare_routine rs
routines_keep d cs k [] xs e = ap (map bare_routine) (sym (some_inj [] xs e))
routines_keep d cs k (r ∷ rs) xs e =
    let a = bind_some (routine_of d (head_of cs k r) r) _ _ e in
    let b = bind_some (routines_of d (heads_of cs (suc k) rs) rs) _ _ a.2 in
    let i : bare_routine a.0 ≡ bare_routine r = routine_keeps d (head_of cs k r) r a.0 a.1 in
    let j : map bare_routine b.0 ≡ map bare_routine rs = routines_keep d cs (suc k) rs b.0 b.1 in
    subst (λ zs. map bare_routine zs ≡ bare_routine r ∷ map bare_routine rs) (some_inj (a.0 ∷ b.0) xs b.2) (rw (i, j) refl)

same_tree : (p q : Program) → filled p ≡ Some q → bare q ≡ bare p
same_tree p q e =
    let a = needs_some (within_limits p) _ _ e in
    let b = needs_some (declarations_typed p (declarations_of p)) _ _ a.1 in
    let c = bind_some (routines_of (declarations_of p) (heads_of p.clusters 0 p.routines) p.routines) _ _ b.1 in
    ap bare (sym (some_inj _ q c.2)) ∙ ap (λ (rs : List Routine). record p { routines = rs }) (routines_keep (declarations_of p) p.clusters 0 p.routines c.0 c.1)

-- ---- nothing of it is seen

plans_blind : (p : Place) (ss : List Stmt) → map (plan p) (map bare_stmt ss) ≡ map (plan p) ss
plans_blind p [] = refl
plans_blind p (s ∷ ss) = let k : plan p (bare_stmt s) ≡ plan p s = stmt_blind p s in rw (k, plans_blind p ss) refl

routine_blind : (d : Declarations) (h : Head) (r : Routine) → routine_of d h (bare_routine r) ≡ routine_of d h r
routine_blind d h r =
    ap (λ (ps : List Plan). needs (head_typed d h r) (body ps [] (params_scope (param_names r) (h.inside).params) >>= λ ys. Some (record r { body = ys }))) (plans_blind (place d h) r.body)

routines_blind : (d : Declarations) (hs : List Head) (rs : List Routine) → routines_of d hs (map bare_routine rs) ≡ routines_of d hs rs
routines_blind d [] rs = refl
routines_blind d (h ∷ hs) [] = refl
routines_blind d (h ∷ hs) (r ∷ rs) =
    ap (λ (o : Option Routine). o >>= λ x. routines_of d hs (map bare_routine rs) >>= λ xs. Some (x ∷ xs)) (routine_blind d h r)
    ∙ ap (λ (o : Option (List Routine)). routine_of d h r >>= λ x. o >>= λ xs. Some (x ∷ xs)) (routines_blind d hs rs)

heads_bare : (cs : List Cluster) (k : ℕ) (rs : List Routine) → heads_of cs k (map bare_routine rs) ≡ heads_of cs k rs
heads_bare cs k [] = refl
heads_bare cs k (r ∷ rs) = ap (λ (hs : List Head). head_of cs k r ∷ hs) (heads_bare cs (suc k) rs)

as_many : (rs : List Routine) → length (map bare_routine rs) ≡ length rs
as_many [] = refl
as_many (r ∷ rs) = ap suc (as_many rs)

declares : (p : Program) → declarations_of (bare p) ≡ declarations_of p
declares p = ap (λ (hs : List Head). record (declarations_of p) { heads = hs }) (heads_bare p.clusters 0 p.routines)

limits : (p : Program) → within_limits (bare p) ≡ within_limits p
limits p = rw (as_many p.routines) refl

filled_blind : (p : Program) (d : Declarations) → filled_by (bare p) d ≡ filled_by p d
filled_blind p d = ap (λ (o : Option (List Routine)). needs (declarations_typed p d) (o >>= λ rs. Some (record p { routines = rs }))) (routines_blind d d.heads p.routines)

bare_filled : (p : Program) → filled (bare p) ≡ filled p
bare_filled p =
    ap (λ (b : Bool). needs b (filled_by (bare p) (declarations_of (bare p)))) (limits p)
    ∙ ap (λ (d : Declarations). needs (within_limits p) (filled_by (bare p) d)) (declares p)
    ∙ ap (λ (o : Option Program). needs (within_limits p) o) (filled_blind p (declarations_of p))

blind : (p q : Program) → bare p ≡ bare q → filled p ≡ filled q
blind p q e = sym (bare_filled p) ∙ ap filled e ∙ bare_filled q

pub filling_law : FillingLaw
filling_law = record { same_tree = same_tree; blind = blind; once = λ p q e. blind q p (same_tree p q e) ∙ e }
