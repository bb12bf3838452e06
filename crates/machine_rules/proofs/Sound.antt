-- Typed frames have a row, and the frames that it leaves are typed.
use Rattle.std.proofs.Common.{◌≡◌, ℕ, List, [], ◌∷◌, ◌++◌, map, Option, Some, slice_get, refl, ap, subst}
use Rattle.std.specs.Prelude.{All, ◌≢◌}
use Rattle.std.proofs.lemmas.List.Elements.{All-get_or, All-head, All-tail}
use Rattle.std.proofs.lemmas.Option.{get_or_from_slice_get, slice_get_within}
use Rattle.clu_tree.specs.Typed.{IsTyped, IsTypedLayer, IsTypedRoutine, IsTypedStmt, LayerHas}
use Rattle.clu_tree.specs.declared.value.Value.{Value}
use Rattle.clu_tree.specs.declared.value.Value.TheVariants as value
use Rattle.clu_tree.specs.declared.shape.Shape.{Shape}
use Rattle.clu_tree.specs.declared.shape.Shape.TheVariants as shape
use Rattle.clu_tree.specs.declared.tree.Expr.{Expr, out-Expr}
use Rattle.clu_tree.specs.declared.tree.Expr.TheOpen as ef
use Rattle.clu_tree.specs.declared.tree.FieldInit.{FieldInit}
use Rattle.clu_tree.specs.declared.tree.Stmt.{Stmt, out-Stmt}
use Rattle.clu_tree.specs.declared.tree.Stmt.TheOpen as sf
use Rattle.clu_tree.specs.declared.tree.Arm.{Arm}
use Rattle.clu_tree.specs.declared.tree.TagArm.{TagArm}
use Rattle.clu_tree.specs.declared.tree.When.{When}
use Rattle.clu_tree.specs.declared.tree.Handlers.{Handlers}
use Rattle.clu_tree.specs.declared.program.Routine.{Routine}
use Rattle.clu_tree.specs.declared.program.Program.{Program}
use Rattle.machine_rules.specs.declared.item.Item.{Item}
use Rattle.machine_rules.specs.declared.item.Item.TheVariants as i
use Rattle.machine_rules.specs.declared.frame.Frame.{Frame}
use Rattle.machine_rules.specs.declared.act.Act.{Act}
use Rattle.machine_rules.specs.declared.act.Act.TheVariants as act
use Rattle.machine_rules.specs.Row.{Next, World, with, at_line, line_of, leaves, ends, fall, taking, eval, exec, on_int, on_str, gives, row_at, row_of}
use Rattle.machine_rules.specs.Typing.{ActFits, HasShape, ValuesHave, result_of, ItemFits, WorkFits, BelowFit, IsSound, IsNeverStuck}

-- what is known of the program, of the first frame's routine and of the frames below
record Here (w : World) (p : Program) (r : Routine) (f : Frame) (fs : List Frame) : Type 0 where
  pub program : w.program ≡ p
  pub good : IsTyped p
  pub at : slice_get p.routines f.routine ≡ Some r
  pub below : BelowFit p r fs

-- what holds of each item of a list holds of the one at this place
all_at : {X : Type 0} (P : X → Type 0) (xs : List X) (k : ℕ) (x : X) → All P xs → slice_get xs k ≡ Some x → P x
all_at P xs k x h e = subst P (get_or_from_slice_get xs k x x e) (All-get_or P xs k x (slice_get_within xs k x e) h)

-- a process with a frame isn't over
full : (f : Frame) (fs : List Frame) → f ∷ fs ≢ []
full f fs e = cc

-- the first frame goes on with this work and these values, where the act fits a process that isn't over
did : {w : World} {p : Program} {r : Routine} {f : Frame} {fs : List Frame} → Here w p r f fs → (does : Act) → ((frames : List Frame) → frames ≢ [] → ActFits does frames) →
    (vs : List Value) (ts : List Shape) (work : List Item) → ValuesHave vs ts → WorkFits ts work → IsSound w p (gives w [] does (with f work vs ∷ fs))
did {r} {f} {fs} here does fits vs ts work hv hw = record {
  next = _;
  is = refl;
  store = refl;
  typed = (r, here.at, record { shapes = ts; values = hv; work = hw }, here.below);
  act = fits (with f work vs ∷ fs) (full (with f work vs) fs);
}

-- the first frame goes on with this work and these values
went : {w : World} {p : Program} {r : Routine} {f : Frame} {fs : List Frame} → Here w p r f fs → (vs : List Value) (ts : List Shape) (work : List Item) → ValuesHave vs ts → WorkFits ts work → IsSound w p (gives w [] act.Went (with f work vs ∷ fs))
went here vs ts work hv hw = did here act.Went (λ frames h. h) vs ts work hv hw

eval_sound : {w : World} {p : Program} {r : Routine} {f : Frame} {fs : List Frame} → Here w p r f fs → (ts : List Shape) (t : Shape) (work : List Item) → ValuesHave f.values ts → WorkFits (t ∷ ts) work → (x : ef.Expr-F Expr FieldInit) → LayerHas x t → IsSound w p (eval w f fs work x)
eval_sound {f} here ts t work hv hw (ef.Literal v line) h = went here (v ∷ f.values) (t ∷ ts) work (h, hv) hw
eval_sound here ts t work hv hw x h = elim h [ ]

exec_sound : {w : World} {p : Program} {r : Routine} {f : Frame} {fs : List Frame} → Here w p r f fs → (work : List Item) → ValuesHave f.values [] → WorkFits [] work → (x : sf.Stmt-F Stmt Arm Handlers TagArm When) → IsTypedLayer x → IsSound w p (exec w f fs work x)
exec_sound {f} here work hv hw (sf.PutLine e line) h = went here f.values [] (i.Eval e ∷ i.Print ∷ work) hv (shape.Str, h, ([], refl, hw))
exec_sound {f} here work hv hw (sf.Sleep e line) h = went here f.values [] (i.Eval e ∷ i.Nap ∷ work) hv (shape.Int, h, ([], refl, hw))
exec_sound here work hv hw x h = elim h [ ]

print_sound : {w : World} {p : Program} {r : Routine} {f : Frame} {fs : List Frame} → Here w p r f fs → (us : List Shape) (work : List Item) (v : Value) (vs : List Value) → HasShape v shape.Str → ValuesHave vs us → WorkFits us work → IsSound w p (on_str v (λ text. gives w [] (act.Put text) (with f work vs ∷ fs)))
print_sound here us work value.Nil vs h hv hw = cc
print_sound here us work (value.Bool b) vs h hv hw = cc
print_sound here us work (value.Int n) vs h hv hw = cc
print_sound here us work (value.Char c) vs h hv hw = cc
print_sound here us work (value.Str text) vs h hv hw = did here (act.Put text) (λ frames h. h) vs us work hv hw
print_sound here us work (value.Ref at) vs h hv hw = elim h [ ]

nap_sound : {w : World} {p : Program} {r : Routine} {f : Frame} {fs : List Frame} → Here w p r f fs → (us : List Shape) (work : List Item) (v : Value) (vs : List Value) → HasShape v shape.Int → ValuesHave vs us → WorkFits us work → IsSound w p (on_int v (λ ms. gives w [] (act.Sleep ms) (with f work vs ∷ fs)))
nap_sound here us work value.Nil vs h hv hw = cc
nap_sound here us work (value.Bool b) vs h hv hw = cc
nap_sound here us work (value.Int n) vs h hv hw = did here (act.Sleep n) (λ frames h. h) vs us work hv hw
nap_sound here us work (value.Char c) vs h hv hw = cc
nap_sound here us work (value.Str text) vs h hv hw = cc
nap_sound here us work (value.Ref at) vs h hv hw = elim h [ ]

-- an item that takes the first value
taking_sound : {w : World} {p : Program} → (t : Shape) (us : List Shape) (vs : List Value) (go : Value → List Value → Option Next) → ValuesHave vs (t ∷ us) → ((v : Value) (rest : List Value) → HasShape v t → ValuesHave rest us → IsSound w p (go v rest)) → IsSound w p (taking vs go)
taking_sound t us [] go hv sound = elim hv [ ]
taking_sound t us (v ∷ vs) go hv sound = sound v vs hv.0 hv.1

ends_sound : (w : World) (p : Program) (r : Routine) (v : Value) (fs : List Frame) (work : List Item) → HasShape v (result_of r.result) → BelowFit p r fs → IsSound w p (ends w (leaves work) v fs)
ends_sound w p r v [] work h below = record { next = _; is = refl; store = refl; typed = tt; act = refl }
ends_sound w p r v (f ∷ fs) work h below =
    let old = below.2 in
    record { next = _; is = refl; store = refl; typed = (below.0, below.1, record { shapes = result_of r.result ∷ old.shapes; values = (h, old.values); work = old.work }, below.3); act = full _ fs }

fall_sound : {w : World} {p : Program} {r : Routine} {f : Frame} {fs : List Frame} → Here w p r f fs → (work : List Item) → IsSound w p (fall w (leaves work) fs (slice_get w.program.routines f.routine))
fall_sound {w} {p} {r} {f} {fs} here work =
    let none = (all_at IsTypedRoutine p.routines f.routine r here.good.routines here.at).returns in
    let at : slice_get w.program.routines f.routine ≡ Some r = rw here.program here.at in
    rw (at, none) (ends_sound w p r value.Nil fs work (ap result_of none) here.below)

item_sound : {w : World} {p : Program} {r : Routine} {f : Frame} {fs : List Frame} → Here w p r f fs → (item : Item) (work : List Item) (ts : List Shape) → ValuesHave f.values ts → ItemFits ts item (λ us. WorkFits us work) → IsSound w p (row_at w f fs work item)
item_sound here (i.Eval e) work ts hv h = eval_sound here ts h.0 work hv h.2 (out-Expr e) h.1
item_sound here i.Fall work ts hv h = fall_sound here work
item_sound {w} {f} {fs} here (i.Exec s) work ts hv h =
    let moved = at_line f (line_of f.line (out-Stmt s)) in
    let empty : ValuesHave f.values [] = subst (λ (us : List Shape). ValuesHave f.values us) h.0 hv in
    exec_sound {w = w} {f = moved} (record { program = here.program; good = here.good; at = here.at; below = here.below }) work empty h.2 (out-Stmt s) h.1
item_sound {f} here i.Print work ts hv h =
    taking_sound shape.Str h.0 f.values _ (subst (λ (us : List Shape). ValuesHave f.values us) h.1 hv) (λ v vs is hvs. print_sound here h.0 work v vs is hvs h.2)
item_sound {f} here i.Nap work ts hv h =
    taking_sound shape.Int h.0 f.values _ (subst (λ (us : List Shape). ValuesHave f.values us) h.1 hv) (λ v vs is hvs. nap_sound here h.0 work v vs is hvs h.2)
item_sound here item work ts hv h = elim h [ ]

-- typed work has a row
work_sound : {w : World} {p : Program} {r : Routine} {f : Frame} {fs : List Frame} → Here w p r f fs → (work : List Item) (ts : List Shape) → ValuesHave f.values ts → WorkFits ts work → IsSound w p (row_of w f fs work)
work_sound here [] ts hv h = elim h [ ]
work_sound here (item ∷ work) ts hv h = item_sound here item work ts hv h

-- the statements of a body come before typed work
body_fits : (ss : List Stmt) (work : List Item) → All IsTypedStmt ss → WorkFits [] work → WorkFits [] (map i.Exec ss ++ work)
body_fits [] work h hw = hw
body_fits (s ∷ ss) work h hw = (refl, All-head IsTypedStmt s ss h, body_fits ss work (All-tail IsTypedStmt s ss h) hw)

pub never_stuck : (p : Program) → IsTyped p → IsNeverStuck p
never_stuck p good = record {
  starts = λ k r args at fit. (r, at, record { shapes = []; values = tt; work = body_fits r.body (i.Fall ∷ []) (all_at IsTypedRoutine p.routines k r good.routines at).body tt }, tt);
  goes_on = λ w f fs is typed. let old = typed.2 in work_sound {w = w} {f = f} (record { program = is; good = good; at = typed.1; below = typed.3 }) f.work old.shapes old.values old.work;
}
