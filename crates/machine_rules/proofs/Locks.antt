-- Each row keeps account of the locks that its process holds, and is taken where all objects may change.
use Rattle.std.proofs.Common.{◌≡◌, ℕ, ◌<◌, ℤ, pos, negsuc, Bool, true, false, not, ◌==◌, if◌then◌else◌, ltb, leb, List, [], ◌∷◌, ◌++◌, length, map, codes, Option, Some, None, slice_get, refl, ap, ◌∙◌, subst, arith}
use Rattle.std.specs.Prelude.{int_lt, ◌^◌, ◌+ℤ◌}
use Rattle.std.proofs.lemmas.Bool.{ltb-true}
use Rattle.std.proofs.lemmas.List.{append_assoc}
use Rattle.clu_tree.specs.declared.op.Op.{Op}
use Rattle.clu_tree.specs.declared.op.Op.TheVariants as op
use Rattle.clu_tree.specs.declared.value.Addr.{Addr}
use Rattle.clu_tree.specs.declared.value.Value.{Value}
use Rattle.clu_tree.specs.declared.value.Value.TheVariants as value
use Rattle.clu_tree.specs.declared.value.Sig.{Sig}
use Rattle.clu_tree.specs.declared.shape.Shape.{Shape}
use Rattle.clu_tree.specs.declared.shape.Named.{Named, out-Named}
use Rattle.clu_tree.specs.declared.tree.Meant.{Meant}
use Rattle.clu_tree.specs.declared.tree.Meant.TheVariants as meant
use Rattle.clu_tree.specs.declared.tree.Infix.{Infix}
use Rattle.clu_tree.specs.declared.tree.Infix.TheVariants as fix
use Rattle.clu_tree.specs.declared.tree.Expr.{Expr, out-Expr}
use Rattle.clu_tree.specs.declared.tree.Expr.TheOpen as ef
use Rattle.clu_tree.specs.declared.tree.FieldInit.{FieldInit}
use Rattle.clu_tree.specs.declared.tree.Target.{Target}
use Rattle.clu_tree.specs.declared.tree.Target.TheVariants as target
use Rattle.clu_tree.specs.declared.tree.Remote.{Remote}
use Rattle.clu_tree.specs.declared.tree.Remote.TheVariants as remote
use Rattle.clu_tree.specs.declared.tree.Iter.{Iter}
use Rattle.clu_tree.specs.declared.tree.Iter.TheVariants as iter
use Rattle.clu_tree.specs.declared.tree.Stmt.{Stmt, out-Stmt}
use Rattle.clu_tree.specs.declared.tree.Stmt.TheOpen as sf
use Rattle.clu_tree.specs.declared.tree.Arm.{Arm}
use Rattle.clu_tree.specs.declared.tree.TagArm.{TagArm, out-TagArm}
use Rattle.clu_tree.specs.declared.tree.When.{When}
use Rattle.clu_tree.specs.declared.tree.Handlers.{Handlers}
use Rattle.clu_tree.specs.declared.program.Routine.{Routine}
use Rattle.clu_ops.specs.declared.op_end.OpEnd.{OpEnd}
use Rattle.clu_ops.specs.declared.op_end.OpEnd.TheVariants as end
use Rattle.obj_region.specs.declared.object.Obj.{Obj}
use Rattle.obj_region.specs.declared.object.Obj.TheVariants as obj
use Rattle.obj_region.specs.declared.fault.RegionFault.{RegionFault}
use Rattle.obj_region.specs.declared.fault.RegionFault.TheVariants as fault
use Rattle.obj_region.specs.Store.{Store, array_at, fields_at, has_cell, has_room, in_bounds, is_array, is_ranged, is_sound, item_at, last_of, put_array, put_field, with_high, with_item, with_low, without_high, without_low}
use Rattle.obj_region.specs.Answers.{first_cause, add_refusal, set_field_refusal, fetch_refusal, store_refusal, add_high_refusal, add_low_refusal, rem_high_refusal, rem_low_refusal}
use Rattle.clu_ops.specs.Ops.{end_of}
use Rattle.machine_rules.specs.declared.item.Item.{Item}
use Rattle.machine_rules.specs.declared.item.Item.TheVariants as i
use Rattle.machine_rules.specs.declared.frame.Var.{Var}
use Rattle.machine_rules.specs.declared.frame.Frame.{Frame}
use Rattle.machine_rules.specs.declared.act.Act.{Act}
use Rattle.machine_rules.specs.declared.act.Act.TheVariants as act
use Rattle.machine_rules.specs.World.{World, Next, gives, goes, store_of}
use Rattle.machine_rules.specs.Frames.{assign, at_line, ends, found, held, is_held, leaves, with}
use Rattle.machine_rules.specs.Exceptions.{Taken, Lets, Handles, Passes, Landing, Nowhere, Lands, Resignals, behind, caught, handled, fails, failure, landing, lands, lands_at, leaving, raises, signal, taken, unwind}
use Rattle.machine_rules.specs.Operands.{on_array, on_bool, on_int, on_ref, on_str, one_at, taking, taking2, taking3, taking_args, taking_last}
use Rattle.machine_rules.specs.Operations as ops
use Rattle.machine_rules.specs.Row as row
use Rattle.machine_rules.specs.Locks.{IsTakenIfFree, KeepsLocks, KeepsRaised, LocksKept}

-- the step keeps account of these locks, and is taken unless some objects may not change
abbrev Kept : ℕ → List Addr → Act → List Addr → List Addr → Type 0
Kept bound before act.Old left after = (0 < bound) × (left ≡ []) × (after ≡ [])
Kept bound before does left after = LocksKept before does left after

abbrev Keeps : World → List Addr → Option Next → Type 0
Keeps w before None = Unit {0}
Keeps w before (Some next) = Kept w.bound before next.act next.left (held next.frames)

-- ---- work without locks of its own

leaves_body : (body : List Stmt) (work : List Item) → leaves (map i.Exec body ++ work) ≡ leaves work
leaves_body [] work = refl
leaves_body (s ∷ body) work = leaves_body body work

leaves_evals : (es : List Expr) (work : List Item) → leaves (map i.Eval es ++ work) ≡ leaves work
leaves_evals [] work = refl
leaves_evals (e ∷ es) work = leaves_evals es work

-- an item that gives no lock back
abbrev IsFree : Item → Type 0
IsFree item = (work : List Item) → leaves (item ∷ work) ≡ leaves work

abbrev AreFree : Option Item → Type 0
AreFree None = Unit {0}
AreFree (Some item) = IsFree item

-- ---- exceptions

-- where an exception lands, the locks given back on the way and those behind the guard are those of the work
abbrev Splits : List Addr → Landing → Type 0
Splits before (Lands x body gone work) = gone ++ leaves work ≡ before
Splits before Nowhere = Unit {0}
Splits before Resignals = Unit {0}

behind_splits : (a : Addr) (before : List Addr) (l : Landing) → Splits before l → Splits (a ∷ before) (behind a l)
behind_splits a before (Lands x body gone work) h = ap (λ (locks : List Addr). a ∷ locks) h
behind_splits a before Nowhere h = tt
behind_splits a before Resignals h = tt

at_splits : (t : Taken) (work : List Item) (outer : Landing) → Splits (leaves work) outer → Splits (leaves work) (lands_at t work outer)
at_splits Lets work outer h = h
at_splits (Handles x body) work outer h = refl
at_splits Passes work outer h = tt

landing_splits : (n : List ℕ) (work : List Item) → Splits (leaves work) (landing n work)
landing_splits n [] = tt
landing_splits n (i.Guard c ∷ work) = at_splits (taken n c) work (landing n work) (landing_splits n work)
landing_splits n (i.Leave a ∷ work) = behind_splits a (leaves work) (landing n work) (landing_splits n work)
landing_splits n (_ ∷ work) = landing_splits n work

handled_keeps : (w : World) (before left : List Addr) (f : Frame) (fs : List Frame) (work : List Item) (vars : Option (List Var)) → left ++ (leaves work ++ held fs) ≡ before → Keeps w before (handled w left f fs work vars)
handled_keeps w before left f fs work None h = tt
handled_keeps w before left f fs work (Some vars) h = h

lands_keeps : (w : World) (before left : List Addr) (s : Sig) (f : Frame) (fs : List Frame) (l : Landing) (below : Option Next) →
    left ++ (leaves f.work ++ held fs) ≡ before → Splits (leaves f.work) l → Keeps w before below → Keeps w before (lands w left s f fs l below)
lands_keeps w before left s f fs Nowhere below h splits k = k
lands_keeps w before left s f fs Resignals below h splits k = k
lands_keeps w before left s f fs (Lands x body gone work) below h splits k =
    handled_keeps w before (left ++ gone) f fs (map i.Exec body ++ work) (caught x s.value f.vars)
    (rw (leaves_body body work, append_assoc left gone (leaves work ++ held fs), ← append_assoc gone (leaves work) (held fs), splits) h)

unwind_keeps : (w : World) (before left : List Addr) (s : Sig) (frames : List Frame) → left ++ held frames ≡ before → Keeps w before (unwind w left s frames)
unwind_keeps w before left s [] h = h
unwind_keeps w before left s (f ∷ fs) h =
    lands_keeps w before left s f fs (landing s.name f.work) _ h (landing_splits s.name f.work)
    (unwind_keeps w before (left ++ leaves f.work) (leaving (landing s.name f.work) s) fs (append_assoc left (leaves f.work) (held fs) ∙ h))

ends_keeps : (w : World) (before left : List Addr) (v : Value) (fs : List Frame) → left ++ held fs ≡ before → Keeps w before (ends w left v fs)
ends_keeps w before left v [] h = h
ends_keeps w before left v (f ∷ fs) h = h

-- ---- operands

taking_keeps : (w : World) (before : List Addr) (values : List Value) (go : Value → List Value → Option Next) → ((v : Value) (rest : List Value) → Keeps w before (go v rest)) → Keeps w before (taking values go)
taking_keeps w before [] go k = tt
taking_keeps w before (v ∷ values) go k = k v values

taking2_keeps : (w : World) (before : List Addr) (values : List Value) (go : Value → Value → List Value → Option Next) → ((a b : Value) (rest : List Value) → Keeps w before (go a b rest)) → Keeps w before (taking2 values go)
taking2_keeps w before [] go k = tt
taking2_keeps w before (b ∷ []) go k = tt
taking2_keeps w before (b ∷ a ∷ values) go k = k a b values

taking3_keeps : (w : World) (before : List Addr) (values : List Value) (go : Value → Value → Value → List Value → Option Next) → ((a b c : Value) (rest : List Value) → Keeps w before (go a b c rest)) → Keeps w before (taking3 values go)
taking3_keeps w before [] go k = tt
taking3_keeps w before (c ∷ []) go k = tt
taking3_keeps w before (c ∷ b ∷ []) go k = tt
taking3_keeps w before (c ∷ b ∷ a ∷ values) go k = k a b c values

if_keeps : (w : World) (before : List Addr) (b : Bool) (first second : Option Next) → Keeps w before first → Keeps w before second → Keeps w before (if b then first else second)
if_keeps w before true first second h k = h
if_keeps w before false first second h k = k

taking_last_keeps : (w : World) (before : List Addr) (n : ℕ) (values : List Value) (go : List Value → List Value → Option Next) → ((args rest : List Value) → Keeps w before (go args rest)) → Keeps w before (taking_last n values go)
taking_last_keeps w before n values go k = if_keeps w before _ _ None (k _ _) tt

taking_args_keeps : (w : World) (before : List Addr) (r : Option Routine) (values : List Value) (go : Routine → List Value → List Value → Option Next) →
    ((r : Routine) (args rest : List Value) → Keeps w before (go r args rest)) → Keeps w before (taking_args r values go)
taking_args_keeps w before None values go k = tt
taking_args_keeps w before (Some r) values go k = taking_last_keeps w before _ values (go r) (k r)

on_int_keeps : (w : World) (before : List Addr) (v : Value) (go : ℤ → Option Next) → ((n : ℤ) → Keeps w before (go n)) → Keeps w before (on_int v go)
on_int_keeps w before (value.Int n) go k = k n
on_int_keeps w before _ go k = tt

on_bool_keeps : (w : World) (before : List Addr) (v : Value) (go : Bool → Option Next) → ((b : Bool) → Keeps w before (go b)) → Keeps w before (on_bool v go)
on_bool_keeps w before (value.Bool b) go k = k b
on_bool_keeps w before _ go k = tt

on_str_keeps : (w : World) (before : List Addr) (v : Value) (go : List ℕ → Option Next) → ((t : List ℕ) → Keeps w before (go t)) → Keeps w before (on_str v go)
on_str_keeps w before (value.Str t) go k = k t
on_str_keeps w before _ go k = tt

on_ref_keeps : (w : World) (before : List Addr) (v : Value) (go : Addr → Option Next) → ((a : Addr) → Keeps w before (go a)) → Keeps w before (on_ref v go)
on_ref_keeps w before (value.Ref a) go k = k a
on_ref_keeps w before _ go k = tt

on_array_keeps : (w : World) (before : List Addr) (v : Value) (go : ℕ → Option Next) → ((at : ℕ) → Keeps w before (go at)) → Keeps w before (on_array w v go)
on_array_keeps w before v go k = on_ref_keeps w before v _ (λ a. if_keeps w before (is_array (slice_get w.store a.0)) (go a.0) None (k a.0) tt)

one_at_keeps : (w : World) (before : List Addr) (o : Option Obj) (go : ℕ → Value → Option Next) → ((tag : ℕ) (v : Value) → Keeps w before (go tag v)) → Keeps w before (one_at o go)
one_at_keeps w before None go k = tt
one_at_keeps w before (Some (obj.One tag v)) go k = k tag v
one_at_keeps w before (Some _) go k = tt

-- ---- operations. The locks held before are those of the work behind the item and of the frames below

abbrev all_of : List Item → List Frame → List Addr
all_of work fs = leaves work ++ held fs

raises_keeps : (w : World) (s : Sig) (f : Frame) (fs : List Frame) (work : List Item) → Keeps w (all_of work fs) (raises w s f fs work)
raises_keeps w s f fs work = unwind_keeps w (all_of work fs) [] s (with f work f.values ∷ fs) refl

-- an act that enters no lock, of a step that is taken
abbrev IsPlain : Act → Type 0
IsPlain does = (bound : ℕ) (before left after : List Addr) → left ++ after ≡ before → Kept bound before does left after

-- the store refuses to change an object only where it may not change
abbrev IsOldBelow : ℕ → Option RegionFault → Type 0
IsOldBelow bound None = Unit {0}
IsOldBelow bound (Some fault.Old) = 0 < bound
IsOldBelow bound (Some _) = Unit {0}

first_below : (bound at : ℕ) (bounds range full : Bool) → IsOldBelow bound (first_cause (ltb at bound) bounds range full)
first_below bound at bounds range full = by_old (ltb at bound) (ltb-true at bound)
  where
    by_full : (full : Bool) → IsOldBelow bound (first_cause false false false full)
    by_full true = tt
    by_full false = tt

    by_range : (range full : Bool) → IsOldBelow bound (first_cause false false range full)
    by_range true full = tt
    by_range false full = by_full full

    by_bounds : (bounds range full : Bool) → IsOldBelow bound (first_cause false bounds range full)
    by_bounds true range full = tt
    by_bounds false range full = by_range range full

    by_old : (old : Bool) → (old ≡ true → at < bound) → IsOldBelow bound (first_cause old bounds range full)
    by_old true h = omega (arith, h refl)
    by_old false h = by_bounds bounds range full

refused_keeps : (w : World) (f : Frame) (fs : List Frame) (work : List Item) (why : RegionFault) → IsOldBelow w.bound (Some why) → Keeps w (all_of work fs) (ops.refused w f fs work why)
refused_keeps w f fs work fault.Old below = (below, refl, refl)
refused_keeps w f fs work fault.Bounds below = raises_keeps w (signal (codes "bounds")) f fs work
refused_keeps w f fs work fault.Range below = raises_keeps w (failure (codes "array range")) f fs work
refused_keeps w f fs work fault.Full below = raises_keeps w (failure (codes "store limit")) f fs work
refused_keeps w f fs work fault.Memory below = tt

stores_keeps : (w : World) (f : Frame) (fs : List Frame) (work : List Item) (values : List Value) (why : Option RegionFault) (does : Act) (store : Store) (v : Option Value) →
    IsOldBelow w.bound why → IsPlain does → Keeps w (all_of work fs) (ops.stores w f fs work values why does store v)
stores_keeps w f fs work values (Some why) does store v below plain = refused_keeps w f fs work why below
stores_keeps w f fs work values None does store None below plain = tt
stores_keeps w f fs work values None does store (Some v) below plain = plain w.bound (all_of work fs) [] (all_of work fs) refl

went_plain : IsPlain act.Went
went_plain bound before left after h = h

sync_plain : (a : Addr) (n : ℕ) → IsPlain (act.MakeSync a n)
sync_plain a n bound before left after h = h

full_below : (bound : ℕ) (full : Bool) → IsOldBelow bound (first_cause false false false full)
full_below bound true = tt
full_below bound false = tt

bounds_below : (bound : ℕ) (bounds : Bool) → IsOldBelow bound (first_cause false bounds false false)
bounds_below bound true = tt
bounds_below bound false = tt

element_keeps : (w : World) (f : Frame) (fs : List Frame) (work : List Item) (v : Option Value) (values : List Value) → Keeps w (all_of work fs) (ops.adds_element w f fs work v values)
element_keeps w f fs work None values = raises_keeps w (signal (codes "bounds")) f fs work
element_keeps w f fs work (Some v) values = refl

some_keeps : (w : World) (f : Frame) (fs : List Frame) (work : List Item) (v : Option Value) (values : List Value) → Keeps w (all_of work fs) (ops.adds_some w f fs work v values)
some_keeps w f fs work None values = tt
some_keeps w f fs work (Some v) values = refl

ended_keeps : (w : World) (f : Frame) (fs : List Frame) (work : List Item) (values : List Value) (e : Option OpEnd) → Keeps w (all_of work fs) (ops.ended w f fs work values e)
ended_keeps w f fs work values None = tt
ended_keeps w f fs work values (Some (end.Value v)) = refl
ended_keeps w f fs work values (Some (end.Signal s)) = raises_keeps w s f fs work

makes_keeps : (w : World) (f : Frame) (fs : List Frame) (work : List Item) (values : List Value) (does : Act) (o : Obj) → IsPlain does → Keeps w (all_of work fs) (ops.makes w f fs work values does o)
makes_keeps w f fs work values does o plain = stores_keeps w f fs work values (add_refusal (store_of w) o) does (w.store ++ o ∷ []) (Some (value.Ref (ops.new_addr w))) (full_below w.bound (not (has_room w.store o))) plain

makes_array_keeps : (w : World) (f : Frame) (fs : List Frame) (work : List Item) (values : List Value) (low : ℤ) → Keeps w (all_of work fs) (ops.makes_array w f fs work values low)
makes_array_keeps w f fs work values low =
    if_keeps w (all_of work fs) (is_sound (obj.Arr low [])) (ops.makes w f fs work values act.Went (obj.Arr low [])) (fails w (codes "array range") f fs work)
    (makes_keeps w f fs work values act.Went (obj.Arr low []) went_plain) (raises_keeps w (failure (codes "array range")) f fs work)

makes_semaphore_keeps : (w : World) (f : Frame) (fs : List Frame) (work : List Item) (values : List Value) (n : ℤ) → Keeps w (all_of work fs) (ops.makes_semaphore w f fs work values n)
makes_semaphore_keeps w f fs work values (negsuc n) = raises_keeps w (failure (codes "semaphore range")) f fs work
makes_semaphore_keeps w f fs work values (pos n) =
    if_keeps w (all_of work fs) (leb n (2 ^ 62)) (ops.makes w f fs work values (act.MakeSync (ops.new_addr w) n) obj.Sem) (fails w (codes "semaphore range") f fs work)
    (makes_keeps w f fs work values (act.MakeSync (ops.new_addr w) n) obj.Sem (sync_plain (ops.new_addr w) n)) (raises_keeps w (failure (codes "semaphore range")) f fs work)

sets_field_keeps : (w : World) (f : Frame) (fs : List Frame) (work : List Item) (values : List Value) (at k : ℕ) (x : Value) → Keeps w (all_of work fs) (ops.sets_field w f fs work values at k x)
sets_field_keeps w f fs work values at k x =
    if_keeps w (all_of work fs) (ltb k (length (fields_at w.store at))) (ops.stores w f fs work values (set_field_refusal (store_of w) at) act.Went (put_field w.store at k x) (Some value.Nil)) None
    (stores_keeps w f fs work values (set_field_refusal (store_of w) at) act.Went (put_field w.store at k x) (Some value.Nil) (first_below w.bound at false false false) went_plain) tt

apply_keeps : (w : World) (o : Op) (f : Frame) (fs : List Frame) (work : List Item) → Keeps w (all_of work fs) (ops.apply w o f fs work)
apply_keeps w op.ArrNew f fs work = makes_keeps w f fs work f.values act.Went (obj.Arr (pos 1) []) went_plain
apply_keeps w op.ArrCreate f fs work = taking_keeps w _ f.values _ (λ v values. on_int_keeps w _ v _ (makes_array_keeps w f fs work values))
apply_keeps w op.ArrLow f fs work = taking_keeps w _ f.values _ (λ v values. on_array_keeps w _ v _ (λ at. refl))
apply_keeps w op.ArrHigh f fs work = taking_keeps w _ f.values _ (λ v values. on_array_keeps w _ v _ (λ at. refl))
apply_keeps w op.ArrSize f fs work = taking_keeps w _ f.values _ (λ v values. on_array_keeps w _ v _ (λ at. refl))
apply_keeps w op.ArrFetch f fs work = taking2_keeps w _ f.values _ (λ v k values. on_array_keeps w _ v _ (λ at. on_int_keeps w _ k _ (λ n. stores_keeps w f fs work values (fetch_refusal (store_of w) at n) act.Went (w.store) (item_at (array_at w.store at) n) (bounds_below w.bound (not (in_bounds (array_at w.store at) n))) went_plain)))
apply_keeps w op.ArrStore f fs work = taking3_keeps w _ f.values _ (λ v k x values. on_array_keeps w _ v _ (λ at. on_int_keeps w _ k _ (λ n. stores_keeps w f fs work values (store_refusal (store_of w) at n) act.Went (put_array w.store at (with_item (array_at w.store at) n x)) (Some value.Nil) (first_below w.bound at (not (in_bounds (array_at w.store at) n)) false false) went_plain)))
apply_keeps w op.ArrAddh f fs work = taking2_keeps w _ f.values _ (λ v x values. on_array_keeps w _ v _ (λ at. stores_keeps w f fs work values (add_high_refusal (store_of w) at x) act.Went (put_array w.store at (with_high (array_at w.store at) x)) (Some value.Nil) (first_below w.bound at false (not (is_ranged (with_high (array_at w.store at) x))) (not (has_cell w.store))) went_plain))
apply_keeps w op.ArrAddl f fs work = taking2_keeps w _ f.values _ (λ v x values. on_array_keeps w _ v _ (λ at. stores_keeps w f fs work values (add_low_refusal (store_of w) at x) act.Went (put_array w.store at (with_low (array_at w.store at) x)) (Some value.Nil) (first_below w.bound at false (not (is_ranged (with_low (array_at w.store at) x))) (not (has_cell w.store))) went_plain))
apply_keeps w op.ArrRemh f fs work = taking_keeps w _ f.values _ (λ v values. on_array_keeps w _ v _ (λ at. stores_keeps w f fs work values (rem_high_refusal (store_of w) at) act.Went (put_array w.store at (without_high (array_at w.store at))) (last_of (array_at w.store at).items) (first_below w.bound at (length (array_at w.store at).items == 0) (not (is_ranged (without_high (array_at w.store at)))) false) went_plain))
apply_keeps w op.ArrReml f fs work = taking_keeps w _ f.values _ (λ v values. on_array_keeps w _ v _ (λ at. stores_keeps w f fs work values (rem_low_refusal (store_of w) at) act.Went (put_array w.store at (without_low (array_at w.store at))) (slice_get (array_at w.store at).items 0) (first_below w.bound at (length (array_at w.store at).items == 0) (not (is_ranged (without_low (array_at w.store at)))) false) went_plain))
apply_keeps w op.ArrTop f fs work = taking_keeps w _ f.values _ (λ v values. on_array_keeps w _ v _ (λ at. element_keeps w f fs work (last_of (array_at w.store at).items) values))
apply_keeps w op.ArrBottom f fs work = taking_keeps w _ f.values _ (λ v values. on_array_keeps w _ v _ (λ at. element_keeps w f fs work (slice_get (array_at w.store at).items 0) values))
apply_keeps w op.ArrEqual f fs work = taking2_keeps w _ f.values _ (λ v u values. on_ref_keeps w _ v _ (λ a. on_ref_keeps w _ u _ (λ b. refl)))
apply_keeps w op.RecEqual f fs work = taking2_keeps w _ f.values _ (λ v u values. on_ref_keeps w _ v _ (λ a. on_ref_keeps w _ u _ (λ b. refl)))
apply_keeps w op.LockCreate f fs work = makes_keeps w f fs work f.values (act.MakeSync (ops.new_addr w) 0) obj.Lock (sync_plain (ops.new_addr w) 0)
apply_keeps w op.SemCreate f fs work = taking_keeps w _ f.values _ (λ v values. on_int_keeps w _ v _ (makes_semaphore_keeps w f fs work values))
apply_keeps w op.SemSignal f fs work = taking_keeps w _ f.values _ (λ v values. on_ref_keeps w _ v _ (λ a. refl))
apply_keeps w op.SemWait f fs work = taking_keeps w _ f.values _ (λ v values. on_ref_keeps w _ v _ (λ a. refl))
apply_keeps w op.SemWaitFor f fs work = taking2_keeps w _ f.values _ (λ v t values. on_ref_keeps w _ v _ (λ a. on_int_keeps w _ t _ (λ ms. refl)))
apply_keeps w o f fs work =
    taking_last_keeps w (all_of work fs) (ops.operands_of o) f.values (λ args values. ops.ended w f fs work values (end_of o args)) (λ args values. ended_keeps w f fs work values (end_of o args))

-- ---- expressions and statements

operands_keeps : (w : World) (f : Frame) (fs : List Frame) (work : List Item) (es : List Expr) (item : Option Item) → AreFree item → Keeps w (all_of work fs) (row.operands w f fs work es item)
operands_keeps w f fs work es None free = tt
operands_keeps w f fs work es (Some item) free = ap (λ (locks : List Addr). locks ++ held fs) (leaves_evals es (item ∷ work) ∙ free work)

doing_free : (m : Meant) → AreFree (row.doing m)
doing_free (meant.Op o) = λ work. refl
doing_free (meant.Routine k) = λ work. refl
doing_free (meant.Tag k) = λ work. refl
doing_free _ = tt

get_free : (m : Meant) → AreFree (row.at_field m i.Get)
get_free (meant.Field k) = λ work. refl
get_free _ = tt

put_free : (m : Meant) → AreFree (row.at_field m i.Put)
put_free (meant.Field k) = λ work. refl
put_free _ = tt

routine_free : (m : Meant) (item : ℕ → Item) → ((k : ℕ) → IsFree (item k)) → AreFree (row.with_routine m item)
routine_free (meant.Routine k) item free = free k
routine_free _ item free = tt

setting_free : (x : List ℕ) (m : Meant) → AreFree (row.setting x m)
setting_free x meant.Local = λ work. refl
setting_free x (meant.NodeVar k) = λ work. refl
setting_free x _ = tt

receiving_free : (x : Option (List ℕ)) (m : Meant) → AreFree (row.receiving x m)
receiving_free None m = λ work. refl
receiving_free (Some x) m = setting_free x m

reads_keeps : (w : World) (f : Frame) (fs : List Frame) (work : List Item) (v : Option Value) → Keeps w (all_of work fs) (row.reads w f fs work v)
reads_keeps w f fs work None = raises_keeps w (failure (codes "unset variable")) f fs work
reads_keeps w f fs work (Some v) = refl

local_keeps : (w : World) (f : Frame) (fs : List Frame) (work : List Item) (x : Option Var) → Keeps w (all_of work fs) (row.reads_local w f fs work x)
local_keeps w f fs work None = tt
local_keeps w f fs work (Some x) = reads_keeps w f fs work x.value

node_keeps : (w : World) (f : Frame) (fs : List Frame) (work : List Item) (v : Option (Option Value)) → Keeps w (all_of work fs) (row.reads_node w f fs work v)
node_keeps w f fs work None = tt
node_keeps w f fs work (Some v) = reads_keeps w f fs work v

name_keeps : (w : World) (f : Frame) (fs : List Frame) (work : List Item) (x : List ℕ) (m : Meant) → Keeps w (all_of work fs) (row.eval_name w f fs work x m)
name_keeps w f fs work x meant.Local = local_keeps w f fs work (found x f.vars)
name_keeps w f fs work x (meant.NodeVar k) = node_keeps w f fs work (slice_get w.vars k)
name_keeps w f fs work x _ = tt

binary_keeps : (w : World) (f : Frame) (fs : List Frame) (work : List Item) (o : Infix) (a b : Expr) (m : Meant) → Keeps w (all_of work fs) (row.eval_binary w f fs work o a b m)
binary_keeps w f fs work fix.Cand a b m = refl
binary_keeps w f fs work fix.Cor a b m = refl
binary_keeps w f fs work _ a b m = operands_keeps w f fs work (a ∷ b ∷ []) (row.doing m) (doing_free m)

eval_keeps : (w : World) (f : Frame) (fs : List Frame) (work : List Item) (x : ef.Expr-F Expr FieldInit) → Keeps w (all_of work fs) (row.eval w f fs work x)
eval_keeps w f fs work (ef.Literal v _) = refl
eval_keeps w f fs work (ef.Now _) = refl
eval_keeps w f fs work (ef.Name x _ m) = name_keeps w f fs work x m
eval_keeps w f fs work (ef.Binary a o b _ m) = binary_keeps w f fs work o a b m
eval_keeps w f fs work (ef.Unary _ a _ m) = operands_keeps w f fs work (a ∷ []) (row.doing m) (doing_free m)
eval_keeps w f fs work (ef.Call _ args _ m) = operands_keeps w f fs work args (row.doing m) (doing_free m)
eval_keeps w f fs work (ef.Op _ _ args _ m) = operands_keeps w f fs work args (row.doing m) (doing_free m)
eval_keeps w f fs work (ef.Record _ fields _ _) = operands_keeps w f fs work (map row.value_of fields) (Some (i.MakeRecord (length fields))) (λ work. refl)
eval_keeps w f fs work (ef.Array _ items _ _) = operands_keeps w f fs work items (Some (i.MakeArray (length items))) (λ work. refl)
eval_keeps w f fs work (ef.Index a k _ m) = operands_keeps w f fs work (a ∷ k ∷ []) (row.doing m) (doing_free m)
eval_keeps w f fs work (ef.Field a _ _ m) = operands_keeps w f fs work (a ∷ []) (row.at_field m i.Get) (get_free m)
eval_keeps w f fs work (ef.Up a _) = refl
eval_keeps w f fs work (ef.Down a _) = refl

picks_keeps : (w : World) (f : Frame) (fs : List Frame) (work : List Item) (values : List Value) (or : Bool) (e : Expr) (b : Bool) → Keeps w (all_of work fs) (row.picks w f fs work values or e b)
picks_keeps w f fs work values true e true = refl
picks_keeps w f fs work values true e false = refl
picks_keeps w f fs work values false e true = refl
picks_keeps w f fs work values false e false = refl

puts_keeps : (w : World) (f : Frame) (fs : List Frame) (work : List Item) (values : List Value) (body : List Stmt) → Keeps w (all_of work fs) (row.puts w f fs work values body)
puts_keeps w f fs work values body = ap (λ (locks : List Addr). locks ++ held fs) (leaves_body body work)

begins_keeps : (w : World) (f : Frame) (fs : List Frame) (work : List Item) (values : List Value) (x : List ℕ) (t : Shape) (v : Value) (body : List Stmt) → Keeps w (all_of work fs) (row.begins w f fs work values x t v body)
begins_keeps w f fs work values x t v body = ap (λ (locks : List Addr). locks ++ held fs) (leaves_body body work)

others_keeps : (w : World) (f : Frame) (fs : List Frame) (work : List Item) (values : List Value) (body : Option (List Stmt)) → Keeps w (all_of work fs) (row.puts_others w f fs work values body)
others_keeps w f fs work values None = refl
others_keeps w f fs work values (Some body) = puts_keeps w f fs work values body

declares_keeps : (w : World) (f : Frame) (fs : List Frame) (work : List Item) (x : List ℕ) (t : Shape) (e : Option Expr) → Keeps w (all_of work fs) (row.declares w f fs work x t e)
declares_keeps w f fs work x t None = refl
declares_keeps w f fs work x t (Some e) = refl

assigns_keeps : (w : World) (f : Frame) (fs : List Frame) (work : List Item) (e : Expr) (to : Target) → Keeps w (all_of work fs) (row.assigns w f fs work e to)
assigns_keeps w f fs work e (target.Name x _ m) = operands_keeps w f fs work (e ∷ []) (row.setting x m) (setting_free x m)
assigns_keeps w f fs work e (target.Field r _ _ m) = operands_keeps w f fs (i.Discard ∷ work) (r ∷ e ∷ []) (row.at_field m i.Put) (put_free m)
assigns_keeps w f fs work e (target.Index a k _ _) = operands_keeps w f fs (i.Discard ∷ work) (a ∷ k ∷ e ∷ []) (Some (i.Apply op.ArrStore)) (λ work. refl)

asks_keeps : (w : World) (f : Frame) (fs : List Frame) (work : List Item) (call : Remote) (after : Option Item) → AreFree after → Keeps w (all_of work fs) (row.asks w f fs work call after)
asks_keeps w f fs work call None free = tt
asks_keeps w f fs work (remote.Once _ args at _ m) (Some after) free =
    subst (λ (locks : List Addr). Keeps w (locks ++ held fs) (row.operands w f fs (after ∷ work) (args ++ at ∷ []) (row.with_routine m i.AskOnce))) (free work) (operands_keeps w f fs (after ∷ work) (args ++ at ∷ []) (row.with_routine m i.AskOnce) (routine_free m i.AskOnce (λ k work. refl)))
asks_keeps w f fs work (remote.Maybe _ args at within _ m) (Some after) free =
    subst (λ (locks : List Addr). Keeps w (locks ++ held fs) (row.operands w f fs (after ∷ work) (args ++ at ∷ within ∷ []) (row.with_routine m i.AskMaybe))) (free work) (operands_keeps w f fs (after ∷ work) (args ++ at ∷ within ∷ []) (row.with_routine m i.AskMaybe) (routine_free m i.AskMaybe (λ k work. refl)))

loops_over_keeps : (w : World) (f : Frame) (fs : List Frame) (work : List Item) (x : List ℕ) (t : Shape) (body : List Stmt) (over : Iter) → Keeps w (all_of work fs) (row.loops_over w f fs work x t body over)
loops_over_keeps w f fs work x t body (iter.FromTo a b _) = refl
loops_over_keeps w f fs work x t body (iter.Elements _ a _) = refl

returns_keeps : (w : World) (f : Frame) (fs : List Frame) (work : List Item) (e : Option Expr) → Keeps w (all_of work fs) (row.returns w f fs work e)
returns_keeps w f fs work None = ends_keeps w (all_of work fs) (leaves work) value.Nil fs refl
returns_keeps w f fs work (Some e) = refl

signals_keeps : (w : World) (f : Frame) (fs : List Frame) (work : List Item) (n : List ℕ) (e : Option Expr) → Keeps w (all_of work fs) (row.signals w f fs work n e)
signals_keeps w f fs work n None = unwind_keeps w (all_of work fs) (leaves work) (signal n) fs refl
signals_keeps w f fs work n (Some e) = refl

exec_keeps : (w : World) (f : Frame) (fs : List Frame) (work : List Item) (x : sf.Stmt-F Stmt Arm Handlers TagArm When) → Keeps w (all_of work fs) (row.exec w f fs work x)
exec_keeps w f fs work (sf.Declare x t first _) = declares_keeps w f fs work x t first
exec_keeps w f fs work (sf.Assign to e _) = assigns_keeps w f fs work e to
exec_keeps w f fs work (sf.Call e _) = refl
exec_keeps w f fs work (sf.Remote x call _ m) = asks_keeps w f fs work call (row.receiving x m) (receiving_free x m)
exec_keeps w f fs work (sf.PutLine e _) = refl
exec_keeps w f fs work (sf.Sleep e _) = refl
exec_keeps w f fs work (sf.Region e body _) = refl
exec_keeps w f fs work (sf.Fork _ args _ m) = operands_keeps w f fs work args (row.with_routine m i.Spawn) (routine_free m i.Spawn (λ k work. refl))
exec_keeps w f fs work (sf.If e body arms others _) = refl
exec_keeps w f fs work (sf.While e body line) = refl
exec_keeps w f fs work (sf.For x t over body _) = loops_over_keeps w f fs work x t body over
exec_keeps w f fs work (sf.Tagcase e arms others _) = refl
exec_keeps w f fs work (sf.Begin body _) = puts_keeps w f fs work f.values body
exec_keeps w f fs work (sf.Except s hs) = refl
exec_keeps w f fs work (sf.Resignal s names) = refl
exec_keeps w f fs work (sf.Return e _) = returns_keeps w f fs work e
exec_keeps w f fs work (sf.Signal n e _) = signals_keeps w f fs work n e

-- ---- the other items

branches_keeps : (w : World) (f : Frame) (fs : List Frame) (work : List Item) (values : List Value) (body : List Stmt) (arms : List Arm) (others : Option (List Stmt)) (b : Bool) → Keeps w (all_of work fs) (row.branches w f fs work values body arms others b)
branches_keeps w f fs work values body arms others true = puts_keeps w f fs work values body
branches_keeps w f fs work values body [] others false = others_keeps w f fs work values others
branches_keeps w f fs work values body (a ∷ arms) others false = refl

loops_keeps : (w : World) (f : Frame) (fs : List Frame) (work : List Item) (values : List Value) (e : Expr) (body : List Stmt) (line : ℕ) (b : Bool) → Keeps w (all_of work fs) (row.loops w f fs work values e body line b)
loops_keeps w f fs work values e body line true = puts_keeps w f fs (i.Exec _ ∷ work) values body
loops_keeps w f fs work values e body line false = refl

-- the next round stands in front of the work, or the loop is in its last one
round_keeps : (w : World) (f : Frame) (fs : List Frame) (work : List Item) (x : List ℕ) (t : Shape) (v : Value) (body : List Stmt) (b : Bool) (item : Item) → IsFree item →
    Keeps w (all_of work fs) (row.begins w f fs (if b then item ∷ work else work) f.values x t v body)
round_keeps w f fs work x t v body true item free = subst (λ (locks : List Addr). Keeps w (locks ++ held fs) (row.begins w f fs (item ∷ work) f.values x t v body)) (free work) (begins_keeps w f fs (item ∷ work) f.values x t v body)
round_keeps w f fs work x t v body false item free = begins_keeps w f fs work f.values x t v body

element_round_keeps : (w : World) (f : Frame) (fs : List Frame) (work : List Item) (x : List ℕ) (t : Shape) (body : List Stmt) (a : Addr) (k : ℤ) (v : Option Value) → Keeps w (all_of work fs) (row.element w f fs work x t body a k v)
element_round_keeps w f fs work x t body a k None = tt
element_round_keeps w f fs work x t body a k (Some v) = begins_keeps w f fs (i.Each x t body a _ ∷ work) f.values x t v body

arm_keeps : (w : World) (f : Frame) (fs : List Frame) (work : List Item) (values : List Value) (v : Value) (body : List Stmt) (x : Option Named) → Keeps w (all_of work fs) (row.takes_arm w f fs work values v body x)
arm_keeps w f fs work values v body None = puts_keeps w f fs work values body
arm_keeps w f fs work values v body (Some x) = begins_keeps w f fs work values (out-Named x).name (out-Named x).shape v body

tag_others_keeps : (w : World) (f : Frame) (fs : List Frame) (work : List Item) (values : List Value) (body : Option (List Stmt)) → Keeps w (all_of work fs) (row.takes_others w f fs work values body)
tag_others_keeps w f fs work values None = tt
tag_others_keeps w f fs work values (Some body) = puts_keeps w f fs work values body

tag_keeps : (w : World) (f : Frame) (fs : List Frame) (work : List Item) (values : List Value) (arms : List TagArm) (others : Option (List Stmt)) (tag : ℕ) (v : Value) → Keeps w (all_of work fs) (row.takes_tag w f fs work values arms others tag v)
tag_keeps w f fs work values [] others tag v = tag_others_keeps w f fs work values others
tag_keeps w f fs work values (a ∷ arms) others tag v =
    if_keeps w (all_of work fs) (row.is_tag (out-TagArm a).meant tag) (row.takes_arm w f fs work values v (out-TagArm a).body (out-TagArm a).variable) (row.takes_tag w f fs work values arms others tag v)
    (arm_keeps w f fs work values v (out-TagArm a).body (out-TagArm a).variable) (tag_keeps w f fs work values arms others tag v)

grabs_keeps : (w : World) (f : Frame) (fs : List Frame) (work : List Item) (values : List Value) (body : List Stmt) (a : Addr) (b : Bool) → is_held a (all_of work fs) ≡ b →
    Keeps w (all_of work fs) (if b then fails w (codes "lock already held") f fs work else gives w [] (act.Enter a) (with f (map i.Exec body ++ i.Leave a ∷ work) values ∷ fs))
grabs_keeps w f fs work values body a true is = raises_keeps w (failure (codes "lock already held")) f fs work
grabs_keeps w f fs work values body a false is = (is, refl, ap (λ (locks : List Addr). locks ++ held fs) (leaves_body body (i.Leave a ∷ work)))

fall_keeps : (w : World) (fs : List Frame) (work : List Item) (r : Option Routine) → Keeps w (all_of work fs) (row.fall w (leaves work) fs r)
fall_keeps w fs work None = tt
fall_keeps w fs work (Some r) = by_result r.result
  where
    by_result : (t : Option Shape) → Keeps w (all_of work fs) (row.fall_at w (leaves work) fs t)
    by_result None = ends_keeps w (all_of work fs) (leaves work) value.Nil fs refl
    by_result (Some t) = unwind_keeps w (all_of work fs) (leaves work) (failure (codes "no return")) fs refl

enters_keeps : (w : World) (f : Frame) (fs : List Frame) (work : List Item) (k : ℕ) (r : Routine) (args values : List Value) → Keeps w (all_of work fs) (row.enters w f fs work k r args values)
enters_keeps w f fs work k r args values =
    if_keeps w (all_of work fs) (ltb (length fs) 999) (goes w (row.entry k r args ∷ with f work values ∷ fs)) (fails w (codes "frame limit") f fs work)
    (ap (λ (locks : List Addr). locks ++ all_of work fs) (leaves_body r.body (i.Fall ∷ []))) (raises_keeps w (failure (codes "frame limit")) f fs work)

sets_local_keeps : (w : World) (f : Frame) (fs : List Frame) (work : List Item) (values : List Value) (vars : Option (List Var)) → Keeps w (all_of work fs) (row.sets_local w f fs work values vars)
sets_local_keeps w f fs work values None = tt
sets_local_keeps w f fs work values (Some vars) = refl

sets_node_keeps : (w : World) (f : Frame) (fs : List Frame) (work : List Item) (values : List Value) (k : ℕ) (v : Value) (old : Option (Option Value)) → Keeps w (all_of work fs) (row.sets_node w f fs work values k v old)
sets_node_keeps w f fs work values k v None = tt
sets_node_keeps w f fs work values k v (Some old) = refl

item_keeps : (w : World) (f : Frame) (fs : List Frame) (work : List Item) (item : Item) → Keeps w (all_of (item ∷ work) fs) (row.row_at w f fs work item)
item_keeps w f fs work (i.Eval e) = eval_keeps w f fs work (out-Expr e)
item_keeps w f fs work (i.Apply o) = apply_keeps w o f fs work
item_keeps w f fs work (i.MakeRecord n) = taking_last_keeps w (all_of work fs) n f.values (λ fields values. ops.makes w f fs work values act.Went (obj.Rec fields)) (λ fields values. makes_keeps w f fs work values act.Went (obj.Rec fields) went_plain)
item_keeps w f fs work (i.MakeArray n) = taking_last_keeps w (all_of work fs) n f.values (λ items values. ops.makes w f fs work values act.Went (obj.Arr (pos 1) items)) (λ items values. makes_keeps w f fs work values act.Went (obj.Arr (pos 1) items) went_plain)
item_keeps w f fs work (i.MakeTag k) = taking_keeps w _ f.values _ (λ v values. makes_keeps w f fs work values act.Went (obj.One k v) went_plain)
item_keeps w f fs work (i.Get k) = taking_keeps w _ f.values _ (λ v values. on_ref_keeps w _ v _ (λ a. some_keeps w f fs work (slice_get (fields_at w.store a.0) k) values))
item_keeps w f fs work (i.Put k) = taking2_keeps w _ f.values _ (λ v x values. on_ref_keeps w _ v _ (λ a. sets_field_keeps w f fs work values a.0 k x))
item_keeps w f fs work (i.Pick or e) = taking_keeps w _ f.values _ (λ v values. on_bool_keeps w _ v _ (picks_keeps w f fs work values or e))
item_keeps w f fs work (i.Enter k) = taking_args_keeps w (all_of work fs) (slice_get w.program.routines k) f.values (row.enters w f fs work k) (enters_keeps w f fs work k)
item_keeps w f fs work i.Fall = fall_keeps w fs work (slice_get w.program.routines f.routine)
item_keeps w f fs work (i.Exec s) = exec_keeps w (at_line f (row.line_of f.line (out-Stmt s))) fs work (out-Stmt s)
item_keeps w f fs work (i.Assign x) = taking_keeps w _ f.values _ (λ v values. sets_local_keeps w f fs work values (assign x v f.vars))
item_keeps w f fs work (i.AssignNode k) = taking_keeps w _ f.values _ (λ v values. sets_node_keeps w f fs work values k v (slice_get w.vars k))
item_keeps w f fs work i.Discard = taking_keeps w _ f.values _ (λ v values. refl)
item_keeps w f fs work i.Print = taking_keeps w _ f.values _ (λ v values. on_str_keeps w _ v _ (λ t. refl))
item_keeps w f fs work i.Nap = taking_keeps w _ f.values _ (λ v values. on_int_keeps w _ v _ (λ ms. refl))
item_keeps w f fs work (i.Grab body) = taking_keeps w _ f.values _ (λ v values. on_ref_keeps w _ v _ (λ a. grabs_keeps w f fs work values body a (is_held a (all_of work fs)) refl))
item_keeps w f fs work (i.Leave a) = refl
item_keeps w f fs work (i.Spawn k) = taking_args_keeps w (all_of work fs) (slice_get w.program.routines k) f.values _ (λ r args values. refl)
item_keeps w f fs work (i.AskOnce k) = taking_keeps w _ f.values _ (λ v values. on_int_keeps w _ v _ (λ to. taking_args_keeps w (all_of work fs) (slice_get w.program.routines k) values _ (λ r args rest. refl)))
item_keeps w f fs work (i.AskMaybe k) = taking2_keeps w _ f.values _ (λ v u values. on_int_keeps w _ v _ (λ to. on_int_keeps w _ u _ (λ ms. taking_args_keeps w (all_of work fs) (slice_get w.program.routines k) values _ (λ r args rest. refl))))
item_keeps w f fs work (i.Branch body arms others) = taking_keeps w _ f.values _ (λ v values. on_bool_keeps w _ v _ (branches_keeps w f fs work values body arms others))
item_keeps w f fs work (i.Loop e body line) = taking_keeps w _ f.values _ (λ v values. on_bool_keeps w _ v _ (loops_keeps w f fs work values e body line))
item_keeps w f fs work (i.ForInt x t body) = taking2_keeps w _ f.values _ (λ a b values. on_int_keeps w _ a _ (λ first. on_int_keeps w _ b _ (λ last. refl)))
item_keeps w f fs work (i.Next x t body n last) =
    if_keeps w (all_of work fs) (int_lt last n) (goes w (with f work f.values ∷ fs)) _ refl (round_keeps w f fs work x t (value.Int n) body (int_lt n last) (i.Next x t body (n +ℤ pos 1) last) (λ work. refl))
item_keeps w f fs work (i.ForEach x t body) = taking_keeps w _ f.values _ (λ v values. on_ref_keeps w _ v _ (λ a. on_array_keeps w _ v _ (λ at. refl)))
item_keeps w f fs work (i.Each x t body a k) =
    on_array_keeps w _ (value.Ref a) _ (λ at. if_keeps w _ (in_bounds (array_at w.store at) k) _ (goes w (with f work f.values ∷ fs)) (element_round_keeps w f fs work x t body a k (item_at (array_at w.store at) k)) refl)
item_keeps w f fs work (i.Tagged arms others) = taking_keeps w _ f.values _ (λ v values. on_ref_keeps w _ v _ (λ a. one_at_keeps w _ (slice_get w.store a.0) _ (tag_keeps w f fs work values arms others)))
item_keeps w f fs work (i.Guard c) = refl
item_keeps w f fs work (i.Raise n) = taking_keeps w _ f.values _ (λ v values. unwind_keeps w (all_of work fs) (leaves work) (record { name = n; value = Some v }) fs refl)
item_keeps w f fs work i.Give = taking_keeps w _ f.values _ (λ v values. ends_keeps w (all_of work fs) (leaves work) v fs refl)

work_keeps : (w : World) (f : Frame) (fs : List Frame) (work : List Item) → Keeps w (all_of work fs) (row.row_of w f fs work)
work_keeps w f fs [] = tt
work_keeps w f fs (item ∷ work) = item_keeps w f fs work item

row_keeps : (w : World) (frames : List Frame) → Keeps w (held frames) (row.row w frames)
row_keeps w [] = tt
row_keeps w (f ∷ fs) = work_keeps w f fs f.work

kept_locks : (bound : ℕ) (before : List Addr) (does : Act) (left after : List Addr) → Kept bound before does left after → LocksKept before does left after
kept_locks bound before act.Old left after h = (h.1, h.2)
kept_locks bound before does left after h = h

kept_below : (bound : ℕ) (before : List Addr) (does : Act) (left after : List Addr) → Kept bound before does left after → does ≡ act.Old → 0 < bound
kept_below bound before act.Old left after h e = h.0
kept_below bound before does left after h e = cc

pub locks_kept : (w : World) (frames : List Frame) → KeepsLocks w frames
locks_kept w frames next is = kept_locks w.bound (held frames) next.act next.left (held next.frames) (subst (Keeps w (held frames)) is (row_keeps w frames))

pub old_below : (w : World) (frames : List Frame) → IsTakenIfFree w frames
old_below w frames next is old = kept_below w.bound (held frames) next.act next.left (held next.frames) (subst (Keeps w (held frames)) is (row_keeps w frames)) old

pub raised_kept : (w : World) (s : Sig) (frames : List Frame) → KeepsRaised w s frames
raised_kept w s frames next is = kept_locks w.bound (held frames) next.act next.left (held next.frames) (subst (Keeps w (held frames)) is (unwind_keeps w (held frames) [] s frames refl))

pub given_kept : (v : Value) (frames : List Frame) → held (row.give v frames) ≡ held frames
given_kept v [] = refl
given_kept v (f ∷ fs) = refl
