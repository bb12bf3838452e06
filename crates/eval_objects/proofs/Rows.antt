-- Lemmas on rows that use objects.
use Rattle.std.proofs.Common.{◌≡◌, ◌≤◌, ◌<◌, ◌+◌, ℕ, ℤ, pos, ◌+ℤ◌, negsuc, ◌^◌, Bool, true, false, if◌then◌else◌, nat_le, nat_lt, ◌&&◌, List, [], ◌∷◌, length, Option, Some, None, IsSome, IfOk, Result, Ok, Err, slice_get, get_or, refl, ◌∙◌, ap, arith}
use Rattle.std.proofs.lemmas.Bool.Decides.{nat_tests}
use Rattle.std.proofs.lemmas.Int.{ints}
use Rattle.std.proofs.lemmas.List.Sums.{get_or-le-sum_by}
use Rattle.std.proofs.lemmas.Option.{slice_get_within, get_or_from_slice_get}
use Rattle.std.specs.declared.alloc.AllocError.{AllocError}
use Rattle.clu_tree.specs.declared.value.Value.{Value}
use Rattle.clu_tree.specs.declared.value.Addr.{Addr}
use Rattle.clu_tree.specs.declared.shape.Shape.{Shape}
use Rattle.clu_tree.specs.declared.tree.Stmt.{Stmt}
use Rattle.clu_tree.specs.declared.tree.TagArm.{TagArm, out-TagArm}
use Rattle.clu_ops.specs.declared.op_end.OpEnd.{OpEnd}
use Rattle.obj_region.specs.declared.fault.RegionFault.{RegionFault}
use Rattle.obj_region.specs.Answers.{done_unless}
use Rattle.obj_region.specs.declared.object.Obj.{Obj}
use Rattle.obj_region.specs.declared.object.Obj.TheVariants as obj
use Rattle.obj_region.specs.Store.{Store, array_at, array_of, cells, cells_in, has_room, high_of, in_bounds, is_array, is_near, is_sound, item_at}
use Rattle.machine_rules.specs.declared.item.Item.{Item}
use Rattle.machine_rules.specs.declared.item.Item.TheVariants as i
use Rattle.machine_rules.specs.declared.frame.Frame.{Frame}
use Rattle.machine_rules.specs.declared.act.StepEnd.{StepEnd}
use Rattle.machine_rules.specs.World.{World, Next, gives}
use Rattle.machine_rules.specs.Operations.{ended, makes_semaphore}
use Rattle.machine_rules.specs.Row.{begins, each, goes, is_tag, takes_arm, takes_tag, with}
use Rattle.eval_objects.specs.Arms.{chosen, takes}
use Rattle.eval_objects.specs.Seen.{count_in, makes_counted, took}

-- an arm is taken as it is chosen
pub takes_chosen : (w : World) (f : Frame) (fs : List Frame) (work : List Item) (values : List Value) (arms : List TagArm) (others : Option (List Stmt)) (tag : ℕ) (v : Value) → takes_tag w f fs work values arms others tag v ≡ takes w f fs work values others v (chosen arms tag)
takes_chosen w f fs work values [] others tag v = refl
takes_chosen w f fs work values (a ∷ arms) others tag v =
    elim (is_tag (out-TagArm a).meant tag) as (λ b. (if b then takes_arm w f fs work values v (out-TagArm a).body (out-TagArm a).variable else takes_tag w f fs work values arms others tag v) ≡ takes w f fs work values others v (if b then Some a else chosen arms tag)) [ true ↦ refl | false ↦ takes_chosen w f fs work values arms others tag v ]

-- a semaphore is made with its count
pub counted : (w : World) (f : Frame) (fs : List Frame) (work : List Item) (values : List Value) (n : ℤ) → makes_semaphore w f fs work values n ≡ makes_counted w f fs work values (count_in n)
counted w f fs work values (negsuc n) = refl
counted w f fs work values (pos n) =
    elim (nat_le n (2 ^ 62)) as (λ b. (if b then makes_counted w f fs work values (Some n) else makes_counted w f fs work values None) ≡ makes_counted w f fs work values (if b then Some n else None)) [ true ↦ refl | false ↦ refl ]

-- an operation that has a row ended
pub ended_some : (w : World) (f : Frame) (fs : List Frame) (work : List Item) (values : List Value) (e : Option OpEnd) → IsSome (ended w f fs work values e) → IsSome e
ended_some w f fs work values None h = h
ended_some w f fs work values (Some e) h = refl

array_size : (o : Obj) → length (array_of (Some o)).items ≤ cells_in o
array_size (obj.Arr low items) = omega arith
array_size (obj.Rec fields) = omega arith
array_size (obj.One tag v) = omega arith
array_size obj.Lock = omega arith
array_size obj.Sem = omega arith

array_cells_at : (s : Store) (at : ℕ) (o : Option Obj) → slice_get s at ≡ o → length (array_of o).items ≤ cells s
array_cells_at s at None e = omega arith
array_cells_at s at (Some o) e =
    let g : get_or s at o ≡ o = get_or_from_slice_get s at o o e in
    let k : cells_in o ≤ cells s = rw g at (get_or-le-sum_by cells_in s at o (slice_get_within s at o e)) in
    omega (arith, array_size o)

-- an array has no more elements than the store
pub array_cells : (s : Store) (at : ℕ) → length (array_at s at).items ≤ cells s
array_cells s at = array_cells_at s at (slice_get s at) refl

-- what holds in every world holds in this one with these objects
pub here_with : (w : World) (store : Store) (r : Result StepEnd AllocError) (x : World → Option Next) (after : List Frame) (row : Option Next) → IfOk r (λ end. (v : World) → x v ≡ gives v end.left end.act after) → row ≡ x (record w { store = store }) → IfOk r (λ end. row ≡ took end.left end.act store after)
here_with w store (Ok end) x after row h e = e ∙ h (record w { store = store })
here_with w store (Err error) x after row h e = tt

-- a row is another one, and the objects are the world's
pub by_row_in : (w : World) (store : Store) (r : Result StepEnd AllocError) (x : Option Next) (after : List Frame) (row : Option Next) → IfOk r (λ end. x ≡ gives w end.left end.act after) → row ≡ x → w.store ≡ store → IfOk r (λ end. row ≡ took end.left end.act store after)
by_row_in w store (Ok end) x after row h e k = e ∙ h ∙ ap (λ (objects : Store). took end.left end.act objects after) k
by_row_in w store (Err error) x after row h e k = tt

and_second : (a b : Bool) → (a && b) ≡ true → b ≡ true
and_second true b h = h
and_second false b h = cc

-- the high of an array is what it may be
pub sound_high : (low : ℤ) (items : List Value) → is_sound (obj.Arr low items) ≡ true → is_near (high_of (record { low = low; items = items })) ≡ true
sound_high low items h = and_second (is_near low) _ h

and_not : (a b : Bool) → b ≡ false → (a && b) ≡ false
and_not true b h = h
and_not false b h = refl

-- a store has no room for more elements than it may hold in all
pub no_room : (s : Store) (low : ℤ) (items : List Value) → 1048576 < length items → has_room s (obj.Arr low items) ≡ false
no_room s low items h =
    let k : nat_le (cells s + length items) 1048576 ≡ false = grind (arith, nat_tests) in
    and_not (nat_lt (length s) 262144) _ k

-- an array of few elements may begin at 1
pub few_sound : (items : List Value) → length items ≤ 1048576 → is_sound (obj.Arr (pos 1) items) ≡ true
few_sound items h = grind (arith, ints)

-- the high that code gives for an array is what it may be
pub near_at : (s : Store) (at : ℕ) (low : ℤ) (items : List Value) (r : ℤ) → r ≡ high_of (array_at s at) → slice_get s at ≡ Some (obj.Arr low items) → is_sound (obj.Arr low items) ≡ true → is_near r ≡ true
near_at s at low items r e o h = rw (e, o) (sound_high low items h)

-- a call on the store that gave no value was refused with this
pub done_refused : (cause : Option RegionFault) (refusal : RegionFault) → Err refusal ≡ done_unless cause → cause ≡ Some refusal
done_refused None refusal h = cc
done_refused (Some fault) refusal h = cc

-- a choice that has a row was the first
pub chosen_first : (b : Bool) (x : Option Next) → IsSome (if b then x else None) → b ≡ true
chosen_first true x h = refl
chosen_first false x h = cc

after_some : (b : Bool) (k next : ℤ) → Some next ≡ (if b then Some k else None) → (b ≡ true) × (next ≡ k)
after_some true k next h = (refl, cc)
after_some false k next h = cc

-- the row of a round that has an element
pub each_is : (w : World) (f : Frame) (fs : List Frame) (work : List Item) (x : List ℕ) (t : Shape) (body : List Stmt) (a : Addr) (k next next2 : ℤ) (v : Value) → is_array (slice_get w.store a.0) ≡ true → Some next ≡ (if in_bounds (array_at w.store a.0) k then Some (k +ℤ pos 1) else None) → item_at (array_at w.store a.0) k ≡ Some v → next2 ≡ next → each w f fs work x t body a k ≡ begins w f fs (i.Each x t body a next2 ∷ work) f.values x t v body
each_is w f fs work x t body a k next next2 v h e o q =
    let p : (in_bounds (array_at w.store a.0) k ≡ true) × (next ≡ k +ℤ pos 1) = after_some _ _ _ e in
    rw (h, p.0, o, q, p.1) refl

-- a round that was copied is the same
pub same_round : (x x2 : List ℕ) (t t2 : Shape) (body body2 : List Stmt) (a : Addr) (k k2 : ℤ) (work new : List Item) → x2 ≡ x → t2 ≡ t → body2 ≡ body → new ≡ i.Each x2 t2 body2 a k2 ∷ work → k2 ≡ k → new ≡ i.Each x t body a k ∷ work
same_round x x2 t t2 body body2 a k k2 work new p q r h e = h ∙ rw (p, q, r, e) refl

not_after : (b : Bool) (k : ℤ) → ((x : ℤ) → (if b then Some k else None) ≡ Some x → ⊥) → b ≡ false
not_after true k h = absurd (h k refl)
not_after false k h = refl

-- the row behind the last round
pub each_over : (w : World) (f : Frame) (fs : List Frame) (work : List Item) (x : List ℕ) (t : Shape) (body : List Stmt) (a : Addr) (k : ℤ) → is_array (slice_get w.store a.0) ≡ true → ((next : ℤ) → (if in_bounds (array_at w.store a.0) k then Some (k +ℤ pos 1) else None) ≡ Some next → ⊥) → each w f fs work x t body a k ≡ goes w (with f work f.values ∷ fs)
each_over w f fs work x t body a k h n = rw (h, not_after _ _ n) refl
