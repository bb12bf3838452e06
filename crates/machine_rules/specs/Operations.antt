-- What a built-in operation does once its operands are there: on values by the table of operations, on objects by the
-- store, which may refuse it.
use Rattle.std.specs.Prelude.{ℕ, ◌^◌, ℤ, pos, negsuc, if◌then◌else◌, ◌==◌, nat_le, nat_lt, List, [], ◌∷◌, ◌++◌, length, codes, Option, Some, None, slice_get}
use Rattle.clu_tree.specs.declared.op.Op.{Op}
use Rattle.clu_tree.specs.declared.op.Op.TheVariants as op
use Rattle.clu_tree.specs.declared.value.Addr.{Addr}
use Rattle.clu_tree.specs.declared.value.Value.{Value}
use Rattle.clu_tree.specs.declared.value.Value.TheVariants as value
use Rattle.clu_ops.specs.declared.op_end.OpEnd.{OpEnd}
use Rattle.clu_ops.specs.declared.op_end.OpEnd.TheVariants as end
use Rattle.clu_ops.specs.Ops.{end_of}
use Rattle.obj_region.specs.declared.object.Obj.{Obj}
use Rattle.obj_region.specs.declared.object.Obj.TheVariants as obj
use Rattle.obj_region.specs.declared.fault.RegionFault.{RegionFault}
use Rattle.obj_region.specs.declared.fault.RegionFault.TheVariants as fault
use Rattle.obj_region.specs.Store.{Store, array_at, fields_at, high_of, is_sound, item_at, last_of, put_array, put_field, with_high, with_item, with_low, without_high, without_low}
use Rattle.obj_region.specs.Answers.{add_refusal, set_field_refusal, fetch_refusal, store_refusal, add_high_refusal, add_low_refusal, rem_high_refusal, rem_low_refusal}
use Rattle.machine_rules.specs.declared.item.Item.{Item}
use Rattle.machine_rules.specs.declared.frame.Frame.{Frame}
use Rattle.machine_rules.specs.declared.act.Act.{Act}
use Rattle.machine_rules.specs.declared.act.Act.TheVariants as act
use Rattle.machine_rules.specs.World.{World, Next, gives, gives_up, goes, store_of}
use Rattle.machine_rules.specs.Frames.{with}
use Rattle.machine_rules.specs.Exceptions.{signal, raises, fails}
use Rattle.machine_rules.specs.Operands.{taking, taking2, taking3, taking_last, on_int, on_ref, on_array}

-- ---- how it ends

-- v is added to the values
abbrev pub adds : World → Frame → List Frame → List Item → Value → List Value → Option Next
adds w f fs work v values = goes w (with f work (v ∷ values) ∷ fs)

-- the value is added, if there is one
abbrev pub adds_some : World → Frame → List Frame → List Item → Option Value → List Value → Option Next
adds_some w f fs work None values = None
adds_some w f fs work (Some v) values = adds w f fs work v values

-- the element is added, or there is none
abbrev pub adds_element : World → Frame → List Frame → List Item → Option Value → List Value → Option Next
adds_element w f fs work None values = raises w (signal (codes "bounds")) f fs work
adds_element w f fs work (Some v) values = adds w f fs work v values

-- an operation on values ended
abbrev pub ended : World → Frame → List Frame → List Item → List Value → Option OpEnd → Option Next
ended w f fs work values None = None
ended w f fs work values (Some (end.Value v)) = adds w f fs work v values
ended w f fs work values (Some (end.Signal s)) = raises w s f fs work

-- the store refused it
abbrev pub refused : World → Frame → List Frame → List Item → RegionFault → Option Next
refused w f fs work fault.Old = gives_up w
refused w f fs work fault.Bounds = raises w (signal (codes "bounds")) f fs work
refused w f fs work fault.Range = fails w (codes "array range") f fs work
refused w f fs work fault.Full = fails w (codes "store limit") f fs work
refused w f fs work fault.Memory = None

-- the objects become these, and the value is added, unless the store refuses it
abbrev pub stores : World → Frame → List Frame → List Item → List Value → Option RegionFault → Act → Store → Option Value → Option Next
stores w f fs work values (Some fault) does store v = refused w f fs work fault
stores w f fs work values None does store None = None
stores w f fs work values None does store (Some v) =
    Some (record { left = []; act = does; store = store; frames = with f work (v ∷ values) ∷ fs })

-- ---- objects are made

-- the address that the next object will have
abbrev pub new_addr : World → Addr
new_addr w = record { 0 = length w.store }

-- a new object, with this act
abbrev pub makes : World → Frame → List Frame → List Item → List Value → Act → Obj → Option Next
makes w f fs work values does o =
    stores w f fs work values (add_refusal (store_of w) o) does (w.store ++ o ∷ []) (Some (value.Ref (new_addr w)))

-- an empty array from this index, where the index and the one below it may be low and high
abbrev pub makes_array : World → Frame → List Frame → List Item → List Value → ℤ → Option Next
makes_array w f fs work values low =
    if is_sound (obj.Arr low []) then makes w f fs work values act.Went (obj.Arr low []) else fails w (codes "array range") f fs work

-- a semaphore with this count, from 0 to 2^62
abbrev pub makes_semaphore : World → Frame → List Frame → List Item → List Value → ℤ → Option Next
makes_semaphore w f fs work values (negsuc n) = fails w (codes "semaphore range") f fs work
makes_semaphore w f fs work values (pos n) =
    if nat_le n (2 ^ 62) then makes w f fs work values (act.MakeSync (new_addr w) n) obj.Sem else fails w (codes "semaphore range") f fs work

-- ---- objects change

abbrev pub stores_item : World → Frame → List Frame → List Item → List Value → ℕ → ℤ → Value → Option Next
stores_item w f fs work values at k x =
    stores w f fs work values (store_refusal (store_of w) at k) act.Went (put_array w.store at (with_item (array_at w.store at) k x)) (Some value.Nil)

abbrev pub adds_high : World → Frame → List Frame → List Item → List Value → ℕ → Value → Option Next
adds_high w f fs work values at x =
    stores w f fs work values (add_high_refusal (store_of w) at x) act.Went (put_array w.store at (with_high (array_at w.store at) x)) (Some value.Nil)

abbrev pub adds_low : World → Frame → List Frame → List Item → List Value → ℕ → Value → Option Next
adds_low w f fs work values at x =
    stores w f fs work values (add_low_refusal (store_of w) at x) act.Went (put_array w.store at (with_low (array_at w.store at) x)) (Some value.Nil)

abbrev pub removes_high : World → Frame → List Frame → List Item → List Value → ℕ → Option Next
removes_high w f fs work values at =
    stores w f fs work values (rem_high_refusal (store_of w) at) act.Went (put_array w.store at (without_high (array_at w.store at))) (last_of (array_at w.store at).items)

abbrev pub removes_low : World → Frame → List Frame → List Item → List Value → ℕ → Option Next
removes_low w f fs work values at =
    stores w f fs work values (rem_low_refusal (store_of w) at) act.Went (put_array w.store at (without_low (array_at w.store at))) (slice_get (array_at w.store at).items 0)

-- a field of a record is set
abbrev pub sets_field : World → Frame → List Frame → List Item → List Value → ℕ → ℕ → Value → Option Next
sets_field w f fs work values at field x =
    if nat_lt field (length (fields_at w.store at))
    then stores w f fs work values (set_field_refusal (store_of w) at) act.Went (put_field w.store at field x) (Some value.Nil)
    else None

-- ---- the table

-- how many operands an operation on values takes
abbrev pub operands_of : Op → ℕ
operands_of op.IntMinus = 1
operands_of op.IntParse = 1
operands_of op.IntUnparse = 1
operands_of op.BoolNot = 1
operands_of op.CharC2i = 1
operands_of op.CharI2c = 1
operands_of op.StrSize = 1
operands_of op.StrSubstr = 3
operands_of _ = 2

-- What an operation does. The node counts and queues at a semaphore, and gives the value of an operation on one.
abbrev pub apply : World → Op → Frame → List Frame → List Item → Option Next
apply w op.ArrNew f fs work = makes w f fs work f.values act.Went (obj.Arr (pos 1) [])
apply w op.ArrCreate f fs work = taking f.values (λ v values. on_int v (makes_array w f fs work values))
apply w op.ArrLow f fs work = taking f.values (λ v values. on_array w v (λ at. adds w f fs work (value.Int (array_at w.store at).low) values))
apply w op.ArrHigh f fs work = taking f.values (λ v values. on_array w v (λ at. adds w f fs work (value.Int (high_of (array_at w.store at))) values))
apply w op.ArrSize f fs work = taking f.values (λ v values. on_array w v (λ at. adds w f fs work (value.Int (pos (length (array_at w.store at).items))) values))
apply w op.ArrFetch f fs work =
    taking2 f.values (λ v i values. on_array w v (λ at. on_int i (λ k.
    stores w f fs work values (fetch_refusal (store_of w) at k) act.Went w.store (item_at (array_at w.store at) k))))
apply w op.ArrStore f fs work = taking3 f.values (λ v i x values. on_array w v (λ at. on_int i (λ k. stores_item w f fs work values at k x)))
apply w op.ArrAddh f fs work = taking2 f.values (λ v x values. on_array w v (λ at. adds_high w f fs work values at x))
apply w op.ArrAddl f fs work = taking2 f.values (λ v x values. on_array w v (λ at. adds_low w f fs work values at x))
apply w op.ArrRemh f fs work = taking f.values (λ v values. on_array w v (removes_high w f fs work values))
apply w op.ArrReml f fs work = taking f.values (λ v values. on_array w v (removes_low w f fs work values))
apply w op.ArrTop f fs work = taking f.values (λ v values. on_array w v (λ at. adds_element w f fs work (last_of (array_at w.store at).items) values))
apply w op.ArrBottom f fs work = taking f.values (λ v values. on_array w v (λ at. adds_element w f fs work (slice_get (array_at w.store at).items 0) values))
apply w op.ArrEqual f fs work = taking2 f.values (λ v u values. on_ref v (λ a. on_ref u (λ b. adds w f fs work (value.Bool (a.0 == b.0)) values)))
apply w op.RecEqual f fs work = taking2 f.values (λ v u values. on_ref v (λ a. on_ref u (λ b. adds w f fs work (value.Bool (a.0 == b.0)) values)))
apply w op.LockCreate f fs work = makes w f fs work f.values (act.MakeSync (new_addr w) 0) obj.Lock
apply w op.SemCreate f fs work = taking f.values (λ v values. on_int v (makes_semaphore w f fs work values))
apply w op.SemSignal f fs work = taking f.values (λ v values. on_ref v (λ a. gives w [] (act.Signal a) (with f work values ∷ fs)))
apply w op.SemWait f fs work = taking f.values (λ v values. on_ref v (λ a. gives w [] (act.Wait a None) (with f work values ∷ fs)))
apply w op.SemWaitFor f fs work =
    taking2 f.values (λ v t values. on_ref v (λ a. on_int t (λ ms. gives w [] (act.Wait a (Some ms)) (with f work values ∷ fs))))
apply w o f fs work = taking_last (operands_of o) f.values (λ args values. ended w f fs work values (end_of o args))
