-- A store as contracts see it, and when a call on it is refused.
use Rattle.std.specs.Prelude.{ℕ, ℤ, Bool, false, not, if◌then◌else◌, nat_lt, nat_eq, [], length, Option, Some, None, is_none, Result, Ok, Err}
use Rattle.clu_tree.specs.declared.value.Value.{Value}
use Rattle.obj_region.specs.declared.object.Obj.{Obj}
use Rattle.obj_region.specs.declared.fault.RegionFault.{RegionFault}
use Rattle.obj_region.specs.declared.fault.RegionFault.TheVariants.{Full, Bounds, Range, Old, Memory}
use Rattle.obj_region.specs.Store.{Store, Array, array_at, has_cell, has_room, in_bounds, is_ranged, put_array, put_field, with_high, with_low, without_high, without_low}

-- The objects, and what no call changes: the bound below which objects don't change, the objects below it, and of which
-- region they are, where they are lent.
pub record StoreSeen : Type 0 where
  pub objects : Store
  pub bound : ℕ
  pub below : Store
  pub lender : Option ℕ

-- a region's objects, all of which may change
abbrev pub region_seen : Store → StoreSeen
region_seen objects = record { objects = objects; bound = 0; below = []; lender = None }

-- with these objects
abbrev pub holding : StoreSeen → Store → StoreSeen
holding seen objects = record seen { objects = objects }

-- with this array at an address
abbrev pub with_array : StoreSeen → ℕ → Array → StoreSeen
with_array seen at array = holding seen (put_array seen.objects at array)

-- with this value in a field of the record at an address
abbrev pub with_field : StoreSeen → ℕ → ℕ → Value → StoreSeen
with_field seen at field value = holding seen (put_field seen.objects at field value)

-- the number of objects of a region; of a lent one, of those below the bound
abbrev pub mark_of : StoreSeen → ℕ
mark_of seen = if is_none seen.lender then length seen.objects else seen.bound

-- the object may not change
abbrev pub is_old : StoreSeen → ℕ → Bool
is_old seen at = nat_lt at seen.bound

-- the first cause that there is, in this order
abbrev pub first_cause : Bool → Bool → Bool → Bool → Option RegionFault
first_cause old bounds range full =
    if old
    then Some Old
    else (if bounds
    then Some Bounds
    else (if range
    then Some Range
    else (if full then Some Full else None)))

-- the cause that an answer names: want of memory has none
abbrev pub cause_in : {T : Type 0} → Result T RegionFault → Option RegionFault
cause_in (Ok x) = None
cause_in (Err Memory) = None
cause_in (Err Full) = Some Full
cause_in (Err Bounds) = Some Bounds
cause_in (Err Range) = Some Range
cause_in (Err Old) = Some Old

-- done, or refused with the cause that there is
abbrev pub done_unless : Option RegionFault → Result Unit RegionFault
done_unless None = Ok tt
done_unless (Some fault) = Err fault

-- ---- why a call is refused, if it is

abbrev pub add_refusal : StoreSeen → Obj → Option RegionFault
add_refusal seen object = first_cause false false false (not (has_room seen.objects object))

abbrev pub set_field_refusal : StoreSeen → ℕ → Option RegionFault
set_field_refusal seen at = first_cause (is_old seen at) false false false

abbrev pub fetch_refusal : StoreSeen → ℕ → ℤ → Option RegionFault
fetch_refusal seen at index = first_cause false (not (in_bounds (array_at seen.objects at) index)) false false

abbrev pub store_refusal : StoreSeen → ℕ → ℤ → Option RegionFault
store_refusal seen at index = first_cause (is_old seen at) (not (in_bounds (array_at seen.objects at) index)) false false

abbrev pub add_high_refusal : StoreSeen → ℕ → Value → Option RegionFault
add_high_refusal seen at value =
    first_cause (is_old seen at) false (not (is_ranged (with_high (array_at seen.objects at) value))) (not (has_cell seen.objects))

abbrev pub add_low_refusal : StoreSeen → ℕ → Value → Option RegionFault
add_low_refusal seen at value =
    first_cause (is_old seen at) false (not (is_ranged (with_low (array_at seen.objects at) value))) (not (has_cell seen.objects))

-- an element is taken out, which leaves this array
abbrev pub rem_refusal : StoreSeen → ℕ → Array → Option RegionFault
rem_refusal seen at left =
    first_cause (is_old seen at) (nat_eq (length (array_at seen.objects at).items) 0) (not (is_ranged left)) false

abbrev pub rem_high_refusal : StoreSeen → ℕ → Option RegionFault
rem_high_refusal seen at = rem_refusal seen at (without_high (array_at seen.objects at))

abbrev pub rem_low_refusal : StoreSeen → ℕ → Option RegionFault
rem_low_refusal seen at = rem_refusal seen at (without_low (array_at seen.objects at))
