-- The objects of a node by address, and what they become.
use Rattle.std.specs.Prelude.{◌≡◌, ◌≤◌, ℕ, ◌+◌, ◌-◌, ◌^◌, ℤ, pos, negsuc, ◌+ℤ◌, ◌-ℤ◌, Bool, true, false, ◌&&◌, nat_le, nat_lt, int_le, unsigned_abs, List, [], ◌∷◌, ◌++◌, length, take, drop, All, sum_by, Option, Some, slice_get, slice_set}
use Rattle.clu_tree.specs.declared.value.Value.{Value}
use Rattle.obj_region.specs.declared.object.Obj.{Obj}
use Rattle.obj_region.specs.declared.object.Obj.TheVariants as obj

-- objects by address, from 0
abbrev pub Store : Type 0
Store = List Obj

-- an array's elements, and the index of the first one
pub record Array : Type 0 where
  pub low : ℤ
  pub items : List Value

-- the index of the last element, or one less than low where there is none
abbrev pub high_of : Array → ℤ
high_of array = (array.low +ℤ pos (length array.items)) -ℤ pos 1

-- the array has an element of this index
abbrev pub in_bounds : Array → ℤ → Bool
in_bounds array index = int_le array.low index && int_le index (high_of array)

-- where the element of an index in bounds stands, from 0
abbrev pub place : Array → ℤ → ℕ
place array index = unsigned_abs (index -ℤ array.low)

-- the element of an index in bounds
abbrev pub item_at : Array → ℤ → Option Value
item_at array index = slice_get array.items (place array index)

-- what low and high may be
abbrev pub is_near : ℤ → Bool
is_near index = int_le (negsuc (2 ^ 62 - 1)) index && int_le index (pos (2 ^ 62))

-- low and high are what they may be
abbrev pub is_ranged : Array → Bool
is_ranged array = is_near array.low && is_near (high_of array)

-- with this element at an index in bounds
abbrev pub with_item : Array → ℤ → Value → Array
with_item array index value = record array { items = slice_set array.items (place array index) value }

-- with one element more, behind the last
abbrev pub with_high : Array → Value → Array
with_high array value = record array { items = array.items ++ value ∷ [] }

-- with one element more, before the first
abbrev pub with_low : Array → Value → Array
with_low array value = record { low = array.low -ℤ pos 1; items = value ∷ array.items }

-- without the last element
abbrev pub without_high : Array → Array
without_high array = record array { items = take (length array.items - 1) array.items }

-- without the first element: the others keep their indexes
abbrev pub without_low : Array → Array
without_low array = record { low = array.low +ℤ pos 1; items = drop 1 array.items }

-- the last element
abbrev pub last_of : List Value → Option Value
last_of items = slice_get items (length items - 1)

-- an object as an array, and an empty array from 1 where it is none
abbrev pub array_of : Option Obj → Array
array_of (Some (obj.Arr low items)) = record { low = low; items = items }
array_of _ = record { low = pos 1; items = [] }

-- an object's fields, of which only a record has any
abbrev pub fields_of : Option Obj → List Value
fields_of (Some (obj.Rec fields)) = fields
fields_of _ = []

-- an array as an object
abbrev pub as_object : Array → Obj
as_object array = obj.Arr array.low array.items

abbrev pub is_array : Option Obj → Bool
is_array (Some (obj.Arr low items)) = true
is_array _ = false

abbrev pub array_at : Store → ℕ → Array
array_at store at = array_of (slice_get store at)

abbrev pub fields_at : Store → ℕ → List Value
fields_at store at = fields_of (slice_get store at)

-- an array stands at this address
abbrev pub IsArrayAt : Store → ℕ → Type 0
IsArrayAt store at = is_array (slice_get store at) ≡ true

-- with this array at an address
abbrev pub put_array : Store → ℕ → Array → Store
put_array store at array = slice_set store at (as_object array)

-- with this value in a field of the record at an address
abbrev pub put_field : Store → ℕ → ℕ → Value → Store
put_field store at field value = slice_set store at (obj.Rec (slice_set (fields_at store at) field value))

-- how many elements or fields an object has
abbrev pub cells_in : Obj → ℕ
cells_in (obj.Arr low items) = length items
cells_in (obj.Rec fields) = length fields
cells_in _ = 0

-- how many elements and fields there are in all
abbrev pub cells : Store → ℕ
cells store = sum_by cells_in store

-- the store takes one object more, which is this
abbrev pub has_room : Store → Obj → Bool
has_room store object = nat_lt (length store) 262144 && nat_le (cells store + cells_in object) 1048576

-- the store takes one element more
abbrev pub has_cell : Store → Bool
has_cell store = nat_lt (cells store) 1048576

-- where the object is an array, its low and high are what they may be
abbrev pub is_sound : Obj → Bool
is_sound (obj.Arr low items) = is_ranged (record { low = low; items = items })
is_sound _ = true

-- the store keeps its limits
pub record IsStore (store : Store) : Type 0 where
  pub objects : length store ≤ 262144
  pub cells_within : cells store ≤ 1048576
  pub ranged : All (λ object. is_sound object ≡ true) store
