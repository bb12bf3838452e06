-- What a store keeps when one of its objects changes.
use Rattle.std.proofs.Common.{arith, ◌≡◌, ℕ, zero, suc, ◌<◌, ◌≤◌, ◌+◌, ◌-◌, ℤ, pos, ◌≢◌, ◌∙◌, sym, [], ◌∷◌, ◌++◌, length, true, Some, refl, ap, length-append, length-drop, length-set, length-take, slice_get, slice_set}
use Rattle.std.proofs.lemmas.Bool.{false≢true}
use Rattle.std.proofs.lemmas.List.Elements.{All-pop, All-set}
use Rattle.std.proofs.lemmas.List.Sums.{sum_by-cons, sum_by_push}
use Rattle.std.proofs.lemmas.Option.{get_or_from_slice_get, none-some, slice_get_within}
use Rattle.obj_region.specs.declared.object.Obj.{Obj}
use Rattle.obj_region.specs.declared.object.Obj.TheVariants as obj
use Rattle.clu_tree.specs.declared.value.Value.{Value}
use Rattle.obj_region.specs.Store.{Store, Array, IsArrayAt, IsStore, array_at, as_object, cells, cells_in, fields_at, is_ranged, is_sound, place, put_array, put_field, with_high, with_item, with_low, without_high, without_low}

-- where an array is at an address, it is the one read there
pub array_there : (s : Store) (at : ℕ) → IsArrayAt s at → slice_get s at ≡ Some (as_object (array_at s at))
array_there [] at h = absurd (false≢true h)
array_there (obj.Arr low items ∷ s) zero h = refl
array_there (obj.Rec fields ∷ s) zero h = absurd (false≢true h)
array_there (obj.One tag v ∷ s) zero h = absurd (false≢true h)
array_there (obj.Lock ∷ s) zero h = absurd (false≢true h)
array_there (obj.Sem ∷ s) zero h = absurd (false≢true h)
array_there (o ∷ s) (suc at) h = array_there s at h

-- where the object at an address has a field, it is a record of the fields read there
pub record_there : (s : Store) (at field : ℕ) → field < length (fields_at s at) → slice_get s at ≡ Some (obj.Rec (fields_at s at))
record_there [] at field h = absurd (omega arith)
record_there (obj.Arr low items ∷ s) zero field h = absurd (omega arith)
record_there (obj.Rec fields ∷ s) zero field h = refl
record_there (obj.One tag v ∷ s) zero field h = absurd (omega arith)
record_there (obj.Lock ∷ s) zero field h = absurd (omega arith)
record_there (obj.Sem ∷ s) zero field h = absurd (omega arith)
record_there (o ∷ s) (suc at) field h = record_there s at field h

-- another object at an address
pub cells-set : (s : Store) (at : ℕ) (old new : Obj) → slice_get s at ≡ Some old → cells (slice_set s at new) + cells_in old ≡ cells s + cells_in new
cells-set [] at old new h = absurd (none-some old h)
cells-set (o ∷ s) zero old new h =
    let same : cells_in o ≡ cells_in old = ap cells_in (get_or_from_slice_get (o ∷ s) 0 old o h) in
    omega (arith, sum_by-cons cells_in o s, sum_by-cons cells_in new s, same)
cells-set (o ∷ s) (suc at) old new h =
    omega (arith, sum_by-cons cells_in o s, sum_by-cons cells_in o (slice_set s at new), cells-set s at old new h)

-- another array where one is
pub cells-put : (s : Store) (at : ℕ) (array : Array) → IsArrayAt s at → cells (put_array s at array) + length (array_at s at).items ≡ cells s + length array.items
cells-put s at array h = cells-set s at (as_object (array_at s at)) (as_object array) (array_there s at h)

keeps_array : (s : Store) (at : ℕ) (array : Array) → IsStore s → is_ranged array ≡ true → cells (put_array s at array) ≤ 1048576 → IsStore (put_array s at array)
keeps_array s at array kept range few = record {
  objects = rw (length-set s at (as_object array)) kept.objects;
  cells_within = few;
  ranged = All-set (λ o. is_sound o ≡ true) s at (as_object array) range kept.ranged;
}

-- an array's elements are among all
pub items_within : (s : Store) (at : ℕ) → IsArrayAt s at → length (array_at s at).items ≤ cells s
items_within s at h = omega (arith, cells-put s at (record { low = pos 0; items = [] }) h)

-- the number of all elements and fields, and what holds of the store
abbrev pub Kept : ℕ → Store → Type 0
Kept total s = (total ≡ cells s) × IsStore s

kept_put : (total new : ℕ) (s : Store) (at : ℕ) (array : Array) → Kept total s → IsArrayAt s at → is_ranged array ≡ true → new + length (array_at s at).items ≡ total + length array.items → new ≤ 1048576 → Kept new (put_array s at array)
kept_put total new s at array k h range e few =
    let n : new ≡ cells (put_array s at array) = omega (arith, k.0, cells-put s at array h) in
    (n, keeps_array s at array k.1 range (omega (arith, n)))

-- an array that stands in a store is in range
ranged_there : (s : Store) (at : ℕ) → IsStore s → IsArrayAt s at → is_ranged (array_at s at) ≡ true
ranged_there s at kept h =
    let there = array_there s at h in
    let within : at < length s = slice_get_within s at (as_object (array_at s at)) there in
    rw (get_or_from_slice_get s at (as_object (array_at s at)) (as_object (array_at s at)) there) at (kept.ranged at (as_object (array_at s at)) within)

-- another value at an index
pub kept_item : (total : ℕ) (s : Store) (at : ℕ) (index : ℤ) (v : Value) → Kept total s → IsArrayAt s at → Kept total (put_array s at (with_item (array_at s at) index v))
kept_item total s at index v k h =
    let len : length (with_item (array_at s at) index v).items ≡ length (array_at s at).items = length-set (array_at s at).items (place (array_at s at) index) v in
    let range : is_ranged (with_item (array_at s at) index v) ≡ true = rw len (ranged_there s at k.1 h) in
    kept_put total total s at _ k h range (omega (arith, len)) (omega (arith, k.0, k.1.cells_within))

-- one element more behind the last
pub kept_high : (total : ℕ) (s : Store) (at : ℕ) (v : Value) → Kept total s → total ≢ 1048576 → IsArrayAt s at → is_ranged (with_high (array_at s at) v) ≡ true → Kept (total + 1) (put_array s at (with_high (array_at s at) v))
kept_high total s at v k l h range =
    kept_put total (total + 1) s at _ k h range (omega (arith, length-append (array_at s at).items (v ∷ []))) (omega (arith, k.0, k.1.cells_within))

-- one element more before the first
pub kept_low : (total : ℕ) (s : Store) (at : ℕ) (v : Value) → Kept total s → total ≢ 1048576 → IsArrayAt s at → is_ranged (with_low (array_at s at) v) ≡ true → Kept (total + 1) (put_array s at (with_low (array_at s at) v))
kept_low total s at v k l h range =
    kept_put total (total + 1) s at _ k h range (omega arith) (omega (arith, k.0, k.1.cells_within))

-- without the last element
pub kept_without_high : (total : ℕ) (s : Store) (at : ℕ) → Kept total s → IsArrayAt s at → 0 < length (array_at s at).items → is_ranged (without_high (array_at s at)) ≡ true → Kept (total - 1) (put_array s at (without_high (array_at s at)))
kept_without_high total s at k h some range =
    kept_put total (total - 1) s at _ k h range (omega (arith, k.0, items_within s at h, length-take (length (array_at s at).items - 1) (array_at s at).items)) (omega (arith, k.0, k.1.cells_within))

-- without the first element
pub kept_without_low : (total : ℕ) (s : Store) (at : ℕ) → Kept total s → IsArrayAt s at → 0 < length (array_at s at).items → is_ranged (without_low (array_at s at)) ≡ true → Kept (total - 1) (put_array s at (without_low (array_at s at)))
kept_without_low total s at k h some range =
    kept_put total (total - 1) s at _ k h range (omega (arith, k.0, items_within s at h, length-drop 1 (array_at s at).items)) (omega (arith, k.0, k.1.cells_within))

-- another value in a field
cells-field : (s : Store) (at field : ℕ) (v : Value) → field < length (fields_at s at) → cells (put_field s at field v) ≡ cells s
cells-field s at field v h =
    omega (arith, cells-set s at (obj.Rec (fields_at s at)) (obj.Rec (slice_set (fields_at s at) field v)) (record_there s at field h), length-set (fields_at s at) field v)

keeps_field : (s : Store) (at field : ℕ) (v : Value) → IsStore s → field < length (fields_at s at) → IsStore (put_field s at field v)
keeps_field s at field v kept h = record {
  objects = rw (length-set s at (obj.Rec (slice_set (fields_at s at) field v))) kept.objects;
  cells_within = rw (cells-field s at field v h) kept.cells_within;
  ranged = All-set (λ o. is_sound o ≡ true) s at (obj.Rec (slice_set (fields_at s at) field v)) refl kept.ranged;
}

-- another value in a field
pub kept_field : (total : ℕ) (s : Store) (at field : ℕ) (v : Value) → Kept total s → field < length (fields_at s at) → Kept total (put_field s at field v)
kept_field total s at field v k h = (k.0 ∙ sym (cells-field s at field v h), keeps_field s at field v k.1 h)

-- the last object is taken out
pub kept_popped : (total : ℕ) (old new : Store) (o : Obj) → old ≡ new ++ o ∷ [] → Kept total old → (cells_in o ≤ total) × Kept (total - cells_in o) new
kept_popped total old new o e k =
    let n : cells old ≡ cells new + cells_in o = rw e (sum_by_push cells_in new o) in
    let len : length old ≡ length new + 1 = rw e (length-append new (o ∷ [])) in (
      omega (arith, k.0),
      (
        omega (arith, k.0),
        record {
          objects = omega (arith, k.1.objects);
          cells_within = omega (arith, k.1.cells_within);
          ranged = (All-pop (λ o. is_sound o ≡ true) old new (Some o) e k.1.ranged).0;
        },
      ),
    )
