-- Why an array of a region can't grow downwards.
use Rattle.std.proofs.Common.{arith, ◌≡◌, ℕ, ◌≢◌, true, false, None, Some, Result, Ok, Err, refl, sym, ap}
use Rattle.std.specs.Prelude.{IsErrAnd}
use Rattle.clu_tree.specs.declared.value.Value.{Value}
use Rattle.obj_region.specs.declared.fault.RegionFault.TheVariants.{Full, Memory, Range}
use Rattle.obj_region.specs.declared.fault.RegionFault.{RegionFault}
use Rattle.obj_region.specs.Answers.{add_low_refusal, cause_in, is_old, region_seen}
use Rattle.obj_region.specs.Store.{Store, array_at, has_cell, is_ranged, with_low}
use Rattle.obj_region.proofs.Changing.{Kept}

-- nothing is old in a region
not_old : (s : Store) (at : ℕ) → is_old (region_seen s) at ≡ false
not_old s at = grind arith

full_store : (total : ℕ) (s : Store) → Kept total s → total ≡ 1048576 → has_cell s ≡ false
full_store total s k e = grind (arith, k.0)

free_store : (total : ℕ) (s : Store) → Kept total s → total ≢ 1048576 → has_cell s ≡ true
free_store total s k e = grind (arith, k.0, k.1.cells_within)

pub low_range : (s : Store) (at : ℕ) (v : Value) → false ≡ is_ranged (with_low (array_at s at) v) → Some Range ≡ add_low_refusal (region_seen s) at v
low_range s at v h = rw (not_old s at, sym h) refl

pub low_full : (total : ℕ) (s : Store) (at : ℕ) (v : Value) → Kept total s → true ≡ is_ranged (with_low (array_at s at) v) → total ≡ 1048576 → Some Full ≡ add_low_refusal (region_seen s) at v
low_full total s at v k h e = rw (not_old s at, sym h, full_store total s k e) refl

pub low_free : (total : ℕ) (s : Store) (at : ℕ) (v : Value) → Kept total s → true ≡ is_ranged (with_low (array_at s at) v) → total ≢ 1048576 → None ≡ add_low_refusal (region_seen s) at v
low_free total s at v k h e = rw (not_old s at, sym h, free_store total s k e) refl

-- want of memory is no refusal
pub no_cause : (r : Result Unit RegionFault) → IsErrAnd r (λ fault. fault ≡ Memory) → cause_in r ≡ None
no_cause (Ok x) h = absurd h
no_cause (Err fault) h = ap (λ (f : RegionFault). cause_in {T = Unit} (Err f)) h
