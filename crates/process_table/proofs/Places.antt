-- Entries in the order of their numbers: what a search by number finds, and what an edit at that place does.
use Rattle.std.proofs.Common.{◌≡◌, ℕ, zero, suc, ◌<◌, ◌≤◌, true, false, cond, eqb, List, [], ◌∷◌, ◌++◌, length, get_or, set, Some, None, is_some, slice_get, Result, Ok, Err, refl, sym, ◌∙◌, inl, inr, arith}
use Rattle.std.specs.List.{AllByRecursion, remove}
use Rattle.std.specs.List.Sorted.{IsStrictlySortedBy, IsSearchInRange, IsBinarySearchResult, IsNonDecreasingBy}
use Rattle.std.specs.Map.{lookup, keys_of, remove_entry, set_value}
use Rattle.std.specs.Option.{IfSome}
use Rattle.std.specs.Result.{result_ok}
use Rattle.std.specs.Ordering.{nat_cmp, ordering_index}
use Rattle.std.specs.declared.cmp.Ordering.TheVariants.{Less, Equal}
use Rattle.std.proofs.lemmas.Bool.{cases_lt}
use Rattle.std.proofs.lemmas.Bool.Decides.{nat_tests}
use Rattle.std.proofs.lemmas.Cmp.{ranked}
use Rattle.std.proofs.lemmas.List.{get_or-map, length-map}
use Rattle.std.proofs.lemmas.List.Elements.{All-push, All-from_recursion, recursion_from_All}
use Rattle.std.proofs.lemmas.Map.{lookup-none}
use Rattle.std.proofs.lemmas.Map.Keys.{below_from_sorted, sorted_head, sorted_tail}
use Rattle.std.proofs.lemmas.Option.{none-some, slice_get-map, slice_get_cases, slice_get_within, get_or_from_slice_get}

module _ {X : Type 0} where
  -- the numbers rise
  abbrev pub Rise : List (ℕ × X) → Type 0
  Rise es = IsStrictlySortedBy nat_cmp (keys_of es)

  -- the first number is below one at a later place
  head_below : (e : ℕ × X) (es : List (ℕ × X)) (i k : ℕ) → Rise (e ∷ es) → slice_get (keys_of es) i ≡ Some k → e.0 < k
  head_below e es i k rise at =
      let less = All-from_recursion (λ y. nat_cmp e.0 y ≡ Less) (keys_of es) (sorted_head nat_cmp e.0 (keys_of es) rise) i k (slice_get_within (keys_of es) i k at) in
      ranked e.0 k Less (sym (rw (get_or_from_slice_get (keys_of es) i k k at) at less))

  -- the tail rises too
  pub rise_tail : (e : ℕ × X) (es : List (ℕ × X)) → Rise (e ∷ es) → Rise es
  rise_tail e es rise = sorted_tail nat_cmp e.0 (keys_of es) rise

  -- a number isn't found among greater ones
  none_above : (a : ℕ) (es : List (ℕ × X)) → AllByRecursion (λ y. nat_cmp a y ≡ Less) (keys_of es) → lookup (eqb a) es ≡ None
  none_above a [] above = refl
  none_above a (e ∷ es) above = grind (arith, nat_tests, above.0, none_above a es above.1)

  -- after an entry was taken out all other numbers are found as before
  pub lookup-remove : (k q : ℕ) (es : List (ℕ × X)) → Rise es → lookup (eqb q) (remove_entry (eqb k) es) ≡ cond (eqb k q) None (lookup (eqb q) es)
  lookup-remove k q [] rise = grind arith
  lookup-remove k q (e ∷ es) rise = grind (arith, nat_tests, none_above e.0 es (sorted_head nat_cmp e.0 (keys_of es) rise), lookup-remove k q es (rise_tail e es rise))

  above_remove : (P : ℕ → Type 0) (k : ℕ) (es : List (ℕ × X)) → AllByRecursion P (keys_of es) → AllByRecursion P (keys_of (remove_entry (eqb k) es))
  above_remove P k [] all = all
  above_remove P k (e ∷ es) all = elim (eqb k e.0) as (λ b. AllByRecursion P (keys_of (cond b es (e ∷ remove_entry (eqb k) es)))) [
    | true ↦ all.1
    | false ↦ (all.0, above_remove P k es all.1)
  ]

  pub Rise-remove : (k : ℕ) (es : List (ℕ × X)) → Rise es → Rise (remove_entry (eqb k) es)
  unfolding IsStrictlySortedBy
  Rise-remove k [] rise = rise
  Rise-remove k (e ∷ es) rise = elim (eqb k e.0) as (λ b. Rise (cond b es (e ∷ remove_entry (eqb k) es))) [
    | true ↦ rise.1
    | false ↦ (above_remove (λ y. nat_cmp e.0 y ≡ Less) k es rise.0, Rise-remove k es rise.1)
  ]

  pub length-remove_le : (k : ℕ) (es : List (ℕ × X)) → length (remove_entry (eqb k) es) ≤ length es
  length-remove_le k [] = omega arith
  length-remove_le k (e ∷ es) = grind (arith, length-remove_le k es)

  pub lookup_at : (k : ℕ) (es : List (ℕ × X)) (i : ℕ) (d : ℕ × X) → Rise es → slice_get (keys_of es) i ≡ Some k → lookup (eqb k) es ≡ Some (get_or es i d).1
  lookup_at k [] i d rise at = absurd (none-some k at)
  lookup_at k (e ∷ es) zero d rise at = grind (arith, nat_tests)
  lookup_at k (e ∷ es) (suc i) d rise at = grind (arith, nat_tests, head_below e es i k rise at, lookup_at k es i d (rise_tail e es rise) at)

  pub set_at : (k : ℕ) (x : X) (es : List (ℕ × X)) (i : ℕ) → Rise es → slice_get (keys_of es) i ≡ Some k → set es i (k, x) ≡ set_value (eqb k) es x
  set_at k x [] i rise at = absurd (none-some k at)
  set_at k x (e ∷ es) zero rise at = grind (arith, nat_tests)
  set_at k x (e ∷ es) (suc i) rise at = grind (arith, nat_tests, head_below e es i k rise at, set_at k x es i (rise_tail e es rise) at)

  pub remove_at : (k : ℕ) (es : List (ℕ × X)) (i : ℕ) → Rise es → slice_get (keys_of es) i ≡ Some k → remove es i ≡ remove_entry (eqb k) es
  remove_at k [] i rise at = absurd (none-some k at)
  remove_at k (e ∷ es) zero rise at = grind (arith, nat_tests)
  remove_at k (e ∷ es) (suc i) rise at = grind (arith, nat_tests, head_below e es i k rise at, remove_at k es i (rise_tail e es rise) at)

module _ {X : Type 0} (es : List (ℕ × X)) (rise : Rise es) (k : ℕ) where
  -- a later place has no lower number
  number_le : (i j : ℕ) (d : ℕ × X) → i ≤ j → j < length es → (get_or es i d).0 ≤ (get_or es j d).0
  number_le i j d le within = elim (cases_lt i j) [
    | inl below ↦
        let number : ℕ × X → ℕ = λ e. e.0 in
        let rises = below_from_sorted (keys_of es) i j d.0 rise below (rw length-map within) in
        let at_i = get_or-map number es i d d.0 (omega arith) in
        let at_j = get_or-map number es j d d.0 within in
        omega (arith, at_i, at_j)
    | inr above ↦ let same : i ≡ j = omega arith in rw same (omega arith)
  ]

  -- the comparisons with a number rise along the entries, as a binary search asks
  comparisons_rise : IsNonDecreasingBy (λ (e : ℕ × X). ordering_index (nat_cmp e.0 k)) es
  comparisons_rise i j d le within = grind (arith, nat_tests, number_le i j d le within)

  -- where the search ends with no hit no entry has the number
  lookup_in_gap : (i : ℕ) → IsBinarySearchResult (λ (e : ℕ × X). nat_cmp e.0 k) es (Err i) → lookup (eqb k) es ≡ None
  lookup_in_gap i parted = lookup-none (eqb k) es (recursion_from_All (λ e. eqb k e.0 ≡ false) es (λ j d within. elim (cases_lt j i) [
    | inl below ↦ let less = (parted comparisons_rise).0 j d (omega arith) below in grind (arith, nat_tests)
    | inr above ↦ let greater = (parted comparisons_rise).1 j d above within in grind (arith, nat_tests)
  ]))

  -- a binary search by number ends at the entry of the number
  place_is : (i : ℕ) → i < length es → IsBinarySearchResult (λ (e : ℕ × X). nat_cmp e.0 k) es (Ok i) → (x : ℕ × X) × (slice_get (keys_of es) i ≡ Some k)
  place_is i within equal = elim (slice_get_cases es i).1 [
    | inl at ↦
        let read : nat_cmp (get_or es i at.0).0 k ≡ Equal = equal at.0 in
        let here : at.0.0 ≡ k = ranked at.0.0 k Equal (sym (rw at.3 at read)) in
        (at.0, slice_get-map (λ (e : ℕ × X). e.0) es i ∙ rw (at.2, here) refl)
    | inr past ↦ absurd (omega arith)
  ]

  -- a binary search by number finds an entry exactly where the number has one
  pub searched : (r : Result ℕ ℕ) → IsSearchInRange r (length es) → IsBinarySearchResult (λ (e : ℕ × X). nat_cmp e.0 k) es r → (is_some (result_ok r) ≡ is_some (lookup (eqb k) es)) × IfSome (result_ok r) (λ i. slice_get (keys_of es) i ≡ Some k)
  searched (Ok i) within equal =
      let at = place_is i within equal in
      (rw (lookup_at k es i at.0 rise at.1) refl, at.1)
  searched (Err i) within parted = (rw (lookup_in_gap i parted) refl, tt)

-- a number above all others goes last
pub sorted_push : (xs : List ℕ) (y : ℕ) → IsStrictlySortedBy nat_cmp xs → AllByRecursion (λ x. x < y) xs → IsStrictlySortedBy nat_cmp (xs ++ y ∷ [])
unfolding IsStrictlySortedBy
sorted_push [] y sorted below = (tt, tt)
sorted_push (x ∷ xs) y sorted below =
    let less : nat_cmp x y ≡ Less = grind (arith, nat_tests, below.0) in
    (recursion_from_All _ _ (All-push (λ z. nat_cmp x z ≡ Less) xs y (All-from_recursion _ xs sorted.0) less), sorted_push xs y sorted.1 below.1)
