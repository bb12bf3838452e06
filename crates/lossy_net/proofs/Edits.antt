-- What holds of each element, or of each and each later one, after an edit of the list.
use Rattle.std.proofs.Common.{◌≡◌, ℕ, suc, ◌+◌, ◌-◌, ◌<◌, ◌≤◌, List, ◌∷◌, length, get_or, set, take, drop, subst, arith, inl, inr, length-set}
use Rattle.std.specs.List.{All, AllPairs, insert, remove}
use Rattle.std.proofs.lemmas.Bool.{cases_order}
use Rattle.std.proofs.lemmas.List.{get_or-set_same, get_or-set_other}
use Rattle.std.proofs.lemmas.List.Edits.{length-insert, get_or-insert_below, get_or-insert_at, get_or-insert_above}
use Rattle.std.proofs.lemmas.List.Elements.{All-append, All-cons, All-take, All-drop}

module _ {X : Type 0} where
  pub All-insert : (P : X → Type 0) (xs : List X) (n : ℕ) (y : X) → All P xs → P y → All P (insert xs n y)
  All-insert P xs n y each here = All-append P (take n xs) (y ∷ drop n xs) (All-take P n xs each) (All-cons P y (drop n xs) here (All-drop P n xs each))

  pub All-remove : (P : X → Type 0) (xs : List X) (n : ℕ) → All P xs → All P (remove xs n)
  All-remove P xs n each = All-append P (take n xs) (drop (suc n) xs) (All-take P n xs each) (All-drop P (suc n) xs each)

  insert_further : (xs : List X) (n k : ℕ) (y d : X) → n ≤ length xs → n < k → get_or (insert xs n y) k d ≡ get_or xs (k - 1) d
  insert_further xs n k y d within further =
      let back : k - 1 + 1 ≡ k = omega arith in
      subst (λ (q : ℕ). get_or (insert xs n y) q d ≡ get_or xs (k - 1) d) back (get_or-insert_above xs n y d (k - 1) (omega arith) within)

  pub AllPairs-insert : (R : X → X → Type 0) (xs : List X) (n : ℕ) (y : X) → n ≤ length xs → ((k : ℕ) (d : X) → k < n → R (get_or xs k d) y) →
      ((k : ℕ) (d : X) → n ≤ k → k < length xs → R y (get_or xs k d)) → AllPairs R xs → AllPairs R (insert xs n y)
  AllPairs-insert R xs n y within before behind pairs i j d less last =
      let longer : j < length xs + 1 = rw (length-insert xs n y within) at last in
      elim (cases_order j n) [
        | inl here ↦ rw (here, get_or-insert_at xs n y d within, get_or-insert_below xs n y d i (omega arith) within) (before i d (omega arith))
        | inr (inl below) ↦ rw (get_or-insert_below xs n y d i (omega arith) within, get_or-insert_below xs n y d j below within) (pairs i j d less (omega arith))
        | inr (inr above) ↦ rw (insert_further xs n j y d within above) (elim (cases_order i n) [
          | inl here ↦ rw (here, get_or-insert_at xs n y d within) (behind (j - 1) d (omega arith) (omega arith))
          | inr (inl below) ↦ rw (get_or-insert_below xs n y d i below within) (pairs i (j - 1) d (omega arith) (omega arith))
          | inr (inr further) ↦ rw (insert_further xs n i y d within further) (pairs (i - 1) (j - 1) d (omega arith) (omega arith))
        ])
      ]

  -- an element that R can't tell from the one that it replaces
  pub AllPairs-set : (R : X → X → Type 0) (xs : List X) (n : ℕ) (y : X) → n < length xs → ((d x : X) → R (get_or xs n d) x → R y x) → ((d x : X) → R x (get_or xs n d) → R x y) →
      AllPairs R xs → AllPairs R (set xs n y)
  AllPairs-set R xs n y within left right pairs i j d less last =
      let same : j < length xs = rw (length-set xs n y) at last in
      elim (cases_order i n) [
        | inl here ↦
            let other : j ≡ n → ⊥ = λ e. omega arith in
            rw (here, get_or-set_same xs n y d within, get_or-set_other xs n j y d other) (left d (get_or xs j d) (pairs n j d (omega arith) same))
        | inr apart ↦
            let other : i ≡ n → ⊥ = λ e. elim apart [ inl less ↦ omega arith | inr more ↦ omega arith ] in
            rw (get_or-set_other xs n i y d other) (elim (cases_order j n) [
              | inl here ↦ rw (here, get_or-set_same xs n y d within) (right d (get_or xs i d) (pairs i n d (omega arith) within))
              | inr far ↦
                  let different : j ≡ n → ⊥ = λ e. elim far [ inl less ↦ omega arith | inr more ↦ omega arith ] in
                  rw (get_or-set_other xs n j y d different) (pairs i j d less same)
            ])
      ]
