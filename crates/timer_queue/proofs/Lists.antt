-- Facts on filtered, sorted and distinct lists.
use Rattle.std.proofs.Common.{◌≡◌, ◌≢◌, ℕ, zero, suc, ◌+◌, ◌<◌, Bool, true, false, not, cond, ltb, List, [], ◌∷◌, ◌++◌, length, get_or, take, drop, map, Some, None, is_some, refl, sym, ap, ◌∙◌, arith, inl, inr, add-one, length-take, length-drop, get_or-take, get_or-drop, take-append-drop}
use Rattle.std.specs.List.{All, AllByRecursion, IsDistinct, filter, find, position, position_or_len, insert, remove}
use Rattle.std.specs.List.Sorted.{IsStrictlySortedBy}
use Rattle.std.specs.Cmp.{IsTotalOrder}
use Rattle.std.specs.declared.cmp.Ordering.{Ordering}
use Rattle.std.specs.declared.cmp.Ordering.TheVariants.{Less}
use Rattle.std.proofs.lemmas.Bool.Decides.{nat_tests}
use Rattle.std.proofs.lemmas.List.{drop_more, get_or_default}
use Rattle.std.proofs.lemmas.List.Elements.{All-nil, All-cons, All-head, All-tail, All-append, All-weaker, All-from_recursion, recursion_from_All, filter-append}
use Rattle.std.proofs.lemmas.List.Folds.{find_at}
use Rattle.std.proofs.lemmas.Option.{none-some, cond_some, slice_get_cases}

module _ {X : Type 0} (p : X → Bool) where
  -- a filter keeps all of a list whose items all pass, and nothing of one where none does
  pub filter_all : (xs : List X) → All (λ x. p x ≡ true) xs → filter p xs ≡ xs
  filter_all [] h = refl
  filter_all (x ∷ xs) h = rw (All-head (λ y. p y ≡ true) x xs h) (ap (λ ys. x ∷ ys) (filter_all xs (All-tail (λ y. p y ≡ true) x xs h)))

  pub filter_none : (xs : List X) → All (λ x. p x ≡ false) xs → filter p xs ≡ []
  filter_none [] h = refl
  filter_none (x ∷ xs) h = rw (All-head (λ y. p y ≡ false) x xs h) (filter_none xs (All-tail (λ y. p y ≡ false) x xs h))

  -- where the search finds nothing, no item passes
  pub All-from_find : (xs : List X) → find p xs ≡ None → All (λ x. p x ≡ false) xs
  All-from_find [] h = All-nil (λ x. p x ≡ false)
  All-from_find (x ∷ xs) h = elim (p x) as (λ b. p x ≡ b → cond b (Some x) (find p xs) ≡ None → All (λ y. p y ≡ false) (x ∷ xs)) [
    | true ↦ λ e k. absurd (none-some x (sym k))
    | false ↦ λ e k. All-cons (λ y. p y ≡ false) x xs e (All-from_find xs k)
  ] refl h

  -- a place tells whether the search finds something
  pub is_some-find : (xs : List X) (i : ℕ) → position p xs ≡ Some i → is_some (find p xs) ≡ true
  is_some-find xs i at =
      let within = cond_some (ltb (position_or_len p xs) (length xs)) (position_or_len p xs) i at in
      rw find_at (elim (slice_get_cases xs (position_or_len p xs)).1 [
        | inl found ↦ rw found.2 refl
        | inr past ↦ absurd (grind (arith, nat_tests))
      ])

  pub find-none : (xs : List X) → position p xs ≡ None → find p xs ≡ None
  find-none xs none = rw find_at (elim (slice_get_cases xs (position_or_len p xs)).1 [
    | inl found ↦ absurd (grind (arith, nat_tests))
    | inr past ↦ past.1
  ])

module _ {X : Type 0} (p : X → Bool) where
  -- all but one item
  pub filter_but_one : (xs : List X) (i : ℕ) (d : X) → i < length xs → p (get_or xs i d) ≡ true → ((k : ℕ) → k < length xs → k ≢ i → p (get_or xs k d) ≡ false) → filter (λ x. not (p x)) xs ≡ remove xs i
  filter_but_one xs i d within here others =
      let others_pass : (k : ℕ) (e : X) → k < length xs → k ≢ i → not (p (get_or xs k e)) ≡ true = λ k e inside apart. rw (get_or_default xs k e d inside, others k inside apart) refl in
      let before : filter (λ x. not (p x)) (take i xs) ≡ take i xs = filter_all (λ x. not (p x)) (take i xs) (λ k e inside.
      let below : k < i = omega (arith, length-take i xs) in
      rw get_or-take (others_pass k e (omega arith) (omega arith))) in
      let behind : filter (λ x. not (p x)) (drop (i + 1) xs) ≡ drop (i + 1) xs = filter_all (λ x. not (p x)) (drop (i + 1) xs) (λ k e inside.
      rw get_or-drop (others_pass (i + 1 + k) e (omega (arith, length-drop (i + 1) xs)) (omega arith))) in
      let split : xs ≡ take i xs ++ get_or xs i d ∷ drop (i + 1) xs = sym (take-append-drop i xs) ∙ ap (λ ys. take i xs ++ ys) (drop_more xs i d within) in
      ap (filter (λ x. not (p x))) split ∙ filter-append (λ x. not (p x)) (take i xs) (get_or xs i d ∷ drop (i + 1) xs) ∙ rw (before, here, behind, add-one) refl

module _ {X : Type 0} (p : X → Bool) where
  -- a search after an item was put in that passes alone or fails
  pub find-insert : (y : X) (xs : List X) (i : ℕ) → (p y ≡ true → All (λ x. p x ≡ false) xs) → find p (insert xs i y) ≡ cond (p y) (Some y) (find p xs)
  find-insert y xs zero alone = refl
  find-insert y [] (suc i) alone = refl
  find-insert y (x ∷ xs) (suc i) alone =
      let rest = find-insert y xs i (λ passes. All-tail (λ x. p x ≡ false) x xs (alone passes)) in
      let here : p y ≡ true → p x ≡ false = λ passes. All-head (λ x. p x ≡ false) x xs (alone passes) in
      grind (arith, rest, here)

  -- a search among items whose keys all have a property that rules them out
  pub find-none_by : {K : Type 0} (P : K → Type 0) (f : X → K) → ((x : X) → P (f x) → p x ≡ false) → (xs : List X) → AllByRecursion P (map f xs) → find p xs ≡ None
  find-none_by P f fails [] h = refl
  find-none_by P f fails (x ∷ xs) h = rw (fails x h.0) (find-none_by P f fails xs h.1)

  -- a search in a filtered list, where the filter treats all that the search may find alike
  pub find-filter : (q : X → Bool) (b : Bool) → ((x : X) → p x ≡ true → q x ≡ b) → (xs : List X) → find p (filter q xs) ≡ cond b (find p xs) None
  find-filter q b alike [] = grind arith
  find-filter q b alike (x ∷ xs) = grind (arith, alike x, find-filter q b alike xs)

module _ {K : Type 0} {R : K → K → Ordering} (o : IsTotalOrder R) where
  -- a list stays in order around an item that is behind all before it and before all behind it
  pub sorted_around : (xs : List K) (m : K) (ys : List K) → IsStrictlySortedBy R xs → AllByRecursion (λ x. R x m ≡ Less) xs → IsStrictlySortedBy R ys → AllByRecursion (λ y. R m y ≡ Less) ys → IsStrictlySortedBy R (xs ++ m ∷ ys)
  unfolding IsStrictlySortedBy
  sorted_around [] m ys sorted before sorted' behind = (behind, sorted')
  sorted_around (x ∷ xs) m ys sorted before sorted' behind = (recursion_from_All _ _ (All-append (λ y. R x y ≡ Less) xs (m ∷ ys) (All-from_recursion _ xs sorted.0) (All-cons (λ y. R x y ≡ Less) m ys before.0 (All-weaker (λ y. R m y ≡ Less) (λ y. R x y ≡ Less) (λ y less. o.trans x m y before.0 less) ys (All-from_recursion _ ys behind)))), sorted_around xs m ys sorted.1 before.1 sorted' behind)

module _ {X K : Type 0} (eq : K → K → Bool) (f : X → K) (p : X → Bool) where
  -- a filter keeps the keys apart
  rest_filter : (P : K → Type 0) (xs : List X) → AllByRecursion P (map f xs) → AllByRecursion P (map f (filter p xs))
  rest_filter P [] h = h
  rest_filter P (x ∷ xs) h = elim (p x) as (λ b. AllByRecursion P (map f (cond b (x ∷ filter p xs) (filter p xs)))) [
    | true ↦ (h.0, rest_filter P xs h.1)
    | false ↦ rest_filter P xs h.1
  ]

  pub distinct_filter : (xs : List X) → IsDistinct eq (map f xs) → IsDistinct eq (map f (filter p xs))
  unfolding IsDistinct
  distinct_filter [] h = h
  distinct_filter (x ∷ xs) h = elim (p x) as (λ b. IsDistinct eq (map f (cond b (x ∷ filter p xs) (filter p xs)))) [
    | true ↦ (rest_filter (λ y. eq (f x) y ≡ false) xs h.0, distinct_filter xs h.1)
    | false ↦ distinct_filter xs h.1
  ]
