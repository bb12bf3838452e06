-- What a queue is after a limit was added, taken away or expired.
use Rattle.std.proofs.Common.{◌≡◌, ℕ, ◌+◌, ◌<◌, ◌≤◌, Bool, true, false, cond, not, List, [], ◌∷◌, ◌++◌, length, get_or, take, drop, map, Option, Some, None, is_some, slice_get, refl, sym, ap, ◌∙◌, subst, inl, inr, arith, length-take, length-drop, get_or-take, get_or-drop, take-append-drop, append-nil}
use Rattle.std.specs.List.{All, AllWithin, IsDistinct, filter, find, position, insert, remove}
use Rattle.std.specs.List.Sorted.{IsStrictlySortedBy, IsPartitionedBy}
use Rattle.std.specs.Option.{option_map}
use Rattle.std.specs.Ordering.{is_lt}
use Rattle.std.specs.declared.cmp.Ordering.TheVariants.{Less}
use Rattle.std.proofs.lemmas.Bool.{cases_lt}
use Rattle.std.proofs.lemmas.Bool.Decides.{nat_tests}
use Rattle.std.proofs.lemmas.List.{get_or-map, length-map}
use Rattle.std.proofs.lemmas.List.Elements.{All-cons, All-drop, All-map, All-weaker, All-from_recursion, recursion_from_All, filter-append, filter_passes}
use Rattle.std.proofs.lemmas.List.Kept.{IsStrictlySortedBy-filter}
use Rattle.std.proofs.lemmas.List.Quantifiers.{position-Some}
use Rattle.std.proofs.lemmas.List.Sorted.{IsPermutation-insert, IsPermutation-map}
use Rattle.std.proofs.lemmas.Map.Keys.{Less-from_sorted, IsDistinct-cons, IsDistinct-IsPermutation, apart_from_distinct}
use Rattle.world_types.specs.declared.effects.Owner.{Owner}
use Rattle.timer_queue.specs.Limits.{Limit, IsQueue, expiry_order, same_owner, limit_of, with_limit, without, ChangesOnly, ExpiresBefore}
use Rattle.timer_queue.proofs.Lists.{filter_all, filter_none, All-from_find, is_some-find, find-none, filter_but_one, find-insert, find-none_by, find-filter, sorted_around, distinct_filter}
use Rattle.timer_queue.proofs.Order.{expiry_total, less_from_is_lt, not_both, one_first, time_le, same_owner-flip, same_owner-apart}

-- what expires before a limit of the queue also expires before those behind it
pub partitioned : (q : List Limit) (new : Limit) → IsQueue q → IsPartitionedBy (λ l. is_lt (expiry_order l new)) q
partitioned q new queue i j d le within less = elim (cases_lt i j) [
  | inl below ↦ rw (expiry_total.trans (get_or q i d) (get_or q j d) new (Less-from_sorted expiry_order q i j d queue.ordered below within) (less_from_is_lt _ less)) refl
  | inr above ↦ let same : i ≡ j = omega arith in rw same less
]

find_none : (o : Option Limit) → option_map (λ l. l.0) o ≡ None → o ≡ None
find_none None h = refl
find_none (Some l) h = absurd (grind arith)

is_some-option_map : (o : Option Limit) → is_some o ≡ true → is_some (option_map (λ l. l.0) o) ≡ true
is_some-option_map None h = h
is_some-option_map (Some l) h = h

-- an owner has a limit exactly where one of its limits has a place
pub limit_of-at : (q : List Limit) (owner : Owner) (i : ℕ) → position (λ l. same_owner owner l.1) q ≡ Some i → is_some (limit_of q owner) ≡ true
limit_of-at q owner i at = is_some-option_map _ (is_some-find (λ l. same_owner owner l.1) q i at)

pub limit_of-none : (q : List Limit) (owner : Owner) → position (λ l. same_owner owner l.1) q ≡ None → limit_of q owner ≡ None
limit_of-none q owner none = ap (option_map (λ l. l.0)) (find-none (λ l. same_owner owner l.1) q none)

mapped : (b : Bool) (x y : Option Limit) → option_map (λ l. l.0) (cond b x y) ≡ cond b (option_map (λ l. l.0) x) (option_map (λ l. l.0) y)
mapped true x y = refl
mapped false x y = refl

turned : {A : Type 0} (b : Bool) (x y : A) → cond (not b) x y ≡ cond b y x
turned true x y = refl
turned false x y = refl

-- an owner without a limit has none of the queue's
pub All-apart : (q : List Limit) (owner : Owner) → limit_of q owner ≡ None → All (λ l. same_owner owner l.1 ≡ false) q
All-apart q owner none = All-from_find (λ l. same_owner owner l.1) q (find_none _ none)

module _ (q : List Limit) (new : Limit) (i : ℕ) (place : i ≤ length q) (before : AllWithin (λ l. is_lt (expiry_order l new) ≡ true) q 0 i) (behind : AllWithin (λ l. is_lt (expiry_order l new) ≡ false) q i (length q)) (fresh : limit_of q new.1 ≡ None) where
  front : All (λ l. is_lt (expiry_order l new) ≡ true) (take i q)
  front k d within =
      let below : k < i = omega (arith, length-take i q) in
      rw get_or-take (before k d (omega arith) below)

  back : All (λ l. is_lt (expiry_order l new) ≡ false) (drop i q)
  back k d within = rw get_or-drop (behind (i + k) d (omega arith) (omega (arith, length-drop i q)))

  front_not_behind : All (λ l. is_lt (expiry_order new l) ≡ false) (take i q)
  front_not_behind = All-weaker _ _ (λ l less. not_both l new less) (take i q) front

  back_behind : All (λ l. is_lt (expiry_order new l) ≡ true) (drop i q)
  back_behind k d within = one_first (get_or (drop i q) k d) new (All-drop (λ l. same_owner new.1 l.1 ≡ false) i q (All-apart q new.1 fresh) k d within) (back k d within)

  filter_split : (p : Limit → Bool) → filter p q ≡ filter p (take i q) ++ filter p (drop i q)
  filter_split p = ap (filter p) (sym (take-append-drop i q)) ∙ filter-append p (take i q) (drop i q)

  before_is : filter (λ l. is_lt (expiry_order l new)) q ≡ take i q
  before_is = filter_split _ ∙ rw (filter_all _ (take i q) front, filter_none _ (drop i q) back) (append-nil (take i q))

  behind_is : filter (λ l. is_lt (expiry_order new l)) q ≡ drop i q
  behind_is = filter_split _ ∙ rw (filter_none _ (take i q) front_not_behind, filter_all _ (drop i q) back_behind) refl

  kept_before : All (λ l. expiry_order l new ≡ Less) (filter (λ l. is_lt (expiry_order l new)) q)
  kept_before k d within = less_from_is_lt _ (filter_passes (λ l. is_lt (expiry_order l new)) q k d within)

  kept_behind : All (λ l. expiry_order new l ≡ Less) (filter (λ l. is_lt (expiry_order new l)) q)
  kept_behind k d within = less_from_is_lt _ (filter_passes (λ l. is_lt (expiry_order new l)) q k d within)

  pub insert_is : insert q i new ≡ with_limit q new
  insert_is = rw (before_is, behind_is) refl

  pub ChangesOnly-insert : ChangesOnly q (insert q i new) new.1 (Some new.0)
  ChangesOnly-insert other =
      let alone : same_owner other new.1 ≡ true → All (λ l. same_owner other l.1 ≡ false) q = λ same k d within. same_owner-apart other new.1 (get_or q k d).1 same (All-apart q new.1 fresh k d within) in
      ap (option_map (λ (l : Limit). l.0)) (find-insert (λ l. same_owner other l.1) new q i alone) ∙ rw (same_owner-flip other new.1) (mapped (same_owner new.1 other) (Some new) (find (λ l. same_owner other l.1) q))

  pub IsQueue-insert : IsQueue q → IsQueue (insert q i new)
  IsQueue-insert queue = record {
    ordered = subst (IsStrictlySortedBy expiry_order) (sym insert_is) (sorted_around expiry_total _ new _
        (IsStrictlySortedBy-filter expiry_order _ q queue.ordered)
        (recursion_from_All _ _ kept_before)
        (IsStrictlySortedBy-filter expiry_order _ q queue.ordered)
        (recursion_from_All _ _ kept_behind));
    distinct = IsDistinct-IsPermutation same_owner same_owner-flip (new.1 ∷ map (λ l. l.1) q) _
        (IsPermutation-map (λ l. l.1) (new ∷ q) _ (IsPermutation-insert q i new))
        (IsDistinct-cons same_owner new.1 _ (recursion_from_All _ _ (All-map (λ o. same_owner new.1 o ≡ false) (λ l. l.1) q (All-apart q new.1 fresh))) queue.distinct);
  }

module _ (q : List Limit) (owner : Owner) (queue : IsQueue q) where
  pub remove_is : (i : ℕ) → position (λ l. same_owner owner l.1) q ≡ Some i → remove q i ≡ without q owner
  remove_is i at =
      let d : Limit = (0, owner) in
      let found = position-Some (λ (l : Limit). same_owner owner l.1) q i d at in
      sym (filter_but_one (λ l. same_owner owner l.1) q i d found.0 found.1 (λ k within apart. elim (cases_lt k i) [
        | inl below ↦ found.2 k below
        | inr above ↦
            let far = apart_from_distinct same_owner (map (λ (l : Limit). l.1) q) i k owner queue.distinct (omega arith) (rw length-map within) in
            same_owner-apart owner (get_or q i d).1 (get_or q k d).1 found.1 (rw (get_or-map (λ (l : Limit). l.1) q i d owner found.0, get_or-map (λ (l : Limit). l.1) q k d owner within) at far)
      ]))

  pub without_absent : limit_of q owner ≡ None → without q owner ≡ q
  without_absent none = filter_all (λ l. not (same_owner owner l.1)) q (λ k d within. rw (All-apart q owner none k d within) refl)

  pub ChangesOnly-without : ChangesOnly q (without q owner) owner None
  ChangesOnly-without other =
      let alike : (l : Limit) → same_owner other l.1 ≡ true → not (same_owner owner l.1) ≡ not (same_owner owner other) = λ l same. grind (arith, nat_tests) in
      ap (option_map (λ (l : Limit). l.0)) (find-filter (λ l. same_owner other l.1) (λ l. not (same_owner owner l.1)) _ alike q ∙ turned (same_owner owner other) _ _) ∙ mapped (same_owner owner other) None (find (λ l. same_owner other l.1) q)

  pub IsQueue-without : IsQueue (without q owner)
  IsQueue-without = record {
    ordered = IsStrictlySortedBy-filter expiry_order _ q queue.ordered;
    distinct = distinct_filter same_owner (λ l. l.1) _ q queue.distinct;
  }

-- what is left when the first limit is taken away
pub IsQueue-tail : (l : Limit) (q : List Limit) → IsQueue (l ∷ q) → IsQueue q
unfolding IsStrictlySortedBy IsDistinct
IsQueue-tail l q queue = record { ordered = queue.ordered.1; distinct = queue.distinct.1 }

pub first_split : (q : List Limit) (l : Limit) → Some l ≡ slice_get q 0 → q ≡ l ∷ remove q 0
first_split [] l first = absurd (grind arith)
first_split (m ∷ q) l first = grind arith

-- taking away the first limit takes away its owner's
pub ChangesOnly-first : (l : Limit) (q : List Limit) → IsQueue (l ∷ q) → ChangesOnly (l ∷ q) q l.1 None
unfolding IsDistinct
ChangesOnly-first l q queue other =
    let gone : same_owner l.1 other ≡ true → limit_of q other ≡ None = λ same.
    let fails : (m : Limit) → same_owner l.1 m.1 ≡ false → same_owner other m.1 ≡ false = λ m apart. same_owner-apart other l.1 m.1 (same_owner-flip other l.1 ∙ same) apart in
    ap (option_map (λ (m : Limit). m.0)) (find-none_by (λ m. same_owner other m.1) (λ o. same_owner l.1 o ≡ false) (λ m. m.1) fails q queue.distinct.0) in
    grind (arith, gone, same_owner-flip l.1 other)

-- the first limit expires before all others
pub first_before : (l : Limit) (q : List Limit) → IsQueue (l ∷ q) → All (ExpiresBefore l) q
unfolding IsStrictlySortedBy
first_before l q queue = All-from_recursion (ExpiresBefore l) q queue.ordered.0

-- no limit expires at an earlier time than the first
first_least : (l : Limit) (q : List Limit) → IsQueue (l ∷ q) → All (λ m. l.0 ≤ m.0) (l ∷ q)
first_least l q queue = All-cons (λ m. l.0 ≤ m.0) l q (omega arith) (All-weaker (ExpiresBefore l) (λ m. l.0 ≤ m.0) (λ m less. time_le l m less) q (first_before l q queue))

-- where the first limit isn't due, none is
pub none_due : (q : List Limit) (l : Limit) (t : ℕ) → Some l ≡ slice_get q 0 → IsQueue q → t < l.0 → All (λ m. t < m.0) q
none_due [] l t first queue later k d within = absurd (grind arith)
none_due (m ∷ q) l t first queue later k d within = grind (arith, first_least m q queue k d within)
