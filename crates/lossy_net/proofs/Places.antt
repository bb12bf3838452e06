-- Where the copies of a packet stand among those in order, and what an edit there leaves.
use Rattle.std.proofs.Common.{◌≡◌, ℕ, ◌<◌, ◌≤◌, ◌⊎◌, true, false, List, [], ◌∷◌, length, get_or, set, refl, sym, ◌∙◌, inl, inr, arith}
use Rattle.std.specs.List.{All, AllWithin, insert, remove}
use Rattle.std.specs.List.Sorted.{IsPartitionedBy}
use Rattle.std.proofs.lemmas.Bool.{cases_lt, cases_order}
use Rattle.std.proofs.lemmas.List.{get_or_default}
use Rattle.std.proofs.lemmas.List.Quantifiers.{all_pairs_remove}
use Rattle.std.proofs.lemmas.List.Elements.{All-set}
use Rattle.lossy_net.specs.declared.copies.Copies.{Copies}
use Rattle.lossy_net.specs.Copies.{are_of, copies_left, IsFirst}
use Rattle.lossy_net.specs.Order.{precedes, AreInOrder, StandsBefore, StandAt}
use Rattle.lossy_net.proofs.Edits.{All-insert, All-remove, AllPairs-insert, AllPairs-set}
use Rattle.lossy_net.proofs.Order.{precedes_same, precedes_is, precedes_further, precedes_other, precedes_all, precedes_none, precedes_upto, to_node, same_is_no_later, before_is_no_later, of_itself}
use Rattle.lossy_net.proofs.Counts.{some_entry, entry_counts}

-- what a place past the end reads as
abbrev pub blank : Copies
blank = record { to = 0; from = 0; index = 0; left = 0 }

-- what a search by halves asks
pub partitioned : (net : List Copies) (t f i : ℕ) → AreInOrder net → IsPartitionedBy (precedes t f i) net
partitioned net t f i in_order a b d le within before = elim (cases_order a b) [
  | inl same ↦ rw same before
  | inr (inl less) ↦ precedes_further t f i (get_or net a d) (get_or net b d) (in_order.order a b d less within) before
  | inr (inr more) ↦ absurd (omega arith)
]

module _ (net : List Copies) (t f i at : ℕ) (in_order : AreInOrder net)
    (before : AllWithin (λ c. precedes t f i c ≡ true) net 0 at) (behind : AllWithin (λ c. precedes t f i c ≡ false) net at (length net)) where
  no_entry_before : (k : ℕ) → StandAt net t f i k → k < at → ⊥
  no_entry_before k entry less =
      let first : precedes t f i (get_or net k blank) ≡ true = before k blank (omega arith) less in
      let not_first : precedes t f i (get_or net k blank) ≡ false = precedes_same t f i (get_or net k blank) (entry.of_it blank) in
      cc

  no_entry_behind : (k : ℕ) → StandAt net t f i k → at < k → ⊥
  no_entry_behind k entry more =
      let order = in_order.order at k blank more entry.within in
      let first : precedes t f i (get_or net at blank) ≡ true = precedes_is t f i (get_or net at blank) (get_or net k blank) (entry.of_it blank) order in
      let not_first : precedes t f i (get_or net at blank) ≡ false = behind at blank (omega arith) (omega (arith, entry.within)) in
      cc

  -- the copies of the packet, where there are any, stand at its place
  pub found : 0 < copies_left net t f i → StandAt net t f i at
  found left =
      let some = some_entry net t f i left in
      elim (cases_order some.0 at) [
        | inl same ↦ rw same at some.1
        | inr (inl less) ↦ absurd (no_entry_before some.0 some.1 less)
        | inr (inr more) ↦ absurd (no_entry_behind some.0 some.1 more)
      ]

  no_entry : copies_left net t f i ≡ 0 → (k : ℕ) (d : Copies) → k < length net → are_of t f i (get_or net k d) ≡ false
  no_entry none k d within = elim (are_of t f i (get_or net k d)) as (λ is_of. are_of t f i (get_or net k d) ≡ is_of → is_of ≡ false) [
    | true ↦ λ e.
        let entry : StandAt net t f i k = record { within = within; of_it = λ c. rw (get_or_default net k c d within) e } in
        absurd (let some = entry_counts net t f i k entry in_order.some_left in omega arith)
    | false ↦ λ e. refl
  ] refl

  -- copies of a packet that had none stand in order at its place
  pub inserted_in_order : (count : ℕ) → at ≤ length net → copies_left net t f i ≡ 0 → 0 < count → AreInOrder (insert net at (record { to = t; from = f; index = i; left = count }))
  inserted_in_order count within none some = record {
    order = AllPairs-insert StandsBefore net at (record { to = t; from = f; index = i; left = count }) within
        (λ k d less. before k d (omega arith) less)
        (λ k d from last. precedes_other t f i count (get_or net k d) (behind k d from last) (no_entry none k d last))
        in_order.order;
    some_left = All-insert (λ c. 0 < c.left) net at (record { to = t; from = f; index = i; left = count }) in_order.some_left some;
  }

pub lessened_in_order : (net : List Copies) (at less : ℕ) (old : Copies) → AreInOrder net → at < length net → old ≡ get_or net at old → 0 < less →
    AreInOrder (set net at (record { to = old.to; from = old.from; index = old.index; left = less }))
lessened_in_order net at less old in_order within is some =
    let there : (d : Copies) → get_or net at d ≡ old = λ d. get_or_default net at d old within ∙ sym is in
    record {
      order = AllPairs-set StandsBefore net at (record { to = old.to; from = old.from; index = old.index; left = less }) within
          (λ d x first. rw (there d) at first) (λ d x first. rw (there d) at first) in_order.order;
      some_left = All-set (λ c. 0 < c.left) net at (record { to = old.to; from = old.from; index = old.index; left = less }) some in_order.some_left;
    }

pub removed_in_order : (net : List Copies) (at : ℕ) → AreInOrder net → at < length net → AreInOrder (remove net at)
removed_in_order net at in_order within = record {
  order = all_pairs_remove StandsBefore net at within in_order.order;
  some_left = All-remove (λ c. 0 < c.left) net at in_order.some_left;
}

module _ (net : List Copies) (node at : ℕ) (in_order : AreInOrder net)
    (before : AllWithin (λ c. precedes node 0 0 c ≡ true) net 0 at) (behind : AllWithin (λ c. precedes node 0 0 c ≡ false) net at (length net)) where
  -- an entry of a packet for the node is the one at the place, or stands behind it, and that one is of the node then
  at_or_behind : (f i k : ℕ) → StandAt net node f i k → (P : Type 0) → (k ≡ at → P) → (at < k → precedes node f i (get_or net at blank) ≡ true → (get_or net at blank).to ≡ node → P) → P
  at_or_behind f i k entry P same later = elim (cases_order k at) [
    | inl e ↦ same e
    | inr (inl less) ↦
        let below : (get_or net k blank).to < node = precedes_all node (get_or net k blank) (before k blank (omega arith) less) in
        absurd (omega (arith, to_node node f i (get_or net k blank) (entry.of_it blank)))
    | inr (inr more) ↦
        let first = precedes_is node f i (get_or net at blank) (get_or net k blank) (entry.of_it blank) (in_order.order at k blank more entry.within) in
        let least : node ≤ (get_or net at blank).to = precedes_none node (get_or net at blank) (behind at blank (omega arith) (omega (arith, entry.within))) in
        later more first (omega (arith, precedes_upto node f i (get_or net at blank) first))
  ]

  pub none_first : (at < length net → (get_or net at blank).to ≡ node → ⊥) → (f i : ℕ) → copies_left net node f i ≡ 0
  none_first other f i = elim (cases_lt 0 (copies_left net node f i)) [
    | inl left ↦
        let some = some_entry net node f i left in
        absurd (at_or_behind f i some.0 some.1 ⊥
        (λ e. other (rw e at some.1.within) (rw e at (to_node node f i (get_or net some.0 blank) (some.1.of_it blank))))
        (λ more first here. other (omega (arith, some.1.within)) here))
    | inr none ↦ omega arith
  ]

  pub is_first : (c : Copies) → at < length net → c ≡ get_or net at c → c.to ≡ node → IsFirst net node c.from c.index
  is_first c within is here =
      let there : (d : Copies) → get_or net at d ≡ c = λ d. get_or_default net at d c within ∙ sym is in
      let entry : StandAt net node c.from c.index at = record { within = within; of_it = λ d. rw (there d) (of_itself node c here) } in
      record {
        left = entry_counts net node c.from c.index at entry in_order.some_left;
        first = λ f i left.
            let some = some_entry net node f i left in
            at_or_behind f i some.0 some.1 ((c.from < f) ⊎ ((c.from ≡ f) × (c.index ≤ i)))
            (λ e. same_is_no_later node f i c (rw (e, there blank) at (some.1.of_it blank)))
            (λ more first there_too. before_is_no_later node f i c here (rw (there blank) at first));
      }

-- ---- no copy at all

pub none_left : (net : List Copies) → length net ≡ 0 → (t f i : ℕ) → copies_left net t f i ≡ 0
none_left [] none t f i = refl
none_left (c ∷ net) none t f i = absurd (omega arith)

pub none_stands : (net : List Copies) → All (λ c. 0 < c.left) net → ((t f i : ℕ) → copies_left net t f i ≡ 0) → length net ≡ 0
none_stands [] some_left none = refl
none_stands (c ∷ net) some_left none =
    let there : StandAt (c ∷ net) c.to c.from c.index 0 = record { within = omega arith; of_it = λ d. of_itself c.to c refl } in
    absurd (let some = entry_counts (c ∷ net) c.to c.from c.index 0 there some_left in omega (arith, none c.to c.from c.index))
