-- The table at the end, where one pass stands for every seat.
use Rattle.std.proofs.Common.{◌≡◌, ◌≢◌, ◌⊎◌, ℕ, suc, ◌+◌, ◌-◌, ◌≤◌, List, ◌∷◌, set, sum_by, sym, refl, ap, ◌∙◌, subst, inl, inr, ⊎_elim, arith, Option, Some}
use Rattle.std.specs.List.{All, AllPairs, Contains}
use Rattle.std.specs.Option.{IsSome}
use Rattle.std.proofs.lemmas.List.Elements.{All-cons, All-weaker, All-contains_itself}
use Rattle.std.proofs.lemmas.List.Kept.{AllPairs-cons}
use Rattle.std.proofs.lemmas.List.Sums.{get_or-le-sum_by}
use mathlib.Core.Logic.{dite}
use mathlib.Core.Option as maybe
use native.Mathlib.Decide.{ℕ_discrete}
use lib.ListN.{get_elem?}
use Rattle.atomic_table.specs.Table.{State, Final, Seen}
use Rattle.atomic_table.proofs.Lists.{set_else}
use Rattle.turn_book.specs.declared.view.Stage.{Stage}
use Rattle.turn_book.specs.declared.view.Stage.TheVariants.{Spent, Idle, Waits, OnTurn}
use Rattle.turn_book.specs.declared.view.View.{View}
use Rattle.turn_book.specs.History.{entries_of, numbers, IsMadeOf}
use Rattle.turn_book.specs.Rule.{share, Named, EndedOk, SlotOk, BookRule}
use Rattle.turn_book.specs.Steps.{spent}
use Rattle.turn_book.proofs.Views.{at_lt, at_or, same_at, sum_by-set_at}
use Rattle.turn_book.proofs.Logs.{ended_le}

share_spent : (stage : Stage) (room : ℕ) → share stage room ≡ 0 → stage ≡ Spent
share_spent Spent room is = refl
share_spent Idle room is = absurd (omega arith)
share_spent (Waits n) room is = absurd (omega arith)
share_spent (OnTurn n) room is = absurd (omega arith)

-- a number that is the first or one of the others is among them all
among : (m k : ℕ) (ns : List ℕ) → (m ≡ k) ⊎ Contains ns k → Contains (m ∷ ns) k
among m k ns which = ⊎_elim
    (λ (is : m ≡ k). (0, omega arith, is))
    (λ (has : Contains ns k). (suc has.0, omega (arith, has.1), has.2))
    which

module _ {J E L : Type 0} (history_of : J → List E) (label_of : J → L) (label : L) (seats : ℕ) where
  abbrev V : Type 0
  V = View E L

  abbrev Rule : State (Option J) V → Type 0
  Rule = BookRule history_of label_of label seats

  module _ (s : State (Option J) V) (r : Rule s) (id : ℕ) (v : V) (at : get_elem? s.views id ≡ maybe.some v) (idle : v.stage ≡ Idle) (all : v.room ≡ seats - 1) where
    -- every other seat is spent
    alone : (j : ℕ) (u : V) → j ≢ id → get_elem? s.views j ≡ maybe.some u → u.stage ≡ Spent
    alone j u other at' =
        let rest : List V = set s.views id spent in
        let sums : sum_by (λ (u : V). share u.stage u.room) rest + share v.stage v.room ≡ sum_by (λ (u : V). share u.stage u.room) s.views + 0 = sum_by-set_at (λ (u : V). share u.stage u.room) s.views id v spent at in
        let own : share v.stage v.room ≡ v.room + 1 = ap (λ (st : Stage). share st v.room) idle in
        let still : get_elem? rest j ≡ maybe.some u = set_else s.views id j spent other ∙ at' in
        let least = get_or-le-sum_by (λ (u : V). share u.stage u.room) rest j u (at_lt rest j u still) in
        let its : share u.stage u.room ≤ sum_by (λ (u : V). share u.stage u.room) rest = subst (λ (z : V). share z.stage z.room ≤ sum_by (λ (u : V). share u.stage u.room) rest) (at_or rest j u u still) least in
        share_spent u.stage u.room (omega (arith, r.shares))

    nobody_on_turn : (turn : maybe.Option ℕ) → r.turn ≡ turn → turn ≡ maybe.none
    nobody_on_turn maybe.none is = refl
    nobody_on_turn (maybe.some j) is =
        let had = r.holder j is in
        dite (ℕ_discrete j id)
        (λ here.
        let same = same_at s.views id had.0 v (subst (λ (k : ℕ). get_elem? s.views k ≡ maybe.some had.0) here had.1) at in
        absurd (let odd : OnTurn r.served ≡ Idle = sym had.2 ∙ ap (λ (u : V). u.stage) same ∙ idle in cc odd))
        (λ away. absurd (let odd : OnTurn r.served ≡ Spent = sym had.2 ∙ alone j had.0 away had.1 in cc odd))

    its_number : (k : ℕ) → Named s.views k → v.number ≡ k
    its_number k named = dite (ℕ_discrete named.0 id)
        (λ here. ap (λ (u : V). u.number) (same_at s.views id v named.1 at (subst (λ (j : ℕ). get_elem? s.views j ≡ maybe.some named.1) here named.2)) ∙ named.4)
        (λ away. absurd (named.3 (alone named.0 named.1 away named.2)))

  -- the value that is at home at the end, as the pass v knows it
  pub record Closes (v : V) (slots : List (Option J)) : Type 0 where
    pub value : J
    pub there : get_elem? slots 0 ≡ maybe.some (Some value)
    pub history : IsMadeOf (history_of value) ((v.number, v.mine) ∷ v.ended)
    pub named : v.label ≡ Some (label_of value)

  pub closes : (id : ℕ) (v : V) (words : List ℕ) (slots : List (Option J)) → v.stage ≡ Idle → v.room ≡ v.seats - 1 → Final (Seen Rule id v) words slots → Closes v slots
  closes id v words slots idle full final =
      let s = final.0 in
      let r = final.1.0 in
      let at = final.1.1 in
      let knows = (r.each id v at).knows (λ is. cc (idle, is)) in
      let all : v.room ≡ seats - 1 = full ∙ ap (λ (n : ℕ). n - 1) knows.seated in
      let home : SlotOk history_of label_of r.log label maybe.none s.homes = subst (λ (turn : maybe.Option ℕ). SlotOk history_of label_of r.log label turn s.homes) (nobody_on_turn s r id v at idle all r.turn refl) r.slot in
      let first : v.number ≡ 0 = its_number s r id v at idle all 0 r.root in
      let ended : v.ended ≡ r.ended = (knows.first first).1 in
      let kept : All (EndedOk r.log r.splits) v.ended = subst (λ (es : List (ℕ × List E)). All (EndedOk r.log r.splits) es) (sym ended) r.kept in
      let owned : (k : ℕ) → Contains (numbers r.log) k → (v.number ≡ k) ⊎ Contains (numbers v.ended) k = λ k has. ⊎_elim
      (λ (named : Named s.views k). inl (its_number s r id v at idle all k named))
      (λ (its : Contains (numbers r.ended) k). inr (subst (λ (es : List (ℕ × List E)). Contains (numbers es) k) (sym ended) its))
      (r.owned k has) in
      record {
        value = home.0;
        there = final.4 0 (Some home.0) (ap (λ (hs : List (maybe.Option (Option J))). get_elem? hs 0) home.1);
        history = record {
          log = r.log;
          whole = sym home.2;
          in_order = All-cons (λ p. entries_of p.0 r.log ≡ p.1) (v.number, v.mine) v.ended (sym knows.mine) (All-weaker (EndedOk r.log r.splits) (λ p. entries_of p.0 r.log ≡ p.1) (λ p ok. sym ok.2) v.ended kept);
          no_others = All-weaker (Contains (numbers r.log)) (Contains (v.number ∷ numbers v.ended)) (λ k has. among v.number k (numbers v.ended) (owned k has)) (numbers r.log) (All-contains_itself (numbers r.log));
          once = AllPairs-cons (λ j k. j ≢ k) v.number (numbers v.ended)
              (All-weaker (Contains (numbers v.ended)) (λ k. v.number ≢ k) (λ k has same. let least = (ended_le r.log r.splits v.ended k kept has).0 in absurd (omega (arith, same, first))) (numbers v.ended) (All-contains_itself (numbers v.ended)))
              (subst (λ (es : List (ℕ × List E)). AllPairs (λ j k. j ≢ k) (numbers es)) (sym ended) r.once);
        };
        named = knows.named ∙ ap Some (sym home.3);
      }

  -- what is taken out of the slot is that value
  taken : (v : V) (slots : List (Option J)) (o : Option J) → (end : Closes v slots) → get_elem? slots 0 ≡ maybe.some o → o ≡ Some end.value
  taken v slots o end at = maybe.some-injective o (Some end.value) (sym at ∙ end.there)

  pub taken_some : (v : V) (slots : List (Option J)) (o : Option J) → Closes v slots → get_elem? slots 0 ≡ maybe.some o → IsSome o
  taken_some v slots o end at = subst (λ (z : Option J). IsSome z) (sym (taken v slots o end at)) refl

  pub taken_value : (v : V) (slots : List (Option J)) (o : Option J) (x : J) → Closes v slots → get_elem? slots 0 ≡ maybe.some o → o ≡ Some x
      → IsMadeOf (history_of x) ((v.number, v.mine) ∷ v.ended) × (v.label ≡ Some (label_of x))
  taken_value v slots o x end at is =
      let both : Some end.value ≡ Some x = sym (taken v slots o end at) ∙ is in
      let same : end.value ≡ x = cc both in
      subst (λ (y : J). IsMadeOf (history_of y) ((v.number, v.mine) ∷ v.ended) × (v.label ≡ Some (label_of y))) same (end.history, end.named)
