-- The rule after a step that changes one view, but not its number or its part of the seats.
use Rattle.std.proofs.Common.{◌≡◌, ◌≢◌, ◌⊎◌, ℕ, ◌+◌, ◌%◌, ◌^◌, List, [], ◌∷◌, length, set, sum_by, sym, refl, ap, ◌∙◌, subst, inl, inr, ⊎_elim, arith, Option}
use mathlib.Core.Logic.{dite}
use mathlib.Core.Option as maybe
use mathlib.Core.List.{IsPrefix}
use native.Mathlib.Decide.{ℕ_discrete}
use lib.ListN.{get_elem?}
use Rattle.std.specs.List.{All, Contains}
use Rattle.atomic_table.specs.Table.{State}
use Rattle.atomic_table.proofs.Lists.{set_here, set_else}
use Rattle.turn_book.specs.declared.view.Stage.{Stage}
use Rattle.turn_book.specs.declared.view.Stage.TheVariants.{Spent, Idle, Waits, OnTurn}
use Rattle.turn_book.specs.declared.view.View.{View}
use Rattle.turn_book.specs.History.{entries, entries_of, numbers}
use Rattle.turn_book.specs.Rule.{tickets, share, Holds, StageOk, Named, ViewOk, Apart, EndedOk, SlotOk, BookRule}
use Rattle.turn_book.proofs.Views.{at_lt, same_at, sum_by-set_at, each_after, pairs_after}

pub share_live : (stage : Stage) (room : ℕ) → stage ≢ Spent → share stage room ≡ room + 1
share_live Spent room live = absurd (live refl)
share_live Idle room live = refl
share_live (Waits n) room live = refl
share_live (OnTurn n) room live = refl

module _ {E L : Type 0} where
  pub apart_flip : (v w : View E L) → Apart v w → Apart w v
  apart_flip v w apart = record { numbers = λ live live' same. apart.numbers live' live (sym same); tickets = λ n holds holds'. apart.tickets n holds' holds }

  -- a live view that keeps its number keeps its name in the list
  pub named_after : (views : List (View E L)) (id : ℕ) (v w : View E L) → get_elem? views id ≡ maybe.some v → w.stage ≢ Spent → w.number ≡ v.number → (k : ℕ) → Named views k → Named (set views id w) k
  named_after views id v w at live same k named = dite (ℕ_discrete named.0 id)
      (λ here. (
        id,
        w,
        set_here views id w (at_lt views id v at),
        live,
        same ∙ ap (λ (u : View E L). u.number) (same_at views id v named.1 at (subst (λ (j : ℕ). get_elem? views j ≡ maybe.some named.1) here named.2)) ∙ named.4,
      ))
      (λ else. (named.0, named.1, set_else views id named.0 w else ∙ named.2, named.3, named.4))

  pub named_before : (views : List (View E L)) (id : ℕ) (v w : View E L) → get_elem? views id ≡ maybe.some v → v.stage ≢ Spent → w.number ≡ v.number → (k : ℕ) → Named (set views id w) k → Named views k
  named_before views id v w at live same k named = dite (ℕ_discrete named.0 id)
      (λ here. (
        id,
        v,
        at,
        live,
        sym same
            ∙ ap (λ (u : View E L). u.number)
            (same_at (set views id w) id w named.1 (set_here views id w (at_lt views id v at)) (subst (λ (j : ℕ). get_elem? (set views id w) j ≡ maybe.some named.1) here named.2))
            ∙ named.4,
      ))
      (λ else. (named.0, named.1, sym (set_else views id named.0 w else) ∙ named.2, named.3, named.4))

  -- the view after a step of its own
  abbrev pub moved : View E L → Stage → List E → List E → View E L
  moved v stage seen mine = record v { stage = stage; seen = seen; mine = mine }

module _ {J E L : Type 0} (history_of : J → List E) (label_of : J → L) (label : L) (seats : ℕ) where
  abbrev V : Type 0
  V = View E L

  abbrev Rule : State (Option J) V → Type 0
  Rule = BookRule history_of label_of label seats

  -- what is left to show of a step of the seat id
  pub record Moves (s : State (Option J) V) (r : Rule s) (id : ℕ) (v : V) (words : List ℕ) (homes : List (maybe.Option (Option J))) (log : List (ℕ × E)) (served drawn : ℕ) (turn : maybe.Option ℕ) (stage : Stage) (seen mine : List E) : Type 0 where
    pub was_live : v.stage ≢ Spent
    pub live : stage ≢ Spent
    pub words_ok : words ≡ length log % 2 ^ 64 ∷ drawn % 2 ^ 64 ∷ served % 2 ^ 64 ∷ []
    pub waiting_ok : served + tickets stage + r.drawn ≡ drawn + r.served + tickets v.stage
    pub slot_ok : SlotOk history_of label_of log label turn homes
    pub holder_ok : (j : ℕ) → turn ≡ maybe.some j → (j ≡ id) × (stage ≡ OnTurn served) ⊎ (j ≢ id) × (r.turn ≡ maybe.some j) × (served ≡ r.served)
    pub stands : StageOk served drawn turn id stage
    pub seen_ok : IsPrefix seen (entries log)
    pub mine_ok : mine ≡ entries_of v.number log
    pub whole_ok : (n : ℕ) → stage ≡ OnTurn n → seen ≡ entries log
    pub others : (j : ℕ) (u : V) → j ≢ id → get_elem? s.views j ≡ maybe.some u → ViewOk r.log r.splits r.ended r.served r.drawn r.turn label seats j u → ViewOk log r.splits r.ended served drawn turn label seats j u
    pub apart_ok : (j : ℕ) (u : V) → j ≢ id → get_elem? s.views j ≡ maybe.some u → (n : ℕ) → Holds stage n → Holds u.stage n → ⊥
    pub owned_ok : (k : ℕ) → Contains (numbers log) k → Contains (numbers r.log) k ⊎ (v.number ≡ k)
    pub kept_ok : All (EndedOk log r.splits) r.ended

  pub moves : (s : State (Option J) V) (r : Rule s) (id : ℕ) (v : V) (words : List ℕ) (homes : List (maybe.Option (Option J))) (log : List (ℕ × E)) (served drawn : ℕ) (turn : maybe.Option ℕ) (stage : Stage) (seen mine : List E)
      → get_elem? s.views id ≡ maybe.some v → Moves s r id v words homes log served drawn turn stage seen mine
      → Rule record { words = words; homes = homes; views = set s.views id (moved v stage seen mine) }
  moves s r id v words homes log served drawn turn stage seen mine at m =
      let w : V = moved v stage seen mine in
      let knows = (r.each id v at).knows m.was_live in
      let there = set_here s.views id w (at_lt s.views id v at) in
      record {
        log = log;
        served = served;
        drawn = drawn;
        splits = r.splits;
        ended = r.ended;
        turn = turn;
        words = m.words_ok;
        few = r.few;
        waiting =
            let sums : sum_by (λ (u : V). tickets u.stage) (set s.views id w) + tickets v.stage ≡ sum_by (λ (u : V). tickets u.stage) s.views + tickets stage = sum_by-set_at (λ (u : V). tickets u.stage) s.views id v w at in
            omega (arith, r.waiting, m.waiting_ok);
        shares =
            let sums : sum_by (λ (u : V). share u.stage u.room) (set s.views id w) + share v.stage v.room ≡ sum_by (λ (u : V). share u.stage u.room) s.views + share stage v.room = sum_by-set_at (λ (u : V). share u.stage u.room) s.views id v w at in
            let before : share v.stage v.room ≡ v.room + 1 = share_live v.stage v.room m.was_live in
            let after : share stage v.room ≡ v.room + 1 = share_live stage v.room m.live in
            omega (arith, r.shares);
        slot = m.slot_ok;
        holder = λ j is. ⊎_elim
            (λ (own : (j ≡ id) × (stage ≡ OnTurn served)). (w, subst (λ (z : ℕ). get_elem? (set s.views id w) z ≡ maybe.some w) (sym own.0) there, own.1))
            (λ (other : (j ≢ id) × (r.turn ≡ maybe.some j) × (served ≡ r.served)).
            let had = r.holder j other.1 in
            (had.0, set_else s.views id j w other.0 ∙ had.1, had.2 ∙ ap OnTurn (sym other.2)))
            (m.holder_ok j is);
        each = each_after (λ (j : ℕ) (u : V). ViewOk log r.splits r.ended served drawn turn label seats j u) s.views id w
            record {
              stands = m.stands;
              knows = λ _. record { named = knows.named; seated = knows.seated; seen = m.seen_ok; mine = m.mine_ok; first = knows.first; later = knows.later };
              whole = m.whole_ok;
            }
            (λ j u other at'. m.others j u other at' (r.each j u at'));
        apart = pairs_after (λ (a b : V). Apart a b) apart_flip s.views id w
            (λ j u other at'.
            let old = r.apart id j v u (λ same. other (sym same)) at at' in
            record { numbers = λ _ live'. old.numbers m.was_live live'; tickets = m.apart_ok j u other at' })
            r.apart;
        root = named_after s.views id v w at m.live refl 0 r.root;
        owned = λ k has. ⊎_elim
            (λ (old : Contains (numbers r.log) k). ⊎_elim
            (λ (named : Named s.views k). inl (named_after s.views id v w at m.live refl k named))
            (λ (ended : Contains (numbers r.ended) k). inr ended)
            (r.owned k old))
            (λ (own : v.number ≡ k). inl (id, w, there, m.live, own))
            (m.owned_ok k has);
        kept = m.kept_ok;
        once = r.once;
        gone = λ k ended named. r.gone k ended (named_before s.views id v w at m.was_live refl k named);
      }
