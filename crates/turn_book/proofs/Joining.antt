-- A pass that is joined to the first keeps the rule.
use Rattle.std.proofs.Common.{◌≡◌, ◌≢◌, ℕ, ◌+◌, List, [], ◌∷◌, ◌++◌, length, set, sum_by, sym, refl, ap, ◌∙◌, subst, inl, inr, ⊎_elim, arith, Option, true, false, cond, nat_le}
use Rattle.std.specs.List.{Contains}
use Rattle.std.proofs.lemmas.List.Elements.{All-push}
use mathlib.Core.Logic.{dite}
use mathlib.Core.Option as maybe
use mathlib.Core.List.{IsPrefix}
use native.Mathlib.Decide.{ℕ_discrete}
use lib.ListN.{get_elem?}
use Rattle.atomic_table.specs.Table.{State, Joins}
use Rattle.atomic_table.proofs.Lists.{at_set, set_here, set_else}
use Rattle.turn_book.specs.declared.view.Stage.{Stage}
use Rattle.turn_book.specs.declared.view.Stage.TheVariants.{Spent, Idle, OnTurn}
use Rattle.turn_book.specs.declared.view.View.{View}
use Rattle.turn_book.specs.History.{entries, numbers, longer}
use Rattle.turn_book.specs.Rule.{tickets, share, StageOk, Named, ViewOk, Apart, EndedOk, BookRule}
use Rattle.turn_book.specs.Steps.{joined, spent}
use Rattle.turn_book.proofs.Views.{at_lt, same_at, sum_by-set_at, each_after, pairs_after}
use Rattle.turn_book.proofs.Logs.{numbers_old, numbers_new, numbers_cases, once_more}
use Rattle.turn_book.proofs.Moves.{apart_flip, named_after}

-- of two beginnings of one list the longer is one too
longer_prefix : {E : Type 0} (xs ys zs : List E) → IsPrefix xs zs → IsPrefix ys zs → IsPrefix (longer xs ys) zs
longer_prefix xs ys zs p q = elim (nat_le (length xs) (length ys)) as (λ b. IsPrefix (cond b ys xs) zs) [ true ↦ q | false ↦ p ]

module _ {J E L : Type 0} (history_of : J → List E) (label_of : J → L) (label : L) (seats : ℕ) where
  abbrev V : Type 0
  V = View E L

  abbrev Rule : State (Option J) V → Type 0
  Rule = BookRule history_of label_of label seats

  -- what the views are once w was joined to v: a live one was live before, and it isn't w
  named_before_join : (s : State (Option J) V) (r : Rule s) (id other : ℕ) (v w : V) → get_elem? s.views id ≡ maybe.some v → get_elem? s.views other ≡ maybe.some w → v.stage ≢ Spent → w.stage ≢ Spent → v.number ≢ w.number
      → (k : ℕ) → Named (set (set s.views id (joined v w)) other spent) k → Named s.views k × (k ≢ w.number)
  named_before_join s r id other v w at at' live live' differ k now = ⊎_elim
      (λ (it : (now.0 ≡ other) × (spent ≡ now.1)). absurd (now.3 (sym (ap (λ (u : V). u.stage) it.1))))
      (λ (else : (now.0 ≢ other) × (get_elem? (set s.views id (joined v w)) now.0 ≡ maybe.some now.1)). ⊎_elim
      (λ (it : (now.0 ≡ id) × (joined v w ≡ now.1)). let is : v.number ≡ k = ap (λ (u : V). u.number) it.1 ∙ now.4 in ((id, v, at, live, is), λ same. differ (is ∙ same)))
      (λ (old : (now.0 ≢ id) × (get_elem? s.views now.0 ≡ maybe.some now.1)).
      ((now.0, now.1, old.1, now.3, now.4), λ same. (r.apart now.0 other now.1 w else.0 old.1 at').numbers now.3 live' (now.4 ∙ same)))
      (at_set s.views id now.0 (joined v w) now.1 else.1))
      (at_set (set s.views id (joined v w)) other now.0 spent now.1 now.2)

  -- a pass is joined to the first, and its own view is spent
  pub joins : (id : ℕ) (v : V) (other : ℕ) (w : V) → v.stage ≡ Idle → v.number ≡ 0 → w.stage ≡ Idle → Joins Rule id v other w (joined v w) spent
  joins id v other w idle first idle' s r at others_differ there =
      let both : V = joined v w in
      let middle : List V = set s.views id both in
      let live : v.stage ≢ Spent = λ is. cc (idle, is) in
      let live' : w.stage ≢ Spent = λ is. cc (idle', is) in
      let at' : get_elem? s.views other ≡ maybe.some w = sym (set_else s.views id other both others_differ) ∙ there in
      let ids : id ≢ other = λ same. others_differ (sym same) in
      let ok = r.each id v at in
      let ok' = r.each other w at' in
      let knows = ok.knows live in
      let knows' = ok'.knows live' in
      let differ : v.number ≢ w.number = (r.apart id other v w ids at at').numbers live live' in
      let later' : w.number ≢ 0 = λ is. differ (first ∙ sym is) in
      let free : r.turn ≢ maybe.some id = subst (λ (st : Stage). StageOk r.served r.drawn r.turn id st) idle ok.stands in
      let free' : r.turn ≢ maybe.some other = subst (λ (st : Stage). StageOk r.served r.drawn r.turn other st) idle' ok'.stands in
      let later : (j : ℕ) (u : V) → j ≢ id → get_elem? s.views j ≡ maybe.some u → u.stage ≢ Spent → u.number ≢ 0 = λ j u away at'' alive is.
      (r.apart id j v u (λ same. away (sym same)) at at'').numbers live alive (first ∙ sym is) in
      let ended' : List (ℕ × List E) = r.ended ++ (w.number, w.mine) ∷ [] in
      let before = named_before_join s r id other v w at at' live live' differ in
      record {
        log = r.log;
        served = r.served;
        drawn = r.drawn;
        splits = r.splits;
        ended = ended';
        turn = r.turn;
        words = r.words;
        few = r.few;
        waiting =
            let one : sum_by (λ (u : V). tickets u.stage) middle + tickets v.stage ≡ sum_by (λ (u : V). tickets u.stage) s.views + tickets v.stage = sum_by-set_at (λ (u : V). tickets u.stage) s.views id v both at in
            let two : sum_by (λ (u : V). tickets u.stage) (set middle other spent) + tickets w.stage ≡ sum_by (λ (u : V). tickets u.stage) middle + 0 = sum_by-set_at (λ (u : V). tickets u.stage) middle other w spent there in
            let none : tickets w.stage ≡ 0 = ap tickets idle' in
            omega (arith, r.waiting);
        shares =
            let one : sum_by (λ (u : V). share u.stage u.room) middle + share v.stage v.room ≡ sum_by (λ (u : V). share u.stage u.room) s.views + share v.stage (v.room + 1) = sum_by-set_at (λ (u : V). share u.stage u.room) s.views id v both at in
            let two : sum_by (λ (u : V). share u.stage u.room) (set middle other spent) + share w.stage w.room ≡ sum_by (λ (u : V). share u.stage u.room) middle + 0 = sum_by-set_at (λ (u : V). share u.stage u.room) middle other w spent there in
            let was : share v.stage v.room ≡ v.room + 1 = ap (λ (st : Stage). share st v.room) idle in
            let now : share v.stage (v.room + 1) ≡ (v.room + 1) + 1 = ap (λ (st : Stage). share st (v.room + 1)) idle in
            let its : share w.stage w.room ≡ w.room + 1 = ap (λ (st : Stage). share st w.room) idle' in
            let none : w.room ≡ 0 = (knows'.later later').1 in
            omega (arith, r.shares);
        slot = r.slot;
        holder = λ j is. let had = r.holder j is in
            (had.0, set_else middle other j spent (λ same. free' (is ∙ ap maybe.some same)) ∙ set_else s.views id j both (λ same. free (is ∙ ap maybe.some same)) ∙ had.1, had.2);
        each = each_after (λ (j : ℕ) (u : V). ViewOk r.log r.splits ended' r.served r.drawn r.turn label seats j u) middle other spent
            record { stands = free'; knows = λ alive. absurd (alive refl); whole = λ n is. cc is }
            (λ j u away at''. each_after (λ (j : ℕ) (u : V). j ≢ other → ViewOk r.log r.splits ended' r.served r.drawn r.turn label seats j u) s.views id both
            (λ _. record {
              stands = ok.stands;
              knows = λ _. record {
                named = knows.named;
                seated = knows.seated;
                seen = longer_prefix v.seen w.seen (entries r.log) knows.seen knows'.seen;
                mine = knows.mine;
                first = λ is. ((knows.first is).0, ap (λ (es : List (ℕ × List E)). es ++ (w.number, w.mine) ∷ []) (knows.first is).1);
                later = λ isnt. absurd (isnt first);
              };
              whole = λ n is. absurd (let still : OnTurn n ≡ Idle = sym is ∙ idle in cc still);
            })
            (λ j u far old_at _. let old = r.each j u old_at in record {
              stands = old.stands;
              knows = λ alive. let was = old.knows alive in record {
                named = was.named;
                seated = was.seated;
                seen = was.seen;
                mine = was.mine;
                first = λ is. absurd (later j u far old_at alive is);
                later = was.later;
              };
              whole = old.whole;
            }) j u at'' away);
        apart = pairs_after (λ (a b : V). Apart a b) apart_flip middle other spent
            (λ j u away at''. record { numbers = λ alive. absurd (alive refl); tickets = λ n own. absurd own })
            (pairs_after (λ (a b : V). Apart a b) apart_flip s.views id both
            (λ j u away at''. let old = r.apart id j v u (λ same. away (sym same)) at at'' in record { numbers = old.numbers; tickets = old.tickets })
            r.apart);
        root = (id, both, set_else middle other id spent ids ∙ set_here s.views id both (at_lt s.views id v at), live, first);
        owned = λ k has. ⊎_elim
            (λ (named : Named s.views k).
            let still = named_after s.views id v both at live refl k named in
            dite (ℕ_discrete still.0 other)
            (λ lost. inr (subst (λ (n : ℕ). Contains (numbers ended') n)
            (ap (λ (u : V). u.number) (same_at middle other w still.1 there (subst (λ (j : ℕ). get_elem? middle j ≡ maybe.some still.1) lost still.2)) ∙ still.4)
            (numbers_new r.ended w.number w.mine)))
            (λ kept. inl (still.0, still.1, set_else middle other still.0 spent kept ∙ still.2, still.3, still.4)))
            (λ (ended : Contains (numbers r.ended) k). inr (numbers_old r.ended w.number w.mine k ended))
            (r.owned k has);
        kept = All-push (EndedOk r.log r.splits) r.ended (w.number, w.mine) r.kept (omega (arith, later'), (knows'.later later').0, knows'.mine);
        once = once_more r.ended w.number w.mine (λ has. r.gone w.number has (other, w, at', live', refl)) r.once;
        gone = λ k has now. let was = before k now in ⊎_elim
            (λ (ended : Contains (numbers r.ended) k). r.gone k ended was.0)
            (λ (is : w.number ≡ k). was.1 (sym is))
            (numbers_cases r.ended w.number w.mine k has);
      }
