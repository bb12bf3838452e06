-- A pass that is split from the first keeps the rule.
use Rattle.std.proofs.Common.{◌≡◌, ◌≢◌, ℕ, ◌+◌, ◌-◌, ◌≤◌, List, [], ◌∷◌, ◌++◌, length, set, sum_by, sym, refl, ap, ◌∙◌, subst, inl, inr, ⊎_elim, arith, Option, length-set}
use Rattle.std.specs.List.{Contains}
use Rattle.std.proofs.lemmas.List.Sums.{sum_by-append}
use mathlib.Core.Logic.{dite}
use mathlib.Core.Option as maybe
use native.Mathlib.Decide.{ℕ_discrete}
use lib.ListN.{get_elem?}
use Rattle.atomic_table.specs.Table.{State, Splits}
use Rattle.atomic_table.proofs.Lists.{set_else, at_longer}
use Rattle.turn_book.specs.declared.view.Stage.{Stage}
use Rattle.turn_book.specs.declared.view.Stage.TheVariants.{Spent, Idle}
use Rattle.turn_book.specs.declared.view.View.{View}
use Rattle.turn_book.specs.History.{numbers}
use Rattle.turn_book.specs.Rule.{tickets, share, StageOk, Named, ViewOk, Apart, BookRule}
use Rattle.turn_book.specs.Steps.{rest_of, part_of}
use Rattle.turn_book.proofs.Views.{at_lt, at_end, sum_by-set_at, each_after, pairs_after, pairs_end}
use Rattle.turn_book.proofs.Logs.{entries_of-none, ended_le, ended_wider}
use Rattle.turn_book.proofs.Moves.{apart_flip, named_after, named_before}

module _ {J E L : Type 0} (history_of : J → List E) (label_of : J → L) (label : L) (seats : ℕ) where
  abbrev V : Type 0
  V = View E L

  abbrev Rule : State (Option J) V → Type 0
  Rule = BookRule history_of label_of label seats

  named_le : (s : State (Option J) V) (r : Rule s) (k : ℕ) → Named s.views k → k ≤ r.splits
  named_le s r k named = let knows = (r.each named.0 named.1 named.2).knows named.3 in dite (ℕ_discrete named.1.number 0)
      (λ first. omega (arith, named.4))
      (λ other. omega (arith, (knows.later other).0, named.4))

  -- the first pass lets another be split off
  pub splits : (id : ℕ) (v : V) → v.stage ≡ Idle → v.number ≡ 0 → 1 ≤ v.room → Splits Rule id v (rest_of v) (part_of v)
  splits id v idle first some s r at =
      let left : V = rest_of v in
      let right : V = part_of v in
      let middle : List V = set s.views id left in
      let live : v.stage ≢ Spent = λ is. cc (idle, is) in
      let ok = r.each id v at in
      let knows = ok.knows live in
      let counted = (knows.first first).0 in
      let free : r.turn ≢ maybe.some id = subst (λ (st : Stage). StageOk r.served r.drawn r.turn id st) idle ok.stands in
      let as_long : length middle ≡ length s.views = length-set s.views id left in
      let lacks : Contains (numbers r.log) (v.splits + 1) → ⊥ = λ has. ⊎_elim
      (λ (named : Named s.views (v.splits + 1)). let le = named_le s r (v.splits + 1) named in absurd (omega arith))
      (λ (ended : Contains (numbers r.ended) (v.splits + 1)). let le = (ended_le r.log r.splits r.ended (v.splits + 1) r.kept ended).1 in absurd (omega arith))
      (r.owned (v.splits + 1) has) in
      let later : (j : ℕ) (u : V) → j ≢ id → get_elem? s.views j ≡ maybe.some u → u.stage ≢ Spent → u.number ≢ 0 = λ j u other at' alive zero_too.
      (r.apart id j v u (λ same. other (sym same)) at at').numbers live alive (first ∙ sym zero_too) in
      record {
        log = r.log;
        served = r.served;
        drawn = r.drawn;
        splits = r.splits + 1;
        ended = r.ended;
        turn = r.turn;
        words = r.words;
        few = r.few;
        waiting =
            let sums : sum_by (λ (u : V). tickets u.stage) middle + tickets v.stage ≡ sum_by (λ (u : V). tickets u.stage) s.views + tickets v.stage = sum_by-set_at (λ (u : V). tickets u.stage) s.views id v left at in
            let more : sum_by (λ (u : V). tickets u.stage) (middle ++ right ∷ []) ≡ sum_by (λ (u : V). tickets u.stage) middle + 0 = sum_by-append (λ (u : V). tickets u.stage) middle (right ∷ []) in
            omega (arith, r.waiting);
        shares =
            let sums : sum_by (λ (u : V). share u.stage u.room) middle + share v.stage v.room ≡ sum_by (λ (u : V). share u.stage u.room) s.views + share v.stage (v.room - 1) = sum_by-set_at (λ (u : V). share u.stage u.room) s.views id v left at in
            let more : sum_by (λ (u : V). share u.stage u.room) (middle ++ right ∷ []) ≡ sum_by (λ (u : V). share u.stage u.room) middle + 1 = sum_by-append (λ (u : V). share u.stage u.room) middle (right ∷ []) in
            let before : share v.stage v.room ≡ v.room + 1 = ap (λ (st : Stage). share st v.room) idle in
            let after : share v.stage (v.room - 1) ≡ (v.room - 1) + 1 = ap (λ (st : Stage). share st (v.room - 1)) idle in
            omega (arith, r.shares);
        slot = r.slot;
        holder = λ j is.
            let had = r.holder j is in
            let other : j ≢ id = λ same. free (is ∙ ap maybe.some same) in
            (had.0, at_longer middle (right ∷ []) j had.0 (set_else s.views id j left other ∙ had.1), had.2);
        each = λ j u at'. ⊎_elim
            (λ (old : get_elem? middle j ≡ maybe.some u). each_after (λ (j : ℕ) (u : V). ViewOk r.log (r.splits + 1) r.ended r.served r.drawn r.turn label seats j u) s.views id left
            record {
              stands = ok.stands;
              knows = λ _. record {
                named = knows.named;
                seated = knows.seated;
                seen = knows.seen;
                mine = knows.mine;
                first = λ is. (ap (λ (n : ℕ). n + 1) (knows.first is).0, (knows.first is).1);
                later = λ isnt. absurd (isnt first);
              };
              whole = ok.whole;
            }
            (λ j u other at'. let old = r.each j u at' in record {
              stands = old.stands;
              knows = λ alive. let was = old.knows alive in record {
                named = was.named;
                seated = was.seated;
                seen = was.seen;
                mine = was.mine;
                first = λ is. absurd (later j u other at' alive is);
                later = λ isnt. let had = was.later isnt in (omega (arith, had.0), had.1, had.2, had.3);
              };
              whole = old.whole;
            }) j u old)
            (λ (new : (j ≡ length middle) × (right ≡ u)). subst (λ (w : V). ViewOk r.log (r.splits + 1) r.ended r.served r.drawn r.turn label seats j w) new.1 record {
              stands = λ is. let had = r.holder j is in let inside = at_lt s.views j had.0 had.1 in absurd (omega (arith, new.0));
              knows = λ _. record {
                named = knows.named;
                seated = knows.seated;
                seen = knows.seen;
                mine = sym (entries_of-none r.log (v.splits + 1) lacks);
                first = λ is. absurd (omega arith);
                later = λ _. (omega (arith, counted), refl, refl, refl);
              };
              whole = λ n is. cc is;
            })
            (at_end middle right u j at');
        apart = pairs_end (λ (a b : V). Apart a b) apart_flip middle right
            (each_after (λ (j : ℕ) (u : V). Apart right u) s.views id left
            record { numbers = λ _ _ same. absurd (omega (arith, same, first)); tickets = λ n own _. own }
            (λ j u other at'. record {
              numbers = λ _ alive same. let le = named_le s r u.number (j, u, at', alive, refl) in absurd (omega (arith, same));
              tickets = λ n own _. own;
            }))
            (pairs_after (λ (a b : V). Apart a b) apart_flip s.views id left
            (λ j u other at'. let old = r.apart id j v u (λ same. other (sym same)) at at' in record { numbers = old.numbers; tickets = old.tickets })
            r.apart);
        root = let named = named_after s.views id v left at live refl 0 r.root in (named.0, named.1, at_longer middle (right ∷ []) named.0 named.1 named.2, named.3, named.4);
        owned = λ k has. ⊎_elim
            (λ (named : Named s.views k). let still = named_after s.views id v left at live refl k named in inl (still.0, still.1, at_longer middle (right ∷ []) still.0 still.1 still.2, still.3, still.4))
            (λ (ended : Contains (numbers r.ended) k). inr ended)
            (r.owned k has);
        kept = ended_wider r.log r.splits r.ended r.kept;
        once = r.once;
        gone = λ k ended named. ⊎_elim
            (λ (old : get_elem? middle named.0 ≡ maybe.some named.1). r.gone k ended (named_before s.views id v left at live refl k (named.0, named.1, old, named.3, named.4)))
            (λ (new : (named.0 ≡ length middle) × (right ≡ named.1)).
            let le = (ended_le r.log r.splits r.ended k r.kept ended).1 in
            let is : v.splits + 1 ≡ k = ap (λ (u : V). u.number) new.1 ∙ named.4 in
            absurd (omega arith))
            (at_end middle right named.1 named.0 named.2);
      }
