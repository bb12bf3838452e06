-- The steps of a turn keep the rule.
use Rattle.std.proofs.Common.{◌≡◌, ◌≢◌, ℕ, ◌+◌, ◌%◌, ◌^◌, ◌<◌, ◌≤◌, List, [], ◌∷◌, ◌++◌, length, get_or, set, sum_by, sym, refl, ap, ◌∙◌, subst, inl, inr, arith, length-append, Option, Some}
use Rattle.std.proofs.Math.Nat.{mod-add-mod}
use Rattle.std.proofs.lemmas.List.Sums.{sum_by-le-sum_by}
use mathlib.Core.Logic.{dite}
use mathlib.Core.Option as maybe
use mathlib.Core.List.{IsPrefix}
use native.Mathlib.Decide.{ℕ_discrete}
use lib.ListN.{get_elem?}
use lib.Seq.{set-get_or}
use Rattle.atomic_table.specs.Table.{State, Me, step, keeps, takes, gives, Allows}
use Rattle.atomic_table.proofs.Lists.{set_again, one_turn}
use Rattle.turn_book.specs.declared.view.Stage.{Stage}
use Rattle.turn_book.specs.declared.view.Stage.TheVariants.{Spent, Idle, Waits, OnTurn}
use Rattle.turn_book.specs.declared.view.View.{View}
use Rattle.turn_book.specs.History.{entries}
use Rattle.turn_book.specs.Rule.{tickets, share, Holds, StageOk, SlotOk, BookRule}
use Rattle.turn_book.specs.Steps.{drew, looked, entered, left}
use Rattle.turn_book.proofs.Views.{same_at}
use Rattle.turn_book.proofs.Logs.{entries-push, entries_of-push_same, entries_of-push_other, numbers_cases, prefix_more, whole_prefix, ended_later}
use Rattle.turn_book.proofs.Moves.{moved, moves}

-- one ticket more is out
stage_later : (served drawn : ℕ) (turn : maybe.Option ℕ) (j : ℕ) (stage : Stage) → StageOk served drawn turn j stage → StageOk served (drawn + 1) turn j stage
stage_later served drawn turn j Spent ok = ok
stage_later served drawn turn j Idle ok = ok
stage_later served drawn turn j (Waits n) ok = (ok.0, ok.1, omega (arith, ok.2))
stage_later served drawn turn j (OnTurn n) ok = (ok.0, ok.1, omega (arith, ok.2))

held_below : (served drawn : ℕ) (turn : maybe.Option ℕ) (j : ℕ) (stage : Stage) (n : ℕ) → StageOk served drawn turn j stage → Holds stage n → n < drawn
held_below served drawn turn j Spent n ok holds = absurd holds
held_below served drawn turn j Idle n ok holds = absurd holds
held_below served drawn turn j (Waits m) n ok holds = omega (arith, ok.2, holds)
held_below served drawn turn j (OnTurn m) n ok holds = omega (arith, ok.2, holds)

-- another seat is on turn from now on
stage_taken : (served drawn id j : ℕ) (turn : maybe.Option ℕ) (stage : Stage) → turn ≡ maybe.none → j ≢ id → StageOk served drawn turn j stage → StageOk served drawn (maybe.some id) j stage
stage_taken served drawn id j turn Spent none other ok = λ is. other (sym (maybe.some-injective id j is))
stage_taken served drawn id j turn Idle none other ok = λ is. other (sym (maybe.some-injective id j is))
stage_taken served drawn id j turn (Waits n) none other ok = ((λ is. other (sym (maybe.some-injective id j is))), ok.1, ok.2)
stage_taken served drawn id j turn (OnTurn n) none other ok = absurd (maybe.some-ne-none j (sym ok.0 ∙ none))

-- the seat on turn has left, and its ticket is nobody else's
stage_left : (served drawn id j : ℕ) (turn : maybe.Option ℕ) (stage : Stage) → turn ≡ maybe.some id → j ≢ id → (Holds stage served → ⊥) → StageOk served drawn turn j stage → StageOk (served + 1) drawn maybe.none j stage
stage_left served drawn id j turn Spent was other apart ok = λ is. maybe.some-ne-none j (sym is)
stage_left served drawn id j turn Idle was other apart ok = λ is. maybe.some-ne-none j (sym is)
stage_left served drawn id j turn (Waits n) was other apart ok = ((λ is. maybe.some-ne-none j (sym is)), (let differ : n ≢ served = apart in omega (arith, ok.1)), ok.2)
stage_left served drawn id j turn (OnTurn n) was other apart ok = absurd (other (maybe.some-injective j id (sym ok.0 ∙ was)))

tickets_share : (stage : Stage) (room : ℕ) → tickets stage ≤ share stage room
tickets_share Spent room = omega arith
tickets_share Idle room = omega arith
tickets_share (Waits n) room = omega arith
tickets_share (OnTurn n) room = omega arith

module _ {J E L : Type 0} (history_of : J → List E) (label_of : J → L) (label : L) (seats : ℕ) where
  abbrev V : Type 0
  V = View E L

  abbrev St : Type 0
  St = State (Option J) V

  abbrev Homes : Type 0
  Homes = List (maybe.Option (Option J))

  abbrev Rule : St → Type 0
  Rule = BookRule history_of label_of label seats

  -- a load that changes no view
  unmoved : (s : St) (r : Rule s) (i id : ℕ) (v : V) → get_elem? s.views id ≡ maybe.some v → Rule record { words = set s.words i (get_or s.words i 0); homes = s.homes; views = set s.views id v }
  unmoved s r i id v at = subst (λ (z : List ℕ × List V). Rule record { words = z.0; homes = s.homes; views = z.1 }) (λ k. (sym (set-get_or s.words i 0) k, sym (set_again s.views id v at) k)) r

  -- no more tickets are out than there are seats
  few_out : (s : St) (r : Rule s) → r.drawn ≤ r.served + seats
  few_out s r =
      let least : sum_by (λ (u : V). tickets u.stage) s.views ≤ sum_by (λ (u : V). share u.stage u.room) s.views = sum_by-le-sum_by (λ (u : V). tickets u.stage) (λ (u : V). share u.stage u.room) s.views (λ u. tickets_share u.stage u.room) in
      omega (arith, r.waiting, r.shares)

  -- a seat at rest draws the next ticket
  pub draws : (slots id : ℕ) (me : Me (Option J) V) → me.0.stage ≡ Idle → Allows Rule slots id me 1 (λ n. (n + 1) % 2 ^ 64) (drew (step slots 1 1 0 maybe.none) me)
  draws slots id me idle s r _ at _ =
      let v : V = me.0 in
      let ok = r.each id v at in
      let free : r.turn ≢ maybe.some id = subst (λ (st : Stage). StageOk r.served r.drawn r.turn id st) idle ok.stands in
      let live : v.stage ≢ Spent = λ is. cc (idle, is) in
      let knows = ok.knows live in
      let none : tickets v.stage ≡ 0 = ap tickets idle in (
        moved v (Waits r.drawn) v.seen v.mine,
        keeps,
        tt,
        moves history_of label_of label seats s r id v (set s.words 1 ((get_or s.words 1 0 + 1) % 2 ^ 64)) s.homes r.log r.served (r.drawn + 1) r.turn (Waits r.drawn) v.seen v.mine at record {
          was_live = live;
          live = λ is. cc is;
          words_ok = subst (λ (ws : List ℕ). set ws 1 ((get_or ws 1 0 + 1) % 2 ^ 64) ≡ length r.log % 2 ^ 64 ∷ (r.drawn + 1) % 2 ^ 64 ∷ r.served % 2 ^ 64 ∷ []) (sym r.words)
              (ap (λ (k : ℕ). length r.log % 2 ^ 64 ∷ k ∷ r.served % 2 ^ 64 ∷ []) (mod-add-mod r.drawn (2 ^ 64) 1));
          waiting_ok = omega arith;
          slot_ok = r.slot;
          holder_ok = λ j is. inr ((λ same. free (is ∙ ap maybe.some same)), is, refl);
          stands = (free, omega (arith, r.waiting), omega arith);
          seen_ok = knows.seen;
          mine_ok = knows.mine;
          whole_ok = λ n is. cc is;
          others = λ j u other at' old. record { stands = stage_later r.served r.drawn r.turn j u.stage old.stands; knows = old.knows; whole = old.whole };
          apart_ok = λ j u other at' n own its. let below = held_below r.served r.drawn r.turn j u.stage n (r.each j u at').stands its in absurd (omega arith);
          owned_ok = λ k has. inl has;
          kept_ok = r.kept;
        },
        (r.drawn, ap (λ (ws : List ℕ). get_or ws 1 0) r.words, refl),
      )

  -- where a waiting seat's ticket is served, no seat is on turn
  at_home : (s : St) (r : Rule s) (id n : ℕ) (v : V) → get_elem? s.views id ≡ maybe.some v → v.stage ≡ Waits n → n ≡ r.served → (turn : maybe.Option ℕ) → r.turn ≡ turn → turn ≡ maybe.none
  at_home s r id n v at waits next maybe.none is = refl
  at_home s r id n v at waits next (maybe.some j) is =
      let had = r.holder j is in
      let other : j ≢ id = λ same.
      let one = same_at s.views j had.0 v had.1 (subst (λ (k : ℕ). get_elem? s.views k ≡ maybe.some v) (sym same) at) in
      absurd (cc (had.2, waits, ap (λ (u : V). u.stage) one)) in
      absurd ((r.apart j id had.0 v other had.1 at).tickets r.served
      (subst (λ (st : Stage). Holds st r.served) (sym had.2) refl)
      (subst (λ (st : Stage). Holds st r.served) (sym waits) next))

  -- a waiting seat looks whether its ticket is served
  pub looks : (slots id : ℕ) (me : Me (Option J) V) (n : ℕ) → me.0.stage ≡ Waits n → Allows Rule slots id me 2 (λ x. x) (looked history_of label_of (step slots 2 0 0 maybe.none) me)
  looks slots id me n waits s r _ at _ =
      let v : V = me.0 in
      let ok = r.each id v at in
      let stood : StageOk r.served r.drawn r.turn id (Waits n) = subst (λ (st : Stage). StageOk r.served r.drawn r.turn id st) waits ok.stands in
      let live : v.stage ≢ Spent = λ is. cc (waits, is) in
      let knows = ok.knows live in
      let found : get_or s.words 2 0 ≡ r.served % 2 ^ 64 = ap (λ (ws : List ℕ). get_or ws 2 0) r.words in
      let only : (m : ℕ) → v.stage ≡ Waits m → n ≡ m = λ m is. cc (waits, is) in
      let one : tickets v.stage ≡ 1 = ap tickets waits in
      dite (ℕ_discrete r.served n)
      (λ next.
      let nobody = at_home s r id n v at waits (sym next) r.turn refl in
      let home : SlotOk history_of label_of r.log label maybe.none s.homes = subst (λ (turn : maybe.Option ℕ). SlotOk history_of label_of r.log label turn s.homes) nobody r.slot in
      let x : J = home.0 in
      let sees : IsPrefix v.seen (history_of x) = subst (λ (es : List E). IsPrefix v.seen es) (sym home.2) knows.seen in (
        moved v (OnTurn n) (history_of x) v.mine,
        takes 0 (Some x),
        ap (λ (hs : Homes). get_elem? hs 0) home.1,
        moves history_of label_of label seats s r id v (set s.words 2 (get_or s.words 2 0)) (set s.homes 0 maybe.none) r.log r.served r.drawn (maybe.some id) (OnTurn n) (history_of x) v.mine at record {
          was_live = live;
          live = λ is. cc is;
          words_ok = set-get_or s.words 2 0 ∙ r.words;
          waiting_ok = omega arith;
          slot_ok = ap (λ (hs : Homes). set hs 0 maybe.none) home.1;
          holder_ok = λ j is. inl (sym (maybe.some-injective id j is), ap OnTurn (sym next));
          stands = (refl, sym next, stood.2);
          seen_ok = whole_prefix (history_of x) (entries r.log) home.2;
          mine_ok = knows.mine;
          whole_ok = λ m is. home.2;
          others = λ j u other at' old. record { stands = stage_taken r.served r.drawn id j r.turn u.stage nobody other old.stands; knows = old.knows; whole = old.whole };
          apart_ok = λ j u other at' m own its. (r.apart id j v u (λ same. other (sym same)) at at').tickets m (subst (λ (st : Stage). Holds st m) (sym waits) own) its;
          owned_ok = λ k has. inl has;
          kept_ok = r.kept;
        },
        λ m is. (
          λ off. absurd (off (found ∙ ap (λ (z : ℕ). z % 2 ^ 64) (next ∙ only m is))),
          λ on. (x, ap (λ (z : ℕ). (moved v (OnTurn z) (history_of x) v.mine, (0, Some x) ∷ me.1)) (only m is), sees, knows.named ∙ ap Some (sym home.3)),
        ),
      ))
      (λ wait. (
        v,
        keeps,
        tt,
        unmoved s r 2 id v at,
        λ m is. (
          λ off. refl,
          λ on. absurd (wait (one_turn r.served n (2 ^ 64) stood.1 (let some_out = few_out s r in omega (arith, stood.2, r.few)) (sym found ∙ on ∙ ap (λ (z : ℕ). z % 2 ^ 64) (sym (only m is))))),
        ),
      ))

  enters_with : (slots id : ℕ) (v : V) (n : ℕ) (x : J) (e : E) → v.stage ≡ OnTurn n → history_of x ≡ v.seen ++ e ∷ []
      → Allows Rule slots id (v, (0, Some x) ∷ []) 0 (λ k. (k + 1) % 2 ^ 64) (entered history_of (step slots 0 1 0 maybe.none) (v, (0, Some x) ∷ []))
  enters_with slots id v n x e on_turn adds s r _ at _ =
      let ok = r.each id v at in
      let stood : StageOk r.served r.drawn r.turn id (OnTurn n) = subst (λ (st : Stage). StageOk r.served r.drawn r.turn id st) on_turn ok.stands in
      let live : v.stage ≢ Spent = λ is. cc (on_turn, is) in
      let knows = ok.knows live in
      let log' : List (ℕ × E) = r.log ++ (v.number, e) ∷ [] in
      let grows : entries log' ≡ entries r.log ++ e ∷ [] = entries-push r.log v.number e in
      let whole : history_of x ≡ entries log' = adds ∙ ap (λ (es : List E). es ++ e ∷ []) (ok.whole n on_turn) ∙ sym grows in
      let one : tickets v.stage ≡ 1 = ap tickets on_turn in
      let longer : length r.log + 1 ≡ length log' = sym (length-append r.log ((v.number, e) ∷ [])) in (
        moved v v.stage (history_of x) (v.mine ++ e ∷ []),
        keeps,
        tt,
        moves history_of label_of label seats s r id v (set s.words 0 ((get_or s.words 0 0 + 1) % 2 ^ 64)) s.homes log' r.served r.drawn (maybe.some id) v.stage (history_of x) (v.mine ++ e ∷ []) at record {
          was_live = live;
          live = live;
          words_ok = subst (λ (ws : List ℕ). set ws 0 ((get_or ws 0 0 + 1) % 2 ^ 64) ≡ length log' % 2 ^ 64 ∷ r.drawn % 2 ^ 64 ∷ r.served % 2 ^ 64 ∷ []) (sym r.words)
              (ap (λ (z : ℕ). z ∷ r.drawn % 2 ^ 64 ∷ r.served % 2 ^ 64 ∷ []) (mod-add-mod (length r.log) (2 ^ 64) 1 ∙ ap (λ (z : ℕ). z % 2 ^ 64) longer));
          waiting_ok = omega arith;
          slot_ok = subst (λ (turn : maybe.Option ℕ). SlotOk history_of label_of r.log label turn s.homes) stood.0 r.slot;
          holder_ok = λ j is. inl (sym (maybe.some-injective id j is), on_turn ∙ ap OnTurn stood.1);
          stands = subst (λ (turn : maybe.Option ℕ). StageOk r.served r.drawn turn id v.stage) stood.0 ok.stands;
          seen_ok = whole_prefix (history_of x) (entries log') whole;
          mine_ok = ap (λ (es : List E). es ++ e ∷ []) knows.mine ∙ sym (entries_of-push_same r.log v.number v.number e refl);
          whole_ok = λ m is. whole;
          others = λ j u other at' old. let apart = r.apart id j v u (λ same. other (sym same)) at at' in record {
            stands = subst (λ (turn : maybe.Option ℕ). StageOk r.served r.drawn turn j u.stage) stood.0 old.stands;
            knows = λ alive. let was = old.knows alive in record {
              named = was.named;
              seated = was.seated;
              seen = subst (λ (es : List E). IsPrefix u.seen es) (sym grows) (prefix_more u.seen (entries r.log) (e ∷ []) was.seen);
              mine = was.mine ∙ sym (entries_of-push_other r.log v.number u.number e (apart.numbers live alive));
              first = was.first;
              later = was.later;
            };
            whole = λ m is. absurd (other (maybe.some-injective j id (sym (subst (λ (st : Stage). StageOk r.served r.drawn r.turn j st) is old.stands).0 ∙ stood.0)));
          };
          apart_ok = λ j u other at' m own its. (r.apart id j v u (λ same. other (sym same)) at at').tickets m own its;
          owned_ok = λ k has. numbers_cases r.log v.number e k has;
          kept_ok = ended_later r.log r.splits v.number e r.ended (λ has. r.gone v.number has (id, v, at, live, refl)) r.kept;
        },
        (x, e, refl, adds, refl),
      )

  -- the seat on turn enters the one entry that its value has more
  pub enters : (slots id : ℕ) (me : Me (Option J) V) (n : ℕ) (x : J) (e : E) → me.0.stage ≡ OnTurn n → me.1 ≡ (0, Some x) ∷ [] → history_of x ≡ me.0.seen ++ e ∷ []
      → Allows Rule slots id me 0 (λ k. (k + 1) % 2 ^ 64) (entered history_of (step slots 0 1 0 maybe.none) me)
  enters slots id me n x e on_turn holds adds =
      subst (λ (c : List (ℕ × Option J)). Allows Rule slots id (me.0, c) 0 (λ k. (k + 1) % 2 ^ 64) (entered history_of (step slots 0 1 0 maybe.none) (me.0, c))) (sym holds)
      (enters_with slots id me.0 n x e on_turn adds)

  leaves_with : (slots id : ℕ) (v : V) (n : ℕ) (x : J) → v.stage ≡ OnTurn n → history_of x ≡ v.seen → v.label ≡ Some (label_of x)
      → Allows Rule slots id (v, (0, Some x) ∷ []) 2 (λ k. (k + 1) % 2 ^ 64) (left (step slots 2 1 0 maybe.none) (v, (0, Some x) ∷ []))
  leaves_with slots id v n x on_turn same labelled s r _ at _ =
      let ok = r.each id v at in
      let stood : StageOk r.served r.drawn r.turn id (OnTurn n) = subst (λ (st : Stage). StageOk r.served r.drawn r.turn id st) on_turn ok.stands in
      let live : v.stage ≢ Spent = λ is. cc (on_turn, is) in
      let knows = ok.knows live in
      let out : s.homes ≡ maybe.none ∷ [] = subst (λ (turn : maybe.Option ℕ). SlotOk history_of label_of r.log label turn s.homes) stood.0 r.slot in
      let one : tickets v.stage ≡ 1 = ap tickets on_turn in
      let named : label_of x ≡ label = cc (labelled, knows.named) in (
        moved v Idle v.seen v.mine,
        gives,
        tt,
        moves history_of label_of label seats s r id v (set s.words 2 ((get_or s.words 2 0 + 1) % 2 ^ 64)) (set s.homes 0 (maybe.some (Some x))) r.log (r.served + 1) r.drawn maybe.none Idle v.seen v.mine at record {
          was_live = live;
          live = λ is. cc is;
          words_ok = subst (λ (ws : List ℕ). set ws 2 ((get_or ws 2 0 + 1) % 2 ^ 64) ≡ length r.log % 2 ^ 64 ∷ r.drawn % 2 ^ 64 ∷ (r.served + 1) % 2 ^ 64 ∷ []) (sym r.words)
              (ap (λ (z : ℕ). length r.log % 2 ^ 64 ∷ r.drawn % 2 ^ 64 ∷ z ∷ []) (mod-add-mod r.served (2 ^ 64) 1));
          waiting_ok = omega arith;
          slot_ok = (x, ap (λ (hs : Homes). set hs 0 (maybe.some (Some x))) out, same ∙ ok.whole n on_turn, named);
          holder_ok = λ j is. absurd (maybe.some-ne-none j (sym is));
          stands = λ is. maybe.some-ne-none id (sym is);
          seen_ok = knows.seen;
          mine_ok = knows.mine;
          whole_ok = λ m is. cc is;
          others = λ j u other at' old. record {
            stands = stage_left r.served r.drawn id j r.turn u.stage stood.0 other
                (λ its. (r.apart id j v u (λ is. other (sym is)) at at').tickets r.served (subst (λ (st : Stage). Holds st r.served) (sym on_turn) stood.1) its) old.stands;
            knows = old.knows;
            whole = old.whole;
          };
          apart_ok = λ j u other at' m own its. own;
          owned_ok = λ k has. inl has;
          kept_ok = r.kept;
        },
        refl,
      )

  -- the seat on turn gives the value back and lets the next ticket be served
  pub leaves : (slots id : ℕ) (me : Me (Option J) V) (n : ℕ) (x : J) → me.0.stage ≡ OnTurn n → me.1 ≡ (0, Some x) ∷ [] → history_of x ≡ me.0.seen → me.0.label ≡ Some (label_of x)
      → Allows Rule slots id me 2 (λ k. (k + 1) % 2 ^ 64) (left (step slots 2 1 0 maybe.none) me)
  leaves slots id me n x on_turn holds same labelled =
      subst (λ (c : List (ℕ × Option J)). Allows Rule slots id (me.0, c) 2 (λ k. (k + 1) % 2 ^ 64) (left (step slots 2 1 0 maybe.none) (me.0, c))) (sym holds)
      (leaves_with slots id me.0 n x on_turn same labelled)
