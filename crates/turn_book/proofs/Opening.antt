-- The table of a new book meets the rule.
use Rattle.std.proofs.Common.{◌≡◌, ℕ, ◌^◌, ◌<◌, ◌≤◌, List, [], ◌∷◌, refl, sym, ◌∙◌, subst, arith, Option, Some}
use mathlib.Core.Option as maybe
use Rattle.std.proofs.lemmas.List.Elements.{All-nil}
use Rattle.atomic_table.specs.Table.{opening}
use Rattle.turn_book.specs.declared.view.View.{View}
use Rattle.turn_book.specs.Rule.{EndedOk, ViewOk, BookRule, first_view}
use Rattle.turn_book.proofs.Views.{only_one}

module _ {J E L : Type 0} (history_of : J → List E) (label_of : J → L) where
  opens_with : (x : J) (seats : ℕ) → 1 ≤ seats → seats < 2 ^ 32 → history_of x ≡ []
      → BookRule history_of label_of (label_of x) seats (opening (0 ∷ 0 ∷ 0 ∷ []) (Some x ∷ []) (first_view (label_of x) seats))
  opens_with x seats some few empty = let v : View E L = first_view (label_of x) seats in record {
    log = [];
    served = 0;
    drawn = 0;
    splits = 0;
    ended = [];
    turn = maybe.none;
    words = refl;
    few = few;
    waiting = refl;
    shares = omega arith;
    slot = (x, refl, empty, refl);
    holder = λ j is. absurd (maybe.some-ne-none j (sym is));
    each = λ j u at. let one = only_one v u j at in subst (λ (w : View E L). ViewOk [] 0 [] 0 0 maybe.none (label_of x) seats j w) one.1 record {
      stands = λ is. maybe.some-ne-none j (sym is);
      knows = λ _. record { named = refl; seated = refl; seen = ([], refl); mine = refl; first = λ _. (refl, refl); later = λ other. absurd (other refl) };
      whole = λ n is. cc;
    };
    apart = λ i j u w other at at'. absurd (other ((only_one v u i at).0 ∙ sym (only_one v w j at').0));
    root = (0, v, refl, (λ is. cc), refl);
    owned = λ k has. absurd (omega (arith, has.1));
    kept = All-nil (EndedOk [] 0);
    once = λ i j d lt in_range. absurd (omega arith);
    gone = λ k has _. omega (arith, has.1);
  }

  -- the same for a slot and a key that have the value
  pub opens : (x y : J) (slots : List (Option J)) (seats : ℕ) → y ≡ x → slots ≡ Some x ∷ [] → 1 ≤ seats → seats < 2 ^ 32 → history_of x ≡ []
      → BookRule history_of label_of (label_of y) seats (opening (0 ∷ 0 ∷ 0 ∷ []) slots (first_view (label_of y) seats))
  opens x y slots seats is filled some few empty =
      subst (λ (z : J × List (Option J)). BookRule history_of label_of (label_of z.0) seats (opening (0 ∷ 0 ∷ 0 ∷ []) z.1 (first_view (label_of z.0) seats))) (λ i. (sym is i, sym filled i))
      (opens_with x seats some few empty)
