-- A name that is read is the name that was spelled, and what was spelled is read again.
use Rattle.std.proofs.Common.{◌≡◌, ℕ, zero, suc, ◌<◌, ◌≤◌, Bool, true, false, List, [], ◌∷◌, ◌++◌, length, get_or, take, drop, Option, Some, None, refl, sym, ap, subst, ◌∙◌, arith, inl, inr, ◌⊎◌}
use Rattle.std.specs.Prelude.{IsTrue, All}
use Rattle.std.specs.List.{prefix_len}
use Rattle.std.proofs.lemmas.List.{take-append-drop, take_at, drop_at, get_or-take, length-take}
use Rattle.std.proofs.lemmas.List.Elements.{All-cons, All-head, All-tail}
use Rattle.std.proofs.lemmas.List.Sums.{prefix_len-le-length, prefix_len_passes}
use Rattle.std.proofs.lemmas.Bool.{cond-true}
use Rattle.journal_text.specs.Spelling.{spaced}
use Rattle.byte_classes.specs.Classes.{is_lower, is_word_byte}
use Rattle.journal_text.specs.Grammar.{IsName}
use Rattle.journal_text.specs.Reading.{text_at, name_at, word_name_at}
use Rattle.journal_text.proofs.Fields.{bind_some, chosen, some_has, none_is, text_takes}
use Rattle.journal_text.proofs.Parts.{IsBehind, IsPart, one_spaced}

-- the bytes that pass, at most so many, where one that doesn't stands behind them
run_on : (p : ℕ → Bool) (n : ℕ) (name : List ℕ) (b : ℕ) (rest : List ℕ) → All (λ x. IsTrue (p x)) name → length name ≤ n → p b ≡ false → prefix_len p (take n (name ++ (b ∷ rest))) ≡ length name
run_on p zero [] b rest all short stops = refl
run_on p (suc n) [] b rest all short stops = rw stops refl
run_on p zero (x ∷ name) b rest all short stops = absurd (omega (arith, short))
run_on p (suc n) (x ∷ name) b rest all short stops =
    let others = run_on p n name b rest (All-tail (λ x. IsTrue (p x)) x name all) (omega (arith, short)) stops in
    rw (All-head (λ x. IsTrue (p x)) x name all) (omega (arith, others))

-- the bytes that pass do
run_passes : (p : ℕ → Bool) (most : ℕ) (bytes : List ℕ) (m : ℕ) → m ≡ prefix_len p (take most bytes) → m ≤ most → All (λ x. IsTrue (p x)) (take m bytes)
run_passes p most bytes m e small k d inside =
    let within : k < m = omega (arith, inside, length-take m bytes) in
    let passes : p (get_or (take most bytes) k d) ≡ true = prefix_len_passes p (take most bytes) k d (omega (arith, within, e)) in
    subst (λ (x : ℕ). p x ≡ true) (get_or-take most bytes k d (omega (arith, within, small)) ∙ sym (get_or-take m bytes k d within)) passes

letter_in_name : (b : ℕ) → is_lower b ≡ true → is_word_byte b ≡ true
letter_in_name b letter = rw letter refl

-- a letter is the first of them
longer_by_letter : (b : ℕ) (bytes : List ℕ) → is_lower b ≡ true → prefix_len is_word_byte (take 64 (b ∷ bytes)) ≡ suc (prefix_len is_word_byte (take 63 bytes))
longer_by_letter b bytes letter = rw (letter_in_name b letter) (omega arith)

some_pair : {A B : Type 0} (a c : A) (b d : B) → a ≡ c → b ≡ d → ◌≡◌ {A = Option (A × B)} (Some (a, b)) (Some (c, d))
some_pair a c b d p q = cc

name_taken : (bytes : List ℕ) (x : List ℕ × List ℕ) → name_at bytes ≡ Some x → (bytes ≡ x.0 ++ x.1) × IsName x.0
unfolding name_at
name_taken [] x e = none_is x e
name_taken (b ∷ bytes) x e =
    let n = prefix_len is_word_byte (take 64 (b ∷ bytes)) in
    let m = prefix_len is_word_byte (take 63 bytes) in
    elim (chosen (is_lower b) (Some (take n (b ∷ bytes), drop n (b ∷ bytes))) None (Some x) e) [
      | inl w ↦
          let most : m ≤ 63 = omega (arith, prefix_len-le-length is_word_byte (take 63 bytes), length-take 63 bytes) in
          let longer : n ≡ suc m = longer_by_letter b bytes w.0 in
          let is : IsName (b ∷ take m bytes) = (w.0, run_passes is_word_byte 63 bytes m refl most, omega (arith, length-take m bytes, most)) in
          some_has (λ (y : List ℕ × List ℕ). (b ∷ bytes ≡ y.0 ++ y.1) × IsName y.0) (take n (b ∷ bytes), drop n (b ∷ bytes)) x w.1
          (sym (take-append-drop n (b ∷ bytes)), subst (λ (k : ℕ). IsName (take k (b ∷ bytes))) (sym longer) is)
      | inr w ↦ none_is x w.1
    ]

-- a name is read again where none of its bytes follows it
name_again : (name : List ℕ) (b : ℕ) (rest : List ℕ) → IsName name → is_word_byte b ≡ false → name_at (name ++ (b ∷ rest)) ≡ Some (name, b ∷ rest)
unfolding name_at
name_again [] b rest is stops = absurd is
name_again (c ∷ name) b rest is stops =
    let len : prefix_len is_word_byte (take 64 ((c ∷ name) ++ (b ∷ rest))) ≡ length (c ∷ name) = run_on is_word_byte 64 (c ∷ name) b rest (All-cons (λ x. IsTrue (is_word_byte x)) c name (letter_in_name c is.0) is.1) (omega (arith, is.2)) stops in
    cond-true (is_lower c) _ None is.0 ∙ some_pair _ (c ∷ name) _ (b ∷ rest) (take_at (c ∷ name) (b ∷ rest) _ (sym len)) (drop_at (c ∷ name) (b ∷ rest) _ (sym len))

-- a byte behind a word is none of a name
no_name_byte : (b : ℕ) → (b ≡ 32) ⊎ (b ≡ 10) → is_word_byte b ≡ false
no_name_byte b (inl space) = rw space refl
no_name_byte b (inr end) = rw end refl

abbrev pub name_words : List ℕ → List (List ℕ)
name_words name = name ∷ []

word_name_taken : (bytes : List ℕ) (x : List ℕ × List ℕ) → word_name_at bytes ≡ Some x → (bytes ≡ spaced (name_words x.0) ++ x.1) × IsName x.0
unfolding word_name_at
word_name_taken bytes x e =
    let a = bind_some (text_at (32 ∷ []) bytes) name_at x e in
    let t = name_taken a.0 x a.2 in
    (text_takes (32 ∷ []) bytes a.0 a.1 ∙ ap (λ (after : List ℕ). 32 ∷ after) t.0 ∙ sym (one_spaced x.0 x.1), t.1)

word_name_again : (name : List ℕ) (rest : List ℕ) → IsName name → IsBehind rest → word_name_at (spaced (name_words name) ++ rest) ≡ Some (name, rest)
unfolding word_name_at text_at
word_name_again name [] is behind = absurd behind
word_name_again name (b ∷ rest) is behind = ap word_name_at (one_spaced name (b ∷ rest)) ∙ name_again name b rest is (no_name_byte b behind)

pub name_part : IsPart word_name_at name_words IsName
name_part = record { taken = word_name_taken; again = word_name_again }
