-- The symbols, by their bytes.
use Rattle.std.proofs.Common.{◌≡◌, ℕ, ◌≤◌, ◌<◌, Bool, true, false, List, [], ◌∷◌, length, refl, sym, ap, ◌∙◌, subst, inl, inr, take, drop, ◌++◌, lit<, arith}
use Rattle.std.specs.Prelude.{◌&&◌, ◌||◌, ◌==◌, not, codes}
use Rattle.std.specs.List.{list_any, AllByRecursion}
use Rattle.std.proofs.lemmas.Bool.{eqb-true, cases_Bool, or_cases, and_parts, not-true, eqb-false, cond-true, cond-false}
use Rattle.std.proofs.lemmas.List.Sums.{AllPass-from_list_all}
use Rattle.std.proofs.lemmas.List.Elements.{All-contains}
use Rattle.std.proofs.lemmas.List.{take-append-drop, length-take-le}
use Rattle.byte_classes.specs.Classes.{is_lower, is_digit}
use Rattle.clu_text.specs.Spelling.{symbols, IsSymbol}
use Rattle.clu_text.specs.Front.{is_single, is_pair, symbol_len, BeginsOther}

-- ---- what a symbol looks like

-- no first byte of any other token
begins_other : ℕ → Bool
begins_other b = not (is_lower b) && (not (is_digit b) && (not (b == 39) && not (b == 34)))

-- one byte or two
is_shape : List ℕ → Bool
is_shape [] = false
is_shape (a ∷ []) = begins_other a && is_single a
is_shape (a ∷ b ∷ []) = begins_other a && is_pair a b
is_shape (a ∷ b ∷ c ∷ bytes) = false

symbol-shape : (w : List ℕ) → IsSymbol w → is_shape w ≡ true
unfolding is_shape begins_other
symbol-shape w h = All-contains (λ v. is_shape v ≡ true) symbols w (AllPass-from_list_all is_shape symbols refl) h

from_begins : (b : ℕ) → begins_other b ≡ true → BeginsOther b
unfolding begins_other
from_begins b h =
    let one = and_parts _ _ h in
    let two = and_parts _ _ one.1 in
    let three = and_parts _ _ two.1 in
    record {
      no_word = not-true _ one.0;
      no_int = not-true _ two.0;
      no_char = eqb-false b 39 (not-true _ three.0);
      no_string = eqb-false b 34 (not-true _ three.1);
    }

-- What the bytes of a symbol are.
pub data Shape : List ℕ → Type 0 where
  one : {a : ℕ} → BeginsOther a → is_single a ≡ true → Shape (a ∷ [])
  two : {a b : ℕ} → BeginsOther a → is_pair a b ≡ true → Shape (a ∷ b ∷ [])

from_shape : (w : List ℕ) → is_shape w ≡ true → Shape w
unfolding is_shape
from_shape [] h = absurd cc
from_shape (a ∷ []) h = let p = and_parts _ _ h in one (from_begins a p.0) p.1
from_shape (a ∷ b ∷ []) h = let p = and_parts _ _ h in two (from_begins a p.0) p.1
from_shape (a ∷ b ∷ c ∷ bytes) h = absurd cc

pub shape : (w : List ℕ) → IsSymbol w → Shape w
shape w h = from_shape w (symbol-shape w h)

-- ---- what is a symbol

one_of : (b : ℕ) (xs : List ℕ) → AllByRecursion (λ x. IsSymbol (x ∷ [])) xs → list_any (λ x. x == b) xs ≡ true → IsSymbol (b ∷ [])
one_of b [] all h = absurd cc
one_of b (x ∷ xs) all h =
    elim (or_cases (x == b) _ h) [
      | inl e ↦ subst (λ y. IsSymbol (y ∷ [])) (eqb-true x b e) all.0
      | inr k ↦ one_of b xs all.1 k
    ]

pub single_symbol : (b : ℕ) → is_single b ≡ true → IsSymbol (b ∷ [])
single_symbol b h =
    one_of b (codes "$()[]{},.:=<>+-*/&|~") (
      (1, lit< tt, refl),
      (
        (2, lit< tt, refl),
        (
          (3, lit< tt, refl),
          (
            (4, lit< tt, refl),
            (
              (5, lit< tt, refl),
              (
                (6, lit< tt, refl),
                (
                  (7, lit< tt, refl),
                  (
                    (8, lit< tt, refl),
                    (
                      (9, lit< tt, refl),
                      (
                        (10, lit< tt, refl),
                        (
                          (11, lit< tt, refl),
                          (
                            (13, lit< tt, refl),
                            (
                              (15, lit< tt, refl),
                              (
                                (17, lit< tt, refl),
                                ((18, lit< tt, refl), ((19, lit< tt, refl), ((20, lit< tt, refl), ((23, lit< tt, refl), ((24, lit< tt, refl), ((25, lit< tt, refl), tt)))))),
                              ),
                            ),
                          ),
                        ),
                      ),
                    ),
                  ),
                ),
              ),
            ),
          ),
        ),
      ),
    ) h

pair_at : (a b x y : ℕ) → a ≡ x → b ≡ y → IsSymbol (x ∷ y ∷ []) → IsSymbol (a ∷ b ∷ [])
pair_at a b x y e f h = subst (λ z. IsSymbol (z ∷ b ∷ [])) (sym e) (subst (λ z. IsSymbol (x ∷ z ∷ [])) (sym f) h)

before_equals : (a b : ℕ) → b ≡ 61 → (a == 58 || a == 126 || a == 60 || a == 62) ≡ true → IsSymbol (a ∷ b ∷ [])
before_equals a b e h =
    elim (or_cases (a == 58 || a == 126 || a == 60) (a == 62) h) [
      | inr p ↦ pair_at a b 62 61 (eqb-true a 62 p) e (16, lit< tt, refl)
      | inl k ↦ elim (or_cases (a == 58 || a == 126) (a == 60) k) [
        | inr p ↦ pair_at a b 60 61 (eqb-true a 60 p) e (14, lit< tt, refl)
        | inl l ↦ elim (or_cases (a == 58) (a == 126) l) [
          | inl p ↦ pair_at a b 58 61 (eqb-true a 58 p) e (0, lit< tt, refl)
          | inr p ↦ pair_at a b 126 61 (eqb-true a 126 p) e (12, lit< tt, refl)
        ]
      ]
    ]

twice : (a b : ℕ) → (b == 47 || b == 124) ≡ true → (a == b) ≡ true → IsSymbol (a ∷ b ∷ [])
twice a b h same =
    elim (or_cases (b == 47) (b == 124) h) [
      | inl p ↦ pair_at a b 47 47 (eqb-true a b same ∙ eqb-true b 47 p) (eqb-true b 47 p) (21, lit< tt, refl)
      | inr p ↦ pair_at a b 124 124 (eqb-true a b same ∙ eqb-true b 124 p) (eqb-true b 124 p) (22, lit< tt, refl)
    ]

pub pair_symbol : (a b : ℕ) → is_pair a b ≡ true → IsSymbol (a ∷ b ∷ [])
pair_symbol a b h =
    elim (cases_Bool (b == 61)) [
      | inl e ↦ before_equals a b (eqb-true b 61 e) (sym (cond-true _ _ _ e) ∙ h)
      | inr e ↦ elim (cases_Bool (b == 47 || b == 124)) [
        | inl p ↦ twice a b p (sym (cond-false _ _ _ e ∙ cond-true _ _ _ p) ∙ h)
        | inr p ↦ let none : is_pair a b ≡ false = cond-false (b == 61) _ _ e ∙ cond-false (b == 47 || b == 124) _ _ p in absurd cc
      ]
    ]

-- ---- the longest symbol at the front

len-pair : (a b : ℕ) (bytes : List ℕ) → is_pair a b ≡ true → symbol_len (a ∷ b ∷ bytes) ≡ 2
unfolding symbol_len
len-pair a b bytes h = cond-true _ _ _ h

len-no_pair : (a b : ℕ) (bytes : List ℕ) → is_pair a b ≡ false → symbol_len (a ∷ b ∷ bytes) ≡ symbol_len (a ∷ [])
unfolding symbol_len
len-no_pair a b bytes h = cond-false _ _ _ h

len-single : (a : ℕ) → is_single a ≡ true → symbol_len (a ∷ []) ≡ 1
unfolding symbol_len
len-single a h = cond-true _ _ _ h

len-none : (a : ℕ) → is_single a ≡ false → symbol_len (a ∷ []) ≡ 0
unfolding symbol_len
len-none a h = cond-false _ _ _ h

len-nil : symbol_len [] ≡ 0
unfolding symbol_len
len-nil = refl

-- it is a symbol
one_is : (a : ℕ) (more : List ℕ) → 0 < symbol_len (a ∷ []) → IsSymbol (take (symbol_len (a ∷ [])) (a ∷ more))
one_is a more h =
    elim (cases_Bool (is_single a)) [
      | inl t ↦ subst (λ n. IsSymbol (take n (a ∷ more))) (sym (len-single a t)) (single_symbol a t)
      | inr t ↦ let none = len-none a t in absurd (omega arith)
    ]

pub symbol_len-is : (bytes : List ℕ) → 0 < symbol_len bytes → IsSymbol (take (symbol_len bytes) bytes)
symbol_len-is [] h = let none = len-nil in absurd (omega arith)
symbol_len-is (a ∷ []) h = one_is a [] h
symbol_len-is (a ∷ b ∷ bytes) h =
    elim (cases_Bool (is_pair a b)) [
      | inl t ↦ subst (λ n. IsSymbol (take n (a ∷ b ∷ bytes))) (sym (len-pair a b bytes t)) (pair_symbol a b t)
      | inr t ↦ let same = len-no_pair a b bytes t in
          subst (λ n. IsSymbol (take n (a ∷ b ∷ bytes))) (sym same) (one_is a (b ∷ bytes) (omega arith))
    ]

one_within : (a : ℕ) → symbol_len (a ∷ []) ≤ 1
one_within a =
    elim (cases_Bool (is_single a)) [
      | inl t ↦ let one = len-single a t in omega arith
      | inr t ↦ let none = len-none a t in omega arith
    ]

pub symbol_len-within : (bytes : List ℕ) → symbol_len bytes ≤ length bytes
symbol_len-within [] = let none = len-nil in omega arith
symbol_len-within (a ∷ []) = one_within a
symbol_len-within (a ∷ b ∷ bytes) =
    elim (cases_Bool (is_pair a b)) [
      | inl t ↦ let two = len-pair a b bytes t in omega arith
      | inr t ↦ let same = len-no_pair a b bytes t in let one = one_within a in omega arith
    ]

-- no symbol at the front is longer
longest_one : (a : ℕ) (more : List ℕ) → is_single a ≡ true → 1 ≤ symbol_len (a ∷ more)
longest_one a [] h = let one = len-single a h in omega arith
longest_one a (b ∷ bytes) h =
    elim (cases_Bool (is_pair a b)) [
      | inl t ↦ let two = len-pair a b bytes t in omega arith
      | inr t ↦ let same = len-no_pair a b bytes t in let one = len-single a h in omega arith
    ]

covers : (w more : List ℕ) → Shape w → length w ≤ symbol_len (w ++ more)
covers _ more (one {a = a} p h) = longest_one a more h
covers _ more (two {a = a} {b = b} p h) = let two = len-pair a b more h in omega arith

pub symbol_len-covers : (n : ℕ) (bytes : List ℕ) → n ≤ length bytes → IsSymbol (take n bytes) → n ≤ symbol_len bytes
symbol_len-covers n bytes le h =
    let reach = covers (take n bytes) (drop n bytes) (shape (take n bytes) h) in
    let whole = ap symbol_len (take-append-drop n bytes) in
    let size = length-take-le n bytes le in
    omega arith
