-- A field that is read is the field that was written, and what was written is read again.
use Rattle.std.proofs.Common.{◌≡◌, ◌≢◌, ℕ, ◌+◌, ◌-◌, ◌*◌, ◌/◌, ◌%◌, ◌^◌, ◌<◌, ◌≤◌, Bool, true, false, cond, List, [], ◌∷◌, ◌++◌, length, take, drop, Option, Some, None, refl, sym, ap, subst, ◌∙◌, append_assoc, arith, inl, inr, ◌⊎◌}
use Rattle.std.specs.Prelude.{nat_le, nat_eq, ◌==◌, ◌&&◌, ◌||◌, not}
use Rattle.std.specs.Fmt.{decimal}
use Rattle.std.proofs.lemmas.Bool.{eqb-true, eq-eqb, eqb-false, ne_eqb, leb-true, le-leb, lt-leb, and_parts, and_from, and_left, and_right, or_parts, not-false}
use Rattle.std.proofs.lemmas.Fmt.{decimal_digit, decimal_step, decimal_by_steps}
use lib.Pointwise.{pointwise}
use Rattle.byte_classes.specs.Classes.{is_digit}
use Rattle.journal_text.specs.Reading.{◌>>=◌, text_at, digit_at, digits_on, number_at}

-- the value of a step that found something
pub bind_some : {A B : Type 0} (o : Option A) (f : A → Option B) (y : B) → (o >>= f) ≡ Some y → (x : A) × (o ≡ Some x) × (f x ≡ Some y)
bind_some (Some x) f y e = (x, refl, e)
bind_some None f y e = absurd cc

-- which way a test went
pub chosen : {A : Type 0} (b : Bool) (x y z : A) → cond b x y ≡ z → ((b ≡ true) × (x ≡ z)) ⊎ ((b ≡ false) × (y ≡ z))
chosen true x y z e = inl (refl, e)
chosen false x y z e = inr (refl, e)

pub some_is : {A : Type 0} (x y : A) → Some x ≡ Some y → x ≡ y
some_is x y e = cc

-- what holds of one of them holds of the other
pub some_has : {A : Type 0} (P : A → Type 0) (x y : A) → Some x ≡ Some y → P x → P y
some_has P x y e p = subst P (some_is x y e) p

pub none_is : {A P : Type 0} (x : A) → None ≡ Some x → P
none_is x e = absurd cc

-- ---- texts

-- what a comparison with the front of the bytes tells
pub text_at-found : (text bytes : List ℕ) → pointwise nat_eq (take (length text) bytes) text ≡ true → text_at text bytes ≡ Some (drop (length text) bytes)
unfolding text_at
text_at-found [] bytes same = refl
text_at-found (c ∷ text) [] same = absurd cc
text_at-found (c ∷ text) (b ∷ bytes) same =
    let both = and_parts (nat_eq b c) (pointwise nat_eq (take (length text) bytes) text) same in
    rw both.0 (text_at-found text bytes both.1)

pub text_at-missing : (text bytes : List ℕ) → pointwise nat_eq (take (length text) bytes) text ≡ false → text_at text bytes ≡ None
unfolding text_at
text_at-missing [] [] other = absurd cc
text_at-missing [] (b ∷ bytes) other = absurd cc
text_at-missing (c ∷ text) [] other = refl
text_at-missing (c ∷ text) (b ∷ bytes) other =
    elim (nat_eq b c) as (λ same. (same && pointwise nat_eq (take (length text) bytes) text) ≡ false → cond same (text_at text bytes) None ≡ None) [
      | true ↦ λ others. text_at-missing text bytes others
      | false ↦ λ others. refl
    ] other

pub text_takes : (text bytes rest : List ℕ) → text_at text bytes ≡ Some rest → bytes ≡ text ++ rest
unfolding text_at
text_takes [] bytes rest e = some_is bytes rest e
text_takes (c ∷ text) [] rest e = absurd cc
text_takes (c ∷ text) (b ∷ bytes) rest e =
    elim (chosen (b == c) (text_at text bytes) None (Some rest) e) [
      | inl w ↦ let same : b ≡ c = eqb-true b c w.0 in let others = text_takes text bytes rest w.1 in cc
      | inr w ↦ none_is rest w.1
    ]

-- ---- digits

pub is_digit-inside : (b : ℕ) → 48 ≤ b → b ≤ 57 → is_digit b ≡ true
is_digit-inside b low high = and_from (nat_le 48 b) (nat_le b 57) (le-leb 48 b low) (le-leb b 57 high)

pub is_digit-outside : (b : ℕ) → (b < 48) ⊎ (57 < b) → is_digit b ≡ false
is_digit-outside b (inl low) = and_left (nat_le 48 b) (nat_le b 57) (lt-leb 48 b low)
is_digit-outside b (inr high) = and_right (nat_le 48 b) (nat_le b 57) (lt-leb b 57 high)

pub is_digit_tells : (b : ℕ) → is_digit b ≡ true → (48 ≤ b) × (b ≤ 57)
is_digit_tells b e = let both = and_parts (nat_le 48 b) (nat_le b 57) e in (leb-true 48 b both.0, leb-true b 57 both.1)

pub digit_at-empty : (bytes : List ℕ) → length bytes ≡ 0 → digit_at bytes ≡ None
unfolding digit_at
digit_at-empty [] empty = refl
digit_at-empty (b ∷ bytes) empty = absurd (omega arith)

pub digit_at-inside : (bytes : List ℕ) (b : ℕ) (rest : List ℕ) → bytes ≡ b ∷ rest → 48 ≤ b → b ≤ 57 → digit_at bytes ≡ Some (b - 48, rest)
unfolding digit_at
digit_at-inside bytes b rest e low high = ap digit_at e ∙ rw (is_digit-inside b low high) refl

pub digit_at-outside : (bytes : List ℕ) (b : ℕ) (rest : List ℕ) → bytes ≡ b ∷ rest → (b < 48) ⊎ (57 < b) → digit_at bytes ≡ None
unfolding digit_at
digit_at-outside bytes b rest e other = ap digit_at e ∙ rw (is_digit-outside b other) refl

-- ---- numbers

-- one more digit
digits_on-more : (largest value b : ℕ) (bytes : List ℕ) → is_digit b ≡ true → 0 < value → value * 10 + (b - 48) ≤ largest
    → digits_on largest value (b ∷ bytes) ≡ digits_on largest (value * 10 + (b - 48)) bytes
unfolding digits_on
digits_on-more largest value b bytes digit positive small =
    let other : (value == 0) ≡ false = ne_eqb value 0 (λ zero. omega arith) in
    let below : nat_le (value * 10 + (b - 48)) largest ≡ true = le-leb _ _ small in
    rw (digit, other, below) refl

digits_on-end : (largest value b : ℕ) (bytes : List ℕ) → is_digit b ≡ false → digits_on largest value (b ∷ bytes) ≡ Some (value, b ∷ bytes)
unfolding digits_on
digits_on-end largest value b bytes other = rw other refl

-- a digit that makes no number
digits_on-fails : (largest value b : ℕ) (bytes : List ℕ) → is_digit b ≡ true → (value ≡ 0) ⊎ (largest < value * 10 + (b - 48)) → digits_on largest value (b ∷ bytes) ≡ None
unfolding digits_on
digits_on-fails largest value b bytes digit (inl none) = rw (digit, eq-eqb value 0 none) refl
digits_on-fails largest value b bytes digit (inr large) =
    let above : nat_le (value * 10 + (b - 48)) largest ≡ false = lt-leb _ _ large in
    elim (value == 0) as (λ none. cond (is_digit b) (cond (none || not (nat_le (value * 10 + (b - 48)) largest)) None (digits_on largest (value * 10 + (b - 48)) bytes)) (Some (value, b ∷ bytes)) ≡ None) [
      | true ↦ rw digit refl
      | false ↦ rw (digit, above) refl
    ]

-- a number with its last digit
decimal_push : (value b : ℕ) → 0 < value → is_digit b ≡ true → value * 10 + (b - 48) < 2 ^ 64 → decimal (value * 10 + (b - 48)) ≡ decimal value ++ b ∷ []
decimal_push value b positive digit small =
    let range = is_digit_tells b digit in
    let front : (value * 10 + (b - 48)) / 10 ≡ value = omega (arith, range.0, range.1) in
    let last : 48 + (value * 10 + (b - 48)) % 10 ≡ b = omega (arith, range.0, range.1) in
    decimal_step (value * 10 + (b - 48)) (omega arith) small ∙ ap (λ (n : ℕ). decimal n ++ (48 + (value * 10 + (b - 48)) % 10) ∷ []) front ∙ ap (λ (d : ℕ). decimal value ++ d ∷ []) last

-- what the digits of a number and the bytes behind them spell
pub record TakesNumber (bytes : List ℕ) (largest n : ℕ) (rest : List ℕ) : Type 0 where
  pub parts : bytes ≡ decimal n ++ rest
  pub small : n ≤ largest

digits_take : (largest value : ℕ) (bytes : List ℕ) (x : ℕ × List ℕ) → largest < 2 ^ 64 → value ≤ largest → digits_on largest value bytes ≡ Some x → TakesNumber (decimal value ++ bytes) largest x.0 x.1
unfolding digits_on
digits_take largest value [] x limit small e =
    some_has (λ (y : ℕ × List ℕ). TakesNumber (decimal value ++ []) largest y.0 y.1) (value, []) x e (record { parts = refl; small = small })
digits_take largest value (b ∷ bytes) x limit small e =
    elim (chosen (is_digit b) _ _ (Some x) e) [
      | inl w ↦ elim (chosen ((value == 0) || not (nat_le (value * 10 + (b - 48)) largest)) _ _ (Some x) w.1) [
        | inl v ↦ none_is x v.1
        | inr v ↦
            let tests = or_parts (value == 0) (not (nat_le (value * 10 + (b - 48)) largest)) v.0 in
            let other : value ≢ 0 = eqb-false value 0 tests.0 in
            let below : value * 10 + (b - 48) ≤ largest = leb-true _ _ (not-false _ tests.1) in
            let others = digits_take largest (value * 10 + (b - 48)) bytes x limit below v.1 in
            let pushed = decimal_push value b (omega arith) w.0 (omega arith) in
            let regrouped : decimal value ++ (b ∷ bytes) ≡ decimal (value * 10 + (b - 48)) ++ bytes = sym (append_assoc (decimal value) (b ∷ []) bytes) ∙ ap (λ (front : List ℕ). front ++ bytes) (sym pushed) in
            record { parts = regrouped ∙ others.parts; small = others.small }
      ]
      | inr w ↦ some_has (λ (y : ℕ × List ℕ). TakesNumber (decimal value ++ (b ∷ bytes)) largest y.0 y.1) (value, b ∷ bytes) x w.1 (record { parts = refl; small = small })
    ]

digit_takes : (bytes : List ℕ) (x : ℕ × List ℕ) → digit_at bytes ≡ Some x → (bytes ≡ decimal x.0 ++ x.1) × (x.0 ≤ 9)
unfolding digit_at
digit_takes [] x e = none_is x e
digit_takes (b ∷ bytes) x e =
    elim (chosen (is_digit b) _ _ (Some x) e) [
      | inl w ↦
          let range = is_digit_tells b w.0 in
          let shown : decimal (b - 48) ≡ b ∷ [] = decimal_digit (b - 48) (omega (arith, range.0, range.1)) ∙ ap (λ (d : ℕ). d ∷ []) (omega (arith, range.0, range.1)) in
          some_has (λ (y : ℕ × List ℕ). (b ∷ bytes ≡ decimal y.0 ++ y.1) × (y.0 ≤ 9)) (b - 48, bytes) x w.1 (ap (λ (front : List ℕ). front ++ bytes) (sym shown), omega (arith, range.0, range.1))
      | inr w ↦ none_is x w.1
    ]

pub number_takes : (largest : ℕ) (bytes : List ℕ) (x : ℕ × List ℕ) → 9 ≤ largest → largest < 2 ^ 64 → number_at largest bytes ≡ Some x → TakesNumber bytes largest x.0 x.1
unfolding number_at
number_takes largest bytes x low limit e =
    let a = bind_some (digit_at bytes) (λ first. digits_on largest first.0 first.1) x e in
    let first = digit_takes bytes a.0 a.1 in
    let others = digits_take largest a.0.0 a.0.1 x limit (omega (arith, first.1)) a.2 in
    record { parts = first.0 ∙ others.parts; small = others.small }

-- the digits of a number are read, and what follows is read on
Reads_on : ℕ → ℕ → List ℕ → Type 0
Reads_on largest n digits = n ≤ largest → (rest : List ℕ) → number_at largest (digits ++ rest) ≡ digits_on largest n rest

reads_on : (largest n : ℕ) → n < 2 ^ 64 → Reads_on largest n (decimal n)
unfolding Reads_on number_at digit_at
reads_on largest = decimal_by_steps (Reads_on largest)
    (λ n small bound rest.
    let digit = is_digit-inside (48 + n) (omega arith) (omega arith) in
    let same : 48 + n - 48 ≡ n = omega arith in
    rw (digit, same) refl)
    (λ n digits large front bound rest.
    let digit = is_digit-inside (48 + n % 10) (omega arith) (omega arith) in
    let same : n / 10 * 10 + (48 + n % 10 - 48) ≡ n = omega arith in
    let step = digits_on-more largest (n / 10) (48 + n % 10) rest digit (omega arith) (omega arith) in
    ap (number_at largest) (append_assoc digits ((48 + n % 10) ∷ []) rest) ∙ front (omega arith) ((48 + n % 10) ∷ rest) ∙ step ∙ ap (λ (m : ℕ). digits_on largest m rest) same)

-- a number is read again where no digit follows it
pub number_again : (largest n b : ℕ) (rest : List ℕ) → n ≤ largest → n < 2 ^ 64 → is_digit b ≡ false → number_at largest (decimal n ++ (b ∷ rest)) ≡ Some (n, b ∷ rest)
unfolding Reads_on
number_again largest n b rest bound limit other = reads_on largest n limit bound (b ∷ rest) ∙ digits_on-end largest n b rest other

-- ---- the steps of a loop over the digits

pub digits_on-next : (largest value : ℕ) (bytes : List ℕ) (x : ℕ × List ℕ) → digit_at bytes ≡ Some x → 9 ≤ largest → value ≢ 0 → value ≤ (largest - x.0) / 10 → digits_on largest value bytes ≡ digits_on largest (value * 10 + x.0) x.1
unfolding digit_at
digits_on-next largest value [] x e low other small = none_is x e
digits_on-next largest value (b ∷ bytes) x e low other small =
    elim (chosen (is_digit b) _ _ (Some x) e) [
      | inl w ↦
          let Same : ℕ × List ℕ → Type 0 = λ y. value ≤ (largest - y.0) / 10 → digits_on largest value (b ∷ bytes) ≡ digits_on largest (value * 10 + y.0) y.1 in
          let range = is_digit_tells b w.0 in
          some_has Same (b - 48, bytes) x w.1 (λ bound. digits_on-more largest value b bytes w.0 (omega arith) (omega (arith, range.0, range.1))) small
      | inr w ↦ none_is x w.1
    ]

pub digits_on-bad : (largest value : ℕ) (bytes : List ℕ) (x : ℕ × List ℕ) → digit_at bytes ≡ Some x → 9 ≤ largest → (value ≡ 0) ⊎ ((largest - x.0) / 10 < value) → digits_on largest value bytes ≡ None
unfolding digit_at
digits_on-bad largest value [] x e low large = none_is x e
digits_on-bad largest value (b ∷ bytes) x e low large =
    elim (chosen (is_digit b) _ _ (Some x) e) [
      | inl w ↦
          let Fails : ℕ × List ℕ → Type 0 = λ y. (value ≡ 0) ⊎ ((largest - y.0) / 10 < value) → digits_on largest value (b ∷ bytes) ≡ None in
          let range = is_digit_tells b w.0 in
          some_has Fails (b - 48, bytes) x w.1 (λ which. digits_on-fails largest value b bytes w.0 (elim which [ inl none ↦ inl none | inr above ↦ inr (omega (arith, range.0, range.1)) ])) large
      | inr w ↦ none_is x w.1
    ]

pub digits_on-done : (largest value : ℕ) (bytes : List ℕ) → digit_at bytes ≡ None → digits_on largest value bytes ≡ Some (value, bytes)
unfolding digit_at digits_on
digits_on-done largest value [] e = refl
digits_on-done largest value (b ∷ bytes) e =
    elim (chosen (is_digit b) _ _ None e) [
      | inl w ↦ none_is (b - 48, bytes) (sym w.1)
      | inr w ↦ digits_on-end largest value b bytes w.0
    ]
