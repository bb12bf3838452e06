-- Texts that write an int.
use Rattle.std.proofs.Common.{rules, arith, ◌≡◌, ℕ, suc, zero, ◌<◌, ◌≤◌, ℤ, pos, neg_ℤ, Bool, true, false, List, [], ◌∷◌, length, drop, refl, sym, ap, ◌∙◌, Result, Ok, Err, Option, codes}
use Rattle.std.proofs.lemmas.Bool.{false≢true}
use Rattle.std.proofs.lemmas.Int.{ints}
use Rattle.std.proofs.lemmas.Fmt.{IsAscii-from_digits}
use Rattle.std.specs.Int.{w64}
use Rattle.std.specs.Prelude.{FitsSigned, IfOk, if◌then◌else◌, ◌^◌}
use Rattle.std.specs.List.{list_all}
use Rattle.std.specs.Char.{is_ascii_digit}
use Rattle.std.specs.Option.{SomeIff}
use Rattle.std.specs.Result.{OkIff, result_ok}
use Rattle.std.specs.Str.{IsAscii, IsUtf8}
use Rattle.std.specs.Str.Parse.{ParsesSigned, digits_value, starts_with_minus}
use Rattle.std.proofs.lemmas.Str.Parse.{IsNumeralModel, IsDigitsTest, numerals_by_value, parse_signed_minus, parse_signed_digits}
use Rattle.std.proofs.lemmas.Str.{IsUtf8-from_ascii}
use Rattle.clu_ops.specs.declared.op_end.OpEnd.{OpEnd}
use Rattle.clu_ops.specs.Ends.{signal}
use Rattle.clu_ops.specs.Ints.{ranged, magnitude, is_numeral, written, parsed}

tells_digits : IsDigitsTest (λ ds. list_all is_ascii_digit ds ≡ true)
tells_digits = search rules

pub own : IsNumeralModel (λ ds. list_all is_ascii_digit ds ≡ true) (digits_value 10)
own = numerals_by_value _ tells_digits

-- what two tests that both hold say of a numeral
parts : (ds : List ℕ) → is_numeral ds ≡ true → (0 < length ds) × (list_all is_ascii_digit ds ≡ true)
parts [] e = absurd (false≢true e)
parts (d ∷ ds) e = (omega arith, e)

some_iff : {E : Type 0} {Q : Type 0} (z : ℤ) (r : Result ℤ E) → OkIff r Q z → (Q → FitsSigned w64 z) → (FitsSigned w64 z → Q) → SomeIff (result_ok r) (FitsSigned w64 z) z
some_iff z (Ok x) h to from = (to h.0, h.1)
some_iff z (Err x) h to from = λ f. h (from f)

negative_fits : (n : ℕ) → n ≤ 2 ^ 63 → FitsSigned w64 (neg_ℤ (pos n))
negative_fits n h = omega (arith, ints)

fits_negative : (n : ℕ) → FitsSigned w64 (neg_ℤ (pos n)) → n ≤ 2 ^ 63
fits_negative n h = omega (arith, ints)

by_sign : {E : Type 0} (bs : List ℕ) (r : Result ℤ E) → ParsesSigned w64 10 bs r → (minus : Bool) → starts_with_minus bs ≡ minus → is_numeral (if minus then drop 1 bs else bs) ≡ true →
    let n = digits_value 10 (if minus then drop 1 bs else bs) in
    SomeIff (result_ok r) (FitsSigned w64 (if minus then neg_ℤ (pos n) else pos n)) (if minus then neg_ℤ (pos n) else pos n)
by_sign bs r h true m e =
    let n = digits_value 10 (drop 1 bs) in
    let is = parts (drop 1 bs) e in
    some_iff (neg_ℤ (pos n)) r (parse_signed_minus own w64 bs r h (search (rules, m))) (λ q. negative_fits n q.2) (λ f. (is.1, is.0, fits_negative n f))
by_sign bs r h false m e =
    let n = digits_value 10 bs in
    let is = parts bs e in
    some_iff (pos n) r (parse_signed_digits own w64 bs r h is.1) (λ q. record { sfits = q.1 }) (λ f. (is.0, f.sfits))

-- a number that was read from a numeral is the number that it writes
pub ok_where_it_fits : {E : Type 0} (bs : List ℕ) (r : Result ℤ E) → ParsesSigned w64 10 bs r → is_numeral (magnitude bs) ≡ true → SomeIff (result_ok r) (FitsSigned w64 (written bs)) (written bs)
ok_where_it_fits bs r h e = by_sign bs r h (starts_with_minus bs) refl e

ascii_digits : (ds : List ℕ) → is_numeral ds ≡ true → IsAscii ds
ascii_digits ds e = IsAscii-from_digits ds (own.to ds (parts ds e).1)

ascii_cons : (c : ℕ) (cs : List ℕ) → c ≡ 45 → IsAscii cs → IsAscii (c ∷ cs)
ascii_cons c cs is h zero = omega arith
ascii_cons c cs is h (suc i) = h i

ascii_by_sign : (bs : List ℕ) (minus : Bool) → starts_with_minus bs ≡ minus → is_numeral (if minus then drop 1 bs else bs) ≡ true → IsAscii bs
ascii_by_sign bs false m e = ascii_digits bs e
ascii_by_sign [] true m e = absurd (search (rules, m))
ascii_by_sign (c ∷ cs) true m e = ascii_cons c cs (search (rules, m)) (ascii_digits cs e)

-- a text that writes an int is ASCII
pub is_utf8 : (bs : List ℕ) → is_numeral (magnitude bs) ≡ true → IsUtf8 bs
is_utf8 bs e = IsUtf8-from_ascii bs (ascii_by_sign bs (starts_with_minus bs) refl e)

pub is_numeral_from_digits : (ds : List ℕ) → 0 < length ds → list_all is_ascii_digit ds ≡ is_numeral ds
is_numeral_from_digits [] h = absurd (omega (arith, h))
is_numeral_from_digits (d ∷ ds) h = refl

-- an operation that ends with the number that was read ends as the parsing of the text does
pub ends_parsed : {X : Type 0} (bs : List ℕ) (int : Option ℤ) (r : Result OpEnd X) → IfOk r (λ e. (z : ℤ) → SomeIff int (FitsSigned w64 z) z → e ≡ ranged z) → is_numeral (magnitude bs) ≡ true → SomeIff int (FitsSigned w64 (written bs)) (written bs) → IfOk r (λ e. e ≡ parsed bs)
ends_parsed bs int (Ok e) h is some = h (written bs) some ∙ sym (ap (λ b. if b then ranged (written bs) else signal (codes "bad_format")) is)
ends_parsed bs int (Err x) h is some = tt
