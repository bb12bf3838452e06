-- A text that an int is written as writes that int.
use Rattle.std.proofs.Common.{arith, ◌≡◌, ◌≢◌, ◌<◌, ℕ, suc, ℤ, pos, negsuc, neg_ℤ, Bool, true, false, List, ◌∷◌, drop, refl, sym, ap, ◌∙◌, slice_index_or}
use Rattle.std.specs.Prelude.{◌^◌, if◌then◌else◌, codes, nat_lt}
use Rattle.std.specs.Fmt.{decimal, signed_decimal}
use Rattle.std.proofs.lemmas.Fmt.{digits_decimal, digits_value-decimal, decimal_nonempty}
use Rattle.std.specs.Str.Parse.{digits_value, starts_with_minus}
use Rattle.std.proofs.lemmas.Str.Parse.{not_in_digits}
use Rattle.clu_ops.specs.Ends.{number, signal}
use Rattle.clu_ops.specs.Ints.{is_int, ranged, is_numeral, magnitude, written, parsed}
use Rattle.clu_ops.proofs.Numerals.{own, is_numeral_from_digits}

below : (n m : ℕ) → nat_lt n m ≡ true → n < m
below n m h = grind arith

is_numeral-decimal : (n : ℕ) → n < 2 ^ 64 → is_numeral (decimal n) ≡ true
is_numeral-decimal n h = sym (is_numeral_from_digits (decimal n) (decimal_nonempty n h)) ∙ digits_decimal own n h

starts_with_digit : (n : ℕ) → n < 2 ^ 64 → starts_with_minus (decimal n) ≡ false
starts_with_digit n h =
    let apart : slice_index_or (decimal n) 0 0 ≢ 45 = not_in_digits own (decimal n) 45 (digits_decimal own n h) (omega arith) 0 (decimal_nonempty n h) in
    grind (arith, apart)

-- what a text with a `-`, or without one, writes
parsed_by_sign : (t ds : List ℕ) (minus : Bool) (z : ℤ) → starts_with_minus t ≡ minus → magnitude t ≡ ds → is_numeral ds ≡ true → (if minus then neg_ℤ (pos (digits_value 10 ds)) else pos (digits_value 10 ds)) ≡ z → is_int z ≡ true → parsed t ≡ number z
parsed_by_sign t ds minus z sign behind numeral is int =
    let some : is_numeral (magnitude t) ≡ true = ap is_numeral behind ∙ numeral in
    let writes : written t ≡ z = (λ i. if sign i then neg_ℤ (pos (digits_value 10 (behind i))) else pos (digits_value 10 (behind i))) ∙ is in
    ap (λ b. if b then ranged (written t) else signal (codes "bad_format")) some ∙ ap ranged writes ∙ ap (λ b. if b then number z else signal (codes "overflow")) int

pub parsed-signed_decimal : (z : ℤ) → is_int z ≡ true → parsed (signed_decimal z) ≡ number z
parsed-signed_decimal (pos n) h =
    let small : n < 2 ^ 64 = let k = below n (2 ^ 63) h in omega (arith, k) in
    let sign = starts_with_digit n small in
    parsed_by_sign (decimal n) (decimal n) false (pos n) sign (ap (λ b. if b then drop 1 (decimal n) else decimal n) sign) (is_numeral-decimal n small) (ap pos (digits_value-decimal own n small)) h
parsed-signed_decimal (negsuc n) h =
    let small : suc n < 2 ^ 64 = let k = below n (2 ^ 63) h in omega (arith, k) in
    parsed_by_sign (45 ∷ decimal (suc n)) (decimal (suc n)) true (negsuc n) refl refl (is_numeral-decimal (suc n) small) (ap (λ k. neg_ℤ (pos k)) (digits_value-decimal own (suc n) small)) h
