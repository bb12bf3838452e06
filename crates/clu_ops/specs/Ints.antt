-- The operations on ints and chars.
use Rattle.std.specs.Prelude.{◌≡◌, ℕ, ◌^◌, ℤ, pos, negsuc, zero, neg_ℤ, ◌+ℤ◌, ◌*ℤ◌, ◌≤ℤ◌, ◌<ℤ◌, unsigned_abs, Bool, true, false, nat_lt, nat_le, if◌then◌else◌, List, [], ◌∷◌, drop, codes}
use Rattle.std.specs.Int.{int_div_euclid, int_rem_euclid}
use Rattle.std.specs.List.{list_all}
use Rattle.std.specs.Char.{is_ascii_digit}
use Rattle.std.specs.Str.Parse.{digits_value, starts_with_minus}
use Rattle.clu_ops.specs.declared.op_end.OpEnd.{OpEnd}
use Rattle.clu_ops.specs.Ends.{number, character, signal}

-- z is from -2^63 to 2^63 - 1
abbrev pub is_int : ℤ → Bool
is_int (pos n) = nat_lt n (2 ^ 63)
is_int (negsuc n) = nat_lt n (2 ^ 63)

-- z, where it is an int
abbrev pub ranged : ℤ → OpEnd
ranged z = if is_int z then number z else signal (codes "overflow")

abbrev pub is_zero : ℤ → Bool
is_zero (pos zero) = true
is_zero z = false

-- x is q times y and r more, where r isn't negative and is below |y|
pub record IsDivision (x y q r : ℤ) : Type 0 where
  pub sum : q *ℤ y +ℤ r ≡ x
  pub least : pos 0 ≤ℤ r
  pub below : r <ℤ pos (unsigned_abs y)

-- the quotient q of x = q*y + r with 0 <= r < |y|
abbrev pub quotient : ℤ → ℤ → OpEnd
quotient x y = if is_zero y then signal (codes "zero_divide") else ranged (int_div_euclid x y)

-- that remainder r, where the quotient is an int
abbrev pub remainder : ℤ → ℤ → OpEnd
remainder x y = if is_zero y then signal (codes "zero_divide")
    else (if is_int (int_div_euclid x y) then number (int_rem_euclid x y) else signal (codes "overflow"))

-- what stands behind a leading `-`, or else the whole text
abbrev pub magnitude : List ℕ → List ℕ
magnitude t = if starts_with_minus t then drop 1 t else t

-- at least one digit, and nothing else
abbrev pub is_numeral : List ℕ → Bool
is_numeral [] = false
is_numeral (c ∷ cs) = list_all is_ascii_digit (c ∷ cs)

-- the number that digits write, its negative behind a `-`
abbrev pub written : List ℕ → ℤ
written t = if starts_with_minus t then neg_ℤ (pos (digits_value 10 (magnitude t))) else pos (digits_value 10 (magnitude t))

-- the int that a text writes: a `-` or none, and at least one digit
abbrev pub parsed : List ℕ → OpEnd
parsed t = if is_numeral (magnitude t) then ranged (written t) else signal (codes "bad_format")

-- the char of a code from 0 to 255
abbrev pub char_of : ℤ → OpEnd
char_of (pos n) = if nat_le n 255 then character n else signal (codes "illegal_char")
char_of (negsuc n) = signal (codes "illegal_char")
