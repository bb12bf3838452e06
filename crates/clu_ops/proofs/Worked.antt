-- The table computes on given operands.
use Rattle.std.proofs.Common.{◌≡◌, [], ◌∷◌, pos, codes, Some, refl}
use Rattle.std.specs.Prelude.{negsuc, ◌-◌, ◌^◌, true}
use Rattle.std.specs.Fmt.{digits}
use Rattle.clu_tree.specs.declared.op.Op.TheVariants as op
use Rattle.clu_tree.specs.declared.value.Value.{Value}
use Rattle.clu_tree.specs.declared.value.Value.TheVariants as value
use Rattle.clu_ops.specs.Ends.{truth, number, character, text, signal}
use Rattle.clu_ops.specs.Ops.{end_of}

abbrev two : Value
two = value.Int (pos 2)

-- -7
abbrev minus_seven : Value
minus_seven = value.Int (negsuc 6)

abbrev least : Value
least = value.Int (negsuc (2 ^ 63 - 1))

quotient : end_of op.IntDiv (minus_seven ∷ two ∷ []) ≡ Some (number (negsuc 3))
quotient = refl

remainder : end_of op.IntMod (minus_seven ∷ two ∷ []) ≡ Some (number (pos 1))
remainder = refl

quotient_by_zero : end_of op.IntDiv (two ∷ value.Int (pos 0) ∷ []) ≡ Some (signal (codes "zero_divide"))
quotient_by_zero = refl

remainder_of_least : end_of op.IntMod (least ∷ value.Int (negsuc 0) ∷ []) ≡ Some (signal (codes "overflow"))
remainder_of_least = refl

parse_least : end_of op.IntParse (value.Str (codes "-9223372036854775808") ∷ []) ≡ Some (number (negsuc (2 ^ 63 - 1)))
parse_least = refl

unparse : end_of op.IntUnparse (minus_seven ∷ []) ≡ Some (text (codes "-7"))
unfolding digits
unparse = refl

less : end_of op.StrLt (value.Str (codes "ab") ∷ value.Str (codes "b") ∷ []) ≡ Some (truth true)
less = refl

fetch : end_of op.StrFetch (value.Str (codes "ab") ∷ two ∷ []) ≡ Some (character 98)
fetch = refl

substr : end_of op.StrSubstr (value.Str (codes "abc") ∷ two ∷ two ∷ []) ≡ Some (text (codes "bc"))
substr = refl
