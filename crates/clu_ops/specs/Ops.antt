-- The built-in operations on ints, bools, chars, strings and nil, by table.
use Rattle.std.specs.Prelude.{ℕ, ℤ, pos, ◌+ℤ◌, ◌-ℤ◌, ◌*ℤ◌, neg_ℤ, Bool, not, ◌&&◌, ◌||◌, true, if◌then◌else◌, List, [], ◌∷◌, ◌++◌, length, Option, Some, None, IsSome}
use Rattle.std.specs.declared.cmp.Ordering.{Ordering}
use Rattle.std.specs.Ordering.{nat_cmp, int_cmp, is_lt, is_le, is_eq, is_ge, is_gt}
use Rattle.std.specs.Cmp.Lexicographic.{slice_cmp}
use Rattle.std.specs.Fmt.{signed_decimal}
use Rattle.clu_tree.specs.declared.op.Op.{Op}
use Rattle.clu_tree.specs.declared.op.Op.TheVariants as op
use Rattle.clu_tree.specs.declared.value.Value.{Value}
use Rattle.clu_tree.specs.declared.value.Value.TheVariants as value
use Rattle.clu_ops.specs.declared.op_end.OpEnd.{OpEnd}
use Rattle.clu_ops.specs.Ends.{truth, number, text}
use Rattle.clu_ops.specs.Ints.{ranged, quotient, remainder, parsed, char_of}
use Rattle.clu_ops.specs.Texts.{limited, fetched, part}

-- ---- operands, by number and kind

abbrev pub int : (ℤ → OpEnd) → List Value → Option OpEnd
int f (value.Int a ∷ []) = Some (f a)
int f _ = None

abbrev pub ints : (ℤ → ℤ → OpEnd) → List Value → Option OpEnd
ints f (value.Int a ∷ value.Int b ∷ []) = Some (f a b)
ints f _ = None

abbrev pub bool : (Bool → OpEnd) → List Value → Option OpEnd
bool f (value.Bool a ∷ []) = Some (f a)
bool f _ = None

abbrev pub bools : (Bool → Bool → OpEnd) → List Value → Option OpEnd
bools f (value.Bool a ∷ value.Bool b ∷ []) = Some (f a b)
bools f _ = None

abbrev pub char : (ℕ → OpEnd) → List Value → Option OpEnd
char f (value.Char a ∷ []) = Some (f a)
char f _ = None

abbrev pub chars : (ℕ → ℕ → OpEnd) → List Value → Option OpEnd
chars f (value.Char a ∷ value.Char b ∷ []) = Some (f a b)
chars f _ = None

abbrev pub str : (List ℕ → OpEnd) → List Value → Option OpEnd
str f (value.Str a ∷ []) = Some (f a)
str f _ = None

abbrev pub strs : (List ℕ → List ℕ → OpEnd) → List Value → Option OpEnd
strs f (value.Str a ∷ value.Str b ∷ []) = Some (f a b)
strs f _ = None

abbrev pub str_char : (List ℕ → ℕ → OpEnd) → List Value → Option OpEnd
str_char f (value.Str a ∷ value.Char b ∷ []) = Some (f a b)
str_char f _ = None

abbrev pub str_int : (List ℕ → ℤ → OpEnd) → List Value → Option OpEnd
str_int f (value.Str a ∷ value.Int b ∷ []) = Some (f a b)
str_int f _ = None

abbrev pub str_ints : (List ℕ → ℤ → ℤ → OpEnd) → List Value → Option OpEnd
str_ints f (value.Str a ∷ value.Int b ∷ value.Int c ∷ []) = Some (f a b c)
str_ints f _ = None

abbrev pub nils : OpEnd → List Value → Option OpEnd
nils e (value.Nil ∷ value.Nil ∷ []) = Some e
nils e _ = None

-- ---- the table

-- the order of two operands passes a test
abbrev pub compared : {A : Type 0} → (A → A → Ordering) → (Ordering → Bool) → A → A → OpEnd
compared order test a b = truth (test (order a b))

-- How an operation ends on its operands. It is None where they aren't of its number and kinds,
-- and for operations on objects, which need a store.
abbrev pub end_of : Op → List Value → Option OpEnd
end_of op.IntAdd = ints (λ a b. ranged (a +ℤ b))
end_of op.IntSub = ints (λ a b. ranged (a -ℤ b))
end_of op.IntMul = ints (λ a b. ranged (a *ℤ b))
end_of op.IntMinus = int (λ a. ranged (neg_ℤ a))
end_of op.IntDiv = ints quotient
end_of op.IntMod = ints remainder
end_of op.IntLt = ints (compared int_cmp is_lt)
end_of op.IntLe = ints (compared int_cmp is_le)
end_of op.IntEqual = ints (compared int_cmp is_eq)
end_of op.IntGe = ints (compared int_cmp is_ge)
end_of op.IntGt = ints (compared int_cmp is_gt)
end_of op.IntParse = str parsed
end_of op.IntUnparse = int (λ a. text (signed_decimal a))
end_of op.BoolAnd = bools (λ a b. truth (a && b))
end_of op.BoolOr = bools (λ a b. truth (a || b))
end_of op.BoolNot = bool (λ a. truth (not a))
end_of op.BoolEqual = bools (λ a b. truth (if a then b else not b))
end_of op.CharLt = chars (compared nat_cmp is_lt)
end_of op.CharLe = chars (compared nat_cmp is_le)
end_of op.CharEqual = chars (compared nat_cmp is_eq)
end_of op.CharGe = chars (compared nat_cmp is_ge)
end_of op.CharGt = chars (compared nat_cmp is_gt)
end_of op.CharC2i = char (λ c. number (pos c))
end_of op.CharI2c = int char_of
end_of op.StrLt = strs (compared (slice_cmp nat_cmp) is_lt)
end_of op.StrLe = strs (compared (slice_cmp nat_cmp) is_le)
end_of op.StrEqual = strs (compared (slice_cmp nat_cmp) is_eq)
end_of op.StrGe = strs (compared (slice_cmp nat_cmp) is_ge)
end_of op.StrGt = strs (compared (slice_cmp nat_cmp) is_gt)
end_of op.StrSize = str (λ t. number (pos (length t)))
end_of op.StrConcat = strs (λ a b. limited (a ++ b))
end_of op.StrAppend = str_char (λ t c. limited (t ++ c ∷ []))
end_of op.StrFetch = str_int fetched
end_of op.StrSubstr = str_ints part
end_of op.NullEqual = nils (truth true)
end_of _ = λ args. None

-- the operation is one of these, and the operands are of its number and kinds
abbrev pub Takes : Op → List Value → Type 0
Takes o args = IsSome (end_of o args)
