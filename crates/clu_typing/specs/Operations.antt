-- The built-in operations: one line for each, with the types that it takes, the type of its result if it has one, and the exceptions
-- that it can raise besides `failure`. None of these has a value.
use Rattle.std.specs.Prelude.{ℕ, List, [], ◌∷◌, codes, Option, Some, None}
use Rattle.clu_tree.specs.declared.shape.Shape.{Shape}
use Rattle.clu_tree.specs.declared.shape.Shape.TheVariants as shape
use Rattle.clu_tree.specs.declared.shape.Shape.TheOpen as sf
use Rattle.clu_tree.specs.declared.shape.Named.{Named}
use Rattle.clu_tree.specs.declared.op.Op.{Op}
use Rattle.clu_tree.specs.declared.op.Op.TheVariants as op
use Rattle.clu_tree.specs.declared.tree.Infix.{Infix}
use Rattle.clu_tree.specs.declared.tree.Infix.TheVariants as fix
use Rattle.clu_tree.specs.declared.tree.Prefix.{Prefix}
use Rattle.clu_tree.specs.declared.tree.Prefix.TheVariants as pre

-- An operation of a built-in type.
pub record Builtin : Type 0 where
  pub name : List ℕ
  pub op : Op
  pub takes : List Shape
  pub gives : Option Shape
  pub raises : List (List ℕ)

abbrev pub built : List ℕ → Op → List Shape → Option Shape → List (List ℕ) → Builtin
built name o takes gives raises = record { name = name; op = o; takes = takes; gives = gives; raises = raises }

-- two operands of the type, and a bool
abbrev pub compares : List ℕ → Op → Shape → Builtin
compares name o t = built name o (t ∷ t ∷ []) (Some shape.Bool) []

-- two operands of the type, and one more of it
abbrev pub joins : List ℕ → Op → Shape → List (List ℕ) → Builtin
joins name o t raises = built name o (t ∷ t ∷ []) (Some t) raises

abbrev pub bounds : List (List ℕ)
bounds = codes "bounds" ∷ []

abbrev pub overflow : List (List ℕ)
overflow = codes "overflow" ∷ []

abbrev pub int_ops : List Builtin
int_ops =
    joins (codes "add") op.IntAdd shape.Int overflow ∷ joins (codes "sub") op.IntSub shape.Int overflow
    ∷ joins (codes "mul") op.IntMul shape.Int overflow ∷ built (codes "minus") op.IntMinus (shape.Int ∷ []) (Some shape.Int) overflow
    ∷ joins (codes "div") op.IntDiv shape.Int (codes "zero_divide" ∷ overflow) ∷ joins (codes "mod") op.IntMod shape.Int (codes "zero_divide" ∷ overflow)
    ∷ compares (codes "lt") op.IntLt shape.Int ∷ compares (codes "le") op.IntLe shape.Int ∷ compares (codes "equal") op.IntEqual shape.Int
    ∷ compares (codes "ge") op.IntGe shape.Int ∷ compares (codes "gt") op.IntGt shape.Int
    ∷ built (codes "parse") op.IntParse (shape.Str ∷ []) (Some shape.Int) (codes "bad_format" ∷ overflow)
    ∷ built (codes "unparse") op.IntUnparse (shape.Int ∷ []) (Some shape.Str) [] ∷ []

abbrev pub bool_ops : List Builtin
bool_ops =
    joins (codes "and") op.BoolAnd shape.Bool [] ∷ joins (codes "or") op.BoolOr shape.Bool []
    ∷ built (codes "not") op.BoolNot (shape.Bool ∷ []) (Some shape.Bool) [] ∷ compares (codes "equal") op.BoolEqual shape.Bool ∷ []

abbrev pub char_ops : List Builtin
char_ops =
    compares (codes "lt") op.CharLt shape.Char ∷ compares (codes "le") op.CharLe shape.Char ∷ compares (codes "equal") op.CharEqual shape.Char
    ∷ compares (codes "ge") op.CharGe shape.Char ∷ compares (codes "gt") op.CharGt shape.Char
    ∷ built (codes "c2i") op.CharC2i (shape.Char ∷ []) (Some shape.Int) []
    ∷ built (codes "i2c") op.CharI2c (shape.Int ∷ []) (Some shape.Char) (codes "illegal_char" ∷ []) ∷ []

abbrev pub string_ops : List Builtin
string_ops =
    compares (codes "lt") op.StrLt shape.Str ∷ compares (codes "le") op.StrLe shape.Str ∷ compares (codes "equal") op.StrEqual shape.Str
    ∷ compares (codes "ge") op.StrGe shape.Str ∷ compares (codes "gt") op.StrGt shape.Str
    ∷ built (codes "size") op.StrSize (shape.Str ∷ []) (Some shape.Int) [] ∷ joins (codes "concat") op.StrConcat shape.Str []
    ∷ built (codes "append") op.StrAppend (shape.Str ∷ shape.Char ∷ []) (Some shape.Str) []
    ∷ built (codes "fetch") op.StrFetch (shape.Str ∷ shape.Int ∷ []) (Some shape.Char) bounds
    ∷ built (codes "substr") op.StrSubstr (shape.Str ∷ shape.Int ∷ shape.Int ∷ []) (Some shape.Str) (codes "negative_size" ∷ bounds) ∷ []

abbrev pub null_ops : List Builtin
null_ops = compares (codes "equal") op.NullEqual shape.Null ∷ []

-- the operations of the type t, an array of items of the type e
abbrev pub array_ops : Shape → Shape → List Builtin
array_ops t e =
    built (codes "new") op.ArrNew [] (Some t) [] ∷ built (codes "create") op.ArrCreate (shape.Int ∷ []) (Some t) []
    ∷ built (codes "low") op.ArrLow (t ∷ []) (Some shape.Int) [] ∷ built (codes "high") op.ArrHigh (t ∷ []) (Some shape.Int) []
    ∷ built (codes "size") op.ArrSize (t ∷ []) (Some shape.Int) []
    ∷ built (codes "fetch") op.ArrFetch (t ∷ shape.Int ∷ []) (Some e) bounds ∷ built (codes "store") op.ArrStore (t ∷ shape.Int ∷ e ∷ []) None bounds
    ∷ built (codes "addh") op.ArrAddh (t ∷ e ∷ []) None [] ∷ built (codes "addl") op.ArrAddl (t ∷ e ∷ []) None []
    ∷ built (codes "remh") op.ArrRemh (t ∷ []) (Some e) bounds ∷ built (codes "reml") op.ArrReml (t ∷ []) (Some e) bounds
    ∷ built (codes "top") op.ArrTop (t ∷ []) (Some e) bounds ∷ built (codes "bottom") op.ArrBottom (t ∷ []) (Some e) bounds
    ∷ compares (codes "equal") op.ArrEqual t ∷ []

abbrev pub record_ops : Shape → List Builtin
record_ops t = compares (codes "equal") op.RecEqual t ∷ []

abbrev pub lock_ops : List Builtin
lock_ops = built (codes "create") op.LockCreate [] (Some shape.Lock) [] ∷ []

abbrev pub semaphore_ops : List Builtin
semaphore_ops =
    built (codes "create") op.SemCreate (shape.Int ∷ []) (Some shape.Semaphore) [] ∷ built (codes "signal") op.SemSignal (shape.Semaphore ∷ []) None []
    ∷ built (codes "wait") op.SemWait (shape.Semaphore ∷ []) None []
    ∷ built (codes "wait_for") op.SemWaitFor (shape.Semaphore ∷ shape.Int ∷ []) (Some shape.Bool) [] ∷ []

-- the operations of the type t, whose outermost level behind equates is this; `make_` of a oneof's tags and the operations of
-- clusters are not in the table
abbrev pub ops_of : Shape → sf.Shape-F Shape Named → List Builtin
ops_of t sf.Null = null_ops
ops_of t sf.Bool = bool_ops
ops_of t sf.Int = int_ops
ops_of t sf.Char = char_ops
ops_of t sf.Str = string_ops
ops_of t sf.Lock = lock_ops
ops_of t sf.Semaphore = semaphore_ops
ops_of t sf.Cvt = []
ops_of t sf.Rep = []
ops_of t (sf.Name x) = []
ops_of t (sf.Arr e) = array_ops t e
ops_of t (sf.Rec fs) = record_ops t
ops_of t (sf.Oneof fs) = []

-- the name of the operation that an infix operator stands for; `cand` and `cor` stand for none
abbrev pub infix_name : Infix → Option (List ℕ)
infix_name fix.Or = Some (codes "or")
infix_name fix.Cor = None
infix_name fix.And = Some (codes "and")
infix_name fix.Cand = None
infix_name fix.Lt = Some (codes "lt")
infix_name fix.Le = Some (codes "le")
infix_name fix.Equal = Some (codes "equal")
infix_name fix.Ge = Some (codes "ge")
infix_name fix.Gt = Some (codes "gt")
infix_name fix.Add = Some (codes "add")
infix_name fix.Sub = Some (codes "sub")
infix_name fix.Concat = Some (codes "concat")
infix_name fix.Mul = Some (codes "mul")
infix_name fix.Div = Some (codes "div")
infix_name fix.Mod = Some (codes "mod")

-- the name of the operation that an operator before its operand stands for
abbrev pub prefix_name : Prefix → List ℕ
prefix_name pre.Minus = codes "minus"
prefix_name pre.Not = codes "not"
