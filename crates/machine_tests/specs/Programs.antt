-- Trees of further programs of the tests. Each line of a tree is 2.
use Rattle.std.specs.Prelude.{ℕ, ℤ, pos, Bool, true, false, List, [], ◌∷◌, codes, Option, Some, None}
use Rattle.clu_tree.specs.declared.value.Value.TheVariants as value
use Rattle.clu_tree.specs.declared.value.Sig.{Sig}
use Rattle.clu_tree.specs.declared.shape.Shape.{Shape}
use Rattle.clu_tree.specs.declared.shape.Shape.TheVariants as shape
use Rattle.clu_tree.specs.declared.shape.Named.{Named, roll-Named}
use Rattle.clu_tree.specs.declared.op.Op.{Op}
use Rattle.clu_tree.specs.declared.op.Op.TheVariants as op
use Rattle.clu_tree.specs.declared.tree.Meant.TheVariants as m
use Rattle.clu_tree.specs.declared.tree.Infix.{Infix}
use Rattle.clu_tree.specs.declared.tree.Infix.TheVariants as fix
use Rattle.clu_tree.specs.declared.tree.Iter.TheVariants as iter
use Rattle.clu_tree.specs.declared.tree.Target.TheVariants as target
use Rattle.clu_tree.specs.declared.tree.Remote.TheVariants as remote
use Rattle.clu_tree.specs.declared.tree.Expr.{Expr}
use Rattle.clu_tree.specs.declared.tree.Expr.TheVariants as e
use Rattle.clu_tree.specs.declared.tree.FieldInit.{FieldInit, roll-FieldInit}
use Rattle.clu_tree.specs.declared.tree.Stmt.{Stmt}
use Rattle.clu_tree.specs.declared.tree.Stmt.TheVariants as s
use Rattle.clu_tree.specs.declared.tree.Arm.{Arm, roll-Arm}
use Rattle.clu_tree.specs.declared.tree.TagArm.{TagArm, roll-TagArm}
use Rattle.clu_tree.specs.declared.tree.Handlers.{Handlers, roll-Handlers}
use Rattle.clu_tree.specs.declared.tree.When.{When, roll-When}
use Rattle.clu_tree.specs.declared.program.Routine.{Routine}
use Rattle.machine_rules.specs.Examples.{both, call, int, int_named, ints, local, lock, oops, over_array, routine, says, shown, text, truth}

-- ---- parts

abbrev pub binary : Expr → Infix → Expr → Op → Expr
binary a o b does = e.Binary a o b 2 (m.Op does)

abbrev pub operation : Shape → List ℕ → List Expr → Op → Expr
operation t name args does = e.Op t name args 2 (m.Op does)

abbrev pub string : List ℕ → Expr
string t = e.Literal (value.Str t) 2

abbrev pub sets : List ℕ → Expr → Stmt
sets x v = s.Assign (target.Name x 2 m.Local) v 2

abbrev pub declares : List ℕ → Shape → Expr → Stmt
declares x t v = s.Declare x t (Some v) 2

abbrev pub unset : List ℕ → Shape → Stmt
unset x t = s.Declare x t None 2

abbrev pub named : List ℕ → Shape → Named
named x t = roll-Named (record { name = x; shape = t })

-- ---- `n: int := 0`, `while n < 2 do n := n + 1 end`, and a choice of three by `n`

abbrev pub n : Expr
n = local (codes "n")

abbrev pub is_number : ℤ → Expr
is_number k = binary n fix.Equal (int k) op.IntEqual

abbrev pub counted : Stmt
counted = s.While (binary n fix.Lt (int (pos 2)) op.IntLt) (sets (codes "n") (binary n fix.Add (int (pos 1)) op.IntAdd) ∷ []) 2

abbrev pub is_two : Arm
is_two = roll-Arm (record { test = is_number (pos 2); body = text (codes "two") ∷ [] })

abbrev pub chosen : Stmt
chosen = s.If (is_number (pos 1)) (text (codes "one") ∷ []) (is_two ∷ []) (Some (text (codes "more") ∷ [])) 2

abbrev pub counting : List Stmt
counting = declares (codes "n") shape.Int (int (pos 0)) ∷ counted ∷ chosen ∷ []

-- ---- `b: bool`, and a choice that never looks at it

abbrev pub unseen : Bool → Infix → Expr
unseen b o = e.Binary (truth b) o (local (codes "b")) 2 m.Unknown

abbrev pub either : Arm
either = roll-Arm (record { test = unseen true fix.Cor; body = s.Begin (text (codes "cor") ∷ []) 2 ∷ [] })

abbrev pub choosing : List Stmt
choosing = unset (codes "b") shape.Bool ∷ s.If (unseen false fix.Cand) (text (codes "cand") ∷ []) (either ∷ []) None 2 ∷ []

-- ---- `for i: int in int$from_to(1, 2) do put_line(int$unparse(i)) end` and `put_line(int$unparse(now()))`

abbrev pub numbers : List Stmt
numbers = s.For (codes "i") shape.Int (iter.FromTo (int (pos 1)) (int (pos 2)) 2) (shown (local (codes "i")) ∷ []) 2 ∷ shown (e.Now 2) ∷ []

-- ---- a loop over an array that loses its last element in each turn

abbrev pub shrunk : Stmt
shrunk = s.Call (operation ints (codes "remh") (local (codes "a") ∷ []) op.ArrRemh) 2

abbrev pub shrinking : List Stmt
shrinking = both ∷ over_array (shrunk ∷ shown (local (codes "i")) ∷ []) ∷ []

-- ---- the other operations of arrays, on one that begins empty with the low 0

abbrev pub a : Expr
a = local (codes "a")

abbrev pub on_a : List ℕ → Op → Expr
on_a name does = operation ints name (a ∷ []) does

-- `array[int]$name(a, n)`
abbrev pub adds_to_a : List ℕ → ℤ → Op → Stmt
adds_to_a name k does = s.Call (operation ints name (a ∷ int k ∷ []) does) 2

abbrev pub made_empty : Stmt
made_empty = declares (codes "a") ints (operation ints (codes "create") (int (pos 0) ∷ []) op.ArrCreate)

-- `put_line(int$unparse(array[int]$name(a) + array[int]$other(a)))`
abbrev pub sum_shown : List ℕ → Op → List ℕ → Op → Stmt
sum_shown name does other also = shown (binary (on_a name does) fix.Add (on_a other also) op.IntAdd)

abbrev pub low_and_size : Stmt
low_and_size = sum_shown (codes "low") op.ArrLow (codes "size") op.ArrSize

abbrev pub top_and_bottom : Stmt
top_and_bottom = sum_shown (codes "top") op.ArrTop (codes "bottom") op.ArrBottom

-- `if a = array[int]$new() then put_line("same") else put_line("other") end`
abbrev pub is_new : Expr
is_new = binary a fix.Equal (operation ints (codes "new") [] op.ArrNew) op.ArrEqual

abbrev pub compared : Stmt
compared = s.If is_new (text (codes "same") ∷ []) [] (Some (text (codes "other") ∷ [])) 2

abbrev pub growing : List Stmt
growing = made_empty ∷ adds_to_a (codes "addh") (pos 5) op.ArrAddh ∷ adds_to_a (codes "addl") (pos 4) op.ArrAddl ∷ []

abbrev pub showing : List Stmt
showing = low_and_size ∷ top_and_bottom ∷ []

abbrev pub losing : List Stmt
losing = s.Call (on_a (codes "reml") op.ArrReml) 2 ∷ shown (on_a (codes "high") op.ArrHigh) ∷ compared ∷ []

-- ---- `r: pair := pair${x: 1, y: 2}`, `r.y := 5`, `put_line(int$unparse(up(down(r)).x + r.y))`

abbrev pub pair : Shape
pair = shape.Name (codes "pair")

abbrev pub r : Expr
r = local (codes "r")

abbrev pub init : List ℕ → Expr → FieldInit
init x v = roll-FieldInit (record { name = x; value = v })

abbrev pub made : Stmt
made = declares (codes "r") pair (e.Record pair (init (codes "x") (int (pos 1)) ∷ init (codes "y") (int (pos 2)) ∷ []) 2 m.Unknown)

abbrev pub field_set : Stmt
field_set = s.Assign (target.Field r (codes "y") 2 (m.Field 1)) (int (pos 5)) 2

abbrev pub field : Expr → List ℕ → ℕ → Expr
field owner name place = e.Field owner name 2 (m.Field place)

abbrev pub up_and_down : Expr
up_and_down = e.Up (e.Down r 2) 2

abbrev pub fields_shown : Stmt
fields_shown = shown (binary (field up_and_down (codes "x") 0) fix.Add (field r (codes "y") 1) op.IntAdd)

abbrev pub fields : List Stmt
fields = made ∷ field_set ∷ fields_shown ∷ []

-- ---- `v: choice := choice$make_b(7)`, and two choices by its tag

abbrev pub choice : Shape
choice = shape.Name (codes "choice")

abbrev pub tagged : Stmt
tagged = declares (codes "v") choice (e.Op choice (codes "make_b") (int (pos 7) ∷ []) 2 (m.Tag 1))

abbrev pub arm_a : TagArm
arm_a = roll-TagArm (record { tag = codes "a"; variable = None; body = []; meant = m.Tag 0 })

abbrev pub arm_b : TagArm
arm_b = roll-TagArm (record { tag = codes "b"; variable = Some (int_named (codes "n")); body = shown n ∷ []; meant = m.Tag 1 })

abbrev pub by_tag : List TagArm → Option (List Stmt) → Stmt
by_tag arms others = s.Tagcase (local (codes "v")) arms others 2

abbrev pub tags : List Stmt
tags = tagged ∷ by_tag (arm_a ∷ arm_b ∷ []) None ∷ by_tag (arm_a ∷ []) (Some (text (codes "others") ∷ [])) ∷ []

-- ---- `put_line("ab" || string$c2s(string$fetch("xyz", 3)))` and `put_line(int$unparse(char$c2i('A')))`

abbrev pub last_char : Expr
last_char = operation shape.Str (codes "fetch") (string (codes "xyz") ∷ int (pos 3) ∷ []) op.StrFetch

abbrev pub joined : Stmt
joined = s.PutLine (operation shape.Str (codes "append") (string (codes "ab") ∷ last_char ∷ []) op.StrAppend) 2

abbrev pub code_shown : Stmt
code_shown = shown (operation shape.Char (codes "c2i") (e.Literal (value.Char 65) 2 ∷ []) op.CharC2i)

abbrev pub strings : List Stmt
strings = joined ∷ code_shown ∷ []

-- ---- a cluster: `make = proc (n: int) returns (cvt) return (rep${n: n}) end make`, `get = proc (c: cvt) returns (int) return (c.n) end get`

abbrev pub rep_made : Expr
rep_made = e.Record shape.Rep (init (codes "n") n ∷ []) 2 m.Unknown

abbrev pub make : Routine
make = routine (codes "make") (int_named (codes "n") ∷ []) (Some shape.Cvt) (s.Return (Some rep_made) 2 ∷ [])

abbrev pub get : Routine
get = routine (codes "get") (named (codes "c") shape.Cvt ∷ []) (Some shape.Int) (s.Return (Some (field (local (codes "c")) (codes "n") 0)) 2 ∷ [])

abbrev pub counter : List ℕ → Expr → ℕ → Expr
counter name x place = e.Op (shape.Name (codes "counter")) name (x ∷ []) 2 (m.Routine place)

-- `put_line(int$unparse(counter$get(counter$make(4))))`
abbrev pub counter_shown : Stmt
counter_shown = shown (counter (codes "get") (counter (codes "make") (int (pos 4)) 1) 2)

-- ---- exceptions that are passed on, that carry a value, and that any handler takes

-- `passing = proc () oops() resignal bad end passing`
abbrev pub passes : Routine
passes = routine (codes "passing") [] None (s.Resignal oops (codes "bad" ∷ []) ∷ [])

-- `failing = proc () signal failure ("no") end failing`
abbrev pub fails : Routine
fails = routine (codes "failing") [] None (s.Signal (codes "failure") (Some (string (codes "no"))) 2 ∷ [])

-- `name()`, of the routine at this place
abbrev pub called : List ℕ → ℕ → Stmt
called name place = s.Call (call name [] place) 2

abbrev pub passed : Stmt
passed = s.Except (called (codes "passing") 2) (says (codes "bad"))

abbrev pub handlers : List When → Option (List Stmt) → Handlers
handlers whens others = roll-Handlers (record { whens = whens; others = others })

abbrev pub takes_text : When
takes_text = roll-When (record { names = codes "failure" ∷ []; variable = Some (named (codes "s") shape.Str); body = s.PutLine (local (codes "s")) 2 ∷ [] })

abbrev pub shows_text : Handlers
shows_text = handlers (takes_text ∷ []) None

abbrev pub failed : Stmt
failed = s.Except (called (codes "failing") 3) shows_text

abbrev pub to_others : Handlers
to_others = handlers [] (Some (text (codes "others") ∷ []))

abbrev pub other : Stmt
other = s.Except oops to_others

abbrev pub passing : List Stmt
passing = passed ∷ failed ∷ other ∷ []

-- ---- a lock that a `return` gives back

abbrev pub leaving : List Stmt
leaving = lock ∷ s.Region (local (codes "l")) (s.Begin (s.Return None 2 ∷ []) 2 ∷ []) 2 ∷ []

-- ---- node variables: `put_line(int$unparse(g))`, `h := 7`, `put_line(int$unparse(h))`

abbrev pub node_var : List ℕ → ℕ → Expr
node_var x place = e.Name x 2 (m.NodeVar place)

abbrev pub node_vars : List Stmt
node_vars = shown (node_var (codes "g") 0) ∷ s.Assign (target.Name (codes "h") 2 (m.NodeVar 1)) (int (pos 7)) 2 ∷ shown (node_var (codes "h") 1) ∷ []

-- ---- `s: semaphore := semaphore$create(1)`, and a signal or a wait

abbrev pub semaphore : Stmt
semaphore = declares (codes "s") shape.Semaphore (operation shape.Semaphore (codes "create") (int (pos 1) ∷ []) op.SemCreate)

abbrev pub signalled : Stmt
signalled = s.Call (operation shape.Semaphore (codes "signal") (local (codes "s") ∷ []) op.SemSignal) 2

-- `semaphore$wait(s)`
abbrev pub waited_on : Stmt
waited_on = s.Call (operation shape.Semaphore (codes "wait") (local (codes "s") ∷ []) op.SemWait) 2

abbrev pub waits : Expr
waits = operation shape.Semaphore (codes "wait_for") (local (codes "s") ∷ int (pos 50) ∷ []) op.SemWaitFor

abbrev pub waited : Stmt
waited = s.If waits (text (codes "got") ∷ []) [] (Some (text (codes "late") ∷ [])) 2

-- ---- `fork q(1)`, `x := once add(2, 3) at 2`, and a `maybe` call with a handler

abbrev pub takes_number : Routine
takes_number = routine (codes "q") (int_named (codes "n") ∷ []) None []

abbrev pub forked : Stmt
forked = s.Fork (codes "q") (int (pos 1) ∷ []) 2 (m.Routine 1)

abbrev pub x : Expr
x = local (codes "x")

abbrev pub asked : Stmt
asked = s.Remote (Some (codes "x")) (remote.Once (codes "add") (int (pos 2) ∷ int (pos 3) ∷ []) (int (pos 2)) 2 (m.Routine 1)) 2 m.Local

abbrev pub asking : List Stmt
asking = unset (codes "x") shape.Int ∷ asked ∷ shown x ∷ []

abbrev pub maybe : Stmt
maybe = s.Remote None (remote.Maybe (codes "add") (int (pos 2) ∷ int (pos 3) ∷ []) (int (pos 2)) (int (pos 100)) 2 (m.Routine 1)) 2 m.Unknown

abbrev pub tried : Stmt
tried = s.Except maybe (says (codes "late"))

-- an exception without a value
abbrev pub bare_sig : List ℕ → Sig
bare_sig name = record { name = name; value = None }
