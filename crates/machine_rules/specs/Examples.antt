-- Trees of small programs, whose runs are computed. Each line of a tree is 2.
use Rattle.std.specs.Prelude.{ℕ, ℤ, pos, Bool, ◌-◌, ◌^◌, List, [], ◌∷◌, codes, Option, Some, None}
use Rattle.clu_tree.specs.declared.value.Addr.{Addr}
use Rattle.clu_tree.specs.declared.value.Value.{Value}
use Rattle.clu_tree.specs.declared.value.Value.TheVariants as value
use Rattle.clu_tree.specs.declared.shape.Shape.{Shape}
use Rattle.clu_tree.specs.declared.shape.Shape.TheVariants as shape
use Rattle.clu_tree.specs.declared.shape.Named.{Named, roll-Named}
use Rattle.clu_tree.specs.declared.op.Op.{Op}
use Rattle.clu_tree.specs.declared.op.Op.TheVariants as op
use Rattle.clu_tree.specs.declared.tree.Meant.TheVariants as m
use Rattle.clu_tree.specs.declared.tree.Infix.{Infix}
use Rattle.clu_tree.specs.declared.tree.Infix.TheVariants as fix
use Rattle.clu_tree.specs.declared.tree.Prefix.TheVariants as pre
use Rattle.clu_tree.specs.declared.tree.Iter.TheVariants as iter
use Rattle.clu_tree.specs.declared.tree.Target.TheVariants as target
use Rattle.clu_tree.specs.declared.tree.Expr.{Expr}
use Rattle.clu_tree.specs.declared.tree.Expr.TheVariants as e
use Rattle.clu_tree.specs.declared.tree.Stmt.{Stmt}
use Rattle.clu_tree.specs.declared.tree.Stmt.TheVariants as s
use Rattle.clu_tree.specs.declared.tree.Handlers.{Handlers, roll-Handlers}
use Rattle.clu_tree.specs.declared.tree.When.{roll-When}
use Rattle.clu_tree.specs.declared.program.Routine.{Routine}
use Rattle.clu_tree.specs.declared.program.Program.{Program}
use Rattle.obj_region.specs.declared.object.Obj.{Obj}
use Rattle.machine_rules.specs.declared.act.Act.{Act}
use Rattle.machine_rules.specs.declared.item.Item.{Item}
use Rattle.machine_rules.specs.declared.frame.Var.{Var}
use Rattle.machine_rules.specs.declared.frame.Frame.{Frame}
use Rattle.machine_rules.specs.Row.{World, bare_world, start}
use Rattle.machine_rules.specs.Runs.{Ran}

-- ---- programs

abbrev pub routine : List ℕ → List Named → Option Shape → List Stmt → Routine
routine name params result body = record { name = name; params = params; result = result; signals = []; body = body; line = 1 }

-- a program whose first routine has this body
abbrev pub program : List Stmt → List Routine → Program
program body others = record { equates = []; node_vars = []; routines = routine (codes "p") [] None body ∷ others; clusters = []; nodes = [] }

-- ---- expressions

abbrev pub int : ℤ → Expr
int n = e.Literal (value.Int n) 2

abbrev pub truth : Bool → Expr
truth b = e.Literal (value.Bool b) 2

abbrev pub local : List ℕ → Expr
local x = e.Name x 2 m.Local

abbrev pub minus : Expr → Expr
minus x = e.Unary pre.Minus x 2 (m.Op op.IntMinus)

abbrev pub least : Expr
least = e.Binary (minus (int (pos (2 ^ 63 - 1)))) fix.Sub (int (pos 1)) 2 (m.Op op.IntSub)

abbrev pub widest : Expr
widest = e.Binary least fix.Div (minus (int (pos 1))) 2 (m.Op op.IntDiv)

abbrev pub ints : Shape
ints = shape.Arr shape.Int

abbrev pub five_six : Expr
five_six = e.Array ints (int (pos 5) ∷ int (pos 6) ∷ []) 2 m.Unknown

abbrev pub element : ℤ → Expr
element n = e.Index (local (codes "a")) (int n) 2 (m.Op op.ArrFetch)

abbrev pub call : List ℕ → List Expr → ℕ → Expr
call name args place = e.Call name args 2 (m.Routine place)

-- ---- statements

abbrev pub text : List ℕ → Stmt
text t = s.PutLine (e.Literal (value.Str t) 2) 2

abbrev pub shown : Expr → Stmt
shown x = s.PutLine (e.Op shape.Int (codes "unparse") (x ∷ []) 2 (m.Op op.IntUnparse)) 2

abbrev pub divided : Infix → Op → Stmt
divided o meant = shown (e.Binary (minus (int (pos 7))) o (int (pos 2)) 2 (m.Op meant))

abbrev pub when : List ℕ → List Stmt → Handlers
when n body = roll-Handlers (record { whens = roll-When (record { names = n ∷ []; variable = None; body = body }) ∷ []; others = None })

abbrev pub says : List ℕ → Handlers
says n = when n (text n ∷ [])

abbrev pub guarded : Expr → List ℕ → Stmt
guarded x n = s.Except (shown x) (says n)

abbrev pub wide : Stmt
wide = guarded widest (codes "overflow")

abbrev pub both : Stmt
both = s.Declare (codes "a") ints (Some five_six) 2

abbrev pub third : Stmt
third = guarded (element (pos 3)) (codes "bounds")

abbrev pub changed : Stmt
changed = s.Assign (target.Index (local (codes "a")) (int (pos 2)) 2 (m.Op op.ArrStore)) (int (pos 7)) 2

abbrev pub over_array : List Stmt → Stmt
over_array body = s.For (codes "i") shape.Int (iter.Elements ints (local (codes "a")) 2) body 2

abbrev pub all_shown : Stmt
all_shown = over_array (shown (local (codes "i")) ∷ [])

abbrev pub oops : Stmt
oops = s.Call (call (codes "oops") [] 1) 2

abbrev pub handled : Stmt
handled = s.Except oops (says (codes "bad"))

abbrev pub added : Stmt
added = shown (call (codes "add") (int (pos 2) ∷ int (pos 3) ∷ []) 1)

abbrev pub lock : Stmt
lock = s.Declare (codes "l") shape.Lock (Some (e.Op shape.Lock (codes "create") [] 2 (m.Op op.LockCreate))) 2

abbrev pub locked : Stmt
locked = s.Region (local (codes "l")) (text (codes "in") ∷ []) 2

abbrev pub returned : Stmt
returned = s.Return (Some (e.Binary (local (codes "a")) fix.Add (local (codes "b")) 2 (m.Op op.IntAdd))) 2

-- ---- routines

abbrev pub signals_bad : Routine
signals_bad = routine (codes "oops") [] None (s.Signal (codes "bad") None 2 ∷ [])

abbrev pub int_named : List ℕ → Named
int_named name = roll-Named (record { name = name; shape = shape.Int })

abbrev pub params : List Named
params = int_named (codes "a") ∷ int_named (codes "b") ∷ []

abbrev pub adds : Routine
adds = routine (codes "add") params (Some shape.Int) (returned ∷ [])

-- ---- bodies

abbrev pub nap_body : ℤ → List Stmt
nap_body ms = s.Sleep (int ms) 2 ∷ text (codes "up") ∷ []

abbrev pub three_quotients : List Stmt
three_quotients = divided fix.Div op.IntDiv ∷ divided fix.Mod op.IntMod ∷ wide ∷ []

abbrev pub two_signals : List Stmt
two_signals = handled ∷ oops ∷ []

abbrev pub array_loop : List Stmt
array_loop = both ∷ changed ∷ all_shown ∷ []

-- ---- what stands in a frame or a store

abbrev pub at : ℕ → Addr
at n = record { 0 = n }

abbrev pub var : List ℕ → Shape → Value → Var
var x t v = record { name = x; shape = t; value = Some v }

-- the same world with this object alone
abbrev pub holding : World → Obj → World
holding w o = record w { store = o ∷ [] }

-- ---- where a program stands

-- where a program begins whose first routine has this body
abbrev pub world : List Stmt → List Routine → World
world body others = bare_world (program body others) 0

abbrev pub begins : List Stmt → List Frame
begins body = start 0 (routine (codes "p") [] None body) []

-- a frame of the first routine
abbrev pub frame : List Item → List Var → List Value → Frame
frame work vars values = record { routine = 0; line = 2; vars = vars; work = work; values = values }

-- what stands after some steps that had these acts
abbrev pub did : World → List Act → List Item → List Var → Option Ran
did w acts work vars = Some (record { world = w; frames = frame work vars [] ∷ []; acts = acts; left = [] })

-- the process is over
abbrev pub over : World → List Act → Option Ran
over w acts = Some (record { world = w; frames = []; acts = acts; left = [] })
