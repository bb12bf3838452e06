-- The steps of loops and of changing objects, computed before any work that stands behind them.
use Rattle.std.proofs.Common.{◌≡◌, ℕ, pos, List, [], ◌∷◌, codes, Option, Some, refl, arith}
use Rattle.std.specs.Fmt.{decimal}
use Rattle.std.proofs.lemmas.Fmt.{decimal-digits_of}
use Rattle.clu_tree.specs.declared.value.Value.{Value}
use Rattle.clu_tree.specs.declared.value.Value.TheVariants as value
use Rattle.clu_tree.specs.declared.shape.Shape.TheVariants as shape
use Rattle.clu_tree.specs.declared.op.Op.TheVariants as op
use Rattle.clu_tree.specs.declared.tree.Meant.TheVariants as m
use Rattle.clu_tree.specs.declared.tree.Infix.TheVariants as fix
use Rattle.clu_tree.specs.declared.tree.Iter.TheVariants as iter
use Rattle.clu_tree.specs.declared.tree.Target.TheVariants as target
use Rattle.clu_tree.specs.declared.tree.Expr.{Expr}
use Rattle.clu_tree.specs.declared.tree.Expr.TheVariants as e
use Rattle.clu_tree.specs.declared.tree.FieldInit.{roll-FieldInit, out-roll-FieldInit}
use Rattle.clu_tree.specs.declared.tree.Stmt.{Stmt, roll-Stmt, out-roll-Stmt}
use Rattle.clu_tree.specs.declared.tree.Stmt.TheOpen as sf
use Rattle.clu_tree.specs.declared.tree.Stmt.TheVariants as s
use Rattle.obj_region.specs.declared.object.Obj.{Obj}
use Rattle.obj_region.specs.declared.object.Obj.TheVariants as obj
use Rattle.machine_rules.specs.declared.item.Item.{Item}
use Rattle.machine_rules.specs.declared.item.Item.TheVariants as i
use Rattle.machine_rules.specs.declared.frame.Var.{Var}
use Rattle.machine_rules.specs.declared.frame.Frame.{Frame}
use Rattle.machine_rules.specs.declared.act.Act.{Act}
use Rattle.machine_rules.specs.declared.act.Act.TheVariants as act
use Rattle.machine_rules.specs.Examples.{at, int, local, shown}
use Rattle.machine_rules.specs.Row.{World, bare_world}
use Rattle.machine_rules.specs.Runs.{Ran, run}
use Rattle.machine_rules.proofs.Runs.{run_on}

ruleset exprs = (e.outs-Literal, e.outs-Name, e.outs-Binary, e.outs-Call, e.outs-Op, e.outs-Record, e.outs-Up, e.outs-Down, e.outs-Field, e.outs-Index, out-roll-FieldInit)

ruleset stmts = (s.outs-Declare, s.outs-Assign, s.outs-Call, s.outs-PutLine, s.outs-While, s.outs-For, s.outs-Return, out-roll-Stmt)

abbrev world : World
world = bare_world (record { equates = []; node_vars = []; routines = []; clusters = []; nodes = [] }) 0

abbrev frame : List Item → List Var → Frame
frame work vars = record { routine = 0; line = 2; vars = vars; work = work; values = [] }

-- what the process has done once this statement is over
abbrev did : World → List Act → List Item → List Var → Option Ran
did w acts work vars = Some (record { world = w; frames = frame work vars ∷ []; acts = acts; left = [] })

abbrev counts : ℕ → Var
counts n = record { name = codes "i"; shape = shape.Int; value = Some (value.Int (pos n)) }

-- ---- `while i < 1 do i := i + 1 end`

abbrev below_one : Expr
below_one = e.Binary (local (codes "i")) fix.Lt (int (pos 1)) 2 (m.Op op.IntLt)

abbrev one_more : Stmt
one_more = s.Assign (target.Name (codes "i") 2 m.Local) (e.Binary (local (codes "i")) fix.Add (int (pos 1)) 2 (m.Op op.IntAdd)) 2

abbrev again : Stmt
again = roll-Stmt (sf.While below_one (one_more ∷ []) 2)

-- Exec and five for the condition
while_goes : (work : List Item) → run 6 world (frame (i.Exec again ∷ work) (counts 0 ∷ []) ∷ []) ≡ did world [] (i.Exec one_more ∷ i.Exec again ∷ work) (counts 0 ∷ [])
while_goes work = simp (out-roll-Stmt, e.outs-Binary, e.outs-Name, e.outs-Literal) refl

while_ends : (work : List Item) → run 6 world (frame (i.Exec again ∷ work) (counts 1 ∷ []) ∷ []) ≡ did world [] work (counts 1 ∷ [])
while_ends work = simp (out-roll-Stmt, e.outs-Binary, e.outs-Name, e.outs-Literal) refl

-- `i := i + 1`: Exec, three of Eval, Apply, Set
assign_steps : (work : List Item) → run 6 world (frame (i.Exec one_more ∷ work) (counts 0 ∷ []) ∷ []) ≡ did world [] work (counts 1 ∷ [])
assign_steps work = simp (s.outs-Assign, e.outs-Binary, e.outs-Name, e.outs-Literal) refl

while_steps : (work : List Item) → run 18 world (frame (i.Exec again ∷ work) (counts 0 ∷ []) ∷ []) ≡ did world [] work (counts 1 ∷ [])
while_steps work =
    run_on 6 12 _ world (frame (i.Exec again ∷ work) (counts 0 ∷ []) ∷ []) _ (while_goes work)
    (run_on 6 6 _ world (frame (i.Exec one_more ∷ i.Exec again ∷ work) (counts 0 ∷ []) ∷ []) _ (assign_steps (i.Exec again ∷ work))
    (while_ends work))

-- ---- `for i: int in int$from_to(1, 3) do put_line(int$unparse(i)) end`

abbrev shows_i : Stmt
shows_i = shown (local (codes "i"))

abbrev rounds : ℕ → Item
rounds n = i.Next (codes "i") shape.Int (shows_i ∷ []) (pos n) (pos 3)

-- Exec, two of Eval, ForInt, Next
for_steps : (work : List Item) →
    run 5 world (frame (i.Exec (s.For (codes "i") shape.Int (iter.FromTo (int (pos 1)) (int (pos 3)) 2) (shows_i ∷ []) 2) ∷ work) [] ∷ []) ≡
    did world [] (i.Exec shows_i ∷ rounds 2 ∷ work) (counts 1 ∷ [])
for_steps work = simp (exprs, stmts) refl

decimal_one : decimal 1 ≡ codes "1"
decimal_one = decimal-digits_of 1 (omega arith) (omega arith)

decimal_two : decimal 2 ≡ codes "2"
decimal_two = decimal-digits_of 2 (omega arith) (omega arith)

decimal_three : decimal 3 ≡ codes "3"
decimal_three = decimal-digits_of 3 (omega arith) (omega arith)

-- the body's five, Next
first_round : (work : List Item) → run 6 world (frame (i.Exec shows_i ∷ rounds 2 ∷ work) (counts 1 ∷ []) ∷ []) ≡
    did world (act.Put (codes "1") ∷ []) (i.Exec shows_i ∷ rounds 3 ∷ work) (counts 2 ∷ [])
first_round work = simp (exprs, s.outs-PutLine, decimal_one) refl

second_round : (work : List Item) → run 6 world (frame (i.Exec shows_i ∷ rounds 3 ∷ work) (counts 2 ∷ []) ∷ []) ≡
    did world (act.Put (codes "2") ∷ []) (i.Exec shows_i ∷ work) (counts 3 ∷ [])
second_round work = simp (exprs, s.outs-PutLine, decimal_two) refl

-- the body's five
third_round : (work : List Item) → run 5 world (frame (i.Exec shows_i ∷ work) (counts 3 ∷ []) ∷ []) ≡ did world (act.Put (codes "3") ∷ []) work (counts 3 ∷ [])
third_round work = simp (exprs, s.outs-PutLine, decimal_three) refl

-- bounds that are out of order: Exec, two of Eval, ForInt, Next
no_rounds : (work : List Item) →
    run 5 world (frame (i.Exec (s.For (codes "i") shape.Int (iter.FromTo (int (pos 2)) (int (pos 1)) 2) (shows_i ∷ []) 2) ∷ work) [] ∷ []) ≡ did world [] work []
no_rounds work = simp (exprs, stmts) refl

-- ---- arrays and records

abbrev holding : Obj → World
holding o = record world { store = o ∷ [] }

abbrev ints : List ℕ → Obj
ints ns = obj.Arr (pos 1) (map_ints ns)
  where
    map_ints : List ℕ → List Value
    map_ints [] = []
    map_ints (n ∷ ns) = value.Int (pos n) ∷ map_ints ns

abbrev a : Var
a = record { name = codes "a"; shape = shape.Arr shape.Int; value = Some (value.Ref (at 0)) }

-- `for i: int in array[int]$elements(a) do end` over two: Exec, Eval, ForEach, and three of Each
elements_steps : (work : List Item) →
    run 6 (holding (ints (5 ∷ 6 ∷ []))) (frame (i.Exec (s.For (codes "i") shape.Int (iter.Elements (shape.Arr shape.Int) (local (codes "a")) 2) [] 2) ∷ work) (a ∷ []) ∷ []) ≡
    did (holding (ints (5 ∷ 6 ∷ []))) [] work (a ∷ counts 6 ∷ [])
elements_steps work = simp (exprs, stmts) refl

-- `a[2] := 7`: Exec, three of Eval, Apply, Drop
store_steps : (work : List Item) →
    run 6 (holding (ints (5 ∷ 6 ∷ []))) (frame (i.Exec (s.Assign (target.Index (local (codes "a")) (int (pos 2)) 2 (m.Op op.ArrStore)) (int (pos 7)) 2) ∷ work) (a ∷ []) ∷ []) ≡
    did (holding (ints (5 ∷ 7 ∷ []))) [] work (a ∷ [])
store_steps work = simp (exprs, stmts) refl

abbrev added : Stmt
added = s.Call (e.Op (shape.Arr shape.Int) (codes "addh") (local (codes "a") ∷ int (pos 7) ∷ []) 2 (m.Op op.ArrAddh)) 2

-- `array[int]$addh(a, 7)`: Exec, three of Eval, Apply, Drop
addh_steps : (work : List Item) → run 6 (holding (ints (5 ∷ []))) (frame (i.Exec added ∷ work) (a ∷ []) ∷ []) ≡ did (holding (ints (5 ∷ 7 ∷ []))) [] work (a ∷ [])
addh_steps work = simp (exprs, stmts) refl

-- the same where the array may not change: the fifth step isn't taken
old_steps : (work : List Item) →
    run 5 (record (holding (ints (5 ∷ []))) { bound = 1 }) (frame (i.Exec added ∷ work) (a ∷ []) ∷ []) ≡
    Some (record { world = record (holding (ints (5 ∷ []))) { bound = 1 }; frames = []; acts = act.Old ∷ []; left = [] })
old_steps work = simp (exprs, stmts) refl

abbrev r : Var
r = record { name = codes "r"; shape = shape.Name (codes "pair"); value = Some (value.Ref (at 0)) }

abbrev field_sum : Expr
field_sum = e.Field (local (codes "r")) (codes "sum") 2 (m.Field 0)

-- `r.sum := r.sum + 1`: Exec, Eval, the four of the sum and its Apply, Apply set, Drop
set_steps : (work : List Item) →
    run 10 (holding (obj.Rec (value.Int (pos 5) ∷ []))) (frame (i.Exec (s.Assign (target.Field (local (codes "r")) (codes "sum") 2 (m.Field 0)) (e.Binary field_sum fix.Add (int (pos 1)) 2 (m.Op op.IntAdd)) 2) ∷ work) (r ∷ []) ∷ []) ≡
    did (holding (obj.Rec (value.Int (pos 6) ∷ []))) [] work (r ∷ [])
set_steps work = simp (exprs, stmts) refl

-- `T${sum: 5}`: Eval, Eval, Apply
record_steps : (work : List Item) → run 3 world (frame (i.Eval (e.Record (shape.Name (codes "pair")) (roll-FieldInit (record { name = codes "sum"; value = int (pos 5) }) ∷ []) 2 m.Unknown) ∷ work) [] ∷ []) ≡
    Some (record { world = holding (obj.Rec (value.Int (pos 5) ∷ [])); frames = record (frame work []) { values = value.Ref (at 0) ∷ [] } ∷ []; acts = []; left = [] })
record_steps work = simp exprs refl
