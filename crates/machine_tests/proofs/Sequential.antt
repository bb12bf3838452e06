-- The steps of whole programs in one process: counting, choosing, numbers, a shrinking array, and fields.
use Rattle.std.proofs.Common.{◌≡◌, ℕ, pos, true, List, [], ◌∷◌, codes, Option, Some, None, refl, arith}
use Rattle.std.specs.Fmt.{decimal}
use Rattle.std.proofs.lemmas.Fmt.{decimal_digit}
use Rattle.clu_tree.specs.declared.value.Value.{Value}
use Rattle.clu_tree.specs.declared.value.Value.TheVariants as value
use Rattle.clu_tree.specs.declared.shape.Shape.TheVariants as shape
use Rattle.clu_tree.specs.declared.op.Op.TheVariants as op
use Rattle.clu_tree.specs.declared.tree.Meant.TheVariants as m
use Rattle.clu_tree.specs.declared.tree.Infix.TheVariants as fix
use Rattle.clu_tree.specs.declared.tree.Expr.{Expr}
use Rattle.clu_tree.specs.declared.tree.Expr.TheVariants as e
use Rattle.clu_tree.specs.declared.tree.Stmt.{Stmt, roll-Stmt, out-roll-Stmt}
use Rattle.clu_tree.specs.declared.tree.Stmt.TheOpen as sf
use Rattle.clu_tree.specs.declared.tree.Stmt.TheVariants as s
use Rattle.obj_region.specs.declared.object.Obj.TheVariants as obj
use Rattle.machine_rules.specs.declared.item.Item.{Item}
use Rattle.machine_rules.specs.declared.item.Item.TheVariants as i
use Rattle.machine_rules.specs.declared.frame.Var.{Var}
use Rattle.machine_rules.specs.declared.act.Act.TheVariants as act
use Rattle.machine_rules.specs.Examples.{at, begins, did, frame, holding, int, ints, local, over, over_array, shown, text, var, world}
use Rattle.machine_rules.specs.Row.{World}
use Rattle.machine_rules.specs.Runs.{Ran, run}
use Rattle.machine_rules.proofs.Runs.{run_on}
use Rattle.machine_tests.specs.Programs.{binary, chosen, choosing, counted, counting, field_set, fields, fields_shown, is_number, n, numbers, pair, r, sets, shrinking, shrunk, unseen}

-- what stands in the midst of a statement, with this value
abbrev standing : World → List Item → List Var → Value → Option Ran
standing w work vars v = Some (record { world = w; frames = frame work vars (v ∷ []) ∷ []; acts = []; left = [] })

abbrev shows_i : Stmt
shows_i = shown (local (codes "i"))

-- `put_line(t)` and the end of the body: Exec, Eval, Print, Fall
text_ends : (body : List Stmt) (t : List ℕ) (vars : List Var) →
    run 4 (world body []) (frame (i.Exec (text t) ∷ i.Fall ∷ []) vars [] ∷ []) ≡ over (world body []) (act.Put t ∷ act.Ended value.Nil ∷ [])
text_ends body t vars = simp (s.outs-PutLine, e.outs-Literal) refl

-- ---- `n: int := 0`, `while n < 2 do n := n + 1 end`, and a choice of three by `n`

abbrev counting_world : World
counting_world = world counting []

abbrev counts : ℕ → List Var
counts k = var (codes "n") shape.Int (value.Int (pos k)) ∷ []

abbrev one_more : Stmt
one_more = sets (codes "n") (binary n fix.Add (int (pos 1)) op.IntAdd)

-- the loop, as it stands behind its body
abbrev again : Stmt
again = roll-Stmt (sf.While (binary n fix.Lt (int (pos 2)) op.IntLt) (one_more ∷ []) 2)

-- Exec, Eval, Assign
n_steps : run 3 counting_world (begins counting) ≡ did counting_world [] (i.Exec counted ∷ i.Exec chosen ∷ i.Fall ∷ []) (counts 0)
n_steps = simp (s.outs-Declare, e.outs-Literal) refl

-- 0 is less: Exec, three of Eval, Apply, Loop
zero_goes : (w : World) (work : List Item) → run 6 w (frame (i.Exec counted ∷ work) (counts 0) [] ∷ []) ≡ did w [] (i.Exec one_more ∷ i.Exec again ∷ work) (counts 0)
zero_goes w work = simp (s.outs-While, e.outs-Binary, e.outs-Name, e.outs-Literal) refl

-- 1 is less: the same
one_goes : (w : World) (work : List Item) → run 6 w (frame (i.Exec again ∷ work) (counts 1) [] ∷ []) ≡ did w [] (i.Exec one_more ∷ i.Exec again ∷ work) (counts 1)
one_goes w work = simp (out-roll-Stmt, e.outs-Binary, e.outs-Name, e.outs-Literal) refl

-- 2 isn't: the same
two_ends : (w : World) (work : List Item) → run 6 w (frame (i.Exec again ∷ work) (counts 2) [] ∷ []) ≡ did w [] work (counts 2)
two_ends w work = simp (out-roll-Stmt, e.outs-Binary, e.outs-Name, e.outs-Literal) refl

-- `n := n + 1`: Exec, three of Eval, Apply, Assign
to_one : (w : World) (work : List Item) → run 6 w (frame (i.Exec one_more ∷ work) (counts 0) [] ∷ []) ≡ did w [] work (counts 1)
to_one w work = simp (s.outs-Assign, e.outs-Binary, e.outs-Name, e.outs-Literal) refl

to_two : (w : World) (work : List Item) → run 6 w (frame (i.Exec one_more ∷ work) (counts 1) [] ∷ []) ≡ did w [] work (counts 2)
to_two w work = simp (s.outs-Assign, e.outs-Binary, e.outs-Name, e.outs-Literal) refl

-- the whole loop
loop_steps : (w : World) (work : List Item) → run 30 w (frame (i.Exec counted ∷ work) (counts 0) [] ∷ []) ≡ did w [] work (counts 2)
loop_steps w work =
    run_on 6 24 _ w (frame (i.Exec counted ∷ work) (counts 0) [] ∷ []) _ (zero_goes w work)
    (run_on 6 18 _ w (frame (i.Exec one_more ∷ i.Exec again ∷ work) (counts 0) [] ∷ []) _ (to_one w (i.Exec again ∷ work))
    (run_on 6 12 _ w (frame (i.Exec again ∷ work) (counts 1) [] ∷ []) _ (one_goes w work)
    (run_on 6 6 _ w (frame (i.Exec one_more ∷ i.Exec again ∷ work) (counts 1) [] ∷ []) _ (to_two w (i.Exec again ∷ work))
    (two_ends w work))))

-- the second choice
abbrev if_two : List Item → List Item
if_two work = i.Eval (is_number (pos 2)) ∷ i.Branch (text (codes "two") ∷ []) [] (Some (text (codes "more") ∷ [])) ∷ work

-- it isn't one: Exec, three of Eval, Apply, Branch
not_one : (w : World) (work : List Item) → run 6 w (frame (i.Exec chosen ∷ work) (counts 2) [] ∷ []) ≡ did w [] (if_two work) (counts 2)
not_one w work = simp (s.outs-If, e.outs-Binary, e.outs-Name, e.outs-Literal) refl

-- it is two: three of Eval, Apply, Branch
is_two : (w : World) (work : List Item) → run 5 w (frame (if_two work) (counts 2) [] ∷ []) ≡ did w [] (i.Exec (text (codes "two")) ∷ work) (counts 2)
is_two w work = simp (e.outs-Binary, e.outs-Name, e.outs-Literal) refl

pub counting_steps : run 48 counting_world (begins counting) ≡ over counting_world (act.Put (codes "two") ∷ act.Ended value.Nil ∷ [])
counting_steps =
    run_on 3 45 _ counting_world (begins counting) _ n_steps
    (run_on 30 15 _ counting_world (frame (i.Exec counted ∷ i.Exec chosen ∷ i.Fall ∷ []) (counts 0) [] ∷ []) _ (loop_steps counting_world (i.Exec chosen ∷ i.Fall ∷ []))
    (run_on 6 9 _ counting_world (frame (i.Exec chosen ∷ i.Fall ∷ []) (counts 2) [] ∷ []) _ (not_one counting_world (i.Fall ∷ []))
    (run_on 5 4 _ counting_world (frame (if_two (i.Fall ∷ [])) (counts 2) [] ∷ []) _ (is_two counting_world (i.Fall ∷ []))
    (text_ends counting (codes "two") (counts 2)))))

-- ---- `b: bool`, and a choice that never looks at it

abbrev choosing_world : World
choosing_world = world choosing []

abbrev unset_b : List Var
unset_b = record { name = codes "b"; shape = shape.Bool; value = None } ∷ []

abbrev begun_cor : Stmt
begun_cor = s.Begin (text (codes "cor") ∷ []) 2

-- the second choice
abbrev if_either : List Item
if_either = i.Eval (unseen true fix.Cor) ∷ i.Branch (begun_cor ∷ []) [] None ∷ i.Fall ∷ []

-- Exec, Exec, two of Eval, Pick, Branch
cand_steps : run 6 choosing_world (begins choosing) ≡ did choosing_world [] if_either unset_b
cand_steps = simp (s.outs-Declare, s.outs-If, e.outs-Binary, e.outs-Literal) refl

-- two of Eval, Pick, Branch, Exec
cor_steps : (w : World) → run 5 w (frame if_either unset_b [] ∷ []) ≡ did w [] (i.Exec (text (codes "cor")) ∷ i.Fall ∷ []) unset_b
cor_steps w = simp (s.outs-Begin, e.outs-Binary, e.outs-Literal) refl

pub choosing_steps : run 15 choosing_world (begins choosing) ≡ over choosing_world (act.Put (codes "cor") ∷ act.Ended value.Nil ∷ [])
choosing_steps =
    run_on 6 9 _ choosing_world (begins choosing) _ cand_steps
    (run_on 5 4 _ choosing_world (frame if_either unset_b [] ∷ []) _ (cor_steps choosing_world) (text_ends choosing (codes "cor") unset_b))

-- ---- `for i: int in int$from_to(1, 2) do put_line(int$unparse(i)) end` and `put_line(int$unparse(now()))`

decimal_zero : decimal 0 ≡ codes "0"
decimal_zero = decimal_digit 0 (omega arith)

decimal_one : decimal 1 ≡ codes "1"
decimal_one = decimal_digit 1 (omega arith)

decimal_two : decimal 2 ≡ codes "2"
decimal_two = decimal_digit 2 (omega arith)

abbrev numbers_world : World
numbers_world = world numbers []

abbrev number : ℕ → List Var
number k = var (codes "i") shape.Int (value.Int (pos k)) ∷ []

abbrev shows_now : List Item
shows_now = i.Exec (shown (e.Now 2)) ∷ i.Fall ∷ []

abbrev last_number : Item
last_number = i.Next (codes "i") shape.Int (shows_i ∷ []) (pos 2) (pos 2)

-- Exec, two of Eval, ForInt, Next
range_steps : run 5 numbers_world (begins numbers) ≡ did numbers_world [] (i.Exec shows_i ∷ last_number ∷ shows_now) (number 1)
range_steps = simp (s.outs-For, e.outs-Literal) refl

-- Exec, two of Eval, Apply, Print, Next
one_shown : (w : World) (work : List Item) → run 6 w (frame (i.Exec shows_i ∷ last_number ∷ work) (number 1) [] ∷ []) ≡ did w (act.Put (codes "1") ∷ []) (i.Exec shows_i ∷ work) (number 2)
one_shown w work = simp (s.outs-PutLine, e.outs-Op, e.outs-Name, decimal_one) refl

-- Exec, two of Eval, Apply, Print
two_shown : (w : World) (work : List Item) → run 5 w (frame (i.Exec shows_i ∷ work) (number 2) [] ∷ []) ≡ did w (act.Put (codes "2") ∷ []) work (number 2)
two_shown w work = simp (s.outs-PutLine, e.outs-Op, e.outs-Name, decimal_two) refl

-- Exec, two of Eval, Apply, Print, Fall
now_shown : run 6 numbers_world (frame shows_now (number 2) [] ∷ []) ≡ over numbers_world (act.Put (codes "0") ∷ act.Ended value.Nil ∷ [])
now_shown = simp (s.outs-PutLine, e.outs-Op, e.outs-Now, decimal_zero) refl

pub numbers_steps : run 22 numbers_world (begins numbers) ≡ over numbers_world (act.Put (codes "1") ∷ act.Put (codes "2") ∷ act.Put (codes "0") ∷ act.Ended value.Nil ∷ [])
numbers_steps =
    run_on 5 17 _ numbers_world (begins numbers) _ range_steps
    (run_on 6 11 _ numbers_world (frame (i.Exec shows_i ∷ last_number ∷ shows_now) (number 1) [] ∷ []) _ (one_shown numbers_world shows_now)
    (run_on 5 6 _ numbers_world (frame (i.Exec shows_i ∷ shows_now) (number 2) [] ∷ []) _ (two_shown numbers_world shows_now) now_shown))

-- ---- a loop over an array that loses its last element in each turn

decimal_five : decimal 5 ≡ codes "5"
decimal_five = decimal_digit 5 (omega arith)

abbrev shrinking_world : World
shrinking_world = world shrinking []

abbrev five_six : World
five_six = holding shrinking_world (obj.Arr (pos 1) (value.Int (pos 5) ∷ value.Int (pos 6) ∷ []))

abbrev five : World
five = holding shrinking_world (obj.Arr (pos 1) (value.Int (pos 5) ∷ []))

abbrev a : Var
a = var (codes "a") ints (value.Ref (at 0))

abbrev in_round : List Var
in_round = a ∷ var (codes "i") shape.Int (value.Int (pos 5)) ∷ []

abbrev shrinks : Stmt
shrinks = over_array (shrunk ∷ shows_i ∷ [])

abbrev second_round : List Item
second_round = i.Each (codes "i") shape.Int (shrunk ∷ shows_i ∷ []) (at 0) (pos 2) ∷ i.Fall ∷ []

-- Exec, three of Eval, MakeArray, Assign
array_steps : run 6 shrinking_world (begins shrinking) ≡ did five_six [] (i.Exec shrinks ∷ i.Fall ∷ []) (a ∷ [])
array_steps = simp (s.outs-Declare, e.outs-Array, e.outs-Literal) refl

-- Exec, Eval, ForEach, Each
round_begins : run 4 five_six (frame (i.Exec shrinks ∷ i.Fall ∷ []) (a ∷ []) [] ∷ []) ≡ did five_six [] (i.Exec shrunk ∷ i.Exec shows_i ∷ second_round) in_round
round_begins = simp (s.outs-For, e.outs-Name) refl

-- Exec, two of Eval, Apply, Discard
six_removed : (work : List Item) → run 5 five_six (frame (i.Exec shrunk ∷ work) in_round [] ∷ []) ≡ did five [] work in_round
six_removed work = simp (s.outs-Call, e.outs-Op, e.outs-Name) refl

-- Exec, two of Eval, Apply, Print
five_shown : (w : World) (work : List Item) → run 5 w (frame (i.Exec shows_i ∷ work) in_round [] ∷ []) ≡ did w (act.Put (codes "5") ∷ []) work in_round
five_shown w work = simp (s.outs-PutLine, e.outs-Op, e.outs-Name, decimal_five) refl

-- Each, Fall
rounds_end : run 2 five (frame second_round in_round [] ∷ []) ≡ over five (act.Ended value.Nil ∷ [])
rounds_end = refl

pub shrinking_steps : run 22 shrinking_world (begins shrinking) ≡ over five (act.Put (codes "5") ∷ act.Ended value.Nil ∷ [])
shrinking_steps =
    run_on 6 16 _ shrinking_world (begins shrinking) _ array_steps
    (run_on 4 12 _ five_six (frame (i.Exec shrinks ∷ i.Fall ∷ []) (a ∷ []) [] ∷ []) _ round_begins
    (run_on 5 7 _ five_six (frame (i.Exec shrunk ∷ i.Exec shows_i ∷ second_round) in_round [] ∷ []) _ (six_removed (i.Exec shows_i ∷ second_round))
    (run_on 5 2 _ five (frame (i.Exec shows_i ∷ second_round) in_round [] ∷ []) _ (five_shown five second_round) rounds_end)))

-- ---- `r: pair := pair${x: 1, y: 2}`, `r.y := 5`, `put_line(int$unparse(up(down(r)).x + r.y))`

decimal_six : decimal 6 ≡ codes "6"
decimal_six = decimal_digit 6 (omega arith)

abbrev fields_world : World
fields_world = world fields []

-- the record with this y
abbrev with_y : ℕ → World
with_y y = holding fields_world (obj.Rec (value.Int (pos 1) ∷ value.Int (pos y) ∷ []))

abbrev its : List Var
its = var (codes "r") pair (value.Ref (at 0)) ∷ []

abbrev later : List Item
later = i.Exec fields_shown ∷ i.Fall ∷ []

-- Exec, three of Eval, MakeRecord, Assign
record_steps : run 6 fields_world (begins fields) ≡ did (with_y 2) [] (i.Exec field_set ∷ later) its
record_steps = simp (s.outs-Declare, e.outs-Record, e.outs-Literal) refl

-- Exec, two of Eval, Put, Discard
y_set : (work : List Item) → run 5 (with_y 2) (frame (i.Exec field_set ∷ work) its [] ∷ []) ≡ did (with_y 5) [] work its
y_set work = simp (s.outs-Assign, e.outs-Name, e.outs-Literal) refl

abbrev x_of : Expr
x_of = e.Field (e.Up (e.Down r 2) 2) (codes "x") 2 (m.Field 0)

abbrev y_of : Expr
y_of = e.Field r (codes "y") 2 (m.Field 1)

abbrev adds_y : List Item
adds_y = i.Eval y_of ∷ i.Apply op.IntAdd ∷ i.Apply op.IntUnparse ∷ i.Print ∷ i.Fall ∷ []

-- Exec, two of Eval
sum_begins : run 3 (with_y 5) (frame later its [] ∷ []) ≡ did (with_y 5) [] (i.Eval x_of ∷ adds_y) its
sum_begins = simp (s.outs-PutLine, e.outs-Op, e.outs-Binary) refl

-- `up(down(r)).x`: four of Eval, Get
x_got : run 5 (with_y 5) (frame (i.Eval x_of ∷ adds_y) its [] ∷ []) ≡ standing (with_y 5) adds_y its (value.Int (pos 1))
x_got = simp (e.outs-Field, e.outs-Up, e.outs-Down, e.outs-Name) refl

abbrev shows_sum : List Item
shows_sum = i.Apply op.IntUnparse ∷ i.Print ∷ i.Fall ∷ []

-- two of Eval, Get, Apply
y_added : run 4 (with_y 5) (frame adds_y its (value.Int (pos 1) ∷ []) ∷ []) ≡ standing (with_y 5) shows_sum its (value.Int (pos 6))
y_added = simp (e.outs-Field, e.outs-Name) refl

-- Apply, Print, Fall
six_shown : run 3 (with_y 5) (frame shows_sum its (value.Int (pos 6) ∷ []) ∷ []) ≡ over (with_y 5) (act.Put (codes "6") ∷ act.Ended value.Nil ∷ [])
six_shown = simp decimal_six refl

pub fields_steps : run 26 fields_world (begins fields) ≡ over (with_y 5) (act.Put (codes "6") ∷ act.Ended value.Nil ∷ [])
fields_steps =
    run_on 6 20 _ fields_world (begins fields) _ record_steps
    (run_on 5 15 _ (with_y 2) (frame (i.Exec field_set ∷ later) its [] ∷ []) _ (y_set later)
    (run_on 3 12 _ (with_y 5) (frame later its [] ∷ []) _ sum_begins
    (run_on 5 7 _ (with_y 5) (frame (i.Eval x_of ∷ adds_y) its [] ∷ []) _ x_got
    (run_on 4 3 _ (with_y 5) (frame adds_y its (value.Int (pos 1) ∷ []) ∷ []) _ y_added six_shown))))
