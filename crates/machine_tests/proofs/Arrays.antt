-- The steps of a program that makes an array with an operation, and calls the other operations of arrays.
use Rattle.std.proofs.Common.{◌≡◌, pos, negsuc, List, [], ◌∷◌, ◌++◌, codes, Option, Some, refl, arith}
use Rattle.std.specs.Fmt.{decimal}
use Rattle.std.proofs.lemmas.Fmt.{decimal_digit}
use Rattle.clu_tree.specs.declared.value.Value.{Value}
use Rattle.clu_tree.specs.declared.value.Value.TheVariants as value
use Rattle.clu_tree.specs.declared.op.Op.TheVariants as op
use Rattle.clu_tree.specs.declared.tree.Infix.TheVariants as fix
use Rattle.clu_tree.specs.declared.tree.Expr.{Expr}
use Rattle.clu_tree.specs.declared.tree.Expr.TheVariants as e
use Rattle.clu_tree.specs.declared.tree.Stmt.{Stmt}
use Rattle.clu_tree.specs.declared.tree.Stmt.TheVariants as s
use Rattle.obj_region.specs.declared.object.Obj.TheVariants as obj
use Rattle.machine_rules.specs.declared.item.Item.{Item}
use Rattle.machine_rules.specs.declared.item.Item.TheVariants as i
use Rattle.machine_rules.specs.declared.frame.Var.{Var}
use Rattle.machine_rules.specs.declared.act.Act.TheVariants as act
use Rattle.machine_rules.specs.Examples.{at, begins, did, frame, holding, ints, over, shown, text, var, world}
use Rattle.machine_rules.specs.Row.{World}
use Rattle.machine_rules.specs.Runs.{Ran, run}
use Rattle.machine_rules.proofs.Runs.{run_on}
use Rattle.machine_tests.specs.Programs.{adds_to_a, binary, compared, growing, losing, low_and_size, on_a, showing, top_and_bottom}

decimal_zero : decimal 0 ≡ codes "0"
decimal_zero = decimal_digit 0 (omega arith)

decimal_one : decimal 1 ≡ codes "1"
decimal_one = decimal_digit 1 (omega arith)

decimal_nine : decimal 9 ≡ codes "9"
decimal_nine = decimal_digit 9 (omega arith)

-- ---- where the program stands

abbrev pub arrays : List Stmt
arrays = growing ++ showing ++ losing

abbrev pub arrays_world : World
arrays_world = world arrays []

abbrev four : Value
four = value.Int (pos 4)

abbrev five : Value
five = value.Int (pos 5)

-- worlds with the array at address 0, which has no element, two or one
abbrev empty : World → World
empty w = holding w (obj.Arr (pos 0) [])

abbrev only_five : World → World
only_five w = holding w (obj.Arr (pos 0) (five ∷ []))

abbrev four_five : World → World
four_five w = holding w (obj.Arr (negsuc 0) (four ∷ five ∷ []))

-- the world with `five` alone in the array, and a new array
abbrev pub with_new : World → World
with_new w = record w { store = obj.Arr (pos 0) (five ∷ []) ∷ obj.Arr (pos 1) [] ∷ [] }

abbrev its : List Var
its = var (codes "a") ints (value.Ref (at 0)) ∷ []

-- what stands in the midst of a statement, with this value
abbrev standing : World → List Item → Value → Option Ran
standing w work v = Some (record { world = w; frames = frame work its (v ∷ []) ∷ []; acts = []; left = [] })

abbrev adds_five : Stmt
adds_five = adds_to_a (codes "addh") (pos 5) op.ArrAddh

abbrev adds_four : Stmt
adds_four = adds_to_a (codes "addl") (pos 4) op.ArrAddl

abbrev drops_four : Stmt
drops_four = s.Call (on_a (codes "reml") op.ArrReml) 2

abbrev shows_high : Stmt
shows_high = shown (on_a (codes "high") op.ArrHigh)

-- the work from `reml` on
abbrev losing_work : List Item
losing_work = i.Exec drops_four ∷ i.Exec shows_high ∷ i.Exec compared ∷ i.Fall ∷ []

abbrev bottom_work : List Item
bottom_work = i.Exec top_and_bottom ∷ losing_work

-- the work behind `addl`
abbrev showing_work : List Item
showing_work = i.Exec low_and_size ∷ bottom_work

-- ---- `a: array[int] := array[int]$create(0)`, `array[int]$addh(a, 5)`, `array[int]$addl(a, 4)`

-- Exec, two of Eval, Apply, Assign
array_made : run 5 arrays_world (begins arrays) ≡ did (empty arrays_world) [] (i.Exec adds_five ∷ i.Exec adds_four ∷ showing_work) its
array_made = simp (s.outs-Declare, e.outs-Op, e.outs-Literal) refl

-- Exec, three of Eval, Apply, Discard
five_added : (work : List Item) → run 6 (empty arrays_world) (frame (i.Exec adds_five ∷ work) its [] ∷ []) ≡ did (only_five arrays_world) [] work its
five_added work = simp (s.outs-Call, e.outs-Op, e.outs-Name, e.outs-Literal) refl

-- the same
four_added : (work : List Item) → run 6 (only_five arrays_world) (frame (i.Exec adds_four ∷ work) its [] ∷ []) ≡ did (four_five arrays_world) [] work its
four_added work = simp (s.outs-Call, e.outs-Op, e.outs-Name, e.outs-Literal) refl

-- all three statements
grown : run 17 arrays_world (begins arrays) ≡ did (four_five arrays_world) [] showing_work its
grown =
    run_on 5 12 _ arrays_world (begins arrays) _ array_made
    (run_on 6 6 _ (empty arrays_world) (frame (i.Exec adds_five ∷ i.Exec adds_four ∷ showing_work) its [] ∷ []) _ (five_added (i.Exec adds_four ∷ showing_work))
    (four_added showing_work))

-- ---- `put_line(int$unparse(array[int]$low(a) + array[int]$size(a)))`, and the same with top and bottom

abbrev low_of_a : Expr
low_of_a = on_a (codes "low") op.ArrLow

abbrev size_of_a : Expr
size_of_a = on_a (codes "size") op.ArrSize

abbrev top_of_a : Expr
top_of_a = on_a (codes "top") op.ArrTop

abbrev bottom_of_a : Expr
bottom_of_a = on_a (codes "bottom") op.ArrBottom

-- y is added to a value, and the sum is shown
abbrev adds_y : Expr → List Item → List Item
adds_y y work = i.Eval y ∷ i.Apply op.IntAdd ∷ i.Apply op.IntUnparse ∷ i.Print ∷ work

-- Exec, two of Eval
sum_begins : (w : World) (x : Expr) (y : Expr) (work : List Item) →
    run 3 w (frame (i.Exec (shown (binary x fix.Add y op.IntAdd)) ∷ work) its [] ∷ []) ≡ did w [] (i.Eval x ∷ adds_y y work) its
sum_begins w x y work = simp (s.outs-PutLine, e.outs-Op, e.outs-Binary) refl

-- two of Eval, Apply
low_got : (w : World) (work : List Item) → run 3 (four_five w) (frame (i.Eval low_of_a ∷ work) its [] ∷ []) ≡ standing (four_five w) work (value.Int (negsuc 0))
low_got w work = simp (e.outs-Op, e.outs-Name) refl

-- two of Eval, three of Apply, Print
size_added : (w : World) (work : List Item) →
    run 6 (four_five w) (frame (adds_y size_of_a work) its (value.Int (negsuc 0) ∷ []) ∷ []) ≡ did (four_five w) (act.Put (codes "1") ∷ []) work its
size_added w work = simp (e.outs-Op, e.outs-Name, decimal_one) refl

-- two of Eval, Apply
top_got : (w : World) (work : List Item) → run 3 (four_five w) (frame (i.Eval top_of_a ∷ work) its [] ∷ []) ≡ standing (four_five w) work five
top_got w work = simp (e.outs-Op, e.outs-Name) refl

-- two of Eval, three of Apply, Print
bottom_added : (w : World) (work : List Item) →
    run 6 (four_five w) (frame (adds_y bottom_of_a work) its (five ∷ []) ∷ []) ≡ did (four_five w) (act.Put (codes "9") ∷ []) work its
bottom_added w work = simp (e.outs-Op, e.outs-Name, decimal_nine) refl

-- the whole first statement
one_shown : (w : World) (work : List Item) → run 12 (four_five w) (frame (i.Exec low_and_size ∷ work) its [] ∷ []) ≡ did (four_five w) (act.Put (codes "1") ∷ []) work its
one_shown w work =
    run_on 3 9 _ (four_five w) (frame (i.Exec low_and_size ∷ work) its [] ∷ []) _ (sum_begins (four_five w) low_of_a size_of_a work)
    (run_on 3 6 _ (four_five w) (frame (i.Eval low_of_a ∷ adds_y size_of_a work) its [] ∷ []) _ (low_got w (adds_y size_of_a work)) (size_added w work))

-- the whole second statement
nine_shown : (w : World) (work : List Item) → run 12 (four_five w) (frame (i.Exec top_and_bottom ∷ work) its [] ∷ []) ≡ did (four_five w) (act.Put (codes "9") ∷ []) work its
nine_shown w work =
    run_on 3 9 _ (four_five w) (frame (i.Exec top_and_bottom ∷ work) its [] ∷ []) _ (sum_begins (four_five w) top_of_a bottom_of_a work)
    (run_on 3 6 _ (four_five w) (frame (i.Eval top_of_a ∷ adds_y bottom_of_a work) its [] ∷ []) _ (top_got w (adds_y bottom_of_a work)) (bottom_added w work))

-- ---- `array[int]$reml(a)`, `put_line(int$unparse(array[int]$high(a)))`

-- Exec, two of Eval, Apply, Discard
four_dropped : (work : List Item) → run 5 (four_five arrays_world) (frame (i.Exec drops_four ∷ work) its [] ∷ []) ≡ did (only_five arrays_world) [] work its
four_dropped work = simp (s.outs-Call, e.outs-Op, e.outs-Name) refl

-- Exec, three of Eval, two of Apply, Print
zero_shown : (w : World) (work : List Item) → run 7 (only_five w) (frame (i.Exec shows_high ∷ work) its [] ∷ []) ≡ did (only_five w) (act.Put (codes "0") ∷ []) work its
zero_shown w work = simp (s.outs-PutLine, e.outs-Op, e.outs-Name, decimal_zero) refl

-- ---- `if a = array[int]$new() then put_line("same") else put_line("other") end`

abbrev says_other : List Item
says_other = i.Exec (text (codes "other")) ∷ i.Fall ∷ []

-- Exec, three of Eval, two of Apply, Branch
other_chosen : (w : World) → run 7 (only_five w) (frame (i.Exec compared ∷ i.Fall ∷ []) its [] ∷ []) ≡ did (with_new w) [] says_other its
other_chosen w = simp (s.outs-If, e.outs-Binary, e.outs-Name, e.outs-Op) refl

-- Exec, Eval, Print, Fall
other_said : run 4 (with_new arrays_world) (frame says_other its [] ∷ []) ≡ over (with_new arrays_world) (act.Put (codes "other") ∷ act.Ended value.Nil ∷ [])
other_said = simp (s.outs-PutLine, e.outs-Literal) refl

-- ---- the whole program

pub arrays_steps : run 64 arrays_world (begins arrays) ≡
    over (with_new arrays_world) (act.Put (codes "1") ∷ act.Put (codes "9") ∷ act.Put (codes "0") ∷ act.Put (codes "other") ∷ act.Ended value.Nil ∷ [])
arrays_steps =
    run_on 17 47 _ arrays_world (begins arrays) _ grown
    (run_on 12 35 _ (four_five arrays_world) (frame showing_work its [] ∷ []) _ (one_shown arrays_world bottom_work)
    (run_on 12 23 _ (four_five arrays_world) (frame bottom_work its [] ∷ []) _ (nine_shown arrays_world losing_work)
    (run_on 5 18 _ (four_five arrays_world) (frame losing_work its [] ∷ []) _ (four_dropped (i.Exec shows_high ∷ i.Exec compared ∷ i.Fall ∷ []))
    (run_on 7 11 _ (only_five arrays_world) (frame (i.Exec shows_high ∷ i.Exec compared ∷ i.Fall ∷ []) its [] ∷ []) _ (zero_shown arrays_world (i.Exec compared ∷ i.Fall ∷ []))
    (run_on 7 4 _ (only_five arrays_world) (frame (i.Exec compared ∷ i.Fall ∷ []) its [] ∷ []) _ (other_chosen arrays_world) other_said)))))
