-- The steps of small programs, computed: their number, what they print, and how they end.
use Rattle.std.proofs.Common.{◌≡◌, ℕ, pos, negsuc, List, [], ◌∷◌, ◌++◌, codes, Option, Some, None, slice_get, refl, arith}
use Rattle.std.specs.Prelude.{◌-◌, ◌^◌}
use Rattle.std.specs.Fmt.{decimal}
use Rattle.std.proofs.lemmas.Fmt.{decimal-digits_of}
use denote.Hole.Carrier
use Rattle.clu_tree.specs.declared.value.Value.{Value}
use Rattle.clu_tree.specs.declared.value.Value.TheVariants as value
use Rattle.clu_tree.specs.declared.shape.Shape.TheVariants as shape
use Rattle.clu_tree.specs.declared.op.Op.TheVariants as op
use Rattle.clu_tree.specs.declared.tree.Infix.TheVariants as fix
use Rattle.clu_tree.specs.declared.tree.Expr.{out-Expr}
use Rattle.clu_tree.specs.declared.tree.Expr.TheVariants as e
use Rattle.clu_tree.specs.declared.tree.Stmt.{Stmt, out-Stmt}
use Rattle.clu_tree.specs.declared.tree.Stmt.TheVariants as s
use Rattle.clu_tree.specs.declared.tree.Handlers.{out-roll-Handlers}
use Rattle.clu_tree.specs.declared.program.Routine.{Routine}
use Rattle.obj_region.specs.declared.object.Obj.TheVariants as obj
use Rattle.machine_rules.specs.declared.item.Catch.TheVariants.{Handle}
use Rattle.machine_rules.specs.declared.item.Item.{Item}
use Rattle.machine_rules.specs.declared.item.Item.TheVariants as i
use Rattle.machine_rules.specs.declared.frame.Var.{Var}
use Rattle.machine_rules.specs.declared.frame.Frame.{Frame}
use Rattle.machine_rules.specs.declared.act.Act.{Act}
use Rattle.machine_rules.specs.declared.act.Act.TheVariants as act
use Rattle.machine_rules.specs.Examples.{both, divided, least, minus, int, nap_body, program, routine, says, text, third, three_quotients, wide}
use Rattle.machine_rules.specs.Row.{World, bare_world, start}
use Rattle.machine_rules.specs.Runs.{Ran, run}
use Rattle.machine_rules.proofs.Runs.{run_on}

abbrev main : List Stmt → Routine
main body = routine (codes "p") [] None body

abbrev world : List Stmt → World
world body = bare_world (program body []) 0

-- so many steps from its start
abbrev ran : ℕ → List Stmt → Option Ran
ran n body = run n (world body) (start 0 (main body) [])

-- it is over after those steps, which had these acts
abbrev over : List Stmt → List Act → Option Ran
over body acts = Some (record { world = world body; frames = []; acts = acts; left = [] })

-- one line is printed in four steps
pub hello : ran 4 (text (codes "hi") ∷ []) ≡ over (text (codes "hi") ∷ []) (act.Put (codes "hi") ∷ act.Ended value.Nil ∷ [])
unfolding out-Expr out-Stmt Carrier.out
hello = refl

-- a sleep takes three steps, and goes on behind it
pub nap : ran 7 (nap_body (pos 100)) ≡ over (nap_body (pos 100)) (act.Sleep (pos 100) ∷ act.Put (codes "up") ∷ act.Ended value.Nil ∷ [])
unfolding out-Expr out-Stmt Carrier.out
nap = refl

-- a sleep of no time is a sleep too: that the process goes on is the node's part
pub no_nap : ran 7 (nap_body (pos 0)) ≡ over (nap_body (pos 0)) (act.Sleep (pos 0) ∷ act.Put (codes "up") ∷ act.Ended value.Nil ∷ [])
unfolding out-Expr out-Stmt Carrier.out
no_nap = refl

-- an empty body takes one step
pub nothing : ran 1 [] ≡ over [] (act.Ended value.Nil ∷ [])
nothing = refl

-- ---- quotients, remainders, an overflow and a bound

abbrev arith_body : List Stmt
arith_body = three_quotients ++ both ∷ third ∷ []

abbrev frame : List Item → List Var → List Value → Frame
frame work vars values = record { routine = 0; line = 2; vars = vars; work = work; values = values }

-- what stands after some steps that printed nothing
abbrev went : World → List Item → List Var → List Value → Option Ran
went w work vars values = Some (record { world = w; frames = frame work vars values ∷ []; acts = []; left = [] })

-- what stands after a statement that printed a line
abbrev printed : World → List ℕ → List Item → List Var → Option Ran
printed w line work vars = Some (record { world = w; frames = frame work vars [] ∷ []; acts = act.Put line ∷ []; left = [] })

decimal_four : decimal 4 ≡ codes "4"
decimal_four = decimal-digits_of 4 (omega arith) (omega arith)

decimal_one : decimal 1 ≡ codes "1"
decimal_one = decimal-digits_of 1 (omega arith) (omega arith)

quot_steps : (w : World) (was : ℕ) (work : List Item) → run 10 w (record (frame (i.Exec (divided fix.Div op.IntDiv) ∷ work) [] []) { line = was } ∷ []) ≡ printed w (codes "-4") work []
quot_steps w was work = simp (s.outs-PutLine, e.outs-Op, e.outs-Binary, e.outs-Unary, e.outs-Literal, decimal_four) refl

rem_steps : (w : World) (work : List Item) → run 10 w (frame (i.Exec (divided fix.Mod op.IntMod) ∷ work) [] [] ∷ []) ≡ printed w (codes "1") work []
rem_steps w work = simp (s.outs-PutLine, e.outs-Op, e.outs-Binary, e.outs-Unary, e.outs-Literal, decimal_one) refl

-- the statement `put_line(t)` takes three steps
text_steps : (w : World) (t : List ℕ) (work : List Item) (vars : List Var) → run 3 w (frame (i.Exec (text t) ∷ work) vars [] ∷ []) ≡ printed w t work vars
text_steps w t work vars = simp (s.outs-PutLine, e.outs-Literal) refl

-- from the statement to the quotient's left operand
abbrev behind_least : List Item → List Item
behind_least work = i.Eval (minus (int (pos 1))) ∷ i.Apply op.IntDiv ∷ i.Apply op.IntUnparse ∷ i.Print ∷ i.Guard (Handle (says (codes "overflow"))) ∷ work

wide_first : (w : World) (work : List Item) → run 4 w (frame (i.Exec wide ∷ work) [] [] ∷ []) ≡ went w (i.Eval least ∷ behind_least work) [] []
wide_first w work = simp (s.outs-Except, s.outs-PutLine, e.outs-Op, e.outs-Binary) refl

least_steps : (w : World) (work : List Item) → run 6 w (frame (i.Eval least ∷ work) [] [] ∷ []) ≡ went w work [] (value.Int (negsuc (2 ^ 63 - 1)) ∷ [])
least_steps w work = simp (e.outs-Binary, e.outs-Unary, e.outs-Literal) refl

wide_raises : (w : World) (work : List Item) → run 4 w (frame (behind_least work) [] (value.Int (negsuc (2 ^ 63 - 1)) ∷ []) ∷ []) ≡ went w (i.Exec (text (codes "overflow")) ∷ work) [] []
wide_raises w work = simp (e.outs-Unary, e.outs-Literal, out-roll-Handlers) refl

wide_steps : (w : World) (work : List Item) → run 17 w (frame (i.Exec wide ∷ work) [] [] ∷ []) ≡ printed w (codes "overflow") work []
wide_steps w work =
    run_on 4 13 _ w (frame (i.Exec wide ∷ work) [] [] ∷ []) _ (wide_first w work)
    (run_on 6 7 _ w (frame (i.Eval least ∷ behind_least work) [] [] ∷ []) _ (least_steps w (behind_least work))
    (run_on 4 3 _ w (frame (behind_least work) [] (value.Int (negsuc (2 ^ 63 - 1)) ∷ []) ∷ []) _ (wide_raises w work)
    (text_steps w (codes "overflow") work [])))

abbrev array : Var
array = record { name = codes "a"; shape = shape.Arr shape.Int; value = Some (value.Ref (record { 0 = 0 })) }

-- the world with the array 5, 6 as its only object
abbrev made : World → World
made w = record w { store = obj.Arr (pos 1) (value.Int (pos 5) ∷ value.Int (pos 6) ∷ []) ∷ [] }

-- the world without objects
abbrev bare : World → World
bare w = record w { store = []; bound = 0 }

both_steps : (w : World) (work : List Item) → run 6 (bare w) (frame (i.Exec both ∷ work) [] [] ∷ []) ≡ went (made (bare w)) work (array ∷ []) []
both_steps w work = simp (s.outs-Declare, e.outs-Array, e.outs-Literal) refl

third_raises : (w : World) (work : List Item) → run 7 (made w) (frame (i.Exec third ∷ work) (array ∷ []) [] ∷ []) ≡ went (made w) (i.Exec (text (codes "bounds")) ∷ work) (array ∷ []) []
third_raises w work = simp (s.outs-PutLine, s.outs-Except, e.outs-Op, e.outs-Index, e.outs-Name, e.outs-Literal, out-roll-Handlers) refl

third_steps : (w : World) (work : List Item) → run 10 (made w) (frame (i.Exec third ∷ work) (array ∷ []) [] ∷ []) ≡ printed (made w) (codes "bounds") work (array ∷ [])
third_steps w work =
    run_on 7 3 _ (made w) (frame (i.Exec third ∷ work) (array ∷ []) [] ∷ []) _ (third_raises w work)
    (text_steps (made w) (codes "bounds") work (array ∷ []))

-- a step that ends a process of one frame
fall_steps : (w : World) (r : Routine) (vars : List Var) → slice_get w.program.routines 0 ≡ Some r → r.result ≡ None → run 1 w (frame (i.Fall ∷ []) vars [] ∷ []) ≡
    Some (record { world = w; frames = []; acts = act.Ended value.Nil ∷ []; left = [] })
fall_steps w r vars at none = rw (at, none) refl

abbrev arith_acts : List Act
arith_acts = act.Put (codes "-4") ∷ act.Put (codes "1") ∷ act.Put (codes "overflow") ∷ act.Put (codes "bounds") ∷ act.Ended value.Nil ∷ []

-- four lines in 54 steps
pub arith_steps : ran 54 arith_body ≡ Some (record { world = made (world arith_body); frames = []; acts = arith_acts; left = [] })
arith_steps =
    let w = world arith_body in
    let last = i.Exec third ∷ i.Fall ∷ [] in
    let fourth = i.Exec both ∷ last in
    let behind = i.Exec wide ∷ fourth in
    run_on 10 44 _ w (start 0 (main arith_body) []) _ (quot_steps w 1 (i.Exec (divided fix.Mod op.IntMod) ∷ behind))
    (run_on 10 34 _ w (frame (i.Exec (divided fix.Mod op.IntMod) ∷ behind) [] [] ∷ []) _ (rem_steps w behind)
    (run_on 17 17 _ w (frame behind [] [] ∷ []) _ (wide_steps w fourth)
    (run_on 6 11 _ w (frame fourth [] [] ∷ []) _ (both_steps w last)
    (run_on 10 1 _ (made w) (frame last (array ∷ []) [] ∷ []) _ (third_steps w (i.Fall ∷ []))
    (fall_steps (made w) (main arith_body) (array ∷ []) refl refl)))))
