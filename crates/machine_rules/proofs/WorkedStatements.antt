-- The steps of each kind of statement, computed before any work that stands behind it.
use Rattle.std.proofs.Common.{◌≡◌, ℕ, pos, true, false, List, [], ◌∷◌, codes, Option, Some, None, refl, arith}
use Rattle.std.specs.Fmt.{decimal}
use Rattle.std.proofs.lemmas.Fmt.{decimal-digits_of}
use Rattle.clu_tree.specs.declared.value.Addr.{Addr}
use Rattle.clu_tree.specs.declared.value.Value.{Value}
use Rattle.clu_tree.specs.declared.value.Value.TheVariants as value
use Rattle.clu_tree.specs.declared.shape.Shape.TheVariants as shape
use Rattle.clu_tree.specs.declared.shape.Named.{roll-Named, out-roll-Named}
use Rattle.clu_tree.specs.declared.op.Op.TheVariants as op
use Rattle.clu_tree.specs.declared.tree.Meant.TheVariants as m
use Rattle.clu_tree.specs.declared.tree.Infix.TheVariants as fix
use Rattle.clu_tree.specs.declared.tree.Remote.TheVariants as remote
use Rattle.clu_tree.specs.declared.tree.Expr.{Expr}
use Rattle.clu_tree.specs.declared.tree.Expr.TheVariants as e
use Rattle.clu_tree.specs.declared.tree.FieldInit.{out-roll-FieldInit}
use Rattle.clu_tree.specs.declared.tree.Stmt.{Stmt}
use Rattle.clu_tree.specs.declared.tree.Stmt.TheVariants as s
use Rattle.clu_tree.specs.declared.tree.Arm.{roll-Arm, out-roll-Arm}
use Rattle.clu_tree.specs.declared.tree.TagArm.{roll-TagArm, out-roll-TagArm}
use Rattle.clu_tree.specs.declared.tree.Handlers.{Handlers, roll-Handlers, out-roll-Handlers}
use Rattle.clu_tree.specs.declared.tree.When.{roll-When, out-roll-When}
use Rattle.clu_tree.specs.declared.program.Routine.{Routine}
use Rattle.obj_region.specs.declared.object.Obj.{Obj}
use Rattle.obj_region.specs.declared.object.Obj.TheVariants as obj
use Rattle.machine_rules.specs.declared.item.Catch.TheVariants.{Handle}
use Rattle.machine_rules.specs.declared.item.Item.{Item}
use Rattle.machine_rules.specs.declared.item.Item.TheVariants as i
use Rattle.machine_rules.specs.declared.frame.Var.{Var}
use Rattle.machine_rules.specs.declared.frame.Frame.{Frame}
use Rattle.machine_rules.specs.declared.act.Act.{Act}
use Rattle.machine_rules.specs.declared.act.Act.TheVariants as act
use Rattle.machine_rules.specs.Examples.{adds, at, int, int_named, local, program, routine, signals_bad, text, truth, var, when}
use Rattle.machine_rules.specs.Row.{World, bare_world, entry, start}
use Rattle.machine_rules.specs.Runs.{Ran, run}
use Rattle.machine_rules.proofs.Runs.{run_on}

ruleset exprs = (e.outs-Literal, e.outs-Name, e.outs-Binary, e.outs-Call, e.outs-Op, e.outs-Record, e.outs-Up, e.outs-Down, e.outs-Now, e.outs-Field, e.outs-Index, out-roll-FieldInit)

ruleset stmts = (s.outs-Declare, s.outs-Assign, s.outs-Remote, s.outs-Call, s.outs-PutLine, s.outs-Fork, s.outs-Return, s.outs-Signal, s.outs-If, s.outs-While, s.outs-For, s.outs-Tagcase, s.outs-Begin, s.outs-Region, s.outs-Except, s.outs-Resignal, out-roll-Arm, out-roll-TagArm, out-roll-Handlers, out-roll-When, out-roll-Named)

-- ---- the world and the frames of these examples

-- a program whose routine 0 is p, and whose others are these
abbrev world : List Routine → World
world others = bare_world (program [] others) 7

abbrev frame : List Item → List Var → Frame
frame work vars = record { routine = 0; line = 2; vars = vars; work = work; values = [] }

-- what p has done once this statement is over
abbrev did : World → List Act → List Addr → List Item → List Var → Option Ran
did w acts left work vars = Some (record { world = w; frames = frame work vars ∷ []; acts = acts; left = left })

-- `put_line(t)`: Exec, Eval, Put
text_steps : (w : World) (t : List ℕ) (work : List Item) → run 3 w (frame (i.Exec (text t) ∷ work) [] ∷ []) ≡ did w (act.Put t ∷ []) [] work []
text_steps w t work = simp (s.outs-PutLine, e.outs-Literal) refl

decimal_five : decimal 5 ≡ codes "5"
decimal_five = decimal-digits_of 5 (omega arith) (omega arith)

-- ---- calls

abbrev call : List ℕ → ℕ → Stmt
call name k = s.Call (e.Call name [] 2 (m.Routine k)) 2

-- Exec, Eval, Enter, Fall, Drop
call_steps : (work : List Item) → run 5 (world (routine (codes "q") [] None [] ∷ [])) (frame (i.Exec (call (codes "q") 1) ∷ work) [] ∷ []) ≡
    did (world (routine (codes "q") [] None [] ∷ [])) [] [] work []
call_steps work = simp (exprs, stmts) refl

abbrev five : Routine
five = routine (codes "five") [] (Some shape.Int) (s.Return (Some (int (pos 5))) 2 ∷ [])

-- `x: int := five()`: Exec, Eval, Enter, Exec return, Eval, Return, Bind
declare_steps : (work : List Item) → run 7 (world (five ∷ [])) (frame (i.Exec (s.Declare (codes "x") shape.Int (Some (e.Call (codes "five") [] 2 (m.Routine 1))) 2) ∷ work) [] ∷ []) ≡
    did (world (five ∷ [])) [] [] work (var (codes "x") shape.Int (value.Int (pos 5)) ∷ [])
declare_steps work = simp (exprs, stmts) refl

-- `x: int`
declare_unset_steps : (work : List Item) → run 1 (world []) (frame (i.Exec (s.Declare (codes "x") shape.Int None 2) ∷ work) [] ∷ []) ≡
    did (world []) [] [] work (record { name = codes "x"; shape = shape.Int; value = None } ∷ [])
declare_unset_steps work = simp s.outs-Declare refl

-- ---- exceptions

-- `oops() except when bad: put_line("x") end`: Exec, Exec, Eval, Enter, Exec signal, and the handler's three
handler_steps : (work : List Item) → run 8 (world (signals_bad ∷ [])) (frame (i.Exec (s.Except (call (codes "oops") 1) (when (codes "bad") (text (codes "x") ∷ []))) ∷ work) [] ∷ []) ≡
    did (world (signals_bad ∷ [])) (act.Put (codes "x") ∷ []) [] work []
handler_steps work = simp (exprs, stmts) refl

-- the exception's value is the handler's variable
abbrev failing : Routine
failing = routine (codes "failing") [] None (s.Signal (codes "failure") (Some (e.Literal (value.Str (codes "no")) 2)) 2 ∷ [])

abbrev shows_it : Handlers
shows_it = roll-Handlers (record {
  whens = roll-When (record { names = codes "failure" ∷ []; variable = Some (roll-Named (record { name = codes "s"; shape = shape.Str })); body = s.PutLine (local (codes "s")) 2 ∷ [] }) ∷ [];
  others = None;
})

abbrev caught : List Var
caught = var (codes "s") shape.Str (value.Str (codes "no")) ∷ []

-- Exec, Exec, Eval, Enter, Exec signal, Eval, Raise
lands_steps : (work : List Item) → run 7 (world (failing ∷ [])) (frame (i.Exec (s.Except (call (codes "failing") 1) shows_it) ∷ work) [] ∷ []) ≡
    did (world (failing ∷ [])) [] [] (i.Exec (s.PutLine (local (codes "s")) 2) ∷ work) caught
lands_steps work = simp (s.outs-Except, s.outs-Call, s.outs-Signal, e.outs-Call, e.outs-Literal, out-roll-Handlers) refl

-- and the handler's three: ten in all
handler_variable_steps : (work : List Item) → run 10 (world (failing ∷ [])) (frame (i.Exec (s.Except (call (codes "failing") 1) shows_it) ∷ work) [] ∷ []) ≡
    did (world (failing ∷ [])) (act.Put (codes "no") ∷ []) [] work caught
handler_variable_steps work =
    let body : run 3 (world (failing ∷ [])) (frame (i.Exec (s.PutLine (local (codes "s")) 2) ∷ work) caught ∷ []) ≡ did (world (failing ∷ [])) (act.Put (codes "no") ∷ []) [] work caught =
    simp (s.outs-PutLine, e.outs-Name) refl in
    run_on 7 3 _ (world (failing ∷ [])) (frame (i.Exec (s.Except (call (codes "failing") 1) shows_it) ∷ work) [] ∷ []) _ (lands_steps work) body

-- a guard that comes first is dropped in a step: Exec, Exec, Eval, Print, Guard
guard_steps : (work : List Item) → run 5 (world []) (frame (i.Exec (s.Except (text (codes "x")) (when (codes "bad") [])) ∷ work) [] ∷ []) ≡
    did (world []) (act.Put (codes "x") ∷ []) [] work []
guard_steps work = simp (exprs, stmts) refl

abbrev passing : Routine
passing = routine (codes "passing") [] None (s.Resignal (call (codes "oops") 1) (codes "bad" ∷ []) ∷ [])

abbrev handles_bad : Handlers
handles_bad = when (codes "bad") (text (codes "x") ∷ [])

abbrev two : World
two = world (signals_bad ∷ passing ∷ [])

-- Exec, Exec, Eval, Enter
passing_begins : (work : List Item) → run 4 two (frame (i.Exec (s.Except (call (codes "passing") 2) handles_bad) ∷ work) [] ∷ []) ≡
    Some (record { world = two; frames = entry 2 passing [] ∷ frame (i.Discard ∷ i.Guard (Handle handles_bad) ∷ work) [] ∷ []; acts = []; left = [] })
passing_begins work = simp (s.outs-Except, s.outs-Call, e.outs-Call) refl

-- Exec resignal, Exec, Eval, Enter, Exec signal
passing_lands : (work : List Item) → run 5 two (entry 2 passing [] ∷ frame (i.Discard ∷ i.Guard (Handle handles_bad) ∷ work) [] ∷ []) ≡
    did two [] [] (i.Exec (text (codes "x")) ∷ work) []
passing_lands work = simp (s.outs-Resignal, s.outs-Call, s.outs-Signal, e.outs-Call, out-roll-Handlers) refl

-- a resignal ends its frame raising the same exception, which the caller handles: those, and the handler's three
resignal_steps : (work : List Item) → run 12 two (frame (i.Exec (s.Except (call (codes "passing") 2) handles_bad) ∷ work) [] ∷ []) ≡ did two (act.Put (codes "x") ∷ []) [] work []
resignal_steps work =
    run_on 4 8 _ two (frame (i.Exec (s.Except (call (codes "passing") 2) handles_bad) ∷ work) [] ∷ []) _ (passing_begins work)
    (run_on 5 3 _ two (entry 2 passing [] ∷ frame (i.Discard ∷ i.Guard (Handle handles_bad) ∷ work) [] ∷ []) _ (passing_lands work)
    (text_steps two (codes "x") work))

-- an exception that nothing takes leaves a frame as failure: Exec, Eval, Enter, Exec signal
unhandled_steps : (work : List Item) → run 4 (world (signals_bad ∷ [])) (frame (i.Exec (call (codes "oops") 1) ∷ []) [] ∷ []) ≡
    Some (record {
      world = world (signals_bad ∷ []);
      frames = [];
      acts = act.Died (record { name = codes "failure"; value = Some (value.Str (codes "unhandled exception: bad")) }) ∷ [];
      left = [];
    })
unhandled_steps work = simp (exprs, stmts) refl

-- the end of a body that owes a result: Exec, Eval, Enter, Fall
no_return_steps : (work : List Item) → run 4 (world (routine (codes "q") [] (Some shape.Int) [] ∷ [])) (frame (i.Exec (call (codes "q") 1) ∷ []) [] ∷ []) ≡
    Some (record {
      world = world (routine (codes "q") [] (Some shape.Int) [] ∷ []);
      frames = [];
      acts = act.Died (record { name = codes "failure"; value = Some (value.Str (codes "no return")) }) ∷ [];
      left = [];
    })
no_return_steps work = simp (exprs, stmts) refl

-- a variable without a value
unset_steps : run 2 (world []) (frame (i.Exec (s.Sleep (local (codes "x")) 2) ∷ []) (record { name = codes "x"; shape = shape.Int; value = None } ∷ []) ∷ []) ≡
    Some (record {
      world = world [];
      frames = [];
      acts = act.Died (record { name = codes "failure"; value = Some (value.Str (codes "unset variable")) }) ∷ [];
      left = [];
    })
unset_steps = simp (s.outs-Sleep, e.outs-Name) refl

-- ---- locks and semaphores

-- the world whose node variable 0 is this object
abbrev with_object : World → Obj → World
with_object w o = record w { store = o ∷ []; vars = Some (value.Ref (at 0)) ∷ [] }

abbrev guarded : List Stmt → Stmt
guarded body = s.Region (e.Name (codes "guard") 2 (m.NodeVar 0)) body 2

abbrev locked : List Routine → World
locked others = with_object (world others) obj.Lock

-- the process is over, and gave back the lock that it entered
abbrev left_it : World → Option Ran
left_it w = Some (record { world = w; frames = []; acts = act.Enter (at 0) ∷ act.Ended value.Nil ∷ []; left = at 0 ∷ [] })

-- `region guard do end`: Exec, Eval, Grab, Leave, and Fall
region_steps : run 5 (locked []) (frame (i.Exec (guarded []) ∷ i.Fall ∷ []) [] ∷ []) ≡ left_it (locked [])
region_steps = simp (s.outs-Region, e.outs-Name) refl

abbrev leaving : Routine
leaving = routine (codes "leaving") [] None (guarded (s.Return None 2 ∷ []) ∷ [])

-- a frame that ends gives its locks back: Exec, Eval, Enter, Exec region, Eval, Grab, Exec return, Drop, and Fall
return_in_region_steps : run 9 (locked (leaving ∷ [])) (frame (i.Exec (call (codes "leaving") 1) ∷ i.Fall ∷ []) [] ∷ []) ≡ left_it (locked (leaving ∷ []))
return_in_region_steps = simp (s.outs-Call, e.outs-Call, s.outs-Region, e.outs-Name, s.outs-Return) refl

-- a lock that the process holds already: two of Exec, Eval, Grab, and the failure lands outside both
held_steps : run 8 (locked []) (frame (i.Exec (s.Except (guarded (guarded [] ∷ [])) (when (codes "failure") [])) ∷ i.Fall ∷ []) [] ∷ []) ≡ left_it (locked [])
held_steps = simp (s.outs-Except, s.outs-Region, e.outs-Name, out-roll-Handlers) refl

-- `semaphore$signal(s)`: Exec, Eval, Eval, Apply; the node gives nil, and Drop and Fall make six
signal_steps : (work : List Item) →
    run 4 (with_object (world []) obj.Sem) (frame (i.Exec (s.Call (e.Op shape.Semaphore (codes "signal") (e.Name (codes "s") 2 (m.NodeVar 0) ∷ []) 2 (m.Op op.SemSignal)) 2) ∷ work) [] ∷ []) ≡
    did (with_object (world []) obj.Sem) (act.Signal (at 0) ∷ []) [] (i.Discard ∷ work) []
signal_steps work = simp (exprs, stmts) refl

abbrev waits : Expr
waits = e.Op shape.Semaphore (codes "wait_for") (e.Name (codes "s") 2 (m.NodeVar 0) ∷ int (pos 50) ∷ []) 2 (m.Op op.SemWaitFor)

-- `if semaphore$wait_for(s, 50) then put_line("got") else put_line("late") end`: five steps up to the wait
wait_steps : (work : List Item) →
    run 5 (with_object (world []) obj.Sem) (frame (i.Exec (s.If waits (text (codes "got") ∷ []) [] (Some (text (codes "late") ∷ [])) 2) ∷ work) [] ∷ []) ≡
    did (with_object (world []) obj.Sem) (act.Wait (at 0) (Some (pos 50)) ∷ []) [] (i.Branch (text (codes "got") ∷ []) [] (Some (text (codes "late") ∷ [])) ∷ work) []
wait_steps work = simp (exprs, stmts) refl

-- `sleep(20)`: Exec, Eval, Sleep
sleep_steps : (w : World) (work : List Item) → run 3 w (frame (i.Exec (s.Sleep (int (pos 20)) 2) ∷ work) [] ∷ []) ≡ did w (act.Sleep (pos 20) ∷ []) [] work []
sleep_steps w work = simp (s.outs-Sleep, e.outs-Literal) refl

-- p with this value, which the node gave
abbrev given : Value → List Item → List Frame
given v work = record (frame work []) { values = v ∷ [] } ∷ []

signalled_steps : run 2 (world []) (given value.Nil (i.Discard ∷ i.Fall ∷ [])) ≡
    Some (record { world = world []; frames = []; acts = act.Ended value.Nil ∷ []; left = [] })
signalled_steps = refl

-- Branch, Exec, Eval, Print, Fall
woken_steps : run 5 (world []) (given (value.Bool true) (i.Branch (text (codes "got") ∷ []) [] (Some (text (codes "late") ∷ [])) ∷ i.Fall ∷ [])) ≡
    Some (record { world = world []; frames = []; acts = act.Put (codes "got") ∷ act.Ended value.Nil ∷ []; left = [] })
woken_steps = simp (exprs, stmts) refl

late_steps : run 5 (world []) (given (value.Bool false) (i.Branch (text (codes "got") ∷ []) [] (Some (text (codes "late") ∷ [])) ∷ i.Fall ∷ [])) ≡
    Some (record { world = world []; frames = []; acts = act.Put (codes "late") ∷ act.Ended value.Nil ∷ []; left = [] })
late_steps = simp (exprs, stmts) refl

-- ---- processes and remote calls

-- `fork q(1)`: Exec, Eval, Spawn
fork_steps : (work : List Item) →
    run 3 (world (routine (codes "q") (int_named (codes "n") ∷ []) None [] ∷ [])) (frame (i.Exec (s.Fork (codes "q") (int (pos 1) ∷ []) 2 (m.Routine 1)) ∷ work) [] ∷ []) ≡
    did (world (routine (codes "q") (int_named (codes "n") ∷ []) None [] ∷ [])) (act.Fork 1 (value.Int (pos 1) ∷ []) ∷ []) [] work []
fork_steps work = simp (exprs, stmts) refl

abbrev asked : Stmt
asked = s.Remote (Some (codes "x")) (remote.Once (codes "add") (int (pos 2) ∷ int (pos 3) ∷ []) (int (pos 2)) 2 (m.Routine 1)) 2 m.Local

-- `x: int` and `x := once add(2, 3) at 2`: Exec, Exec, three of Eval, Remote
once_steps : (work : List Item) →
    run 6 (world (adds ∷ [])) (frame (i.Exec (s.Declare (codes "x") shape.Int None 2) ∷ i.Exec asked ∷ work) [] ∷ []) ≡
    did (world (adds ∷ [])) (act.Once (record { routine = 1; to = pos 2; args = value.Int (pos 2) ∷ value.Int (pos 3) ∷ [] }) ∷ []) []
    (i.Assign (codes "x") ∷ work) (record { name = codes "x"; shape = shape.Int; value = None } ∷ [])
once_steps work = simp (exprs, stmts) refl

-- its body: Exec return, Eval, two of Eval, Apply, Return
body_steps : run 6 (world (adds ∷ [])) (start 1 adds (value.Int (pos 2) ∷ value.Int (pos 3) ∷ [])) ≡
    Some (record { world = world (adds ∷ []); frames = []; acts = act.Ended (value.Int (pos 5)) ∷ []; left = [] })
body_steps = simp (exprs, stmts) refl

-- and, with its answer, Set, the five of `put_line(int$unparse(x))`, Fall
answered_steps : run 7 (world (adds ∷ []))
    (record { routine = 0; line = 2; vars = record { name = codes "x"; shape = shape.Int; value = None } ∷ []; work = i.Assign (codes "x") ∷ i.Exec (s.PutLine (e.Op shape.Int (codes "unparse") (local (codes "x") ∷ []) 2 (m.Op op.IntUnparse)) 2) ∷ i.Fall ∷ []; values = value.Int (pos 5) ∷ [] } ∷ []) ≡
    Some (record { world = world (adds ∷ []); frames = []; acts = act.Put (codes "5") ∷ act.Ended value.Nil ∷ []; left = [] })
answered_steps = simp (s.outs-PutLine, e.outs-Op, e.outs-Name, decimal_five) refl

-- `maybe add(2, 3) at 2 within 100`: Exec, four of Eval, Remote
maybe_steps : (work : List Item) →
    run 6 (world (adds ∷ [])) (frame (i.Exec (s.Remote None (remote.Maybe (codes "add") (int (pos 2) ∷ int (pos 3) ∷ []) (int (pos 2)) (int (pos 100)) 2 (m.Routine 1)) 2 m.Unknown) ∷ work) [] ∷ []) ≡
    did (world (adds ∷ [])) (act.Maybe (record { routine = 1; to = pos 2; args = value.Int (pos 2) ∷ value.Int (pos 3) ∷ [] }) (pos 100) ∷ []) [] (i.Discard ∷ work) []
maybe_steps work = simp (exprs, stmts) refl

-- ---- choices

-- `if false then elseif true then put_line("x") end`: Exec, Eval, Branch, Eval, Branch, and the body's three
if_steps : (work : List Item) →
    run 8 (world []) (frame (i.Exec (s.If (truth false) [] (roll-Arm (record { test = truth true; body = text (codes "x") ∷ [] }) ∷ []) None 2) ∷ work) [] ∷ []) ≡
    did (world []) (act.Put (codes "x") ∷ []) [] work []
if_steps work = simp (exprs, stmts) refl

abbrev seven : World
seven = record (world []) { store = obj.One 1 (value.Int (pos 7)) ∷ [] }

-- `tagcase v tag a: tag b (n: int): put_line("x") end`: Exec, Eval, Tag, and the arm's three
tagcase_steps : (work : List Item) →
    run 6 seven (frame (i.Exec (s.Tagcase (local (codes "v"))
    (roll-TagArm (record { tag = codes "a"; variable = None; body = []; meant = m.Tag 0 })
    ∷ roll-TagArm (record { tag = codes "b"; variable = Some (roll-Named (record { name = codes "n"; shape = shape.Int })); body = text (codes "x") ∷ []; meant = m.Tag 1 })
    ∷ []) None 2) ∷ work) (var (codes "v") (shape.Name (codes "t")) (value.Ref (at 0)) ∷ []) ∷ []) ≡
    did seven (act.Put (codes "x") ∷ []) [] work (var (codes "v") (shape.Name (codes "t")) (value.Ref (at 0)) ∷ var (codes "n") shape.Int (value.Int (pos 7)) ∷ [])
tagcase_steps work = simp (exprs, stmts) refl

-- `false cand ..` doesn't look at its second operand: Eval, Eval, Pick
cand_steps : (work : List Item) → run 3 (world []) (frame (i.Eval (e.Binary (truth false) fix.Cand (local (codes "x")) 2 m.Unknown) ∷ work) [] ∷ []) ≡
    Some (record { world = world []; frames = record (frame work []) { values = value.Bool false ∷ [] } ∷ []; acts = []; left = [] })
cand_steps work = simp exprs refl
