-- Programs that wait for the node: where each stands by what it told it, and how it goes on once the node answers.
use Rattle.std.proofs.Common.{◌≡◌, ℕ, pos, true, false, List, [], ◌∷◌, codes, Some, None, refl, arith}
use Rattle.std.specs.Fmt.{decimal}
use Rattle.std.proofs.lemmas.Fmt.{decimal_digit}
use Rattle.clu_tree.specs.declared.value.Value.TheVariants as value
use Rattle.clu_tree.specs.declared.value.Sig.{Sig}
use Rattle.clu_tree.specs.declared.shape.Shape.TheVariants as shape
use Rattle.clu_tree.specs.declared.tree.Meant.TheVariants as m
use Rattle.clu_tree.specs.declared.tree.Target.TheVariants as target
use Rattle.clu_tree.specs.declared.tree.Expr.TheVariants as e
use Rattle.clu_tree.specs.declared.tree.Stmt.{Stmt}
use Rattle.clu_tree.specs.declared.tree.Stmt.TheVariants as s
use Rattle.clu_tree.specs.declared.tree.Handlers.{out-roll-Handlers}
use Rattle.obj_region.specs.declared.object.Obj.TheVariants as obj
use Rattle.machine_rules.specs.declared.item.Catch.TheVariants.{Handle}
use Rattle.machine_rules.specs.declared.item.Item.{Item}
use Rattle.machine_rules.specs.declared.item.Item.TheVariants as i
use Rattle.machine_rules.specs.declared.frame.Var.{Var}
use Rattle.machine_rules.specs.declared.frame.Frame.{Frame}
use Rattle.machine_rules.specs.declared.act.Act.{Act}
use Rattle.machine_rules.specs.declared.act.Act.TheVariants as act
use Rattle.machine_rules.specs.Examples.{adds, at, begins, did, frame, int, over, says, shown, text, var, world}
use Rattle.machine_rules.specs.Row.{World, give, gives, goes, raise}
use Rattle.machine_rules.specs.Runs.{run}
use Rattle.machine_rules.proofs.Runs.{run_on}
use Rattle.machine_rules.proofs.WorkedPrograms.{text_steps}
use Rattle.machine_tests.specs.Programs.{asking, bare_sig, forked, maybe, node_var, node_vars, semaphore, signalled, takes_number, tried, waited, waited_on, x}

decimal_five : decimal 5 ≡ codes "5"
decimal_five = decimal_digit 5 (omega arith)

decimal_seven : decimal 7 ≡ codes "7"
decimal_seven = decimal_digit 7 (omega arith)

-- ---- `x := once add(2, 3) at 2` and `put_line(int$unparse(x))`

abbrev pub asking_world : World
asking_world = world asking (adds ∷ [])

abbrev unset_x : Var
unset_x = record { name = codes "x"; shape = shape.Int; value = None }

abbrev pub asking_waits : List Frame
asking_waits = frame (i.Assign (codes "x") ∷ i.Exec (shown x) ∷ i.Fall ∷ []) (unset_x ∷ []) [] ∷ []

abbrev pub asks_once : Act
asks_once = act.Once (record { routine = 1; to = pos 2; args = value.Int (pos 2) ∷ value.Int (pos 3) ∷ [] })

-- Exec, Exec, three of Eval, AskOnce
pub asking_steps : run 6 asking_world (begins asking) ≡ Some (record { world = asking_world; frames = asking_waits; acts = asks_once ∷ []; left = [] })
asking_steps = simp (s.outs-Declare, s.outs-Remote, e.outs-Literal) refl

-- Assign, Exec, Eval, Eval, Apply, Print
asking_goes_on : (w : World) → run 6 w (give (value.Int (pos 5)) asking_waits) ≡ did w (act.Put (codes "5") ∷ []) (i.Fall ∷ []) (var (codes "x") shape.Int (value.Int (pos 5)) ∷ [])
asking_goes_on w = simp (s.outs-PutLine, e.outs-Op, e.outs-Name, decimal_five) refl

-- Fall
asking_falls : run 1 asking_world (frame (i.Fall ∷ []) (var (codes "x") shape.Int (value.Int (pos 5)) ∷ []) [] ∷ []) ≡ over asking_world (act.Ended value.Nil ∷ [])
asking_falls = refl

pub asking_ends : run 7 asking_world (give (value.Int (pos 5)) asking_waits) ≡ over asking_world (act.Put (codes "5") ∷ act.Ended value.Nil ∷ [])
asking_ends = run_on 6 1 _ asking_world (give (value.Int (pos 5)) asking_waits) _ (asking_goes_on asking_world) asking_falls

-- ---- `s: semaphore := semaphore$create(1)`

abbrev sem : Var
sem = var (codes "s") shape.Semaphore (value.Ref (at 0))

abbrev pub with_sem : World → World
with_sem w = record w { store = obj.Sem ∷ [] }

abbrev pub made_sem : Act
made_sem = act.MakeSync (at 0) 1

abbrev pub signals_body : List Stmt
signals_body = semaphore ∷ signalled ∷ []

abbrev pub signals_world : World
signals_world = world signals_body []

-- Exec, Eval, Eval, Apply, Assign
signals_made : run 5 signals_world (begins signals_body) ≡ did (with_sem signals_world) (made_sem ∷ []) (i.Exec signalled ∷ i.Fall ∷ []) (sem ∷ [])
signals_made = simp (s.outs-Declare, e.outs-Op, e.outs-Literal) refl

-- ---- `semaphore$signal(s)`

abbrev pub signals_waits : List Frame
signals_waits = frame (i.Discard ∷ i.Fall ∷ []) (sem ∷ []) [] ∷ []

-- Exec, Eval, Eval, Apply
signals_told : (w : World) → run 4 w (frame (i.Exec signalled ∷ i.Fall ∷ []) (sem ∷ []) [] ∷ []) ≡ did w (act.Signal (at 0) ∷ []) (i.Discard ∷ i.Fall ∷ []) (sem ∷ [])
signals_told w = simp (s.outs-Call, e.outs-Op, e.outs-Name) refl

pub semaphore_signals : run 9 signals_world (begins signals_body) ≡
    Some (record { world = with_sem signals_world; frames = signals_waits; acts = made_sem ∷ act.Signal (at 0) ∷ []; left = [] })
semaphore_signals = run_on 5 4 _ signals_world (begins signals_body) _ signals_made (signals_told (with_sem signals_world))

-- Discard, Fall
pub semaphore_signals_ends : run 2 (with_sem signals_world) (give value.Nil signals_waits) ≡ over (with_sem signals_world) (act.Ended value.Nil ∷ [])
semaphore_signals_ends = refl

-- ---- `semaphore$wait(s)`

abbrev pub waits_on_body : List Stmt
waits_on_body = semaphore ∷ waited_on ∷ []

abbrev pub waits_on_world : World
waits_on_world = world waits_on_body []

-- Exec, two of Eval, Apply, Assign
waits_on_made : run 5 waits_on_world (begins waits_on_body) ≡ did (with_sem waits_on_world) (made_sem ∷ []) (i.Exec waited_on ∷ i.Fall ∷ []) (sem ∷ [])
waits_on_made = simp (s.outs-Declare, e.outs-Op, e.outs-Literal) refl

abbrev pub waits_on_waits : List Frame
waits_on_waits = frame (i.Discard ∷ i.Fall ∷ []) (sem ∷ []) [] ∷ []

abbrev pub waits_on_it : Act
waits_on_it = act.Wait (at 0) None

-- Exec, two of Eval, Apply
waits_on_told : (w : World) → run 4 w (frame (i.Exec waited_on ∷ i.Fall ∷ []) (sem ∷ []) [] ∷ []) ≡ did w (waits_on_it ∷ []) (i.Discard ∷ i.Fall ∷ []) (sem ∷ [])
waits_on_told w = simp (s.outs-Call, e.outs-Op, e.outs-Name) refl

pub semaphore_waits_on : run 9 waits_on_world (begins waits_on_body) ≡
    Some (record { world = (with_sem waits_on_world); frames = waits_on_waits; acts = made_sem ∷ waits_on_it ∷ []; left = [] })
semaphore_waits_on = run_on 5 4 _ waits_on_world (begins waits_on_body) _ waits_on_made (waits_on_told (with_sem waits_on_world))

-- Discard, Fall
pub semaphore_waits_on_ends : run 2 (with_sem waits_on_world) (give value.Nil waits_on_waits) ≡ over (with_sem waits_on_world) (act.Ended value.Nil ∷ [])
semaphore_waits_on_ends = refl

-- ---- `if semaphore$wait_for(s, 50) then put_line("got") else put_line("late") end`

abbrev pub waits_body : List Stmt
waits_body = semaphore ∷ waited ∷ []

abbrev pub waits_world : World
waits_world = world waits_body []

-- Exec, Eval, Eval, Apply, Assign
waits_made : run 5 waits_world (begins waits_body) ≡ did (with_sem waits_world) (made_sem ∷ []) (i.Exec waited ∷ i.Fall ∷ []) (sem ∷ [])
waits_made = simp (s.outs-Declare, e.outs-Op, e.outs-Literal) refl

abbrev waits_work : List Item
waits_work = i.Branch (text (codes "got") ∷ []) [] (Some (text (codes "late") ∷ [])) ∷ i.Fall ∷ []

abbrev pub waits_waits : List Frame
waits_waits = frame waits_work (sem ∷ []) [] ∷ []

abbrev pub waits_for : Act
waits_for = act.Wait (at 0) (Some (pos 50))

-- Exec, three of Eval, Apply
waits_told : (w : World) → run 5 w (frame (i.Exec waited ∷ i.Fall ∷ []) (sem ∷ []) [] ∷ []) ≡ did w (waits_for ∷ []) waits_work (sem ∷ [])
waits_told w = simp (s.outs-If, e.outs-Op, e.outs-Name, e.outs-Literal) refl

pub semaphore_waits : run 10 waits_world (begins waits_body) ≡
    Some (record { world = with_sem waits_world; frames = waits_waits; acts = made_sem ∷ waits_for ∷ []; left = [] })
semaphore_waits = run_on 5 5 _ waits_world (begins waits_body) _ waits_made (waits_told (with_sem waits_world))

-- Branch
waits_true : (w : World) → run 1 w (give (value.Bool true) waits_waits) ≡ did w [] (i.Exec (text (codes "got")) ∷ i.Fall ∷ []) (sem ∷ [])
waits_true w = refl

-- Branch
waits_false : (w : World) → run 1 w (give (value.Bool false) waits_waits) ≡ did w [] (i.Exec (text (codes "late")) ∷ i.Fall ∷ []) (sem ∷ [])
waits_false w = refl

-- Fall
waits_falls : run 1 (with_sem waits_world) (frame (i.Fall ∷ []) (sem ∷ []) [] ∷ []) ≡ over (with_sem waits_world) (act.Ended value.Nil ∷ [])
waits_falls = refl

waits_says : (t : List ℕ) → run 4 (with_sem waits_world) (frame (i.Exec (text t) ∷ i.Fall ∷ []) (sem ∷ []) [] ∷ []) ≡ over (with_sem waits_world) (act.Put t ∷ act.Ended value.Nil ∷ [])
waits_says t = run_on 3 1 _ (with_sem waits_world) (frame (i.Exec (text t) ∷ i.Fall ∷ []) (sem ∷ []) [] ∷ []) _ (text_steps (with_sem waits_world) t (i.Fall ∷ []) (sem ∷ [])) waits_falls

-- Branch, Exec, Eval, Print, Fall
pub semaphore_waits_got : run 5 (with_sem waits_world) (give (value.Bool true) waits_waits) ≡ over (with_sem waits_world) (act.Put (codes "got") ∷ act.Ended value.Nil ∷ [])
semaphore_waits_got = run_on 1 4 _ (with_sem waits_world) (give (value.Bool true) waits_waits) _ (waits_true (with_sem waits_world)) (waits_says (codes "got"))

-- the same five
pub semaphore_waits_late : run 5 (with_sem waits_world) (give (value.Bool false) waits_waits) ≡ over (with_sem waits_world) (act.Put (codes "late") ∷ act.Ended value.Nil ∷ [])
semaphore_waits_late = run_on 1 4 _ (with_sem waits_world) (give (value.Bool false) waits_waits) _ (waits_false (with_sem waits_world)) (waits_says (codes "late"))

-- ---- `maybe add(2, 3) at 2 within 100`, with a handler and without one

abbrev pub asks_maybe : Act
asks_maybe = act.Maybe (record { routine = 1; to = pos 2; args = value.Int (pos 2) ∷ value.Int (pos 3) ∷ [] }) (pos 100)

abbrev pub tried_world : World
tried_world = world (tried ∷ []) (adds ∷ [])

abbrev pub tried_waits : List Frame
tried_waits = frame (i.Discard ∷ i.Guard (Handle (says (codes "late"))) ∷ i.Fall ∷ []) [] [] ∷ []

-- Exec, Exec, four of Eval, AskMaybe
pub tried_steps : run 7 tried_world (begins (tried ∷ [])) ≡ Some (record { world = tried_world; frames = tried_waits; acts = asks_maybe ∷ []; left = [] })
tried_steps = simp (s.outs-Except, s.outs-Remote, e.outs-Literal) refl

abbrev pub tried_handles : List Frame
tried_handles = frame (i.Exec (text (codes "late")) ∷ i.Fall ∷ []) [] [] ∷ []

-- the exception lands at the handler
pub tried_lands : (w : World) → raise w (bare_sig (codes "late")) tried_waits ≡ goes w tried_handles
tried_lands w = simp out-roll-Handlers refl

-- Fall
tried_falls : run 1 tried_world (frame (i.Fall ∷ []) [] [] ∷ []) ≡ over tried_world (act.Ended value.Nil ∷ [])
tried_falls = refl

-- Exec, Eval, Print, Fall
pub tried_ends : run 4 tried_world tried_handles ≡ over tried_world (act.Put (codes "late") ∷ act.Ended value.Nil ∷ [])
tried_ends = run_on 3 1 _ tried_world tried_handles _ (text_steps tried_world (codes "late") (i.Fall ∷ []) []) tried_falls

abbrev pub maybe_world : World
maybe_world = world (maybe ∷ []) (adds ∷ [])

abbrev pub maybe_waits : List Frame
maybe_waits = frame (i.Discard ∷ i.Fall ∷ []) [] [] ∷ []

-- Exec, four of Eval, AskMaybe
pub maybe_steps : run 6 maybe_world (begins (maybe ∷ [])) ≡ Some (record { world = maybe_world; frames = maybe_waits; acts = asks_maybe ∷ []; left = [] })
maybe_steps = simp (s.outs-Remote, e.outs-Literal) refl

abbrev pub unhandled_late : Sig
unhandled_late = record { name = codes "failure"; value = Some (value.Str (codes "unhandled exception: late")) }

-- nothing takes the exception, and the process dies of it
pub maybe_dies : (w : World) → raise w (bare_sig (codes "late")) maybe_waits ≡ gives w [] (act.Died unhandled_late) []
maybe_dies w = refl

-- ---- node variables: `put_line(int$unparse(g))`, `h := 7`, `put_line(int$unparse(h))`

abbrev pub vars_world : World
vars_world = record (world node_vars []) { vars = Some (value.Int (pos 5)) ∷ None ∷ [] }

abbrev pub vars_set : World
vars_set = record (world node_vars []) { vars = Some (value.Int (pos 5)) ∷ Some (value.Int (pos 7)) ∷ [] }

abbrev set_h : Stmt
set_h = s.Assign (target.Name (codes "h") 2 (m.NodeVar 1)) (int (pos 7)) 2

abbrev show_h : Stmt
show_h = shown (node_var (codes "h") 1)

-- Exec, Eval, Eval, Apply, Print
g_shown : run 5 vars_world (begins node_vars) ≡ did vars_world (act.Put (codes "5") ∷ []) (i.Exec set_h ∷ i.Exec show_h ∷ i.Fall ∷ []) []
g_shown = simp (s.outs-PutLine, e.outs-Op, e.outs-Name, decimal_five) refl

-- Exec, Eval, AssignNode
h_set : run 3 vars_world (frame (i.Exec set_h ∷ i.Exec show_h ∷ i.Fall ∷ []) [] [] ∷ []) ≡ did vars_set (act.SetVar 1 (value.Int (pos 7)) ∷ []) (i.Exec show_h ∷ i.Fall ∷ []) []
h_set = simp (s.outs-Assign, e.outs-Literal) refl

-- Exec, Eval, Eval, Apply, Print
h_shown : run 5 vars_set (frame (i.Exec show_h ∷ i.Fall ∷ []) [] [] ∷ []) ≡ did vars_set (act.Put (codes "7") ∷ []) (i.Fall ∷ []) []
h_shown = simp (s.outs-PutLine, e.outs-Op, e.outs-Name, decimal_seven) refl

-- Fall
vars_falls : run 1 vars_set (frame (i.Fall ∷ []) [] [] ∷ []) ≡ over vars_set (act.Ended value.Nil ∷ [])
vars_falls = refl

pub node_vars_steps : run 14 vars_world (begins node_vars) ≡
    over vars_set (act.Put (codes "5") ∷ act.SetVar 1 (value.Int (pos 7)) ∷ act.Put (codes "7") ∷ act.Ended value.Nil ∷ [])
node_vars_steps =
    run_on 5 9 _ vars_world (begins node_vars) _ g_shown
    (run_on 3 6 _ vars_world (frame (i.Exec set_h ∷ i.Exec show_h ∷ i.Fall ∷ []) [] [] ∷ []) _ h_set
    (run_on 5 1 _ vars_set (frame (i.Exec show_h ∷ i.Fall ∷ []) [] [] ∷ []) _ h_shown vars_falls))

-- ---- `fork q(1)`

abbrev pub forked_world : World
forked_world = world (forked ∷ []) (takes_number ∷ [])

-- Exec, Eval, Spawn, Fall
pub forked_steps : run 4 forked_world (begins (forked ∷ [])) ≡ over forked_world (act.Fork 1 (value.Int (pos 1) ∷ []) ∷ act.Ended value.Nil ∷ [])
forked_steps = simp (s.outs-Fork, e.outs-Literal) refl
