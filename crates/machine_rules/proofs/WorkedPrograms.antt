-- The steps of whole programs: a call, exceptions, a loop over an array that was changed, and a lock.
use Rattle.std.proofs.Common.{◌≡◌, ℕ, pos, List, [], ◌∷◌, codes, Some, refl, arith}
use Rattle.std.specs.Fmt.{decimal}
use Rattle.std.proofs.lemmas.Fmt.{decimal-digits_of}
use Rattle.clu_tree.specs.declared.value.Value.{Value}
use Rattle.clu_tree.specs.declared.value.Value.TheVariants as value
use Rattle.clu_tree.specs.declared.shape.Shape.TheVariants as shape
use Rattle.clu_tree.specs.declared.shape.Named.{out-roll-Named}
use Rattle.clu_tree.specs.declared.op.Op.TheVariants as op
use Rattle.clu_tree.specs.declared.tree.Expr.TheVariants as e
use Rattle.clu_tree.specs.declared.tree.Stmt.{Stmt}
use Rattle.clu_tree.specs.declared.tree.Stmt.TheVariants as s
use Rattle.clu_tree.specs.declared.tree.Handlers.{out-roll-Handlers}
use Rattle.clu_tree.specs.declared.tree.When.{out-roll-When}
use Rattle.obj_region.specs.declared.object.Obj.{Obj}
use Rattle.obj_region.specs.declared.object.Obj.TheVariants as obj
use Rattle.machine_rules.specs.declared.item.Item.{Item}
use Rattle.machine_rules.specs.declared.item.Item.TheVariants as i
use Rattle.machine_rules.specs.declared.frame.Var.{Var}
use Rattle.machine_rules.specs.declared.act.Act.{Act}
use Rattle.machine_rules.specs.declared.act.Act.TheVariants as act
use Rattle.machine_rules.specs.Examples.{added, adds, all_shown, array_loop, at, begins, changed, did, frame, holding, ints, local, lock, locked, oops, over, shown, signals_bad, text, two_signals, var, world}
use Rattle.machine_rules.specs.Row.{World, entry}
use Rattle.machine_rules.specs.Runs.{run}
use Rattle.machine_rules.proofs.Runs.{run_on}

-- `put_line(t)`: Exec, Eval, Print
pub text_steps : (w : World) (t : List ℕ) (work : List Item) (vars : List Var) → run 3 w (frame (i.Exec (text t) ∷ work) vars [] ∷ []) ≡ did w (act.Put t ∷ []) work vars
text_steps w t work vars = simp (s.outs-PutLine, e.outs-Literal) refl

decimal_five : decimal 5 ≡ codes "5"
decimal_five = decimal-digits_of 5 (omega arith) (omega arith)

decimal_seven : decimal 7 ≡ codes "7"
decimal_seven = decimal-digits_of 7 (omega arith) (omega arith)

-- ---- `put_line(int$unparse(add(2, 3)))`

abbrev sum_world : World
sum_world = world (added ∷ []) (adds ∷ [])

abbrev behind_sum : List Item
behind_sum = i.Apply op.IntUnparse ∷ i.Print ∷ i.Fall ∷ []

abbrev addends : List Value
addends = value.Int (pos 2) ∷ value.Int (pos 3) ∷ []

-- Exec, four of Eval, Enter
sum_begins : run 6 sum_world (begins (added ∷ [])) ≡ Some (record { world = sum_world; frames = entry 1 adds addends ∷ frame behind_sum [] [] ∷ []; acts = []; left = [] })
sum_begins = simp (s.outs-PutLine, e.outs-Op, e.outs-Call, e.outs-Literal) refl

-- Exec return, three of Eval, Apply, Give
sum_returns : run 6 sum_world (entry 1 adds addends ∷ frame behind_sum [] [] ∷ []) ≡
    Some (record { world = sum_world; frames = frame behind_sum [] (value.Int (pos 5) ∷ []) ∷ []; acts = []; left = [] })
sum_returns = simp (s.outs-Return, e.outs-Binary, e.outs-Name, out-roll-Named) refl

-- Apply, Print, Fall
sum_ends : run 3 sum_world (frame behind_sum [] (value.Int (pos 5) ∷ []) ∷ []) ≡ over sum_world (act.Put (codes "5") ∷ act.Ended value.Nil ∷ [])
sum_ends = simp decimal_five refl

pub sum_steps : run 15 sum_world (begins (added ∷ [])) ≡ over sum_world (act.Put (codes "5") ∷ act.Ended value.Nil ∷ [])
sum_steps =
    run_on 6 9 _ sum_world (begins (added ∷ [])) _ sum_begins
    (run_on 6 3 _ sum_world (entry 1 adds addends ∷ frame behind_sum [] [] ∷ []) _ sum_returns sum_ends)

-- ---- `oops() except when bad: put_line("bad") end` and `oops()`

abbrev signals_world : World
signals_world = world two_signals (signals_bad ∷ [])

abbrev unhandled : Act
unhandled = act.Died (record { name = codes "failure"; value = Some (value.Str (codes "unhandled exception: bad")) })

-- Exec, Exec, Eval, Enter, Exec signal
signals_lands : run 5 signals_world (begins two_signals) ≡
    Some (record { world = signals_world; frames = frame (i.Exec (text (codes "bad")) ∷ i.Exec oops ∷ i.Fall ∷ []) [] [] ∷ []; acts = []; left = [] })
signals_lands = simp (s.outs-Except, s.outs-Call, s.outs-Signal, e.outs-Call, out-roll-Handlers, out-roll-When) refl

-- Exec, Eval, Enter, Exec signal
signals_dies : run 4 signals_world (frame (i.Exec oops ∷ i.Fall ∷ []) [] [] ∷ []) ≡ over signals_world (unhandled ∷ [])
signals_dies = simp (s.outs-Call, s.outs-Signal, e.outs-Call) refl

pub signals_steps : run 12 signals_world (begins two_signals) ≡ over signals_world (act.Put (codes "bad") ∷ unhandled ∷ [])
signals_steps =
    run_on 5 7 _ signals_world (begins two_signals) _ signals_lands
    (run_on 3 4 _ signals_world (frame (i.Exec (text (codes "bad")) ∷ i.Exec oops ∷ i.Fall ∷ []) [] [] ∷ []) _ (text_steps signals_world (codes "bad") (i.Exec oops ∷ i.Fall ∷ []) [])
    signals_dies)

-- ---- an array is changed, and its elements are printed

abbrev elements_world : World
elements_world = world array_loop []

abbrev two : ℕ → ℕ → Obj
two a b = obj.Arr (pos 1) (value.Int (pos a) ∷ value.Int (pos b) ∷ [])

abbrev a : Var
a = var (codes "a") ints (value.Ref (at 0))

abbrev shows : ℕ → List Var
shows n = a ∷ var (codes "i") shape.Int (value.Int (pos n)) ∷ []

abbrev later : List Item
later = i.Exec changed ∷ i.Exec all_shown ∷ i.Fall ∷ []

-- Exec, three of Eval, MakeArray, Assign
declared_steps : run 6 elements_world (begins array_loop) ≡ did (holding elements_world (two 5 6)) [] later (a ∷ [])
declared_steps = simp (s.outs-Declare, e.outs-Array, e.outs-Literal) refl

-- Exec, three of Eval, Apply, Discard
changed_steps : run 6 (holding elements_world (two 5 6)) (frame later (a ∷ []) [] ∷ []) ≡ did (holding elements_world (two 5 7)) [] (i.Exec all_shown ∷ i.Fall ∷ []) (a ∷ [])
changed_steps = simp (s.outs-Assign, e.outs-Name, e.outs-Literal) refl

abbrev held : World
held = holding elements_world (two 5 7)

abbrev round : ℕ → List Item
round n = i.Each (codes "i") shape.Int (shown (local (codes "i")) ∷ []) (at 0) (pos n) ∷ i.Fall ∷ []

-- Exec, Eval, ForEach, Each
first_steps : run 4 held (frame (i.Exec all_shown ∷ i.Fall ∷ []) (a ∷ []) [] ∷ []) ≡ did held [] (i.Exec (shown (local (codes "i"))) ∷ round 2) (shows 5)
first_steps = simp (s.outs-For, e.outs-Name) refl

-- Exec, Eval, Eval, Apply, Print
five_steps : run 5 held (frame (i.Exec (shown (local (codes "i"))) ∷ round 2) (shows 5) [] ∷ []) ≡ did held (act.Put (codes "5") ∷ []) (round 2) (shows 5)
five_steps = simp (s.outs-PutLine, e.outs-Op, e.outs-Name, decimal_five) refl

second_steps : run 1 held (frame (round 2) (shows 5) [] ∷ []) ≡ did held [] (i.Exec (shown (local (codes "i"))) ∷ round 3) (shows 7)
second_steps = refl

seven_steps : run 5 held (frame (i.Exec (shown (local (codes "i"))) ∷ round 3) (shows 7) [] ∷ []) ≡ did held (act.Put (codes "7") ∷ []) (round 3) (shows 7)
seven_steps = simp (s.outs-PutLine, e.outs-Op, e.outs-Name, decimal_seven) refl

-- Each, Fall
last_steps : run 2 held (frame (round 3) (shows 7) [] ∷ []) ≡ over held (act.Ended value.Nil ∷ [])
last_steps = refl

rounds_steps : run 17 held (frame (i.Exec all_shown ∷ i.Fall ∷ []) (a ∷ []) [] ∷ []) ≡ over held (act.Put (codes "5") ∷ act.Put (codes "7") ∷ act.Ended value.Nil ∷ [])
rounds_steps =
    run_on 4 13 _ held (frame (i.Exec all_shown ∷ i.Fall ∷ []) (a ∷ []) [] ∷ []) _ first_steps
    (run_on 5 8 _ held (frame (i.Exec (shown (local (codes "i"))) ∷ round 2) (shows 5) [] ∷ []) _ five_steps
    (run_on 1 7 _ held (frame (round 2) (shows 5) [] ∷ []) _ second_steps
    (run_on 5 2 _ held (frame (i.Exec (shown (local (codes "i"))) ∷ round 3) (shows 7) [] ∷ []) _ seven_steps last_steps)))

pub elements_steps : run 29 elements_world (begins array_loop) ≡ over held (act.Put (codes "5") ∷ act.Put (codes "7") ∷ act.Ended value.Nil ∷ [])
elements_steps =
    run_on 6 23 _ elements_world (begins array_loop) _ declared_steps
    (run_on 6 17 _ (holding elements_world (two 5 6)) (frame later (a ∷ []) [] ∷ []) _ changed_steps rounds_steps)

-- ---- `l: lock := lock$create()` and `region l do put_line("in") end`

abbrev region_body : List Stmt
region_body = lock ∷ locked ∷ []

abbrev region_world : World
region_world = world region_body []

abbrev l : Var
l = var (codes "l") shape.Lock (value.Ref (at 0))

abbrev with_lock : World
with_lock = holding region_world obj.Lock

abbrev inside : List Item
inside = i.Leave (at 0) ∷ i.Fall ∷ []

-- Exec, Eval, Apply, Assign
lock_steps : run 4 region_world (begins region_body) ≡ did with_lock (act.MakeSync (at 0) 0 ∷ []) (i.Exec locked ∷ i.Fall ∷ []) (l ∷ [])
lock_steps = simp (s.outs-Declare, e.outs-Op) refl

-- Exec, Eval, Grab
enter_steps : run 3 with_lock (frame (i.Exec locked ∷ i.Fall ∷ []) (l ∷ []) [] ∷ []) ≡ did with_lock (act.Enter (at 0) ∷ []) (i.Exec (text (codes "in")) ∷ inside) (l ∷ [])
enter_steps = simp (s.outs-Region, e.outs-Name) refl

-- Leave, Fall
leave_steps : run 2 with_lock (frame inside (l ∷ []) [] ∷ []) ≡ Some (record { world = with_lock; frames = []; acts = act.Ended value.Nil ∷ []; left = at 0 ∷ [] })
leave_steps = refl

abbrev region_acts : List Act
region_acts = act.MakeSync (at 0) 0 ∷ act.Enter (at 0) ∷ act.Put (codes "in") ∷ act.Ended value.Nil ∷ []

pub region_steps : run 12 region_world (begins region_body) ≡ Some (record { world = with_lock; frames = []; acts = region_acts; left = at 0 ∷ [] })
region_steps =
    run_on 4 8 _ region_world (begins region_body) _ lock_steps
    (run_on 3 5 _ with_lock (frame (i.Exec locked ∷ i.Fall ∷ []) (l ∷ []) [] ∷ []) _ enter_steps
    (run_on 3 2 _ with_lock (frame (i.Exec (text (codes "in")) ∷ inside) (l ∷ []) [] ∷ []) _ (text_steps with_lock (codes "in") inside (l ∷ [])) leave_steps))
