-- The steps of programs with oneofs, strings, a cluster, exceptions that are passed on, and a lock that a `return` gives back.
use Rattle.std.proofs.Common.{◌≡◌, pos, List, [], ◌∷◌, codes, Some, None, refl, arith}
use Rattle.std.specs.Fmt.{decimal}
use Rattle.std.proofs.lemmas.Fmt.{decimal-digits_of, decimal_digit}
use Rattle.clu_tree.specs.declared.value.Value.TheVariants as value
use Rattle.clu_tree.specs.declared.shape.Shape.TheVariants as shape
use Rattle.clu_tree.specs.declared.op.Op.TheVariants as op
use Rattle.clu_tree.specs.declared.tree.Expr.TheVariants as e
use Rattle.clu_tree.specs.declared.tree.Stmt.{Stmt}
use Rattle.clu_tree.specs.declared.tree.Stmt.TheVariants as s
use Rattle.clu_tree.specs.declared.tree.Handlers.{out-roll-Handlers}
use Rattle.obj_region.specs.declared.object.Obj.TheVariants as obj
use Rattle.machine_rules.specs.declared.item.Catch.TheVariants.{Handle, Pass}
use Rattle.machine_rules.specs.declared.item.Item.{Item}
use Rattle.machine_rules.specs.declared.item.Item.TheVariants as i
use Rattle.machine_rules.specs.declared.frame.Var.{Var}
use Rattle.machine_rules.specs.declared.frame.Frame.{Frame}
use Rattle.machine_rules.specs.declared.act.Act.TheVariants as act
use Rattle.machine_rules.specs.Examples.{at, begins, did, frame, holding, local, over, says, shown, signals_bad, text, var, world}
use Rattle.machine_rules.specs.Row.{World, entry}
use Rattle.machine_rules.specs.Runs.{run}
use Rattle.machine_rules.proofs.Runs.{run_on}
use Rattle.machine_rules.proofs.WorkedPrograms.{text_steps}
use Rattle.machine_tests.specs.Programs.{arm_a, arm_b, by_tag, choice, code_shown, counter_shown, failed, fails, get, leaving, make, n, other, passes, passing, shows_text, strings, tags}

decimal_four : decimal 4 ≡ codes "4"
decimal_four = decimal_digit 4 (omega arith)

decimal_seven : decimal 7 ≡ codes "7"
decimal_seven = decimal_digit 7 (omega arith)

decimal_65 : decimal 65 ≡ codes "65"
decimal_65 = decimal-digits_of 65 (omega arith) (omega arith)

-- ---- `v: choice := choice$make_b(7)`, and two choices by its tag

abbrev pub tags_world : World
tags_world = world tags []

abbrev pub with_b : World
with_b = holding tags_world (obj.One 1 (value.Int (pos 7)))

abbrev v : Var
v = var (codes "v") choice (value.Ref (at 0))

abbrev with_n : List Var
with_n = v ∷ var (codes "n") shape.Int (value.Int (pos 7)) ∷ []

abbrev by_b : Stmt
by_b = by_tag (arm_a ∷ arm_b ∷ []) None

abbrev by_others : Stmt
by_others = by_tag (arm_a ∷ []) (Some (text (codes "others") ∷ []))

abbrev behind_b : List Item
behind_b = i.Exec by_others ∷ i.Fall ∷ []

-- Exec, Eval, Eval, MakeTag, Assign
tag_made : run 5 tags_world (begins tags) ≡ did with_b [] (i.Exec by_b ∷ behind_b) (v ∷ [])
tag_made = simp (s.outs-Declare, e.outs-Op, e.outs-Literal) refl

-- Exec, Eval, Tagged
arm_taken : run 3 with_b (frame (i.Exec by_b ∷ behind_b) (v ∷ []) [] ∷ []) ≡ did with_b [] (i.Exec (shown n) ∷ behind_b) with_n
arm_taken = simp (s.outs-Tagcase, e.outs-Name) refl

-- Exec, Eval, Eval, Apply, Print
n_shown : (w : World) (work : List Item) → run 5 w (frame (i.Exec (shown n) ∷ work) with_n [] ∷ []) ≡ did w (act.Put (codes "7") ∷ []) work with_n
n_shown w work = simp (s.outs-PutLine, e.outs-Op, e.outs-Name, decimal_seven) refl

-- Exec, Eval, Tagged
others_taken : run 3 with_b (frame behind_b with_n [] ∷ []) ≡ did with_b [] (i.Exec (text (codes "others")) ∷ i.Fall ∷ []) with_n
others_taken = simp (s.outs-Tagcase, e.outs-Name) refl

-- Fall
tags_fall : run 1 with_b (frame (i.Fall ∷ []) with_n [] ∷ []) ≡ over with_b (act.Ended value.Nil ∷ [])
tags_fall = refl

pub tags_steps : run 20 tags_world (begins tags) ≡ over with_b (act.Put (codes "7") ∷ act.Put (codes "others") ∷ act.Ended value.Nil ∷ [])
tags_steps =
    run_on 5 15 _ tags_world (begins tags) _ tag_made
    (run_on 3 12 _ with_b (frame (i.Exec by_b ∷ behind_b) (v ∷ []) [] ∷ []) _ arm_taken
    (run_on 5 7 _ with_b (frame (i.Exec (shown n) ∷ behind_b) with_n [] ∷ []) _ (n_shown with_b behind_b)
    (run_on 3 4 _ with_b (frame behind_b with_n [] ∷ []) _ others_taken
    (run_on 3 1 _ with_b (frame (i.Exec (text (codes "others")) ∷ i.Fall ∷ []) with_n [] ∷ []) _ (text_steps with_b (codes "others") (i.Fall ∷ []) with_n) tags_fall))))

-- ---- `put_line("ab" || string$c2s(string$fetch("xyz", 3)))` and `put_line(int$unparse(char$c2i('A')))`

abbrev pub strings_world : World
strings_world = world strings []

-- Exec, five of Eval, Apply, Apply, Print
append_steps : run 9 strings_world (begins strings) ≡ did strings_world (act.Put (codes "abz") ∷ []) (i.Exec code_shown ∷ i.Fall ∷ []) []
append_steps = simp (s.outs-PutLine, e.outs-Op, e.outs-Literal) refl

-- Exec, three of Eval, Apply, Apply, Print
code_steps : (w : World) (work : List Item) → run 7 w (frame (i.Exec code_shown ∷ work) [] [] ∷ []) ≡ did w (act.Put (codes "65") ∷ []) work []
code_steps w work = simp (s.outs-PutLine, e.outs-Op, e.outs-Literal, decimal_65) refl

-- Fall
strings_fall : run 1 strings_world (frame (i.Fall ∷ []) [] [] ∷ []) ≡ over strings_world (act.Ended value.Nil ∷ [])
strings_fall = refl

pub strings_steps : run 17 strings_world (begins strings) ≡ over strings_world (act.Put (codes "abz") ∷ act.Put (codes "65") ∷ act.Ended value.Nil ∷ [])
strings_steps =
    run_on 9 8 _ strings_world (begins strings) _ append_steps
    (run_on 7 1 _ strings_world (frame (i.Exec code_shown ∷ i.Fall ∷ []) [] [] ∷ []) _ (code_steps strings_world (i.Fall ∷ [])) strings_fall)

-- ---- `put_line(int$unparse(counter$get(counter$make(4))))`

abbrev pub counter_world : World
counter_world = world (counter_shown ∷ []) (make ∷ get ∷ [])

abbrev pub with_counter : World
with_counter = holding counter_world (obj.Rec (value.Int (pos 4) ∷ []))

abbrev behind_get : List Item
behind_get = i.Apply op.IntUnparse ∷ i.Print ∷ i.Fall ∷ []

abbrev making : List Frame
making = entry 1 make (value.Int (pos 4) ∷ []) ∷ frame (i.Enter 2 ∷ behind_get) [] [] ∷ []

abbrev getting : List Frame
getting = entry 2 get (value.Ref (at 0) ∷ []) ∷ frame behind_get [] [] ∷ []

-- Exec, four of Eval, Enter
counter_begins : run 6 counter_world (begins (counter_shown ∷ [])) ≡ Some (record { world = counter_world; frames = making; acts = []; left = [] })
counter_begins = simp (s.outs-PutLine, e.outs-Op, e.outs-Literal) refl

-- Exec return, Eval, Eval, MakeRecord, Give, Enter
counter_made : run 6 counter_world making ≡ Some (record { world = with_counter; frames = getting; acts = []; left = [] })
counter_made = simp (s.outs-Return, e.outs-Record, e.outs-Name) refl

-- Exec return, Eval, Eval, Get, Give
counter_got : run 5 with_counter getting ≡ Some (record { world = with_counter; frames = frame behind_get [] (value.Int (pos 4) ∷ []) ∷ []; acts = []; left = [] })
counter_got = simp (s.outs-Return, e.outs-Field, e.outs-Name) refl

-- Apply, Print, Fall
counter_ends : run 3 with_counter (frame behind_get [] (value.Int (pos 4) ∷ []) ∷ []) ≡ over with_counter (act.Put (codes "4") ∷ act.Ended value.Nil ∷ [])
counter_ends = simp decimal_four refl

pub counter_steps : run 20 counter_world (begins (counter_shown ∷ [])) ≡ over with_counter (act.Put (codes "4") ∷ act.Ended value.Nil ∷ [])
counter_steps =
    run_on 6 14 _ counter_world (begins (counter_shown ∷ [])) _ counter_begins
    (run_on 6 8 _ counter_world making _ counter_made
    (run_on 5 3 _ with_counter getting _ counter_got counter_ends))

-- ---- exceptions that are passed on, that carry a value, and that any handler takes

abbrev pub passing_world : World
passing_world = world passing (signals_bad ∷ passes ∷ fails ∷ [])

abbrev behind_failed : List Item
behind_failed = i.Exec other ∷ i.Fall ∷ []

abbrev behind_passed : List Item
behind_passed = i.Exec failed ∷ behind_failed

abbrev calls_passing : List Frame
calls_passing = entry 2 passes [] ∷ frame (i.Discard ∷ i.Guard (Handle (says (codes "bad"))) ∷ behind_passed) [] [] ∷ []

abbrev resignals : Frame
resignals = record { routine = 2; line = 2; vars = []; work = i.Discard ∷ i.Guard (Pass (codes "bad" ∷ [])) ∷ i.Fall ∷ []; values = [] }

abbrev calls_oops : List Frame
calls_oops = entry 1 signals_bad [] ∷ resignals ∷ frame (i.Discard ∷ i.Guard (Handle (says (codes "bad"))) ∷ behind_passed) [] [] ∷ []

-- Exec, Exec, Eval, Enter
passing_begins : run 4 passing_world (begins passing) ≡ Some (record { world = passing_world; frames = calls_passing; acts = []; left = [] })
passing_begins = simp (s.outs-Except, s.outs-Call, e.outs-Call) refl

-- Exec resignal, Exec, Eval, Enter
passing_enters : run 4 passing_world calls_passing ≡ Some (record { world = passing_world; frames = calls_oops; acts = []; left = [] })
passing_enters = simp (s.outs-Resignal, s.outs-Call, e.outs-Call) refl

-- Exec signal: it leaves two frames, and lands at the handler
bad_lands : run 1 passing_world calls_oops ≡ did passing_world [] (i.Exec (text (codes "bad")) ∷ behind_passed) []
bad_lands = simp (s.outs-Signal, out-roll-Handlers) refl

passed_steps : run 12 passing_world (begins passing) ≡ did passing_world (act.Put (codes "bad") ∷ []) behind_passed []
passed_steps =
    run_on 4 8 _ passing_world (begins passing) _ passing_begins
    (run_on 4 4 _ passing_world calls_passing _ passing_enters
    (run_on 1 3 _ passing_world calls_oops _ bad_lands (text_steps passing_world (codes "bad") behind_passed [])))

abbrev calls_failing : List Frame
calls_failing = entry 3 fails [] ∷ frame (i.Discard ∷ i.Guard (Handle shows_text) ∷ behind_failed) [] [] ∷ []

abbrev with_s : List Var
with_s = var (codes "s") shape.Str (value.Str (codes "no")) ∷ []

abbrev shows_s : Stmt
shows_s = s.PutLine (local (codes "s")) 2

-- Exec, Exec, Eval, Enter
failing_begins : run 4 passing_world (frame behind_passed [] [] ∷ []) ≡ Some (record { world = passing_world; frames = calls_failing; acts = []; left = [] })
failing_begins = simp (s.outs-Except, s.outs-Call, e.outs-Call) refl

-- Exec signal, Eval, Raise
failure_lands : run 3 passing_world calls_failing ≡ did passing_world [] (i.Exec shows_s ∷ behind_failed) with_s
failure_lands = simp (s.outs-Signal, e.outs-Literal, out-roll-Handlers) refl

-- Exec, Eval, Print
s_shown : (w : World) (work : List Item) → run 3 w (frame (i.Exec shows_s ∷ work) with_s [] ∷ []) ≡ did w (act.Put (codes "no") ∷ []) work with_s
s_shown w work = simp (s.outs-PutLine, e.outs-Name) refl

failed_steps : run 10 passing_world (frame behind_passed [] [] ∷ []) ≡ did passing_world (act.Put (codes "no") ∷ []) behind_failed with_s
failed_steps =
    run_on 4 6 _ passing_world (frame behind_passed [] [] ∷ []) _ failing_begins
    (run_on 3 3 _ passing_world calls_failing _ failure_lands (s_shown passing_world behind_failed))

-- Exec, Exec, Eval, Enter, Exec signal
others_handle : run 5 passing_world (frame behind_failed with_s [] ∷ []) ≡ did passing_world [] (i.Exec (text (codes "others")) ∷ i.Fall ∷ []) with_s
others_handle = simp (s.outs-Except, s.outs-Call, s.outs-Signal, e.outs-Call, out-roll-Handlers) refl

-- Fall
passing_falls : run 1 passing_world (frame (i.Fall ∷ []) with_s [] ∷ []) ≡ over passing_world (act.Ended value.Nil ∷ [])
passing_falls = refl

other_steps : run 9 passing_world (frame behind_failed with_s [] ∷ []) ≡ over passing_world (act.Put (codes "others") ∷ act.Ended value.Nil ∷ [])
other_steps =
    run_on 5 4 _ passing_world (frame behind_failed with_s [] ∷ []) _ others_handle
    (run_on 3 1 _ passing_world (frame (i.Exec (text (codes "others")) ∷ i.Fall ∷ []) with_s [] ∷ []) _ (text_steps passing_world (codes "others") (i.Fall ∷ []) with_s) passing_falls)

pub passing_steps : run 31 passing_world (begins passing) ≡
    over passing_world (act.Put (codes "bad") ∷ act.Put (codes "no") ∷ act.Put (codes "others") ∷ act.Ended value.Nil ∷ [])
passing_steps =
    run_on 12 19 _ passing_world (begins passing) _ passed_steps
    (run_on 10 9 _ passing_world (frame behind_passed [] [] ∷ []) _ failed_steps other_steps)

-- ---- `l: lock := lock$create()` and `region l do begin return end end`

abbrev pub leaving_world : World
leaving_world = world leaving []

abbrev pub with_lock : World
with_lock = holding leaving_world obj.Lock

abbrev l : Var
l = var (codes "l") shape.Lock (value.Ref (at 0))

abbrev returns : Stmt
returns = s.Begin (s.Return None 2 ∷ []) 2

abbrev region : Stmt
region = s.Region (local (codes "l")) (returns ∷ []) 2

abbrev inside : List Item
inside = i.Leave (at 0) ∷ i.Fall ∷ []

-- Exec, Eval, Apply, Assign
lock_made : run 4 leaving_world (begins leaving) ≡ did with_lock (act.MakeSync (at 0) 0 ∷ []) (i.Exec region ∷ i.Fall ∷ []) (l ∷ [])
lock_made = simp (s.outs-Declare, e.outs-Op) refl

-- Exec, Eval, Grab
region_entered : (w : World) → run 3 w (frame (i.Exec region ∷ i.Fall ∷ []) (l ∷ []) [] ∷ []) ≡ did w (act.Enter (at 0) ∷ []) (i.Exec returns ∷ inside) (l ∷ [])
region_entered w = simp (s.outs-Region, e.outs-Name) refl

-- Exec begin, Exec return
lock_left : run 2 with_lock (frame (i.Exec returns ∷ inside) (l ∷ []) [] ∷ []) ≡ Some (record { world = with_lock; frames = []; acts = act.Ended value.Nil ∷ []; left = at 0 ∷ [] })
lock_left = simp (s.outs-Begin, s.outs-Return) refl

pub leaving_steps : run 9 leaving_world (begins leaving) ≡
    Some (record { world = with_lock; frames = []; acts = act.MakeSync (at 0) 0 ∷ act.Enter (at 0) ∷ act.Ended value.Nil ∷ []; left = at 0 ∷ [] })
leaving_steps =
    run_on 4 5 _ leaving_world (begins leaving) _ lock_made
    (run_on 3 2 _ with_lock (frame (i.Exec region ∷ i.Fall ∷ []) (l ∷ []) [] ∷ []) _ (region_entered with_lock) lock_left)
