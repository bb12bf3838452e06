-- Programs whose steps grow with the rounds of their loop: n + 7 steps for n empty rounds, and 11 steps for each round
-- that calls a routine of a cluster.
use Rattle.std.proofs.Common.{◌≡◌, ℕ, zero, suc, ◌+◌, ◌*◌, ◌≤◌, ◌<◌, pos, Bool, true, false, ltb, leb, List, [], ◌∷◌, ◌++◌, length, codes, Option, Some, None, refl, sym, ◌∙◌, subst, arith}
use Rattle.std.proofs.lemmas.Bool.{lt-ltb, ltb-true, le-leb}
use Rattle.std.proofs.lemmas.List.{length-append}
use Rattle.std.proofs.lemmas.List.Sums.{fold-append}
use Rattle.clu_tree.specs.declared.value.Value.TheVariants as value
use Rattle.clu_tree.specs.declared.shape.Shape.{Shape}
use Rattle.clu_tree.specs.declared.shape.Shape.TheVariants as shape
use Rattle.clu_tree.specs.declared.shape.Named.{roll-Named}
use Rattle.clu_tree.specs.declared.tree.Meant.TheVariants as m
use Rattle.clu_tree.specs.declared.tree.Iter.TheVariants as iter
use Rattle.clu_tree.specs.declared.tree.Target.TheVariants as target
use Rattle.clu_tree.specs.declared.tree.Remote.TheVariants as remote
use Rattle.clu_tree.specs.declared.tree.Expr.{Expr}
use Rattle.clu_tree.specs.declared.tree.Expr.TheVariants as e
use Rattle.clu_tree.specs.declared.tree.Stmt.{Stmt}
use Rattle.clu_tree.specs.declared.tree.Stmt.TheVariants as s
use Rattle.clu_tree.specs.declared.tree.Handlers.{Handlers, roll-Handlers}
use Rattle.clu_tree.specs.declared.tree.When.{roll-When}
use Rattle.clu_tree.specs.declared.program.Routine.{Routine}
use Rattle.obj_region.specs.declared.object.Obj.{Obj}
use Rattle.obj_region.specs.declared.object.Obj.TheVariants as obj
use Rattle.obj_region.specs.Store.{Store, cells, cells_in}
use Rattle.machine_rules.specs.declared.item.Catch.TheVariants.{Handle}
use Rattle.machine_rules.specs.declared.item.Item.{Item}
use Rattle.machine_rules.specs.declared.item.Item.TheVariants as i
use Rattle.machine_rules.specs.declared.frame.Var.{Var}
use Rattle.machine_rules.specs.declared.frame.Frame.{Frame}
use Rattle.machine_rules.specs.declared.act.Act.TheVariants as act
use Rattle.machine_rules.specs.Frames.{declare}
use Rattle.machine_rules.specs.Examples.{at, int, local}
use Rattle.machine_rules.specs.Row.{World, bare_world, entry, start}
use Rattle.machine_rules.specs.Runs.{Ran, run}
use Rattle.machine_rules.proofs.Runs.{run_on}

by_test : {P : Type 0} (b : Bool) → (b ≡ true → P) → (b ≡ false → P) → P
by_test true h k = h refl
by_test false h k = k refl

not_below : (a b : ℕ) → b ≤ a → ltb a b ≡ false
not_below a b l = by_test (ltb a b) (λ e. absurd (omega (arith, ltb-true a b e))) (λ e. e)

abbrev counts : ℕ → Var
counts n = record { name = codes "i"; shape = shape.Int; value = Some (value.Int (pos n)) }

-- ---- `for i: int in int$from_to(1, n) do end` and `return ("x")`

abbrev spin_body : ℕ → List Stmt
spin_body n = s.For (codes "i") shape.Int (iter.FromTo (int (pos 1)) (int (pos n)) 2) [] 2 ∷ s.Return (Some (e.Literal (value.Str (codes "x")) 3)) 3 ∷ []

abbrev spin : ℕ → Routine
spin n = record { name = codes "print"; params = roll-Named (record { name = codes "b"; shape = shape.Cvt }) ∷ []; result = Some shape.Str; signals = []; body = spin_body n; line = 1 }

abbrev spin_world : ℕ → World
spin_world n = bare_world (record { equates = []; node_vars = []; routines = spin n ∷ []; clusters = []; nodes = [] }) 0

abbrev frame : ℕ → List Item → List Var → Frame
frame line work vars = record { routine = 0; line = line; vars = vars; work = work; values = [] }

abbrev round : ℕ → ℕ → Item
round n last = i.Next (codes "i") shape.Int [] (pos n) (pos last)

-- the parameter, and the variable of the loop
abbrev b : Var
b = record { name = codes "b"; shape = shape.Cvt; value = Some (value.Int (pos 0)) }

abbrev both : ℕ → List Var
both n = b ∷ counts n ∷ []

-- these are the variables, once that of the loop is declared
abbrev OnlyCounts : List Var → Type 0
OnlyCounts vars = (n : ℕ) → declare (codes "i") shape.Int (Some (value.Int (pos n))) vars ≡ both n

-- a round before the last one
round_steps : (w : World) (n last : ℕ) (work : List Item) (vars : List Var) → n < last → OnlyCounts vars → run 1 w (frame 2 (round n last ∷ work) vars ∷ []) ≡
    Some (record { world = w; frames = frame 2 (round (n + 1) last ∷ work) (both n) ∷ []; acts = []; left = [] })
round_steps w n last work vars l only = rw (not_below last n (omega arith), lt-ltb n last l, only n) refl

last_round : (w : World) (n : ℕ) (work : List Item) (vars : List Var) → OnlyCounts vars → run 1 w (frame 2 (round n n ∷ work) vars ∷ []) ≡
    Some (record { world = w; frames = frame 2 work (both n) ∷ []; acts = []; left = [] })
last_round w n work vars only = rw (not_below n n (omega arith), only n) refl

-- a step for each round
rounds_steps : (w : World) (k n : ℕ) (work : List Item) (vars : List Var) → OnlyCounts vars → run (k + 1) w (frame 2 (round n (n + k) ∷ work) vars ∷ []) ≡
    Some (record { world = w; frames = frame 2 work (both (n + k)) ∷ []; acts = []; left = [] })
rounds_steps w zero n work vars only =
    let none : n + 0 ≡ n = omega arith in
    let one : 0 + 1 ≡ 1 = omega arith in
    rw (none, one) (last_round w n work vars only)
rounds_steps w (suc k) n work vars only =
    let more : suc k + 1 ≡ 1 + (k + 1) = omega arith in
    let same : n + suc k ≡ (n + 1) + k = omega arith in
    rw (more, same) (run_on 1 (k + 1) _ w (frame 2 (round n ((n + 1) + k) ∷ work) vars ∷ []) _ (round_steps w n ((n + 1) + k) work vars (omega arith) only)
    (rounds_steps w k (n + 1) work (both n) (λ j. refl)))

-- Exec, two of Eval, ForInt
spin_begins : (n : ℕ) → run 4 (spin_world n) (start 0 (spin n) (value.Int (pos 0) ∷ [])) ≡
    Some (record { world = spin_world n; frames = frame 2 (round 1 n ∷ i.Exec (s.Return (Some (e.Literal (value.Str (codes "x")) 3)) 3) ∷ i.Fall ∷ []) (b ∷ []) ∷ []; acts = []; left = [] })
spin_begins n = simp (s.outs-For, e.outs-Literal) refl

-- Exec return, Eval, Return
spin_ends : (w : World) (vars : List Var) → run 3 w (frame 2 (i.Exec (s.Return (Some (e.Literal (value.Str (codes "x")) 3)) 3) ∷ i.Fall ∷ []) vars ∷ []) ≡
    Some (record { world = w; frames = []; acts = act.Ended (value.Str (codes "x")) ∷ []; left = [] })
spin_ends w vars = simp (s.outs-Return, e.outs-Literal) refl

-- k + 1 empty rounds
spin_steps : (k : ℕ) → run (4 + ((k + 1) + 3)) (spin_world (1 + k)) (start 0 (spin (1 + k)) (value.Int (pos 0) ∷ [])) ≡
    Some (record { world = spin_world (1 + k); frames = []; acts = act.Ended (value.Str (codes "x")) ∷ []; left = [] })
spin_steps k =
    let w = spin_world (1 + k) in
    let ends = i.Exec (s.Return (Some (e.Literal (value.Str (codes "x")) 3)) 3) ∷ i.Fall ∷ [] in
    run_on 4 ((k + 1) + 3) _ w (start 0 (spin (1 + k)) (value.Int (pos 0) ∷ [])) _ (spin_begins (1 + k))
    (run_on (k + 1) 3 _ w (frame 2 (round 1 (1 + k) ∷ ends) (b ∷ []) ∷ []) _ (rounds_steps w k 1 ends (b ∷ []) (λ j. refl))
    (spin_ends w (both (1 + k))))

-- 9,993 rounds take 10,000 steps
spin_exactly : run 10000 (spin_world 9993) (start 0 (spin 9993) (value.Int (pos 0) ∷ [])) ≡
    Some (record { world = spin_world 9993; frames = []; acts = act.Ended (value.Str (codes "x")) ∷ []; left = [] })
spin_exactly = spin_steps 9992

-- ---- a value that grows by a oneof each round: `n: nat := nat$zero()` and `for i: int in int$from_to(1, k) do n :=
-- nat$next(n) end`, and then `once taker(n) at 1`

abbrev nat : Shape
nat = shape.Name (codes "nat")

abbrev make : List ℕ → ℕ → Expr → Stmt
make name tag x = s.Return (Some (e.Op shape.Rep name (x ∷ []) 3 (m.Tag tag))) 3

abbrev nat_zero : Routine
nat_zero = record { name = codes "zero"; params = []; result = Some shape.Cvt; signals = []; body = make (codes "make_z") 0 (e.Literal value.Nil 3) ∷ []; line = 3 }

abbrev nat_next : Routine
nat_next = record { name = codes "next"; params = roll-Named (record { name = codes "n"; shape = nat }) ∷ []; result = Some shape.Cvt; signals = []; body = make (codes "make_s") 1 (local (codes "n")) ∷ []; line = 3 }

abbrev taker : Routine
taker = record { name = codes "taker"; params = roll-Named (record { name = codes "n"; shape = nat }) ∷ []; result = None; signals = []; body = []; line = 3 }

abbrev grows : Stmt
grows = s.Assign (target.Name (codes "n") 2 m.Local) (e.Op nat (codes "next") (local (codes "n") ∷ []) 2 (m.Routine 1)) 2

abbrev shows_it : Handlers
shows_it = roll-Handlers (record {
  whens = roll-When (record { names = codes "failure" ∷ []; variable = Some (roll-Named (record { name = codes "s"; shape = shape.Str })); body = s.PutLine (local (codes "s")) 2 ∷ [] }) ∷ [];
  others = None;
})

abbrev asks : Stmt
asks = s.Except (s.Remote None (remote.Once (codes "taker") (local (codes "n") ∷ []) (int (pos 1)) 2 (m.Routine 2)) 2 m.Unknown) shows_it

abbrev counted : Stmt
counted = s.For (codes "i") shape.Int (iter.FromTo (int (pos 1)) (local (codes "k")) 2) (grows ∷ []) 2

abbrev begins : Stmt
begins = s.Declare (codes "n") nat (Some (e.Op nat (codes "zero") [] 2 (m.Routine 0))) 2

abbrev p : Routine
p = record { name = codes "p"; params = roll-Named (record { name = codes "k"; shape = shape.Int }) ∷ []; result = None; signals = []; body = begins ∷ counted ∷ asks ∷ []; line = 2 }

-- the node with these objects
abbrev holding : Store → World
holding store = record {
  program = record { equates = []; node_vars = []; routines = nat_zero ∷ nat_next ∷ taker ∷ p ∷ []; clusters = []; nodes = [] };
  store = store;
  bound = 0;
  vars = [];
  time = 0;
}

abbrev k_var : ℕ → Var
k_var k = record { name = codes "k"; shape = shape.Int; value = Some (value.Int (pos k)) }

abbrev n_var : ℕ → Var
n_var a = record { name = codes "n"; shape = nat; value = Some (value.Ref (at a)) }

abbrev here : List Item → List Var → Frame
here work vars = record { routine = 3; line = 2; vars = vars; work = work; values = [] }

abbrev stood : Store → List Item → List Var → Option Ran
stood store work vars = Some (record { world = holding store; frames = here work vars ∷ []; acts = []; left = [] })

-- Exec, Eval, Eval, Enter, and the routine begins with the value in its variable
next_begins : (store : Store) (a k j : ℕ) (work : List Item) → run 4 (holding store) (here (i.Exec grows ∷ work) (k_var k ∷ n_var a ∷ counts j ∷ []) ∷ []) ≡
    Some (record { world = holding store; frames = entry 1 nat_next (value.Ref (at a) ∷ []) ∷ here (i.Assign (codes "n") ∷ work) (k_var k ∷ n_var a ∷ counts j ∷ []) ∷ []; acts = []; left = [] })
next_begins store a k j work = simp (s.outs-Assign, e.outs-Op, e.outs-Name) refl

-- Exec return, Eval, Eval, Apply, Return, Set
next_ends : (store : Store) (a k j : ℕ) (work : List Item) → ltb (length store) 262144 ≡ true → leb (cells store + 0) 1048576 ≡ true →
    run 6 (holding store) (entry 1 nat_next (value.Ref (at a) ∷ []) ∷ here (i.Assign (codes "n") ∷ work) (k_var k ∷ n_var a ∷ counts j ∷ []) ∷ []) ≡
    stood (store ++ obj.One 1 (value.Ref (at a)) ∷ []) work (k_var k ∷ n_var (length store) ∷ counts j ∷ [])
next_ends store a k j work few room = simp (s.outs-Return, e.outs-Op, e.outs-Name, few, room) refl

abbrev grown : ℕ → Obj
grown a = obj.One 1 (value.Ref (at a))

-- a oneof has no elements
cells_grown : (store : Store) (a : ℕ) → cells (store ++ grown a ∷ []) ≡ cells store
cells_grown store a =
    let none : cells store + 0 ≡ cells store = omega arith in
    fold-append (λ n o. n + cells_in o) 0 store (grown a ∷ []) ∙ none

abbrev vars : ℕ → ℕ → ℕ → List Var
vars k a j = k_var k ∷ n_var a ∷ counts j ∷ []

-- the body's ten
body_steps : (store : Store) (a k j : ℕ) (work : List Item) → length store < 262144 → cells store ≡ 0 →
    run 10 (holding store) (here (i.Exec grows ∷ work) (vars k a j) ∷ []) ≡ stood (store ++ grown a ∷ []) work (vars k (length store) j)
body_steps store a k j work few none =
    run_on 4 6 _ (holding store) (here (i.Exec grows ∷ work) (vars k a j) ∷ []) _ (next_begins store a k j work)
    (next_ends store a k j work (lt-ltb (length store) 262144 few) (le-leb (cells store + 0) 1048576 (omega (arith, none))))

-- what comes behind the body of the round j, where so many rounds are left
abbrev rest : ℕ → ℕ → ℕ → List Item → List Item
rest zero j last work = work
rest (suc left) j last work = i.Next (codes "i") shape.Int (grows ∷ []) (pos (j + 1)) (pos last) ∷ work

-- these are the variables, once that of the loop is declared
abbrev Declares : ℕ → ℕ → List Var → Type 0
Declares k a before = (j : ℕ) → declare (codes "i") shape.Int (Some (value.Int (pos j))) before ≡ vars k a j

-- Next
round_begins : (store : Store) (a k j left : ℕ) (work : List Item) (before : List Var) → Declares k a before →
    run 1 (holding store) (here (rest (suc left) j (j + suc left) work) before ∷ []) ≡
    stood store (i.Exec grows ∷ rest left (j + 1) (j + suc left) work) (vars k a (j + 1))
round_begins store a k j zero work before declares = rw (not_below (j + suc zero) (j + 1) (omega arith), declares (j + 1)) refl
round_begins store a k j (suc left) work before declares = rw (not_below (j + suc (suc left)) (j + 1) (omega arith), lt-ltb (j + 1) (j + suc (suc left)) (omega arith), declares (j + 1)) refl

-- The loop is over after so many steps, with some objects and a value among them.
record Grown (steps k last : ℕ) (store : Store) (frames : List Frame) (work : List Item) : Type 0 where
  pub objects : Store
  pub top : ℕ
  pub is : run steps (holding store) frames ≡ stood objects work (vars k top last)

grown_on : (m n k last : ℕ) (store between : Store) (frames : List Frame) (work work' : List Item) (vs : List Var) →
    run m (holding store) frames ≡ stood between work' vs → Grown n k last between (here work' vs ∷ []) work → Grown (m + n) k last store frames work
grown_on m n k last store between frames work work' vs h g = record { objects = g.objects; top = g.top; is = run_on m n _ (holding store) frames _ h g.is }

rounds : (left j a k : ℕ) (store : Store) (work : List Item) → length store + left < 262144 → cells store ≡ 0 →
    Grown (left * 11 + 10) k (j + left) store (here (i.Exec grows ∷ rest left j (j + left) work) (vars k a j) ∷ []) work
rounds zero j a k store work few none =
    let last : j + zero ≡ j = omega arith in
    record { objects = store ++ grown a ∷ []; top = length store; is = rw last (body_steps store a k j work (omega (arith, few)) none) }
rounds (suc left) j a k store work few none =
    let steps : suc left * 11 + 10 ≡ 10 + (1 + (left * 11 + 10)) = omega arith in
    let last : (j + 1) + left ≡ j + suc left = omega arith in
    let more = store ++ grown a ∷ [] in
    let longer : length more ≡ length store + 1 = length-append store (grown a ∷ []) in
    let later = rounds left (j + 1) (length store) k more work (omega (arith, few, longer)) (cells_grown store a ∙ none) in
    subst (λ (n : ℕ). Grown n k (j + suc left) store (here (i.Exec grows ∷ rest (suc left) j (j + suc left) work) (vars k a j) ∷ []) work) (sym steps)
    (grown_on 10 (1 + (left * 11 + 10)) k (j + suc left) store more _ work (rest (suc left) j (j + suc left) work) (vars k (length store) j)
    (body_steps store a k j (rest (suc left) j (j + suc left) work) (omega (arith, few)) none)
    (grown_on 1 (left * 11 + 10) k (j + suc left) more more _ work (i.Exec grows ∷ rest left (j + 1) (j + suc left) work) (vars k (length store) (j + 1))
    (round_begins more (length store) k j left work (vars k (length store) j) (λ n. refl))
    (subst (λ (n : ℕ). Grown (left * 11 + 10) k n more (here (i.Exec grows ∷ rest left (j + 1) n work) (vars k (length store) (j + 1)) ∷ []) work) last later)))

-- ---- from its start to the call that is sent

abbrev first_object : Obj
first_object = obj.One 0 value.Nil

abbrev unset_n : Var
unset_n = record { name = codes "n"; shape = nat; value = None }

-- Exec, Eval, Enter
zero_begins : (k : ℕ) → run 3 (holding []) (start 3 p (value.Int (pos k) ∷ [])) ≡
    Some (record { world = holding []; frames = entry 0 nat_zero [] ∷ here (i.Assign (codes "n") ∷ i.Exec counted ∷ i.Exec asks ∷ i.Fall ∷ []) (k_var k ∷ unset_n ∷ []) ∷ []; acts = []; left = [] })
zero_begins k = simp (s.outs-Declare, e.outs-Op) refl

-- Exec return, Eval, Eval, Apply, Return, Bind
zero_ends : (k : ℕ) → run 6 (holding []) (entry 0 nat_zero [] ∷ here (i.Assign (codes "n") ∷ i.Exec counted ∷ i.Exec asks ∷ i.Fall ∷ []) (k_var k ∷ unset_n ∷ []) ∷ []) ≡
    stood (first_object ∷ []) (i.Exec counted ∷ i.Exec asks ∷ i.Fall ∷ []) (k_var k ∷ n_var 0 ∷ [])
zero_ends k = simp (s.outs-Return, e.outs-Op, e.outs-Literal) refl

-- Exec, two of Eval, ForInt
loop_begins : (store : Store) (k : ℕ) (work : List Item) → run 4 (holding store) (here (i.Exec counted ∷ work) (k_var k ∷ n_var 0 ∷ []) ∷ []) ≡
    stood store (i.Next (codes "i") shape.Int (grows ∷ []) (pos 1) (pos k) ∷ work) (k_var k ∷ n_var 0 ∷ [])
loop_begins store k work = simp (s.outs-For, e.outs-Name, e.outs-Literal) refl

-- a call of taker with this value is sent to the node 1
abbrev sent : Store → ℕ → ℕ → ℕ → Option Ran
sent store a k j = Some (record {
  world = holding store;
  frames = here (i.Discard ∷ i.Guard (Handle shows_it) ∷ i.Fall ∷ []) (vars k a j) ∷ [];
  acts = act.Once (record { routine = 2; to = pos 1; args = value.Ref (at a) ∷ [] }) ∷ [];
  left = [];
})

-- Exec, Exec, two of Eval, Remote
asks_steps : (store : Store) (a k j : ℕ) → run 5 (holding store) (here (i.Exec asks ∷ i.Fall ∷ []) (vars k a j) ∷ []) ≡ sent store a k j
asks_steps store a k j = simp (s.outs-Except, s.outs-Remote, e.outs-Name, e.outs-Literal) refl

-- The call is sent with so many steps.
record Sent (steps k : ℕ) : Type 0 where
  pub objects : Store
  pub top : ℕ
  pub is : run steps (holding []) (start 3 p (value.Int (pos k) ∷ [])) ≡ sent objects top k k

nat_steps : (left : ℕ) → left + 1 < 262144 → Sent (3 + (6 + (4 + (1 + ((left * 11 + 10) + 5))))) (0 + suc left)
nat_steps left few =
    let k = 0 + suc left in
    let after = i.Exec asks ∷ i.Fall ∷ [] in
    let store = first_object ∷ [] in
    let n = (left * 11 + 10) + 5 in
    let looped = rounds left 1 0 k store after (omega (arith, few)) refl in
    let same : 1 + left ≡ k = omega arith in
    let looped' = subst (λ (last : ℕ). Grown (left * 11 + 10) k last store (here (i.Exec grows ∷ rest left 1 last after) (vars k 0 1) ∷ []) after) same looped in
    record {
      objects = looped'.objects;
      top = looped'.top;
      is =
          run_on 3 (6 + (4 + (1 + n))) _ (holding []) (start 3 p (value.Int (pos k) ∷ [])) _ (zero_begins k)
          (run_on 6 (4 + (1 + n)) _ (holding []) (entry 0 nat_zero [] ∷ here (i.Assign (codes "n") ∷ i.Exec counted ∷ after) (k_var k ∷ unset_n ∷ []) ∷ []) _ (zero_ends k)
          (run_on 4 (1 + n) _ (holding store) (here (i.Exec counted ∷ after) (k_var k ∷ n_var 0 ∷ []) ∷ []) _ (loop_begins store k after)
          (run_on 1 n _ (holding store) (here (rest (suc left) 0 k after) (k_var k ∷ n_var 0 ∷ []) ∷ []) _ (round_begins store 0 k 0 left after (k_var k ∷ n_var 0 ∷ []) (λ j. refl))
          (run_on (left * 11 + 10) 5 _ (holding store) (here (i.Exec grows ∷ rest left 1 k after) (vars k 0 1) ∷ []) _ looped'.is
          (asks_steps looped'.objects looped'.top k k)))));
    }

-- 62 rounds, and the call is sent with the step 700
nat_exactly : Sent 700 62
nat_exactly = nat_steps 61 (omega arith)
