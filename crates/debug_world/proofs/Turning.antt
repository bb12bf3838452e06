-- What a list of turns and ticks of one node says, and one event more.
use Rattle.std.proofs.Common.{◌≡◌, ℕ, zero, suc, ◌-◌, Bool, true, false, not, ◌&&◌, if◌then◌else◌, ◌==◌, nat_le, List, [], ◌∷◌, reverse, Option, Some, None, is_some, IsSome, refl, sym, ap, subst, arith}
use Rattle.std.proofs.lemmas.Bool.{eqb-true}
use Rattle.clu_tree.specs.declared.program.Program.{Program}
use Rattle.world_types.specs.Limits.{Limit}
use Rattle.world_types.specs.declared.effects.Owner.{Owner}
use Rattle.world_types.specs.declared.effects.Owner.TheVariants as owner
use Rattle.world_types.specs.declared.event.Event.{Event}
use Rattle.world_types.specs.declared.event.Event.TheVariants.{Turn, Tick}
use Rattle.world_types.specs.declared.event.Told.{Told}
use Rattle.world_types.specs.declared.effects.Sent.{Sent}
use Rattle.world_types.specs.declared.effects.Effects.{Effects}
use Rattle.world_rules.specs.Plain.{Rules, World, and_then, behind, plain}
use Rattle.world_rules.specs.Said.{cut, last_by, last_of, last_stamp, marked, node_of, plain_events, rounds}
use Rattle.world_rules.specs.declared.condition.Condition.TheVariants as on
use Rattle.world_rules.specs.Conditions.{Test, first_of}
use Rattle.world_rules.specs.Legal.{ArePlain, IsPlainEvent, first_failing, is_node, most, passed, reached}
use Rattle.world_rules.specs.Node.{NodeState, acted, advance, can_turn, due, expire, expired, expiring, first_of_program, picked_at, picks, ready_frames, rules_of, step_of, steps, tick, turn}
use Rattle.machine_rules.specs.declared.frame.Frame.{Frame}
use Rattle.machine_rules.specs.declared.act.Act.{Act}
use Rattle.machine_rules.specs.declared.act.Act.TheVariants as act
use Rattle.machine_rules.specs.Row.{bare_world, row}
use Rattle.world_rules.proofs.Erasing.{cut-plain, erased-plain, halted-plain, reverse-twice, rounds-plain}
use Rattle.world_rules.proofs.Lawfully.{passed_at}
use Rattle.world_rules.proofs.Plainly.{and_then_some, goal-plain, marked-plain, quit-plain, unblocked, unmarked-plain}
use Rattle.node_core.specs.Seen.{no_marks}
use Rattle.debug_world.specs.Seen.{AreOwn, IsOwn, ticked, turned}

by_test : {P : Type 0} (b : Bool) → (b ≡ true → P) → (b ≡ false → P) → P
by_test true h k = h refl
by_test false h k = k refl

pub own_plain : (e : Event) → IsOwn e → IsPlainEvent e
own_plain (Turn n k r) h = tt
own_plain (Tick n) h = tt
own_plain e h = elim h [ ]

pub all_plain : (past : List Told) → AreOwn past → ArePlain past
all_plain [] h = tt
all_plain (e ∷ past) h = (own_plain e.event h.0, all_plain past h.1)

own_last : (s before : ℕ) (e : Event) → IsOwn e → (if node_of e == 1 then last_by s e before else before) ≡ s
own_last s before (Turn n k r) h = rw h refl
own_last s before (Tick n) h = rw h refl
own_last s before e h = elim h [ ]

-- the last stamp is the node's
pub last_is : (past : List Told) → AreOwn past → last_of 1 past ≡ last_stamp past
last_is [] h = refl
last_is (e ∷ past) h = own_last e.stamp (last_of 1 past) e.event h.0

and_true : (b : Bool) → (b && true) ≡ b
and_true true = refl
and_true false = refl

pub some_fst : {A B : Type 0} (a b : A × B) → Some a ≡ Some b → a.0 ≡ b.0
some_fst {A} {B} a b h = ap fst_of h
  where
    fst_of : Option (A × B) → A
    fst_of None = a.0
    fst_of (Some c) = c.0

some_snd : {A B : Type 0} (a b : A × B) → Some a ≡ Some b → a.1 ≡ b.1
some_snd {A} {B} a b h = ap snd_of h
  where
    snd_of : Option (A × B) → B
    snd_of None = a.1
    snd_of (Some c) = c.1

pub some_of : {A : Type 0} (o : Option A) (a : A) → o ≡ Some a → IsSome o
some_of o a h = rw h refl

-- ---- what is printed and marked shows nothing

acted-shown : (p : ℕ) (s : NodeState) (does : Act) (frames : List Frame) (a : NodeState × Effects) → acted p s does frames ≡ Some a → a.1.shown ≡ []
acted-shown p s act.Went frames a h = rw (← some_snd _ _ h) refl
acted-shown p s (act.Put text) frames a h = rw (← some_snd _ _ h) refl
acted-shown p s (act.Sleep ms) frames a h = rw (← some_snd _ _ h) refl
acted-shown p s (act.Ended v) frames a h = rw (← some_snd _ _ h) refl
acted-shown p s does frames a h = cc

step-shown : (program : Program) (p : ℕ) (s : NodeState) (a : NodeState × Effects) → step_of program p s ≡ Some a → a.1.shown ≡ []
step-shown program p s a h =
    let one = and_then_some (ready_frames p s.processes) (λ frames. and_then (row (bare_world program s.time) frames) (λ next. acted p s next.act next.frames)) a h in
    let two = and_then_some (row (bare_world program s.time) one.a) (λ next. acted p s next.act next.frames) a one.gives in
    acted-shown p s two.a.act two.a.frames a two.gives

steps-shown : (program : Program) (p k : ℕ) (s : NodeState) (a : NodeState × Effects) → steps program p k s ≡ Some a → a.1.shown ≡ []
steps-shown program p zero s a h = rw (← some_snd _ _ h) refl
steps-shown program p (suc k) s a h =
    let one = and_then_some (step_of program p s) (λ b. and_then (steps program p k b.0) (behind b.1)) a h in
    let two = and_then_some (steps program p k one.a.0) (behind one.a.1) a one.gives in
    rw (← some_snd _ _ two.gives, step-shown program p s one.a one.is, steps-shown program p k one.a.0 two.a two.is) refl

pub turn-shown : (program : Program) (s : NodeState) (k t : ℕ) (a : NodeState × Effects) → turn program s k t ≡ Some a → a.1.shown ≡ []
turn-shown program s k t a h =
    let one = and_then_some (picks s) (λ p. steps program p k (picked_at p t s)) a (passed_at (can_turn s k t) (and_then (picks s) (λ p. steps program p k (picked_at p t s))) a h) in
    steps-shown program one.a k (picked_at one.a t s) a one.gives

expired-shown : (o : Owner) (s : NodeState) → (expired o s).1.shown ≡ []
expired-shown (owner.Process n) s = refl
expired-shown (owner.Once n) s = refl
expired-shown (owner.Maybe n) s = refl

expire-shown : (ls : List Limit) (s : NodeState) → (expire ls s).1.shown ≡ []
expire-shown [] s = refl
expire-shown (l ∷ ls) s = rw (expired-shown l.1 s, expire-shown ls (expired l.1 s).0) refl

pub tick-shown : (s : NodeState) (t : ℕ) (a : NodeState × Effects) → tick s t ≡ Some a → a.1.shown ≡ []
tick-shown s t a h =
    rw (← some_snd _ _ (passed_at (nat_le s.time t && due s t) (Some (advance s t)) a h)) (expire-shown (expiring s t) (record s { time = t }))

-- marks that mark no line don't matter
pub most-alike : {S : Type 0} (rules : Rules S) (s : S) (t : ℕ) (marks : ℕ → Bool) (limit : ℕ) → ((line : ℕ) → marks line ≡ false) → most rules s t marks limit ≡ most rules s t no_marks limit
most-alike rules s t marks zero h = refl
most-alike rules s t marks (suc limit) h =
    rw (unmarked-plain rules s t marks (suc limit - 1) h, unmarked-plain rules s t no_marks (suc limit - 1) (λ line. refl), most-alike rules s t marks limit h) refl

is_one : (s : NodeState) (sent : List Sent) (n : ℕ) → is_node {S = NodeState} ((s, sent) ∷ []) n ≡ (n == 1)
is_one s sent zero = refl
is_one s sent (suc zero) = refl
is_one s sent (suc (suc n)) = by_test (suc (suc n) == 1) (λ e. absurd (omega (arith, eqb-true (suc (suc n)) 1 e))) (λ e. sym e)

module _ (program : Program) where
  -- what is reached is what the machine without debugger leaves
  pub reached_is : (list : List Told) (w : World NodeState) (x : Effects) → ArePlain (reverse list) → plain (rules_of program) (first_of_program program) (plain_events list) ≡ Some (w, x) → reached (rules_of program) (first_of_program program) (reverse list) ≡ w
  reached_is list w x h ran =
      rw (erased-plain (cut (rounds (reverse list))) (reverse list) (λ t. cut-plain (reverse list) t h) h, reverse-twice list, ran) refl

  -- the conditions of a turn after turns and ticks
  abbrev pub short_turn : ℕ → NodeState → ℕ → ℕ → ℕ → List Test
  short_turn last s stamp n r =
      (on.StampRises, nat_le last stamp) ∷ (on.NamesNodes, n == 1) ∷ (on.ReadsInTime, nat_le last r && nat_le r stamp) ∷ (on.DueFits, not (due s r)) ∷ (on.CanStep, is_some (picks s)) ∷ []

  -- the conditions of a tick after turns and ticks
  abbrev pub short_tick : ℕ → NodeState → ℕ → ℕ → List Test
  short_tick last s stamp n = (on.StampRises, nat_le last stamp) ∷ (on.NamesNodes, n == 1) ∷ (on.DueFits, due s stamp) ∷ []

  turn_one : (past : List Told) (s : NodeState) (sent : List Sent) (stamp k r : ℕ) → AreOwn past → reached (rules_of program) (first_of_program program) past ≡ (s, sent) ∷ [] →
      first_failing (rules_of program) (first_of_program program) past (turned stamp 1 k r) ≡ first_of (short_turn (last_stamp past) s stamp 1 r)
  turn_one past s sent stamp k r h at =
      let p = all_plain past h in
      rw (at, quit-plain past p, halted-plain 1 past p, cut-plain past r p, rounds-plain past p, goal-plain past p, last_is past h, and_true (nat_le r stamp), unblocked ((rules_of program).stands s) (passed (rules_of program) (first_of_program program) 1 past) (marked 1 past) (λ line. marked-plain 1 past line p)) refl

  pub failing_turn : (past : List Told) (s : NodeState) (sent : List Sent) (stamp n k r : ℕ) → AreOwn past → reached (rules_of program) (first_of_program program) past ≡ (s, sent) ∷ [] →
      first_failing (rules_of program) (first_of_program program) past (turned stamp n k r) ≡ first_of (short_turn (last_stamp past) s stamp n r)
  failing_turn past s sent stamp n k r h at = by_test (n == 1)
      (λ e. subst (λ (m : ℕ). first_failing (rules_of program) (first_of_program program) past (turned stamp m k r) ≡ first_of (short_turn (last_stamp past) s stamp m r)) (sym (eqb-true n 1 e)) (turn_one past s sent stamp k r h at))
      (λ e. rw (at, is_one s sent n, e, quit-plain past (all_plain past h)) refl)

  tick_one : (past : List Told) (s : NodeState) (sent : List Sent) (stamp : ℕ) → AreOwn past → reached (rules_of program) (first_of_program program) past ≡ (s, sent) ∷ [] →
      first_failing (rules_of program) (first_of_program program) past (ticked stamp 1) ≡ first_of (short_tick (last_stamp past) s stamp 1)
  tick_one past s sent stamp h at =
      let p = all_plain past h in
      rw (at, quit-plain past p, halted-plain 1 past p, cut-plain past stamp p, rounds-plain past p, goal-plain past p) refl

  pub failing_tick : (past : List Told) (s : NodeState) (sent : List Sent) (stamp n : ℕ) → AreOwn past → reached (rules_of program) (first_of_program program) past ≡ (s, sent) ∷ [] →
      first_failing (rules_of program) (first_of_program program) past (ticked stamp n) ≡ first_of (short_tick (last_stamp past) s stamp n)
  failing_tick past s sent stamp n h at = by_test (n == 1)
      (λ e. subst (λ (m : ℕ). first_failing (rules_of program) (first_of_program program) past (ticked stamp m) ≡ first_of (short_tick (last_stamp past) s stamp m)) (sym (eqb-true n 1 e)) (tick_one past s sent stamp h at))
      (λ e. rw (at, is_one s sent n, e, quit-plain past (all_plain past h)) refl)
