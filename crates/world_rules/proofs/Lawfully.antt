-- What can be read off a node tells what is possible there.
use Rattle.std.proofs.Common.{◌≡◌, ℕ, zero, suc, ◌≤◌, Bool, true, false, not, ◌&&◌, if◌then◌else◌, nat_le, List, [], ◌∷◌, Option, Some, None, is_some, IsSome, refl, sym, ◌∙◌, ap}
use Rattle.std.proofs.lemmas.Bool.{leb-true, le-leb}
use Rattle.clu_tree.specs.declared.program.Program.{Program}
use Rattle.machine_rules.specs.declared.frame.Frame.{Frame}
use Rattle.machine_rules.specs.declared.act.Act.{Act}
use Rattle.machine_rules.specs.declared.act.Act.TheVariants as act
use Rattle.machine_rules.specs.Row.{bare_world, row}
use Rattle.world_types.specs.declared.effects.Effects.{Effects}
use Rattle.world_types.specs.Limits.{Limit}
use Rattle.world_types.specs.declared.effects.Owner.{Owner}
use Rattle.world_types.specs.declared.effects.Owner.TheVariants as owner
use Rattle.world_rules.specs.Plain.{Lawful, and_then, behind}
use Rattle.world_rules.specs.Node.{NodeState, acted, advance, can_turn, due, expire, expired, expiring, picked_at, picks, ready_frames, rules_of, step_of, steps, tick, turn}
use Rattle.world_rules.proofs.Following.{and_left, and_right}
use Rattle.world_rules.proofs.Plainly.{and_then_some}

-- a test that was passed
pub record Passed {A : Type 0} (b : Bool) (o : Option A) : Type 0 where
  pub test : b ≡ true
  pub is : IsSome o

pub passed : {A : Type 0} (b : Bool) (o : Option A) → IsSome (if b then o else None) → Passed b o
passed true o h = record { test = refl; is = h }
passed false o h = cc

pub passed_at : {A : Type 0} (b : Bool) (o : Option A) (a : A) → (if b then o else None) ≡ Some a → o ≡ Some a
passed_at true o a h = h
passed_at false o a h = cc

first_some : {A B : Type 0} (o : Option A) (f : A → Option B) → IsSome (and_then o f) → is_some o ≡ true
first_some None f h = cc
first_some (Some a) f h = refl

some_fst : {A B : Type 0} (a b : A × B) → Some a ≡ Some b → a.0 ≡ b.0
some_fst {A} {B} a b h = ap fst_of h
  where
    fst_of : Option (A × B) → A
    fst_of None = a.0
    fst_of (Some c) = c.0

-- ---- a node's number and time stay as it steps

pub record Stays (s : NodeState) (after : NodeState) : Type 0 where
  pub number : after.number ≡ s.number
  pub time : after.time ≡ s.time
  pub picked : after.picked ≡ s.picked

acted-stays : (p : ℕ) (s : NodeState) (does : Act) (frames : List Frame) (a : NodeState × Effects) → acted p s does frames ≡ Some a → Stays s a.0
acted-stays p s act.Went frames a h = let e = some_fst _ _ h in rw (← e) (record { number = refl; time = refl; picked = refl })
acted-stays p s (act.Put text) frames a h = let e = some_fst _ _ h in rw (← e) (record { number = refl; time = refl; picked = refl })
acted-stays p s (act.Sleep ms) frames a h = let e = some_fst _ _ h in rw (← e) (record { number = refl; time = refl; picked = refl })
acted-stays p s (act.Ended v) frames a h = let e = some_fst _ _ h in rw (← e) (record { number = refl; time = refl; picked = refl })
acted-stays p s does frames a h = cc

pub step-stays : (program : Program) (p : ℕ) (s : NodeState) (a : NodeState × Effects) → step_of program p s ≡ Some a → Stays s a.0
step-stays program p s a h =
    let one = and_then_some (ready_frames p s.processes) (λ frames. and_then (row (bare_world program s.time) frames) (λ next. acted p s next.act next.frames)) a h in
    let two = and_then_some (row (bare_world program s.time) one.a) (λ next. acted p s next.act next.frames) a one.gives in
    acted-stays p s two.a.act two.a.frames a two.gives

pub steps-stay : (program : Program) (p k : ℕ) (s : NodeState) (a : NodeState × Effects) → steps program p k s ≡ Some a → Stays s a.0
steps-stay program p zero s a h = let e = some_fst _ _ h in rw (← e) (record { number = refl; time = refl; picked = refl })
steps-stay program p (suc k) s a h =
    let one = and_then_some (step_of program p s) (λ b. and_then (steps program p k b.0) (behind b.1)) a h in
    let two = and_then_some (steps program p k one.a.0) (behind one.a.1) a one.gives in
    let first = step-stays program p s one.a one.is in
    let rest = steps-stay program p k one.a.0 two.a two.is in
    let e : two.a.0 ≡ a.0 = some_fst _ _ two.gives in
    record { number = sym (ap (λ (x : NodeState). x.number) e) ∙ rest.number ∙ first.number; time = sym (ap (λ (x : NodeState). x.time) e) ∙ rest.time ∙ first.time; picked = sym (ap (λ (x : NodeState). x.picked) e) ∙ rest.picked ∙ first.picked }

-- ---- what a turn asks

not_true : (b : Bool) → not b ≡ true → b ≡ false
not_true false h = refl
not_true true h = cc

-- what holds where a turn of k steps may be taken
pub record Timely (s : NodeState) (k t : ℕ) : Type 0 where
  pub some : 1 ≤ k
  pub few : k ≤ 64
  pub late : s.time ≤ t
  pub free : due s t ≡ false

pub timely : (s : NodeState) (k t : ℕ) → can_turn s k t ≡ true → Timely s k t
timely s k t h =
    let rest = and_right (nat_le 1 k) (nat_le k 64 && (nat_le s.time t && not (due s t))) h in
    let last = and_right (nat_le k 64) (nat_le s.time t && not (due s t)) rest in
    record {
      some = leb-true 1 k (and_left (nat_le 1 k) (nat_le k 64 && (nat_le s.time t && not (due s t))) h);
      few = leb-true k 64 (and_left (nat_le k 64) (nat_le s.time t && not (due s t)) rest);
      late = leb-true s.time t (and_left (nat_le s.time t) (not (due s t)) last);
      free = not_true (due s t) (and_right (nat_le s.time t) (not (due s t)) last);
    }

turn_is : (program : Program) (s : NodeState) (k t : ℕ) → IsSome (turn program s k t) → (1 ≤ k) × (is_some (picks s) ≡ true) × (due s t ≡ false) × (s.time ≤ t)
turn_is program s k t h =
    let chosen = passed (can_turn s k t) (and_then (picks s) (λ p. steps program p k (picked_at p t s))) h in
    let may = timely s k t chosen.test in
    (may.some, first_some (picks s) (λ p. steps program p k (picked_at p t s)) chosen.is, may.free, may.late)

turn_time : (program : Program) (s : NodeState) (k t : ℕ) (a : NodeState × Effects) → turn program s k t ≡ Some a → a.0.time ≡ t
turn_time program s k t a h =
    let chosen = passed_at (can_turn s k t) (and_then (picks s) (λ p. steps program p k (picked_at p t s))) a h in
    let one = and_then_some (picks s) (λ p. steps program p k (picked_at p t s)) a chosen in
    (steps-stay program one.a k (picked_at one.a t s) a one.gives).time

-- ---- the node's time once it advanced

expired-time : (o : Owner) (s : NodeState) → (expired o s).0.time ≡ s.time
expired-time (owner.Process n) s = refl
expired-time (owner.Once n) s = refl
expired-time (owner.Maybe n) s = refl

expire-time : (ls : List Limit) (s : NodeState) → (expire ls s).0.time ≡ s.time
expire-time [] s = refl
expire-time (l ∷ ls) s = expire-time ls (expired l.1 s).0 ∙ expired-time l.1 s

pub advance-time : (s : NodeState) (t : ℕ) → (advance s t).0.time ≡ t
advance-time s t = expire-time (expiring s t) (record s { time = t })

advanced_time : (s : NodeState) (t : ℕ) (b : Bool) (a : NodeState × Effects) → (if b then Some (advance s t) else None) ≡ Some a → a.0.time ≡ t
advanced_time s t b a h = let e = some_fst _ _ (passed_at b (Some (advance s t)) a h) in sym (ap (λ (x : NodeState). x.time) e) ∙ advance-time s t

tick_is : (s : NodeState) (t : ℕ) → IsSome (tick s t) → (due s t ≡ true) × (s.time ≤ t)
tick_is s t h =
    let test = (passed (nat_le s.time t && due s t) (Some (advance s t)) h).test in
    (and_right (nat_le s.time t) (due s t) test, leb-true s.time t (and_left (nat_le s.time t) (due s t) test))

pub lawful : (program : Program) → Lawful (rules_of program)
lawful program = record {
  turn_is = turn_is program;
  tick_is = tick_is;
  ticks = λ s t h l. rw (le-leb s.time t l, h) refl;
  delivers = λ s bytes t l. rw (le-leb s.time t l) refl;
  turn_time = turn_time program;
  deliver_time = λ s bytes t a h. advanced_time s t (nat_le s.time t) a h;
  tick_time = λ s t a h. advanced_time s t (nat_le s.time t && due s t) a h;
}
