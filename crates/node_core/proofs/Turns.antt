-- How many steps a turn takes.
use Rattle.std.proofs.Common.{◌≡◌, ◌≤◌, ◌<◌, ◌⊎◌, inl, inr, ℕ, zero, suc, ◌-◌, Bool, true, false, ◌&&◌, nat_le, nat_lt, List, [], ◌∷◌, Option, Some, None, is_some, IsSome, min, refl, sym, ◌∙◌, ap, subst, arith}
use Rattle.std.proofs.lemmas.Bool.{cases_lt, leb-true, le-leb}
use Rattle.clu_tree.specs.declared.program.Program.{Program}
use Rattle.machine_rules.specs.declared.frame.Frame.{Frame}
use Rattle.world_types.specs.declared.effects.Effects.{Effects}
use Rattle.world_rules.specs.Plain.{Rules, and_then, behind}
use Rattle.world_rules.specs.Legal.{most}
use Rattle.world_rules.specs.Node.{NodeState, can_turn, due, picks, ready, rules_of, step_of, steps, turn}
use Rattle.world_rules.proofs.Plainly.{and_then_some, unmarked-plain}
use Rattle.node_core.specs.Seen.{IsUnchanged, NodeSeen, Turns, live, most_steps, no_marks, state_of}
use Rattle.node_core.specs.Acts.{RanTo}
use Rattle.node_core.specs.declared.turn.Ran.{Ran}
use Rattle.node_core.proofs.Acts.{by_test, some_fst}

-- ---- the greatest number that is possible

-- none of the numbers up to the limit is
pub most_none : {S : Type 0} (rules : Rules S) (s : S) (t : ℕ) (limit : ℕ) → ((k : ℕ) → rules.turn s k t ≡ None) → most rules s t no_marks limit ≡ 0
most_none rules s t zero none = refl
most_none rules s t (suc limit) none = rw (none (suc limit)) (most_none rules s t limit none)

-- j is, and none between it and the limit
pub most_is : {S : Type 0} (rules : Rules S) (s : S) (t : ℕ) (limit j : ℕ) → 1 ≤ j → j ≤ limit → IsSome (rules.turn s j t) → ((k : ℕ) → j < k → k ≤ limit → rules.turn s k t ≡ None) → most rules s t no_marks limit ≡ j
most_is rules s t zero j one l some none = absurd (omega arith)
most_is {S} rules s t (suc limit) j one l some none = elim (cases_lt j (suc limit)) [
  | inl below ↦ rw (none (suc limit) below (omega arith)) (most_is rules s t limit j one (omega arith) some (λ k h m. none k h (omega arith)))
  | inr above ↦ at_last j (omega arith) some
]
  where
    at_last : (j : ℕ) → suc limit ≡ j → IsSome (rules.turn s j t) → most rules s t no_marks (suc limit) ≡ j
    at_last j e some =
        let last : IsSome (rules.turn s (suc limit) t) = rw e some in
        rw (last, unmarked-plain rules s t no_marks (suc limit - 1) (λ line. refl)) e

-- ---- no step behind the last

pub stuck : (program : Program) (p j k : ℕ) (s s' : NodeState) (x : Effects) → steps program p j s ≡ Some (s', x) → step_of program p s' ≡ None → j < k → steps program p k s ≡ None
stuck program p j zero s s' x h none l = absurd (omega arith)
stuck program p zero (suc k) s s' x h none l = let same : s ≡ s' = some_fst _ _ h in rw (same, none) refl
stuck program p (suc j) (suc k) s s' x h none l =
    let first = and_then_some (step_of program p s) (λ a. and_then (steps program p j a.0) (behind a.1)) (s', x) h in
    let rest = and_then_some (steps program p j first.a.0) (behind first.a.1) (s', x) first.gives in
    let to : rest.a.0 ≡ s' = some_fst _ _ rest.gives in
    let later : steps program p k first.a.0 ≡ None = stuck program p j k first.a.0 s' rest.a.1 (rest.is ∙ ap (λ (v : NodeState). Some (v, rest.a.1)) to) none (omega arith) in
    rw (first.is, later) refl

-- ---- when no turn is possible

le_false : (a b : ℕ) → b < a → nat_le a b ≡ false
le_false a b l = by_test (nat_le a b) (λ e. absurd (omega (arith, leb-true a b e))) (λ e. e)

and_false : (b : Bool) → (b && false) ≡ false
and_false true = refl
and_false false = refl

cannot : (program : Program) (s : NodeState) (k t : ℕ) → can_turn s k t ≡ false → turn program s k t ≡ None
cannot program s k t h = rw h refl

pub too_many : (program : Program) (s : NodeState) (t k : ℕ) → 64 < k → turn program s k t ≡ None
too_many program s t k l = cannot program s k t (rw (le_false k 64 l, and_false (nat_le 1 k)) refl)

pub too_early : (program : Program) (s : NodeState) (t k : ℕ) → t < s.time → turn program s k t ≡ None
too_early program s t k l = cannot program s k t (rw (le_false s.time t l, and_false (nat_le k 64), and_false (nat_le 1 k)) refl)

pub overdue : (program : Program) (s : NodeState) (t k : ℕ) → due s t ≡ true → turn program s k t ≡ None
overdue program s t k h = cannot program s k t (rw (h, and_false (nat_le s.time t), and_false (nat_le k 64), and_false (nat_le 1 k)) refl)

pub nobody : (program : Program) (s : NodeState) (t k : ℕ) → is_some (picks s) ≡ false → turn program s k t ≡ None
nobody program s t k h = by_pick (picks s) refl h
  where
    by_pick : (o : Option ℕ) → picks s ≡ o → is_some o ≡ false → turn program s k t ≡ None
    by_pick None e h = by_test (can_turn s k t) (λ c. rw (c, e) refl) (λ c. rw c refl)
    by_pick (Some p) e h = cc

-- why no step is possible at a time
abbrev pub IsRefused : NodeState → ℕ → ℕ → Type 0
IsRefused s t limit = (limit ≡ 0) ⊎ ((t < s.time) ⊎ ((due s t ≡ true) ⊎ (is_some (picks s) ≡ false)))

no_steps : (program : Program) (s : NodeState) (t limit : ℕ) → IsRefused s t limit → most (rules_of program) s t no_marks limit ≡ 0
no_steps program s t limit (inl e) = rw e refl
no_steps program s t limit (inr (inl l)) = most_none (rules_of program) s t limit (λ k. too_early program s t k l)
no_steps program s t limit (inr (inr (inl e))) = most_none (rules_of program) s t limit (λ k. overdue program s t k e)
no_steps program s t limit (inr (inr (inr e))) = most_none (rules_of program) s t limit (λ k. nobody program s t k e)

-- ---- the turns of a node with one process

picks_it : (n picked t : ℕ) (frames : List Frame) → picks (state_of n (ready 1 frames ∷ []) picked t) ≡ Some 1
picks_it n picked t frames = by_test (nat_lt picked 1) (λ e. rw e refl) (λ e. rw e refl)

pub picks_asleep : (n picked t limit : ℕ) (frames : List Frame) → is_some (picks (state_of n (live (Some frames) (Some limit)) picked t)) ≡ false
picks_asleep n picked t limit frames = by_test (nat_lt picked 1) (λ e. rw e refl) (λ e. rw e refl)

differ : false ≡ true → ⊥
differ h = cc

-- a turn that is in time takes the steps of the process
turn_is : (program : Program) (n picked time t k : ℕ) (frames : List Frame) → time ≤ t → 1 ≤ k → k ≤ 64 → turn program (state_of n (ready 1 frames ∷ []) picked time) k t ≡ steps program 1 k (state_of n (ready 1 frames ∷ []) 1 t)
turn_is program n picked time t k frames l one few =
    rw (le-leb 1 k one, le-leb k 64 few, le-leb time t l, picks_it n picked time frames) refl

pub record Taken (program : Program) (before after : NodeState) (t limit k : ℕ) (x : Effects) : Type 0 where
  pub most_of : k ≡ most (rules_of program) before t no_marks limit
  pub turned : turn program before k t ≡ Some (after, x)

some_of : {A : Type 0} (o : Option A) (a : A) → o ≡ Some a → IsSome o
some_of o a h = rw h refl

-- no further step of a process that is over or sleeps
ended : (program : Program) (n t : ℕ) (process : Option (List Frame)) (limit : Option ℕ) → (process ≡ None) ⊎ IsSome limit → step_of program 1 (state_of n (live process limit) 1 t) ≡ None
ended program n t None limit h = refl
ended program n t (Some frames) None (inl e) = cc
ended program n t (Some frames) None (inr e) = cc
ended program n t (Some frames) (Some l) h = refl

-- what the steps of the process leave is what a turn leaves
pub taken : (program : Program) (n picked time t limit : ℕ) (frames : List Frame) (ran : Ran) → time ≤ t → 1 ≤ limit → RanTo program n frames t (min limit 64) ran →
    Taken program (state_of n (ready 1 frames ∷ []) picked time) (state_of n (live ran.process ran.asleep) 1 t) t limit ran.steps ran.effects
taken program n picked time t limit frames ran l one h =
    let few : ran.steps ≤ 64 = omega (arith, h.within) in
    let is = turn_is program n picked time t ran.steps frames l h.some few in
    record {
      most_of = sym (most_is (rules_of program) (state_of n (ready 1 frames ∷ []) picked time) t limit ran.steps h.some (omega (arith, h.within)) (some_of _ _ (is ∙ h.taken)) later);
      turned = is ∙ h.taken;
    }
  where
    over : (k : ℕ) → ran.steps < k → k ≤ limit → k ≤ 64 → turn program (state_of n (ready 1 frames ∷ []) picked time) k t ≡ None
    over k above within few =
        turn_is program n picked time t k frames l (omega arith) few
        ∙ stuck program 1 ran.steps k (state_of n (ready 1 frames ∷ []) 1 t) (state_of n (live ran.process ran.asleep) 1 t) ran.effects h.taken (ended program n t ran.process ran.asleep (h.early (omega arith))) above

    later : (k : ℕ) → ran.steps < k → k ≤ limit → turn program (state_of n (ready 1 frames ∷ []) picked time) k t ≡ None
    later k above within = elim (cases_lt 64 k) [
      | inl many ↦ too_many program (state_of n (ready 1 frames ∷ []) picked time) t k many
      | inr few ↦ over k above within few
    ]

-- ---- what a node answers

abbrev pub seen : Program → NodeState → Bool → NodeSeen
seen program s spent = record { program = program; state = s; spent = spent }

pub refused : (v : NodeSeen) (t limit : ℕ) → v.spent ≡ false → IsRefused v.state t limit → IsUnchanged v v × (most_steps v t limit ≡ 0)
refused v t limit unspent why = (record { was = unspent; is = refl }, no_steps v.program v.state t limit why)

-- a turn of a node whose process is ready
pub answered : (v : NodeSeen) (program : Program) (n : ℕ) (process : Option (List Frame)) (o : Option ℕ) (frames : List Frame) (picked time t limit : ℕ) (spent : Bool) (ran : Ran) →
    seen program (state_of n (live process o) picked time) spent ≡ v → spent ≡ false → process ≡ Some frames → is_some (picks v.state) ≡ true → time ≤ t → 1 ≤ limit → RanTo program n frames t (min limit 64) ran →
    Turns v (seen program (state_of n (live ran.process ran.asleep) 1 t) false) t limit (ran.steps, ran.effects)
answered v program n process o frames picked time t limit spent ran is unspent there is_ready l one h =
    by_limit o (subst (λ (p : Option (List Frame)). seen program (state_of n (live p o) picked time) spent ≡ v) there is)
  where
    by_limit : (o : Option ℕ) → seen program (state_of n (live (Some frames) o) picked time) spent ≡ v →
        Turns v (seen program (state_of n (live ran.process ran.asleep) 1 t) false) t limit (ran.steps, ran.effects)
    by_limit None is =
        let k = taken program n picked time t limit frames ran l one h in
        record {
          was = sym (ap (λ (k : NodeSeen). k.spent) is) ∙ unspent;
          unspent = refl;
          program = ap (λ (k : NodeSeen). k.program) is;
          most = subst (λ (k : NodeSeen). ran.steps ≡ most_steps k t limit) is k.most_of;
          turned = subst (λ (k : NodeSeen). turn k.program k.state ran.steps t ≡ Some (state_of n (live ran.process ran.asleep) 1 t, ran.effects)) is k.turned;
        }
    by_limit (Some limit') is = absurd (differ (sym (picks_asleep n picked time limit' frames) ∙ ap (λ (k : NodeSeen). is_some (picks k.state)) is ∙ is_ready))
