-- What the rows tell of their acts, and one step more of a turn.
use Rattle.std.specs.Prelude.{int_le}
use Rattle.std.proofs.Common.{◌≡◌, ◌≢◌, ◌<◌, inl, inr, ℕ, zero, suc, ◌+◌, pos, Bool, true, false, List, [], ◌∷◌, Option, Some, None, refl, sym, ◌∙◌, ap, subst, arith, append-nil, add-one}
use Rattle.clu_tree.specs.declared.value.Addr.{Addr}
use Rattle.clu_tree.specs.Typed.{IsTyped}
use Rattle.clu_tree.specs.declared.program.Program.{Program}
use Rattle.machine_rules.specs.declared.frame.Frame.{Frame}
use Rattle.machine_rules.specs.declared.act.Act.{Act}
use Rattle.machine_rules.specs.declared.act.Act.TheVariants as act
use Rattle.machine_rules.specs.Row.{Next, bare_world, row}
use Rattle.machine_rules.specs.Typing.{ActFits, FramesFit}
use Rattle.machine_rules.proofs.Sound.{never_stuck}
use Rattle.world_types.specs.declared.effects.Effects.{Effects}
use Rattle.world_rules.specs.Plain.{and_then, behind, join, nothing}
use Rattle.world_rules.specs.Node.{Live, NodeState, acted, ready, step_of, steps}
use Rattle.world_rules.proofs.Erasing.{join-assoc}
use Rattle.world_rules.proofs.Plainly.{and_then_some}
use Rattle.node_core.specs.Seen.{state_of}
use Rattle.node_core.specs.Acts.{IsNoted, RanTo, after_of, left_of, noted}
use Rattle.node_core.specs.declared.turn.After.{After}
use Rattle.node_core.specs.declared.turn.After.TheVariants as after

pub by_test : {P : Type 0} (b : Bool) → (b ≡ true → P) → (b ≡ false → P) → P
by_test true h k = h refl
by_test false h k = k refl

abbrev pub NextFits : Next → Type 0
NextFits next = ActFits next.act next.frames

some_is : {A : Type 0} (a b : A) → Some a ≡ Some b → a ≡ b
some_is a b h = cc

-- what a step of typed frames gives has an act of this part of the language, and frames but where it ended
pub row_fits : (program : Program) → IsTyped program → (t : ℕ) (frames : List Frame) → FramesFit program frames → (next : Next) → row (bare_world program t) frames ≡ Some next → NextFits next
row_fits program good t [] fits next h = cc
row_fits program good t (f ∷ fs) fits next h =
    let sound = (never_stuck program good).goes_on (bare_world program t) f fs refl fits in
    subst NextFits (some_is sound.next next (sym sound.is ∙ h)) sound.act

pub fits_noted : (does : Act) (frames : List Frame) → ActFits does frames → IsNoted does
fits_noted act.Went frames h = tt
fits_noted (act.Put text) frames h = tt
fits_noted (act.Sleep ms) frames h = tt
fits_noted (act.Ended v) frames h = tt
fits_noted does frames h = h

-- the node with this process, which was picked
abbrev running : ℕ → List Frame → ℕ → NodeState
running n frames t = state_of n (ready 1 frames ∷ []) 1 t

acted_fits : (n t : ℕ) (was frames : List Frame) (does : Act) → ActFits does frames → acted 1 (running n was t) does frames ≡ Some (state_of n (left_of (after_of t does) frames) 1 t, noted n does)
acted_fits n t was frames act.Went h = refl
acted_fits n t was frames (act.Put text) h = refl
acted_fits n t was frames (act.Sleep ms) h = by_test (int_le ms (pos 0)) (λ e. rw e refl) (λ e. rw e refl)
acted_fits n t was frames (act.Ended v) h = refl
acted_fits n t was frames does h = elim h [ ]

-- a step of the only process
pub step_fits : (program : Program) → IsTyped program → (n t : ℕ) (frames : List Frame) → FramesFit program frames → (next : Next) → row (bare_world program t) frames ≡ Some next →
    step_of program 1 (running n frames t) ≡ Some (state_of n (left_of (after_of t next.act) next.frames) 1 t, noted n next.act)
step_fits program good n t frames fits next h =
    rw h (acted_fits n t frames next.frames next.act (row_fits program good t frames fits next h))

-- ---- one step more of a turn

pub some_fst : {A B : Type 0} (a b : A × B) → Some a ≡ Some b → a.0 ≡ b.0
some_fst {A} {B} a b h = ap fst_of h
  where
    fst_of : Option (A × B) → A
    fst_of None = a.0
    fst_of (Some c) = c.0

pub some_snd : {A B : Type 0} (a b : A × B) → Some a ≡ Some b → a.1 ≡ b.1
some_snd {A} {B} a b h = ap snd_of h
  where
    snd_of : Option (A × B) → B
    snd_of None = a.1
    snd_of (Some c) = c.1

pub join-nothing : (x : Effects) → join x nothing ≡ x
join-nothing x = rw (append-nil x.sent, append-nil x.lines, append-nil x.marks, append-nil x.shown) refl

pub steps_more : (program : Program) (p k : ℕ) (s s' s'' : NodeState) (x y : Effects) → steps program p k s ≡ Some (s', x) → step_of program p s' ≡ Some (s'', y) → steps program p (suc k) s ≡ Some (s'', join x y)
steps_more program p zero s s' s'' x y h one =
    let same : s ≡ s' = some_fst (s, nothing) (s', x) h in
    let none : nothing ≡ x = some_snd (s, nothing) (s', x) h in
    rw (same, one, ← none) (ap (λ (z : Effects). Some (s'', z)) (join-nothing y))
steps_more program p (suc k) s s' s'' x y h one =
    let first = and_then_some (step_of program p s) (λ a. and_then (steps program p k a.0) (behind a.1)) (s', x) h in
    let rest = and_then_some (steps program p k first.a.0) (behind first.a.1) (s', x) first.gives in
    let to : rest.a.0 ≡ s' = some_fst (rest.a.0, join first.a.1 rest.a.1) (s', x) rest.gives in
    let all : join first.a.1 rest.a.1 ≡ x = some_snd (rest.a.0, join first.a.1 rest.a.1) (s', x) rest.gives in
    let more = steps_more program p k first.a.0 s' s'' rest.a.1 y (rest.is ∙ ap (λ (v : NodeState). Some (v, rest.a.1)) to) one in
    rw (first.is, more) (ap (λ (z : Effects). Some (s'', z)) (sym (join-assoc first.a.1 rest.a.1 y) ∙ ap (λ (z : Effects). join z y) all))

-- ---- what a turn has reached after one step more

-- so many steps of the only process, and what they leave of it
abbrev pub Took : Program → ℕ → ℕ → ℕ → List Frame → List Live → Effects → Type 0
Took program n t k was left x = steps program 1 k (running n was t) ≡ Some (state_of n left 1 t, x)

pub took_more : (program : Program) → IsTyped program → (n t k : ℕ) (was frames : List Frame) → FramesFit program frames → (g : List Frame) (left : List Addr) (does : Act) (x x' : Effects) →
    Took program n t k was (ready 1 frames ∷ []) x → row (bare_world program t) frames ≡ Some (record { left = left; act = does; store = []; frames = g }) →
    x' ≡ join x (noted n does) → Took program n t (k + 1) was (left_of (after_of t does) g) x'
took_more program good n t k was frames fits g left does x x' h one noted_is =
    rw (add-one, noted_is) (steps_more program 1 k (running n was t) (running n frames t) (state_of n (left_of (after_of t does) g) 1 t) x (noted n does) h
    (step_fits program good n t frames fits (record { left = left; act = does; store = []; frames = g }) one))

-- the process goes on, and has frames
pub on_fits : (program : Program) → IsTyped program → (t : ℕ) (frames : List Frame) → FramesFit program frames → (g : List Frame) (left : List Addr) (does : Act) →
    row (bare_world program t) frames ≡ Some (record { left = left; act = does; store = []; frames = g }) → ActFits does g
on_fits program good t frames fits g left does h = row_fits program good t frames fits (record { left = left; act = does; store = []; frames = g }) h

ready_full : (t : ℕ) (does : Act) (g : List Frame) → ActFits does g → after_of t does ≡ after.Ready → g ≢ []
ready_full t act.Went g h e = h
ready_full t (act.Put text) g h e = h
ready_full t (act.Sleep ms) g h e = h
ready_full t (act.Ended v) g h e = cc
ready_full t does g h e = elim h [ ]

asleep_full : (t l : ℕ) (does : Act) (g : List Frame) → ActFits does g → after_of t does ≡ after.Asleep l → g ≢ []
asleep_full t l act.Went g h e = cc
asleep_full t l (act.Put text) g h e = cc
asleep_full t l (act.Sleep ms) g h e = h
asleep_full t l (act.Ended v) g h e = cc
asleep_full t l does g h e = elim h [ ]

-- ---- what is left of a process behind a step

-- a step was taken, of which this is left
pub record Stepped (program : Program) (n t k : ℕ) (was g : List Frame) (does : Act) (x : Effects) : Type 0 where
  pub took : Took program n t (k + 1) was (left_of (after_of t does) g) x
  pub act : ActFits does g
  pub fits : FramesFit program g

pub goes_on : (program : Program) (n t k : ℕ) (was g : List Frame) (does : Act) (x : Effects) → Stepped program n t k was g does x → after.Ready ≡ after_of t does → Took program n t (k + 1) was (ready 1 g ∷ []) x × (g ≢ [])
goes_on program n t k was g does x h is =
    (subst (λ (a : After). Took program n t (k + 1) was (left_of a g) x) (sym is) h.took, ready_full t does g h.act (sym is))

pub sleeps : (program : Program) (n t k limit until : ℕ) (was g : List Frame) (does : Act) (x : Effects) → Stepped program n t k was g does x → after.Asleep until ≡ after_of t does → k < limit →
    RanTo program n was t limit (record { process = Some g; asleep = Some until; steps = k + 1; effects = x })
sleeps program n t k limit until was g does x h is l = record {
  taken = subst (λ (a : After). Took program n t (k + 1) was (left_of a g) x) (sym is) h.took;
  some = omega arith;
  within = omega arith;
  early = λ e. inr refl;
  slept = λ e. cc;
  fits = (h.fits, asleep_full t until does g h.act (sym is));
}

pub is_over : (program : Program) (n t k limit : ℕ) (was g : List Frame) (does : Act) (x : Effects) → Stepped program n t k was g does x → after.Over ≡ after_of t does → k < limit →
    RanTo program n was t limit (record { process = None; asleep = None; steps = k + 1; effects = x })
is_over program n t k limit was g does x h is l = record {
  taken = subst (λ (a : After). Took program n t (k + 1) was (left_of a g) x) (sym is) h.took;
  some = omega arith;
  within = omega arith;
  early = λ e. inl refl;
  slept = λ e. refl;
  fits = tt;
}
