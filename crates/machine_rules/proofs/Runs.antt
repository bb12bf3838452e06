-- Runs join, so that the steps of a program can be counted in pieces.
use Rattle.std.proofs.Common.{◌≡◌, ℕ, zero, suc, ◌+◌, List, [], ◌++◌, Option, Some, None, refl, ap, sym, ◌∙◌, subst, arith}
use Rattle.std.proofs.lemmas.List.{append_assoc}
use Rattle.machine_rules.specs.declared.frame.Frame.{Frame}
use Rattle.machine_rules.specs.declared.act.Act.{Act}
use Rattle.machine_rules.specs.declared.act.Act.TheVariants as act
use Rattle.machine_rules.specs.Row.{World, Next, row}
use Rattle.machine_rules.specs.Runs.{Ran, after, begun, first, run, stepping, told}

-- a run and one behind it
abbrev pub joined : Ran → Ran → Ran
joined a b = record { world = b.world; frames = b.frames; acts = a.acts ++ b.acts; left = a.left ++ b.left }

some_is : {A : Type 0} (a b : A) → Some a ≡ Some b → a ≡ b
some_is a b h = cc

told_more : (does : Act) (xs ys : List Act) → told does (xs ++ ys) ≡ told does xs ++ ys
told_more act.Went xs ys = refl
told_more does xs ys = refl

first_more : (next : Next) (a b : Ran) → first next (joined a b) ≡ joined (first next a) b
first_more next a b = rw (told_more next.act a.acts b.acts, append_assoc next.left a.left b.left) refl

record Begun (next : Next) (o : Option Ran) (ran : Ran) : Type 0 where
  pub rest : Ran
  pub is : o ≡ Some rest
  pub gives : first next rest ≡ ran

begun_is : (next : Next) (o : Option Ran) (ran : Ran) → begun next o ≡ Some ran → Begun next o ran
begun_is next None ran h = cc
begun_is next (Some rest) ran h = record { rest = rest; is = refl; gives = some_is (first next rest) ran h }

-- what n steps give behind each run of m steps
abbrev Continues : ℕ → ℕ → Ran → Type 0
Continues m n b = (w : World) (frames : List Frame) (a : Ran) → run m w frames ≡ Some a → run n a.world a.frames ≡ Some b → run (m + n) w frames ≡ Some (joined a b)

step_on : (m n : ℕ) (w : World) (a b : Ran) → Continues m n b → run n a.world a.frames ≡ Some b → (o : Option Next) →
    stepping o (λ next. run m (after next w) next.frames) ≡ Some a → stepping o (λ next. run (m + n) (after next w) next.frames) ≡ Some (joined a b)
step_on m n w a b on k None h = cc
step_on m n w a b on k (Some next) h =
    let one = begun_is next (run m (after next w) next.frames) a h in
    let more = on (after next w) next.frames one.rest one.is (subst (λ (x : Ran). run n x.world x.frames ≡ Some b) (sym one.gives) k) in
    rw more (ap Some (first_more next one.rest b ∙ ap (λ (x : Ran). joined x b) one.gives))

-- a run goes on with another one
pub run_on : (m n : ℕ) (b : Ran) → Continues m n b
run_on zero n b w frames a h k =
    let e : record { world = w; frames = frames; acts = []; left = [] } ≡ a = some_is _ a h in
    let none : zero + n ≡ n = omega arith in
    rw (none, ← e) (subst (λ (x : Ran). run n x.world x.frames ≡ Some b) (sym e) k)
run_on (suc m) n b w frames a h k =
    let more : suc m + n ≡ suc (m + n) = omega arith in
    rw more (step_on m n w a b (run_on m n b) k (row w frames) h)
