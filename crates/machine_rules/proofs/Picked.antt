-- The number that is picked is whose turn it is.
use Rattle.std.proofs.Common.{◌≡◌, ℕ, ◌<◌, ◌≤◌, Bool, true, false, ◌&&◌, cond, eqb, ltb, List, [], ◌∷◌, Option, Some, None, inl, inr, refl, sym, arith}
use Rattle.std.specs.List.{AllByRecursion, find}
use Rattle.std.specs.Map.{lookup, keys_of}
use Rattle.std.specs.Option.{option_map, option_or}
use Rattle.std.specs.Ordering.{nat_cmp}
use Rattle.std.specs.declared.cmp.Ordering.TheVariants.{Less}
use Rattle.std.proofs.lemmas.Bool.{cases_lt}
use Rattle.std.proofs.lemmas.Bool.Decides.{nat_tests}
use Rattle.std.proofs.lemmas.Map.Keys.{sorted_head, sorted_tail}
use Rattle.std.proofs.lemmas.Option.{none-some, same_Some}
use Rattle.machine_rules.specs.declared.status.Status.{Status}
use Rattle.machine_rules.specs.declared.status.Status.TheVariants.{Ready, Sleeping, InLock, InSem, InOnce, InMaybe}
use Rattle.machine_rules.specs.Picking.{InOrder, IsNext, IsReady, PicksNext, is_ready, least_ready, picks, ready_above}

-- a number found behind another is above it
lookup_above : (a n : ℕ) (s : Status) (es : List (ℕ × Status)) → AllByRecursion (λ y. nat_cmp a y ≡ Less) (keys_of es) → lookup (eqb n) es ≡ Some s → a < n
lookup_above a n s [] above found = absurd (none-some s found)
lookup_above a n s (e ∷ es) above found = elim (cases_lt a n) [
  | inl below ↦ below
  | inr not_below ↦ grind (arith, nat_tests, above.0, lookup_above a n s es above.1)
]

ready_is : (s : Status) → is_ready s ≡ true → s ≡ Ready
ready_is Ready h = refl
ready_is Sleeping h = absurd (grind arith)
ready_is (InLock a) h = absurd (grind arith)
ready_is (InSem a) h = absurd (grind arith)
ready_is (InOnce n) h = absurd (grind arith)
ready_is (InMaybe n) h = absurd (grind arith)

is_ready_is : (s : Status) → Some s ≡ Some Ready → is_ready s ≡ true
is_ready_is s h = rw (same_Some s Ready h) refl

-- the first number that is ready and passes a test
abbrev first : (ℕ → Bool) → List (ℕ × Status) → Option ℕ
first passes es = option_map (λ (p : ℕ × Status). p.0) (find (λ (p : ℕ × Status). passes p.0 && is_ready p.1) es)

module _ (passes : ℕ → Bool) where
  -- a number is ready, passes the test, and is the least of these
  record IsLeast (es : List (ℕ × Status)) (pid : ℕ) : Type 0 where
    pub ready : IsReady es pid
    pub passing : passes pid ≡ true
    pub least : (other : ℕ) → IsReady es other → passes other ≡ true → pid ≤ other

  -- what a number found at the front is, and one found behind
  found_first : (e : ℕ × Status) (es : List (ℕ × Status)) → InOrder (e ∷ es) → (passes e.0 && is_ready e.1) ≡ true → IsLeast (e ∷ es) e.0
  found_first e es rise found =
      let status : e.1 ≡ Ready = ready_is e.1 (grind (arith, nat_tests)) in
      record {
        ready = grind (arith, nat_tests);
        passing = grind (arith, nat_tests);
        least = λ other ready passing. grind (arith, nat_tests, lookup_above e.0 other Ready es (sorted_head nat_cmp e.0 (keys_of es) rise));
      }

  found_behind : (pid : ℕ) (e : ℕ × Status) (es : List (ℕ × Status)) → InOrder (e ∷ es) → (passes e.0 && is_ready e.1) ≡ false → IsLeast es pid → IsLeast (e ∷ es) pid
  found_behind pid e es rise fails behind =
      let below : e.0 < pid = lookup_above e.0 pid Ready es (sorted_head nat_cmp e.0 (keys_of es) rise) behind.ready in
      record {
        ready = grind (arith, nat_tests, behind.ready);
        passing = behind.passing;
        least = λ other ready passing. grind (arith, nat_tests, is_ready_is e.1, behind.least other);
      }

  first_found : (pid : ℕ) (es : List (ℕ × Status)) → InOrder es → first passes es ≡ Some pid → IsLeast es pid
  first_found pid [] rise found = absurd (none-some pid found)
  first_found pid (e ∷ es) rise found =
      elim (passes e.0 && is_ready e.1) as (λ b. (passes e.0 && is_ready e.1) ≡ b → option_map (λ (p : ℕ × Status). p.0) (cond b (Some e) (find (λ (p : ℕ × Status). passes p.0 && is_ready p.1) es)) ≡ Some pid → IsLeast (e ∷ es) pid) [
        | true ↦ λ found here. rw (← same_Some e.0 pid here) (found_first e es rise found)
        | false ↦ λ fails behind. found_behind pid e es rise fails (first_found pid es (sorted_tail nat_cmp e.0 (keys_of es) rise) behind)
      ] refl found

  first_none : (es : List (ℕ × Status)) → first passes es ≡ None → (pid : ℕ) → IsReady es pid → passes pid ≡ false
  first_none [] none pid ready = absurd (none-some Ready ready)
  first_none (e ∷ es) none pid ready =
      elim (passes e.0 && is_ready e.1) as (λ b. (passes e.0 && is_ready e.1) ≡ b → option_map (λ (p : ℕ × Status). p.0) (cond b (Some e) (find (λ (p : ℕ × Status). passes p.0 && is_ready p.1) es)) ≡ None → passes pid ≡ false) [
        | true ↦ λ found here. absurd (none-some e.0 (sym here))
        | false ↦ λ fails behind. grind (arith, nat_tests, is_ready_is e.1, first_none es behind pid)
      ] refl none

module _ (last : ℕ) (es : List (ℕ × Status)) where
  next_above : (pid : ℕ) → IsLeast (ltb last) es pid → IsNext last es pid
  next_above pid found =
      let above : last < pid = grind (arith, nat_tests, found.passing) in
      record {
        ready = found.ready;
        above = λ other ready over. (above, found.least other ready (grind (arith, nat_tests)));
        from_start = λ not_above. absurd (omega (arith, above));
      }

  next_from_start : (pid : ℕ) → ready_above last es ≡ None → IsLeast (λ n. true) es pid → IsNext last es pid
  next_from_start pid none found = record {
    ready = found.ready;
    above = λ other ready over. absurd (grind (arith, nat_tests, first_none (ltb last) es none other ready));
    from_start = λ not_above other ready. found.least other ready refl;
  }

  -- what is picked is next in turn, and where nothing is none is ready
  record Answers (answer : Option ℕ) : Type 0 where
    pub next : (pid : ℕ) → answer ≡ Some pid → IsNext last es pid
    pub none : answer ≡ None → (pid : ℕ) → ¬ IsReady es pid

  answers : (above from_start : Option ℕ) → InOrder es → above ≡ ready_above last es → from_start ≡ least_ready es → Answers (option_or above from_start)
  answers (Some pid) from_start rise is_above is_start = record {
    next = λ n e. rw (← same_Some pid n e) (next_above pid (first_found (ltb last) pid es rise (sym is_above)));
    none = λ e. absurd (none-some pid (sym e));
  }
  answers None (Some pid) rise is_above is_start = record {
    next = λ n e. rw (← same_Some pid n e) (next_from_start pid (sym is_above) (first_found (λ n. true) pid es rise (sym is_start)));
    none = λ e. absurd (none-some pid (sym e));
  }
  answers None None rise is_above is_start = record {
    next = λ n e. absurd (none-some n e);
    none = λ _ pid ready. cc (first_none (λ n. true) es (sym is_start) pid ready);
  }

  -- it is the turn of one process alone
  pub next_unique : (a b : ℕ) → IsNext last es a → IsNext last es b → a ≡ b
  next_unique a b next_a next_b = elim (cases_lt last a) [
    | inl above ↦
        let b_first = next_b.above a next_a.ready above in
        let a_first = next_a.above b next_b.ready b_first.0 in
        omega (arith, a_first.1, b_first.1)
    | inr not_above ↦ elim (cases_lt last b) [
      | inl above ↦ absurd (let a_first = next_a.above b next_b.ready above in omega (arith, a_first.0))
      | inr neither ↦ omega (arith, next_a.from_start not_above b next_b.ready, next_b.from_start neither a next_a.ready)
    ]
  ]

  picks_it : (answer : Option ℕ) → Answers answer → (pid : ℕ) → IsNext last es pid → answer ≡ Some pid
  picks_it (Some n) h pid next = rw (next_unique n pid (h.next n refl) next) refl
  picks_it None h pid next = absurd (h.none refl pid next.ready)

  picks_none : (answer : Option ℕ) → Answers answer → ((pid : ℕ) → ¬ IsReady es pid) → answer ≡ None
  picks_none (Some n) h nothing = absurd (nothing n (h.next n refl).ready)
  picks_none None h nothing = refl

  pub picks_next : InOrder es → PicksNext last es
  picks_next rise =
      let h = answers (ready_above last es) (least_ready es) rise refl refl in
      record {
        next = λ pid. (h.next pid, picks_it (picks last es) h pid);
        none = (h.none, picks_none (picks last es) h);
      }

-- ---- computed: among three processes, of which the second sleeps

three : List (ℕ × Status)
three = (1, Ready) ∷ (2, Sleeping) ∷ (5, Ready) ∷ []

after_each : (picks 0 three ≡ Some 1) × (picks 1 three ≡ Some 5) × (picks 2 three ≡ Some 5) × (picks 5 three ≡ Some 1)
unfolding three
after_each = (refl, refl, refl, refl)

none_ready : picks 1 ((2, Sleeping) ∷ (3, InOnce 7) ∷ []) ≡ None
none_ready = refl
