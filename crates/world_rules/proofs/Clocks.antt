-- A clock that lags reads the cut where a node needs it.
use Rattle.std.proofs.Common.{◌≡◌, ℕ, zero, suc, ◌≤◌, Bool, true, false, not, inl, inr, List, [], ◌∷◌, ◌==◌, length, Option, Some, None, refl, sym, ap, arith}
use Rattle.std.proofs.lemmas.Bool.{eqb-true, cases_lt}
use Rattle.world_types.specs.Rounds.{Round, is_open, opened, closed, closed_at, cut, read_by, EndsBy, Ordered, ClosedBy}
use Rattle.world_types.specs.declared.event.Event.{Event}
use Rattle.world_types.specs.declared.event.Event.TheVariants.{Turn, Packet, Tick, Stop, Halt, Resume, Ask, Answer, Set, Clear, HaltAll, ResumeAll}
use Rattle.world_types.specs.declared.event.Told.{Told}
use Rattle.world_types.proofs.Clocks.{all_over-closed}
use Rattle.world_types.proofs.Cuts.{all_over}
use Rattle.world_rules.specs.Plain.{Rules, World}
use Rattle.world_rules.specs.Said.{halted, all_halted, last_of, rounds}
use Rattle.world_rules.specs.Legal.{tests}
use Rattle.world_rules.specs.Clock.{Behind, Lacks, KnowsBy, Knows}
use Rattle.world_rules.proofs.Following.{by_test, AllPass, and_left, and_right, le_true}

-- ---- a running node's last stamp is after all closings

pub closed_later : (rs : List Round) (t u : ℕ) → ClosedBy t rs → t ≤ u → ClosedBy u rs
closed_later [] t u h l = tt
closed_later (r ∷ rs) t u h l = (later r.closes h.0, closed_later rs t u h.1 l)
  where
    later : (o : Option ℕ) → EndsBy t o → EndsBy u o
    later None k = tt
    later (Some b) k = omega (arith, k, l)

closed_opened : (rs : List Round) (s t : ℕ) → ClosedBy t rs → ClosedBy t (opened s rs)
closed_opened rs s t h = by_test (is_open rs) (λ e. rw e h) (λ e. rw e (tt, h))

pub all_halted-at : (n k : ℕ) (past : List Told) → all_halted k past ≡ true → 1 ≤ n → n ≤ k → halted n past ≡ true
all_halted-at n zero past h l m = absurd (omega (arith, l, m))
all_halted-at n (suc k) past h l m = elim (cases_lt n (suc k)) [
  | inl lt ↦ all_halted-at n k past (and_right (halted (suc k) past) (all_halted k past) h) l (omega (arith, lt))
  | inr ge ↦ let e : n ≡ suc k = omega (arith, ge, m) in rw e (and_left (halted (suc k) past) (all_halted k past) h)
]

not_true : (b : Bool) → not b ≡ true → b ≡ false
not_true true h = cc
not_true false h = refl

true_false : {P : Type 0} (b : Bool) → b ≡ true → b ≡ false → P
true_false true h k = cc
true_false false h k = cc

-- ---- a clock that lags

-- at each reading of a running node that isn't above the opening
pub lacks_reads : (told rs : List Round) (t : ℕ) → Lacks told rs → read_by rs t ≡ true → cut told t ≡ cut rs t
lacks_reads told rs t (inl e) h = rw e refl
lacks_reads told rs t (inr (a, e)) h =
    let l : t ≤ a = le_true t a (rw e at h) in
    rw e (omega (arith, l))

-- where no round is open it was told all
pub lacks_none : (told rs : List Round) → Lacks told rs → is_open rs ≡ false → told ≡ rs
lacks_none told rs (inl e) h = e
lacks_none told rs (inr (a, e)) h = true_false true refl (rw e at h)

behind_all : (rs : List Round) → Behind rs rs
behind_all [] = refl
behind_all (r ∷ rs) = inl refl

behind_lacks : (told rs : List Round) → Lacks told rs → Behind told rs
behind_lacks told rs (inl e) = rw e (behind_all rs)
behind_lacks told rs (inr (a, e)) = rw e (inr (inr (behind_all told)))

behind_opened : (told rs : List Round) (s : ℕ) → Behind told rs → Behind told (opened s rs)
behind_opened told rs s h = by_test (is_open rs) (λ e. rw e h) (λ e. rw e (inr (inr h)))

lacks_opened : (told rs : List Round) (s : ℕ) → Lacks told rs → Lacks told (opened s rs)
lacks_opened told rs s h = by_test (is_open rs) (λ e. rw e h) (λ e. rw e (inr (s, ap (λ (xs : List Round). record { opens = s; closes = None } ∷ xs) (sym (lacks_none told rs h e)))))

behind_close : (told rs : List Round) (a s : ℕ) (o : Option ℕ) → Behind told (record { opens = a; closes = o } ∷ rs) → Behind told (record { opens = a; closes = closed_at o s } ∷ rs)
behind_close told rs a s None (inl e) = inr (inl e)
behind_close told rs a s None (inr h) = inr h
behind_close told rs a s (Some b) h = h

behind_closed : (told rs : List Round) (s : ℕ) → Behind told rs → Behind told (closed s rs)
behind_closed told [] s h = h
behind_closed told (r ∷ rs) s h = behind_close told rs r.opens s r.closes h

knows_opened : (b : Bool) (told rs : List Round) (s : ℕ) → KnowsBy b told rs → KnowsBy b told (opened s rs)
knows_opened true told rs s h = behind_opened told rs s h
knows_opened false told rs s h = lacks_opened told rs s h

pub zero_not : (n : ℕ) → 1 ≤ n → (0 == n) ≡ false
zero_not n l = by_test (0 == n) (λ e. absurd (omega (arith, l, eqb-true 0 n e))) (λ e. e)

-- ---- one entry more

module _ {S : Type 0} (rules : Rules S) (w : World S) (p : Option (ℕ × ℕ)) where
  pub closed_more : (n s : ℕ) (e : Event) (past : List Told) → AllPass (tests rules w p past s e) → 1 ≤ n → n ≤ length w → Ordered (rounds past) s → last_of n past ≤ s →
      (halted n past ≡ false → ClosedBy (last_of n past) (rounds past)) →
      halted n (record { stamp = s; event = e } ∷ past) ≡ false → ClosedBy (last_of n (record { stamp = s; event = e } ∷ past)) (rounds (record { stamp = s; event = e } ∷ past))
  closed_more n s (Turn m k r) past h a b o l c q = by_test (m == n) (λ g. rw g (closed_later (rounds past) (last_of n past) s (c (rw g at q)) l)) (λ g. rw g (c (rw g at q)))
  closed_more n s (Packet m f j) past h a b o l c q = by_test (m == n) (λ g. rw g (closed_later (rounds past) (last_of n past) s (c (rw g at q)) l)) (λ g. rw g (c (rw g at q)))
  closed_more n s (Tick m) past h a b o l c q = by_test (m == n) (λ g. rw g (closed_later (rounds past) (last_of n past) s (c (rw g at q)) l)) (λ g. rw g (c (rw g at q)))
  closed_more n s (Stop m) past h a b o l c q = by_test (m == n) (λ g. true_false true refl (rw g at q)) (λ g. rw g (closed_opened (rounds past) s (last_of n past) (c (rw g at q))))
  closed_more n s (Halt m) past h a b o l c q = by_test (m == n) (λ g. true_false true refl (rw g at q)) (λ g. rw g (c (rw g at q)))
  closed_more n s (Resume m) past h a b o l c q = by_test (m == n)
      (λ g. rw g (all_over-closed (rounds past) s s (all_over (rounds past) s o (not_true (is_open (rounds past)) h.1.0)) (omega arith)))
      (λ g. rw g (c (rw g at q)))
  closed_more n s (Ask m x) past h a b o l c q = by_test (m == n) (λ g. rw g (c (rw g at q))) (λ g. rw g (c (rw g at q)))
  closed_more n s (Answer m) past h a b o l c q = by_test (m == n) (λ g. rw g (closed_later (rounds past) (last_of n past) s (c (rw g at q)) l)) (λ g. rw g (c (rw g at q)))
  closed_more n s (Set m x) past h a b o l c q = by_test (m == n) (λ g. rw g (c (rw g at q))) (λ g. rw g (c (rw g at q)))
  closed_more n s (Clear m x) past h a b o l c q = by_test (m == n) (λ g. rw g (c (rw g at q))) (λ g. rw g (c (rw g at q)))
  closed_more n s HaltAll past h a b o l c q = let g = zero_not n a in rw g (closed_opened (rounds past) s (last_of n past) (c (rw g at q)))
  closed_more n s (ResumeAll u) past h a b o l c q =
      let g = zero_not n a in
      true_false (halted n past) (all_halted-at n (length w) past h.1.0 a b) (rw g at q)
  closed_more n s e past h a b o l c q = let g = zero_not n a in rw g (c (rw g at q))

  -- a node that is told nothing new knows the list after each entry, if it was told all before it resumes
  pub knows_more : (n s : ℕ) (e : Event) (past : List Told) (known : List Round) → AllPass (tests rules w p past s e) → 1 ≤ n → n ≤ length w →
      (e ≡ Resume n → known ≡ rounds past) → Knows n past known → Knows n (record { stamp = s; event = e } ∷ past) known
  knows_more n s (Turn m k r) past known h a b all c = by_test (m == n) (λ g. rw g c) (λ g. rw g c)
  knows_more n s (Packet m f j) past known h a b all c = by_test (m == n) (λ g. rw g c) (λ g. rw g c)
  knows_more n s (Tick m) past known h a b all c = by_test (m == n) (λ g. rw g c) (λ g. rw g c)
  knows_more n s (Stop m) past known h a b all c = by_test (m == n)
      (λ g. rw g (behind_opened known (rounds past) s (behind_lacks known (rounds past) (running m n past (eqb-true m n g) h.0 c))))
      (λ g. rw g (knows_opened (halted n past) known (rounds past) s c))
    where
      running : (m n : ℕ) (past : List Told) → m ≡ n → not (halted m past) ≡ true → KnowsBy (halted n past) known (rounds past) → Lacks known (rounds past)
      running m n past e q c = let z : halted n past ≡ false = rw (← e) (not_true (halted m past) q) in rw z at c
  knows_more n s (Halt m) past known h a b all c = by_test (m == n)
      (λ g. rw g (behind_lacks known (rounds past) (running m n past (eqb-true m n g) h.0 c)))
      (λ g. rw g c)
    where
      running : (m n : ℕ) (past : List Told) → m ≡ n → not (halted m past) ≡ true → KnowsBy (halted n past) known (rounds past) → Lacks known (rounds past)
      running m n past e q c = let z : halted n past ≡ false = rw (← e) (not_true (halted m past) q) in rw z at c
  knows_more n s (Resume m) past known h a b all c = by_test (m == n)
      (λ g. rw g (inl (all (ap (λ (k : ℕ). Resume k) (eqb-true m n g)))))
      (λ g. rw g c)
  knows_more n s (Ask m x) past known h a b all c = by_test (m == n) (λ g. rw g c) (λ g. rw g c)
  knows_more n s (Answer m) past known h a b all c = by_test (m == n) (λ g. rw g c) (λ g. rw g c)
  knows_more n s (Set m x) past known h a b all c = by_test (m == n) (λ g. rw g c) (λ g. rw g c)
  knows_more n s (Clear m x) past known h a b all c = by_test (m == n) (λ g. rw g c) (λ g. rw g c)
  knows_more n s HaltAll past known h a b all c = let g = zero_not n a in rw g (knows_opened (halted n past) known (rounds past) s c)
  knows_more n s (ResumeAll u) past known h a b all c =
      let g = zero_not n a in
      let z = all_halted-at n (length w) past h.1.0 a b in
      let c' : Behind known (rounds past) = rw z at c in
      rw (g, z) (behind_closed known (rounds past) s c')
  knows_more n s e past known h a b all c = let g = zero_not n a in rw g c
