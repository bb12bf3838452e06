-- The cut doesn't fall as time rises, and an opening or a closing changes it at no earlier time.
use Rattle.std.proofs.Common.{◌≡◌, ℕ, ◌+◌, ◌-◌, ◌≤◌, Bool, true, false, List, [], ◌∷◌, Option, Some, None, is_none, refl, ap, arith, inl, inr}
use Rattle.std.proofs.lemmas.Bool.{cases_lt}
use Rattle.world_types.specs.Rounds.{Round, is_open, opened, closed_at, closed, end_at, halted_time, cut, EndsBy, IsOver, AllOver, Ordered}

-- ---- it doesn't fall

over_end : (o : Option ℕ) (s t u : ℕ) → IsOver o s → s ≤ t → t ≤ u → end_at o u ≡ end_at o t
over_end None s t u h k l = elim h [ ]
over_end (Some b) s t u h k l = omega arith

-- what is over stands still
still : (rs : List Round) (s t u : ℕ) → AllOver rs s → s ≤ t → t ≤ u → halted_time rs u ≡ halted_time rs t
still [] s t u h k l = refl
still (r ∷ rs) s t u h k l =
    let a = over_end r.closes s t u h.1 k l in
    let b : halted_time rs u ≡ halted_time rs t = still rs r.opens t u h.2 (omega (arith, h.0)) l in
    omega (arith, a, b)

end_mono : (o : Option ℕ) (t u : ℕ) → t ≤ u → end_at o u ≤ end_at o t + (u - t)
end_mono None t u h = omega arith
end_mono (Some b) t u h = omega arith

end_late : (o : Option ℕ) (t : ℕ) → end_at o t ≤ t
end_late None t = omega arith
end_late (Some b) t = omega arith

-- time halted rises no faster than time
slow_behind : (o : Option ℕ) (a : ℕ) (rs : List Round) (t u : ℕ) → AllOver rs a → ((v w : ℕ) → v ≤ w → halted_time rs w ≤ halted_time rs v + (w - v)) → t ≤ u → (end_at o u - a) + halted_time rs u ≤ (end_at o t - a) + halted_time rs t + (u - t)
slow_behind o a rs t u h again l = elim (cases_lt a t) [
  | inl at ↦ omega (arith, still rs a t u h (omega arith) l, end_mono o t u l)
  | inr ta ↦ elim (cases_lt a u) [
    | inl au ↦ omega (arith, still rs a a u h (omega arith) (omega arith), again t a ta, end_late o u)
    | inr ua ↦ omega (arith, again t u l, end_late o u)
  ]
]

slow_over : (rs : List Round) (s t u : ℕ) → AllOver rs s → t ≤ u → halted_time rs u ≤ halted_time rs t + (u - t)
slow_over [] s t u h l = omega arith
slow_over (r ∷ rs) s t u h l = slow_behind r.closes r.opens rs t u h.2 (λ v w k. slow_over rs r.opens v w h.2 k) l

slow : (rs : List Round) (s t u : ℕ) → Ordered rs s → t ≤ u → halted_time rs u ≤ halted_time rs t + (u - t)
slow [] s t u h l = omega arith
slow (r ∷ rs) s t u h l = slow_behind r.closes r.opens rs t u h.2 (λ v w k. slow_over rs r.opens v w h.2 k) l

pub cut_mono : (rs : List Round) (s t u : ℕ) → Ordered rs s → t ≤ u → cut rs t ≤ cut rs u
cut_mono rs s t u h l = omega (arith, slow rs s t u h l)

-- ---- what opens or closes later doesn't change it

by_test : {P : Type 0} (b : Bool) → (b ≡ true → P) → (b ≡ false → P) → P
by_test true h k = h refl
by_test false h k = k refl

time-opened : (s t : ℕ) (rs : List Round) → t ≤ s → halted_time (opened s rs) t ≡ halted_time rs t
time-opened s t rs h = by_test (is_open rs) (λ e. rw e refl) (λ e. rw e (omega arith))

pub cut-opened : (s t : ℕ) (rs : List Round) → t ≤ s → cut (opened s rs) t ≡ cut rs t
cut-opened s t rs h = ap (λ (n : ℕ). t - n) (time-opened s t rs h)

end-closed : (o : Option ℕ) (s t : ℕ) → t ≤ s → end_at (closed_at o s) t ≡ end_at o t
end-closed None s t h = omega arith
end-closed (Some b) s t h = refl

time-closed : (s t : ℕ) (rs : List Round) → t ≤ s → halted_time (closed s rs) t ≡ halted_time rs t
time-closed s t [] h = refl
time-closed s t (r ∷ rs) h = ap (λ (n : ℕ). (n - r.opens) + halted_time rs t) (end-closed r.closes s t h)

pub cut-closed : (s t : ℕ) (rs : List Round) → t ≤ s → cut (closed s rs) t ≡ cut rs t
cut-closed s t rs h = ap (λ (n : ℕ). t - n) (time-closed s t rs h)

-- ---- rounds in order, at a later stamp and with one more telling

over_later : (rs : List Round) (s t : ℕ) → AllOver rs s → s ≤ t → AllOver rs t
over_later [] s t h l = tt
over_later (r ∷ rs) s t h l = (omega (arith, h.0), over_by r.closes h.1, h.2)
  where
    over_by : (o : Option ℕ) → IsOver o s → IsOver o t
    over_by None k = elim k [ ]
    over_by (Some b) k = omega arith

pub ordered_later : (rs : List Round) (s t : ℕ) → Ordered rs s → s ≤ t → Ordered rs t
ordered_later [] s t h l = tt
ordered_later (r ∷ rs) s t h l = (omega (arith, h.0), ends_by r.closes h.1, h.2)
  where
    ends_by : (o : Option ℕ) → EndsBy s o → EndsBy t o
    ends_by None k = tt
    ends_by (Some b) k = omega arith

pub all_over : (rs : List Round) (s : ℕ) → Ordered rs s → is_open rs ≡ false → AllOver rs s
all_over [] s h e = tt
all_over (r ∷ rs) s h e = (h.0, over r.closes h.1 e, h.2)
  where
    over : (o : Option ℕ) → EndsBy s o → is_none o ≡ false → IsOver o s
    over None k q = cc
    over (Some b) k q = k

pub ordered_opened : (s : ℕ) (rs : List Round) → Ordered rs s → Ordered (opened s rs) s
ordered_opened s rs h = by_test (is_open rs) (λ e. rw e h) (λ e. rw e (omega arith, tt, all_over rs s h e))

pub ordered_closed : (s : ℕ) (rs : List Round) → Ordered rs s → Ordered (closed s rs) s
ordered_closed s [] h = tt
ordered_closed s (r ∷ rs) h = (h.0, ends r.closes h.1, h.2)
  where
    ends : (o : Option ℕ) → EndsBy s o → EndsBy s (closed_at o s)
    ends None k = omega arith
    ends (Some b) k = k
