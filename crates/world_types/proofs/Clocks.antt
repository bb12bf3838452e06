-- A clock that keeps a total and an opening reads the cut.
use Rattle.std.proofs.Common.{◌≡◌, ℕ, ◌+◌, ◌-◌, ◌≤◌, min, List, [], ◌∷◌, Option, Some, None, refl, sym, arith}
use Rattle.world_types.specs.Rounds.{Round, end_at, halted_time, cut, EndsBy, IsOver, AllOver, Ordered, ClosedBy, length_of, total, opening_of, opening, clock_reads}

over_by : (o : Option ℕ) (a t : ℕ) → IsOver o a → a ≤ t → EndsBy t o
over_by None a t h l = tt
over_by (Some b) a t h l = omega (arith, h)

pub all_over-closed : (rs : List Round) (a t : ℕ) → AllOver rs a → a ≤ t → ClosedBy t rs
all_over-closed [] a t h l = tt
all_over-closed (r ∷ rs) a t h l = (over_by r.closes a t h.1 l, all_over-closed rs r.opens t h.2 (omega (arith, h.0)))

ends_by : (o : Option ℕ) (s t : ℕ) → EndsBy s o → s ≤ t → EndsBy t o
ends_by None s t h l = tt
ends_by (Some b) s t h l = omega (arith, h)

-- no closing is after a stamp that isn't below the last
pub ordered-closed : (rs : List Round) (s t : ℕ) → Ordered rs s → s ≤ t → ClosedBy t rs
ordered-closed [] s t h l = tt
ordered-closed (r ∷ rs) s t h l = (ends_by r.closes s t h.1 l, all_over-closed rs r.opens t h.2 (omega (arith, h.0)))

over_length : (r : Round) (o : Option ℕ) (a t : ℕ) → IsOver o a → EndsBy t o → end_at o t - r.opens ≡ length_of r o
over_length r None a t h c = elim h [ ]
over_length r (Some b) a t h c = let e : min b t ≡ b = omega (arith, c) in rw e refl

over_total : (rs : List Round) (a t : ℕ) → AllOver rs a → ClosedBy t rs → halted_time rs t ≡ total rs
over_total [] a t h c = refl
over_total (r ∷ rs) a t h c = rw (over_length r r.closes a t h.1 c.0, over_total rs r.opens t h.2 c.1) refl

head_reads : (r : Round) (o : Option ℕ) (t sum : ℕ) → EndsBy t o → t - ((end_at o t - r.opens) + sum) ≡ clock_reads (length_of r o + sum) (opening_of r.opens o) t
head_reads r None t sum c = omega arith
head_reads r (Some b) t sum c = omega (arith, c)

pub reads_cut : (rs : List Round) (s t : ℕ) → Ordered rs s → ClosedBy t rs → clock_reads (total rs) (opening rs) t ≡ cut rs t
reads_cut [] s t h c = omega arith
reads_cut (r ∷ rs) s t h c = rw (over_total rs r.opens t h.2 c.1) (sym (head_reads r r.closes t (total rs) c.0))
