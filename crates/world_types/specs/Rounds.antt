-- Rounds, in which nodes are halted, and the time that is left without them. Lists of rounds have the newest first.
use Rattle.std.specs.Prelude.{ℕ, ◌+◌, ◌-◌, ◌≤◌, min, Bool, true, false, List, [], ◌∷◌, Option, Some, None, is_none, if◌then◌else◌, nat_le}

-- a round opens at one stamp and closes at another, unless it is still open
pub record Round : Type 0 where
  pub opens : ℕ
  pub closes : Option ℕ

-- the newest round hasn't closed
abbrev pub is_open : List Round → Bool
is_open [] = false
is_open (r ∷ rs) = is_none r.closes

-- one more round opens at a, unless one is open
abbrev pub opened : ℕ → List Round → List Round
opened a rs = if is_open rs then rs else record { opens = a; closes = None } ∷ rs

abbrev pub closed_at : Option ℕ → ℕ → Option ℕ
closed_at None b = Some b
closed_at (Some c) b = Some c

-- the newest round closes at b, unless it has closed
abbrev pub closed : ℕ → List Round → List Round
closed b [] = []
closed b (r ∷ rs) = record { opens = r.opens; closes = closed_at r.closes b } ∷ rs

-- ---- logical time

-- where a round ends before t: an open one goes on until t
abbrev pub end_at : Option ℕ → ℕ → ℕ
end_at None t = t
end_at (Some b) t = min b t

-- the part of the rounds that lies before t: 0 for a round that opens at t or later
abbrev pub halted_time : List Round → ℕ → ℕ
halted_time [] t = 0
halted_time (r ∷ rs) t = (end_at r.closes t - r.opens) + halted_time rs t

-- a stamp less the halted time before it
abbrev pub cut : List Round → ℕ → ℕ
cut rs t = t - halted_time rs t

-- the reading isn't above the opening of the open round
abbrev pub read_by : List Round → ℕ → Bool
read_by [] r = true
read_by (x ∷ rs) r = if is_none x.closes then nat_le r x.opens else true

-- ---- rounds in order

abbrev pub EndsBy : ℕ → Option ℕ → Type 0
EndsBy s None = Unit {0}
EndsBy s (Some b) = b ≤ s

abbrev pub IsOver : Option ℕ → ℕ → Type 0
IsOver None s = ⊥
IsOver (Some b) s = b ≤ s

-- all rounds have closed by s, each before the later ones open
abbrev pub AllOver : List Round → ℕ → Type 0
AllOver [] s = Unit {0}
AllOver (r ∷ rs) s = (r.opens ≤ s) × IsOver r.closes s × AllOver rs r.opens

-- each round closes before the later ones open, and all open and close by s; the newest may be open
abbrev pub Ordered : List Round → ℕ → Type 0
Ordered [] s = Unit {0}
Ordered (r ∷ rs) s = (r.opens ≤ s) × EndsBy s r.closes × AllOver rs r.opens

-- no closing is after t
abbrev pub ClosedBy : ℕ → List Round → Type 0
ClosedBy t [] = Unit {0}
ClosedBy t (r ∷ rs) = EndsBy t r.closes × ClosedBy t rs

-- ---- what a clock keeps of the rounds that it was told

abbrev pub length_of : Round → Option ℕ → ℕ
length_of r None = 0
length_of r (Some b) = b - r.opens

-- the halted time of the closed rounds
abbrev pub total : List Round → ℕ
total [] = 0
total (r ∷ rs) = length_of r r.closes + total rs

abbrev pub opening_of : ℕ → Option ℕ → Option ℕ
opening_of a None = Some a
opening_of a (Some b) = None

-- the opening that isn't closed
abbrev pub opening : List Round → Option ℕ
opening [] = None
opening (r ∷ rs) = opening_of r.opens r.closes

abbrev pub frozen_at : Option ℕ → ℕ → ℕ
frozen_at None t = t
frozen_at (Some a) t = min t a

-- what a clock reads, from its total and its opening alone
abbrev pub clock_reads : ℕ → Option ℕ → ℕ → ℕ
clock_reads sum from t = frozen_at from t - sum
