-- What a clock reads from its three values is the cut, at each time that isn't below the last stamp told.
use Rattle.std.proofs.Common.{◌≡◌, ℕ, ◌-◌, ◌≤◌, List, [], ◌∷◌, Option, Some, None, unwrap_or, refl, arith}
use Rattle.world_types.specs.Rounds.{Round, cut, Ordered, opening_of, opening, frozen_at}
use Rattle.world_types.proofs.Clocks.{ordered-closed, reads_cut}
use Rattle.logical_clock.specs.Kept.{Kept, StandsFor}

-- an opening that isn't after t is where the clock stands
opening_first : (o : Option ℕ) (a t : ℕ) → a ≤ t → unwrap_or (opening_of a o) t ≡ frozen_at (opening_of a o) t
opening_first None a t l = omega arith
opening_first (Some b) a t l = refl

frozen : (rounds : List Round) (s t : ℕ) → Ordered rounds s → s ≤ t → unwrap_or (opening rounds) t ≡ frozen_at (opening rounds) t
frozen [] s t in_order l = refl
frozen (r ∷ rounds) s t in_order l = opening_first r.closes r.opens t (omega (arith, in_order.0))

pub stands_reads : (kept : Kept) (rounds : List Round) (t : ℕ) → StandsFor kept rounds → kept.last ≤ t → unwrap_or kept.opening t - kept.total ≡ cut rounds t
stands_reads kept rounds t stands l =
    rw (stands.opening, stands.total, frozen rounds kept.last t stands.in_order l)
    (reads_cut rounds kept.last t stands.in_order (ordered-closed rounds kept.last t stands.in_order l))
