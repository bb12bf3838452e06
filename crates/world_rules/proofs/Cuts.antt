-- The rounds of a list in time are in order.
use Rattle.std.proofs.Common.{ℕ, List, [], ◌∷◌}
use Rattle.world_types.specs.Rounds.{Round, Ordered}
use Rattle.world_types.specs.declared.event.Event.{Event}
use Rattle.world_types.specs.declared.event.Event.TheVariants.{Stop, HaltAll, ResumeAll}
use Rattle.world_types.specs.declared.event.Told.{Told}
use Rattle.world_types.proofs.Cuts.{ordered_later, ordered_opened, ordered_closed}
use Rattle.world_rules.specs.Said.{rounds_by, rounds}
use Rattle.world_rules.specs.Legal.{InTime}

ordered_by : (s : ℕ) (e : Event) (rs : List Round) → Ordered rs s → Ordered (rounds_by s e rs) s
ordered_by s (Stop n) rs h = ordered_opened s rs h
ordered_by s HaltAll rs h = ordered_opened s rs h
ordered_by s (ResumeAll u) rs h = ordered_closed s rs h
ordered_by s e rs h = h

pub rounds_ordered : (s : ℕ) (past : List Told) → InTime s past → Ordered (rounds past) s
rounds_ordered s [] h = tt
rounds_ordered s (e ∷ past) h =
    ordered_later (rounds (e ∷ past)) e.stamp s (ordered_by e.stamp e.event (rounds past) (rounds_ordered e.stamp past h.2)) h.0
