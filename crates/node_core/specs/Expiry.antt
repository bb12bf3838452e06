-- What the expiry of limits leaves of a queue, and does.
use Rattle.std.specs.Prelude.{ℕ, nat_le, not, List, map}
use Rattle.std.specs.List.{filter}
use Rattle.world_types.specs.Limits.{Limit}
use Rattle.world_types.specs.declared.effects.Effects.{Effects}
use Rattle.world_types.specs.declared.effects.Mark.{Mark}
use Rattle.world_types.specs.declared.effects.Mark.TheVariants as mark
use Rattle.world_rules.specs.Plain.{nothing}

-- the limits at or before t
abbrev pub by : ℕ → List Limit → List Limit
by t limits = filter (λ (l : Limit). nat_le l.0 t) limits

-- the limits after t
abbrev pub after : ℕ → List Limit → List Limit
after t limits = filter (λ (l : Limit). not (nat_le l.0 t)) limits

abbrev pub expired_marks : List Limit → List Mark
expired_marks limits = map (λ (l : Limit). mark.Expired l.1) limits

-- a mark for each limit at or before t, in order
abbrev pub expiry_of : ℕ → List Limit → Effects
expiry_of t limits = record nothing { marks = expired_marks (by t limits) }
