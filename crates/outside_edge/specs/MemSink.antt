-- A sink in memory as its callers see it.
use Rattle.std.specs.Prelude.{◌≡◌, ℕ, List, ◌++◌, take, Some}
use Rattle.outside_edge.specs.Sink.{SinkTold}

-- what it tells, and how many of its puts have failed
pub record SinkSeen : Type 0 where
  pub told : SinkTold
  pub faults : ℕ

-- the beginning of the text that the room was for was taken, and no room is left
pub record Fills (text : List ℕ) (before after : SinkTold) : Type 0 where
  pub room : ℕ
  pub had : before.room ≡ Some room
  pub taken : after.taken ≡ before.taken ++ take room text
  pub none_left : after.room ≡ Some 0
