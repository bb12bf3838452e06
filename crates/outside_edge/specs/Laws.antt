-- The laws of what a sink tells over puts in a row.
use Rattle.std.specs.Prelude.{List, [], ◌++◌, length, ℕ, Option}
use Rattle.outside_edge.specs.Told.{Tells}
use Rattle.outside_edge.specs.Sink.{SinkTold, Exceeds, Wrote, CutShort, Began}

-- Of no put at all; of one text behind another; of a text and then one that is cut short, or of which a beginning is
-- written; and of what was cut short, which is more than the room at the start.
pub record RowLaws : Type 0 where
  pub nothing : (a : Option SinkTold) → Wrote a a []
  pub whole : (a b c : Option SinkTold) (x y : List ℕ) → Wrote a b x → Wrote b c y → Wrote a c (x ++ y)
  pub cut : (a b c : Option SinkTold) (x y : List ℕ) → Wrote a b x → CutShort b c y → CutShort a c (x ++ y)
  pub began : (a b c : Option SinkTold) (x y : List ℕ) → Wrote a b x → Began b c y → Began a c (x ++ y)
  pub lacks : (a c : Option SinkTold) (x : List ℕ) → CutShort a c x → Tells a c (λ before after. Exceeds before.room (length x))
