-- How a run may end.
use Rattle.std.specs.Prelude.{◌≡◌, ◌<◌, ℕ, List, [], Option, Result, Ok, Err}
use Rattle.outside_edge.specs.Sink.{SinkTold, Wrote, CutShort}
use Rattle.pilgrim_top.specs.declared.stop.Stop.{Stop}
use Rattle.pilgrim_top.specs.declared.stop.Stop.TheVariants.{Unread, Cut, Memory}

-- the status of an end
abbrev pub status_of : Result ℕ Stop → ℕ
status_of (Ok status) = status
status_of (Err Unread) = 4
status_of (Err Cut) = 4
status_of (Err Memory) = 5

-- the counts of faults of shelf and sink, by the end: one rose exactly where a fault ended the run
abbrev pub CountsFaults : ℕ → ℕ → ℕ → ℕ → Result ℕ Stop → Type 0
CountsFaults shelf shelf' sink sink' (Ok status) = (shelf' ≡ shelf) × (sink' ≡ sink)
CountsFaults shelf shelf' sink sink' (Err Unread) = (shelf < shelf') × (sink' ≡ sink)
CountsFaults shelf shelf' sink sink' (Err Cut) = (shelf' ≡ shelf) × (sink < sink')
CountsFaults shelf shelf' sink sink' (Err Memory) = (shelf' ≡ shelf) × (sink' ≡ sink)

-- the same where no file is loaded
abbrev pub CountsPuts : {T : Type 0} → ℕ → ℕ → Result T Stop → Type 0
CountsPuts sink sink' (Ok reached) = sink' ≡ sink
CountsPuts sink sink' (Err Unread) = ⊥
CountsPuts sink sink' (Err Cut) = sink < sink'
CountsPuts sink sink' (Err Memory) = sink' ≡ sink

-- the run ends with this status and text: the text was written, or cut short, or memory ran out before it
abbrev pub Says : List ℕ → ℕ → Option SinkTold → Option SinkTold → Result ℕ Stop → Type 0
Says text status sink sink' (Ok reached) = (reached ≡ status) × Wrote sink sink' text
Says text status sink sink' (Err Unread) = ⊥
Says text status sink sink' (Err Cut) = CutShort sink sink' text
Says text status sink sink' (Err Memory) = Wrote sink sink' []
