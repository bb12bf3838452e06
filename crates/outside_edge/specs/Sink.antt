-- What a sink tells of itself, and what a put does to it.
use Rattle.std.specs.Prelude.{◌≡◌, ◌<◌, ℕ, ◌+◌, ◌-◌, ◌^◌, nat_lt, if◌then◌else◌, List, [], ◌++◌, length, Option, Some, None, Result, Ok, Err, OnOk, IsErrOf}
use Rattle.outside_edge.specs.Told.{Tells}
use Rattle.outside_edge.specs.declared.sink.PutFault.{PutFault}
use Rattle.outside_edge.specs.declared.sink.PutFault.TheVariants.{Failed, Memory}

-- the bytes taken so far, and the room that is left, if it has a bound
pub record SinkTold : Type 0 where
  pub taken : List ℕ
  pub room : Option ℕ

-- the room fell by n
abbrev pub Falls : Option ℕ → Option ℕ → ℕ → Type 0
Falls None None n = Unit {0}
Falls None (Some s) n = ⊥
Falls (Some r) None n = ⊥
Falls (Some r) (Some s) n = r ≡ s + n

-- n bytes are more than the room
abbrev pub Exceeds : Option ℕ → ℕ → Type 0
Exceeds None n = ⊥
Exceeds (Some r) n = r < n

-- the text was taken, and the room, which it fitted in, fell by its length
pub record TakesText (text : List ℕ) (before after : SinkTold) : Type 0 where
  pub taken : after.taken ≡ before.taken ++ text
  pub room : Falls before.room after.room (length text)

-- a beginning of the text was taken, the room fell by its length, and the whole text is more than the room
pub record TakesPart (text : List ℕ) (before after : SinkTold) : Type 0 where
  pub part : List ℕ
  pub rest : List ℕ
  pub whole : text ≡ part ++ rest
  pub taken : after.taken ≡ before.taken ++ part
  pub room : Falls before.room after.room (length part)
  pub more : Exceeds before.room (length text)

-- the text was written, as far as the sink tells
pub record Wrote (old new : Option SinkTold) (text : List ℕ) : Type 0 where
  pub tells : Tells old new (TakesText text)

-- the text, for which the room was too small, was cut short, as far as the sink tells
pub record CutShort (old new : Option SinkTold) (text : List ℕ) : Type 0 where
  pub tells : Tells old new (TakesPart text)

-- a beginning of the text was written, as far as the sink tells
pub record Began (old new : Option SinkTold) (text : List ℕ) : Type 0 where
  pub part : List ℕ
  pub rest : List ℕ
  pub whole : text ≡ part ++ rest
  pub wrote : Wrote old new part

-- the count of faults rises exactly in a put that answers Failed
abbrev pub CountsPut : {T : Type 0} → ℕ → ℕ → Result T PutFault → Type 0
CountsPut before now (Ok x) = now ≡ before
CountsPut before now (Err Failed) = before < now
CountsPut before now (Err Memory) = now ≡ before

-- what a put answers that fails: Failed, and Memory where the count of faults stands at the end of its type
abbrev pub fault_at : ℕ → PutFault
fault_at faults = if nat_lt faults (2 ^ 64 - 1) then Failed else Memory

-- what a put of a piece did: it wrote the whole piece at Ok, cut it short at Failed and wrote nothing at Memory
pub record Puts {T : Type 0} (old new : Option SinkTold) (piece : List ℕ) (result : Result T PutFault) : Type 0 where
  pub ok : OnOk result (Wrote old new piece)
  pub failed : IsErrOf result Failed → CutShort old new piece
  pub memory : IsErrOf result Memory → Wrote old new []

-- what puts of pieces that make the text did: they wrote all of it at Ok, cut it short at Failed and wrote a beginning
-- of it at Memory
pub record PutsAll {T : Type 0} (old new : Option SinkTold) (text : List ℕ) (result : Result T PutFault) : Type 0 where
  pub ok : OnOk result (Wrote old new text)
  pub failed : IsErrOf result Failed → CutShort old new text
  pub memory : IsErrOf result Memory → Began old new text
