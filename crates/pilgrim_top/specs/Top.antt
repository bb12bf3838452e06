-- How a run of a command line may end.
use Rattle.std.specs.Prelude.{◌≡◌, ◌⊎◌, ℕ, List, [], ◌∷◌, ◌++◌, length, codes, Option, Result, Ok, Err, string_bytes}
use Rattle.clu_reader.specs.Accepted.{IsAccepted}
use Rattle.clu_tree.specs.declared.program.Program.{Program}
use Rattle.world_types.specs.declared.effects.Entry.{Entry}
use Rattle.world_rules.specs.Transcript.{transcript}
use Rattle.outside_edge.specs.Told.{Tells}
use Rattle.outside_edge.specs.Shelf.{ShelfTold, Loads}
use Rattle.outside_edge.specs.Sink.{SinkTold, Exceeds, Wrote}
use Rattle.outside_edge.specs.declared.shelf.LoadFault.TheVariants.{Failed}
use Rattle.pilgrim_top.specs.Ends.{Says}
use Rattle.pilgrim_top.specs.Replay.{IsRefusedProgram, Replays}
use Rattle.pilgrim_top.specs.Script.{Applied, Finishes}
use Rattle.pilgrim_top.specs.Usage.{IsUsage}
use Rattle.pilgrim_top.specs.declared.usage.Usage.{Usage}
use Rattle.pilgrim_top.specs.declared.usage.Usage.TheVariants.{Check, Replay, Erase, Load, Run}
use Rattle.pilgrim_top.specs.declared.stop.Stop.{Stop}
use Rattle.pilgrim_top.specs.declared.stop.Stop.TheVariants.{Memory}

abbrev pub usage_text : List ℕ
usage_text = codes "usage: check, replay, erase, load or run" ++ 10 ∷ []

-- nothing is loaded and no entry made, and the usage text is written
pub record ShowsUsage (shelf shelf' : Option ShelfTold) (sink sink' : Option SinkTold) (journal : List Entry) (end : Result ℕ Stop) : Type 0 where
  pub unread : shelf' ≡ shelf
  pub noted : journal ≡ []
  pub says : Says usage_text 1 sink sink' end

-- what a usage does: those that can't be run yet show the usage
abbrev pub Does : Usage → Option ShelfTold → Option ShelfTold → Option SinkTold → Option SinkTold → List Entry → Result ℕ Stop → Type 0
Does (Replay file script) = Replays (string_bytes file) (string_bytes script)
Does (Check file) = ShowsUsage
Does (Erase file script) = ShowsUsage
Does (Load calls) = ShowsUsage
Does (Run words) = ShowsUsage

-- What words do: they ask for a usage, which is done, or they are outside the grammar, or memory runs out before they
-- are read.
pub data WordsDo (words : List (List ℕ)) (shelf shelf' : Option ShelfTold) (sink sink' : Option SinkTold) (journal : List Entry) (end : Result ℕ Stop) : Type 0 where
  asked : (usage : Usage) → IsUsage usage words → Does usage shelf shelf' sink sink' journal end → WordsDo words shelf shelf' sink sink' journal end
  outside : ((usage : Usage) → IsUsage usage words → ⊥) → ShowsUsage shelf shelf' sink sink' journal end → WordsDo words shelf shelf' sink sink' journal end
  unread : shelf' ≡ shelf → journal ≡ [] → Wrote sink sink' [] → end ≡ Err Memory → WordsDo words shelf shelf' sink sink' journal end

-- ---- why a run stopped at a fault

-- a load of a replay failed: of the file, or of the script of an accepted program
pub data LoadFailed (file script : List ℕ) (shelf shelf' : Option ShelfTold) : Type 0 where
  first : Loads file shelf shelf' (Err Failed) → LoadFailed file script shelf shelf'
  second : (bytes : List ℕ) (program : Program) (mid : Option ShelfTold) → Loads file shelf mid (Ok bytes) → IsAccepted bytes program →
      Loads script mid shelf' (Err Failed) → LoadFailed file script shelf shelf'

-- what a usage loads, and why that failed
abbrev pub LoadCause : Usage → Option ShelfTold → Option ShelfTold → Type 0
LoadCause (Replay file script) shelf shelf' = LoadFailed (string_bytes file) (string_bytes script) shelf shelf'
LoadCause (Check file) shelf shelf' = ⊥
LoadCause (Erase file script) shelf shelf' = ⊥
LoadCause (Load calls) shelf shelf' = ⊥
LoadCause (Run words) shelf shelf' = ⊥

-- the room at the start was less than the bytes that stand for the journal and for this text
abbrev pub RoomLacks : Option SinkTold → Option SinkTold → List Entry → List ℕ → Type 0
RoomLacks sink sink' journal text = Tells sink sink' (λ before after. Exceeds before.room (length (transcript journal ++ text)))

-- the text of the status that a replay with these entries would have had, or no text, where the entries alone are too long
pub data EndText (file script : List ℕ) (shelf shelf' : Option ShelfTold) (journal : List Entry) : List ℕ → Type 0 where
  no_text : EndText file script shelf shelf' journal []
  of_program : (bytes text : List ℕ) → Loads file shelf shelf' (Ok bytes) → IsRefusedProgram bytes text → EndText file script shelf shelf' journal text
  of_script : (bytes lines rest : List ℕ) (program : Program) (mid : Option ShelfTold) (count status : ℕ) (text : List ℕ) →
      Loads file shelf mid (Ok bytes) → IsAccepted bytes program → Loads script mid shelf' (Ok lines) → Applied program lines journal rest count →
      Finishes program journal rest count status text → EndText file script shelf shelf' journal text

-- what a usage writes, and that the room was less than that
abbrev pub RoomCause : Usage → Option ShelfTold → Option ShelfTold → Option SinkTold → Option SinkTold → List Entry → Type 0
RoomCause (Replay file script) shelf shelf' sink sink' journal = (text : List ℕ) × EndText (string_bytes file) (string_bytes script) shelf shelf' journal text × RoomLacks sink sink' journal text
RoomCause (Check file) shelf shelf' sink sink' journal = RoomLacks sink sink' journal usage_text
RoomCause (Erase file script) shelf shelf' sink sink' journal = RoomLacks sink sink' journal usage_text
RoomCause (Load calls) shelf shelf' sink sink' journal = RoomLacks sink sink' journal usage_text
RoomCause (Run words) shelf shelf' sink sink' journal = RoomLacks sink sink' journal usage_text

-- the same for words, which ask for a usage or are outside the grammar
abbrev pub WordsRoomCause : List (List ℕ) → Option ShelfTold → Option ShelfTold → Option SinkTold → Option SinkTold → List Entry → Type 0
WordsRoomCause words shelf shelf' sink sink' journal =
    ((usage : Usage) × IsUsage usage words × RoomCause usage shelf shelf' sink sink' journal)
    ⊎ (((usage : Usage) → IsUsage usage words → ⊥) × RoomLacks sink sink' journal usage_text)
