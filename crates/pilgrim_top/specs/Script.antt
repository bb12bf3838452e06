-- How a journal stands for the lines of a script, and where a script is refused.
use Rattle.std.specs.Prelude.{◌≡◌, ◌≢◌, ◌⊎◌, ◌≤◌, ℕ, ◌+◌, List, [], ◌∷◌, ◌++◌, All, length, reverse, codes, decimal, Bool, true, false, Option, Some, Result, Ok, Err}
use Rattle.std.specs.List.{flat_map}
use Rattle.clu_tree.specs.declared.program.Program.{Program}
use Rattle.world_types.specs.declared.event.Event.{Event}
use Rattle.world_types.specs.declared.event.Event.TheVariants.{Turn, Tick}
use Rattle.world_types.specs.declared.event.Told.{Told}
use Rattle.world_types.specs.declared.effects.Entry.{Entry}
use Rattle.world_rules.specs.Laws.{past_of}
use Rattle.world_rules.specs.Legal.{ArePlain, first_failing, settled, told, tolds}
use Rattle.world_rules.specs.Node.{IsLegal, first_of_program, rules_of}
use Rattle.world_rules.specs.Transcript.{transcript, written_by}
use Rattle.journal_text.specs.Grammar.{BeginsWithNoLine, InGrammar, most_lines}
use Rattle.journal_text.specs.Spelling.{spelled}
use Rattle.outside_edge.specs.Sink.{SinkTold, Wrote, CutShort, Began}
use Rattle.debug_world.specs.Seen.{Adds, Refuses, Seen}
use Rattle.pilgrim_top.specs.declared.stop.Stop.{Stop}
use Rattle.pilgrim_top.specs.declared.stop.Stop.TheVariants.{Unread, Cut, Memory}

-- the events that a script can have so far
abbrev pub can_run : Event → Bool
can_run (Turn node steps reading) = true
can_run (Tick node) = true
can_run event = false

-- each entry, the newest first, is its line's, a Turn with the greatest number of steps up to the line's
abbrev pub AreLines : Program → List Told → List Entry → Type 0
AreLines program [] [] = Unit {0}
AreLines program [] (e ∷ past) = ⊥
AreLines program (line ∷ lines) [] = ⊥
AreLines program (line ∷ lines) (e ∷ past) =
    (told e ≡ settled (rules_of program) (first_of_program program) (tolds past) line) × AreLines program lines past

-- The first lines of the script, so many, were applied, and this rest of it wasn't: they are lines that can be run, the
-- journal is legal, and its events are those lines in order.
pub record Applied (program : Program) (script : List ℕ) (journal : List Entry) (rest : List ℕ) (count : ℕ) : Type 0 where
  pub lines : List Told
  pub whole : script ≡ flat_map spelled lines ++ rest
  pub grammar : All InGrammar lines
  pub runs : All (λ line. can_run line.event ≡ true) lines
  pub counted : length lines ≡ count
  pub few : count ≤ most_lines
  pub legal : IsLegal program journal
  pub plain : ArePlain (tolds journal)
  pub events : AreLines program (reverse lines) (reverse journal)

-- why the line at the front of the rest is refused
pub data IsRefused (program : Program) (journal : List Entry) (rest : List ℕ) (count : ℕ) : Type 0 where
  -- it is outside the grammar
  outside : rest ≢ [] → BeginsWithNoLine rest → IsRefused program journal rest count
  -- its event can't be run yet
  not_yet : (line : Told) (more : List ℕ) → InGrammar line → rest ≡ spelled line ++ more → can_run line.event ≡ false → IsRefused program journal rest count
  -- it fails one of the numbered conditions of an entry
  illegal : (line : Told) (more : List ℕ) (number : ℕ) → InGrammar line → rest ≡ spelled line ++ more →
      first_failing (rules_of program) (first_of_program program) (past_of journal) line ≡ Some number → IsRefused program journal rest count
  -- it is one line too many
  beyond : rest ≢ [] → count ≡ most_lines → IsRefused program journal rest count

-- what is written where the line behind the first ones is refused
abbrev pub refusal_text : ℕ → List ℕ
refusal_text count = codes "script refused at line " ++ decimal (count + 1) ++ 10 ∷ []

-- How a script ends where nothing fails, with its status and the text that is written last: all lines were applied, or
-- the next one is refused.
abbrev pub Finishes : Program → List Entry → List ℕ → ℕ → ℕ → List ℕ → Type 0
Finishes program journal rest count status text =
    ((rest ≡ []) × (status ≡ 0) × (text ≡ []))
    ⊎ (IsRefused program journal rest count × (status ≡ 6) × (text ≡ refusal_text count))

-- the script ended, and all was written
pub record Ended (program : Program) (script : List ℕ) (sink sink' : Option SinkTold) (journal : List Entry) (status : ℕ) : Type 0 where
  pub rest : List ℕ
  pub count : ℕ
  pub text : List ℕ
  pub applied : Applied program script journal rest count
  pub ends : Finishes program journal rest count status text
  pub wrote : Wrote sink sink' (transcript journal ++ text)

-- what is written for an entry
abbrev pub entry_text : Entry → List ℕ
entry_text e = written_by e.event e.effects

-- where the writing was cut short: in the last entry, or in the text of the status; all before it was written
pub data CutIn (program : Program) (sink sink' : Option SinkTold) (journal : List Entry) (rest : List ℕ) (count : ℕ) : Type 0 where
  in_entry : (before : List Entry) (e : Entry) (mid : Option SinkTold) → journal ≡ before ++ e ∷ [] → Wrote sink mid (transcript before) → CutShort mid sink' (entry_text e) →
      CutIn program sink sink' journal rest count
  in_text : (status : ℕ) (text : List ℕ) (mid : Option SinkTold) → Finishes program journal rest count status text → Wrote sink mid (transcript journal) → CutShort mid sink' text →
      CutIn program sink sink' journal rest count

-- the writing was cut short
pub record WasCut (program : Program) (script : List ℕ) (sink sink' : Option SinkTold) (journal : List Entry) : Type 0 where
  pub rest : List ℕ
  pub count : ℕ
  pub applied : Applied program script journal rest count
  pub cut : CutIn program sink sink' journal rest count

-- memory ran out, and a beginning of the transcript was written
pub record RanOut (program : Program) (script : List ℕ) (sink sink' : Option SinkTold) (journal : List Entry) : Type 0 where
  pub rest : List ℕ
  pub count : ℕ
  pub applied : Applied program script journal rest count
  pub wrote : Began sink sink' (transcript journal)

-- how the run of a script ends
abbrev pub RunsScript : Program → List ℕ → Option SinkTold → Option SinkTold → List Entry → Result ℕ Stop → Type 0
RunsScript program script sink sink' journal (Ok status) = Ended program script sink sink' journal status
RunsScript program script sink sink' journal (Err Unread) = ⊥
RunsScript program script sink sink' journal (Err Cut) = WasCut program script sink sink' journal
RunsScript program script sink sink' journal (Err Memory) = RanOut program script sink sink' journal

-- ---- one line

-- the line was applied: the journal gained its entry, of which so much was written
pub record Gained (world world' : Seen) (journal journal' : List Entry) (line : Told) : Type 0 where
  pub entry : Entry
  pub adds : Adds world world' line entry
  pub longer : journal' ≡ journal ++ entry ∷ []

-- what applying a line does: it is applied and written, or refused, or the writing is cut short, or memory runs out
-- with the entry in the journal or not
abbrev pub AppliesLine : Seen → Seen → List Entry → List Entry → Option SinkTold → Option SinkTold → Told → Result Bool Stop → Type 0
AppliesLine world world' journal journal' sink sink' line (Ok true) = (g : Gained world world' journal journal' line) × Wrote sink sink' (entry_text g.entry)
AppliesLine world world' journal journal' sink sink' line (Ok false) = (number : ℕ) × Refuses world world' line number × (journal' ≡ journal) × (sink' ≡ sink)
AppliesLine world world' journal journal' sink sink' line (Err Unread) = ⊥
AppliesLine world world' journal journal' sink sink' line (Err Cut) = (g : Gained world world' journal journal' line) × CutShort sink sink' (entry_text g.entry)
AppliesLine world world' journal journal' sink sink' line (Err Memory) = ((journal' ≡ journal) ⊎ Gained world world' journal journal' line) × Wrote sink sink' []
