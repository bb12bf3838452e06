-- How a replay may end.
use Rattle.std.specs.Prelude.{◌≡◌, ◌<◌, ◌≤◌, ℕ, List, [], ◌∷◌, ◌++◌, length, codes, decimal, Option, Result, Ok, Err}
use Rattle.clu_reader.specs.Accepted.{IsAccepted}
use Rattle.clu_tree.specs.declared.program.Program.{Program}
use Rattle.world_types.specs.declared.effects.Entry.{Entry}
use Rattle.world_rules.specs.Laws.{RunsPlainly}
use Rattle.world_rules.specs.Legal.{ErasesLegally, SameEffects}
use Rattle.world_rules.specs.Node.{first_of_program, rules_of}
use Rattle.outside_edge.specs.Shelf.{ShelfTold, Loads}
use Rattle.outside_edge.specs.Sink.{SinkTold, Wrote}
use Rattle.outside_edge.specs.declared.shelf.LoadFault.TheVariants as load
use Rattle.pilgrim_top.specs.Ends.{Says}
use Rattle.pilgrim_top.specs.Script.{RunsScript}
use Rattle.pilgrim_top.specs.declared.stop.Stop.{Stop}
use Rattle.pilgrim_top.specs.declared.stop.Stop.TheVariants.{Unread, Memory}

-- the greatest length of a program, 1 MiB
abbrev pub most_bytes : ℕ
most_bytes = 1048576

abbrev pub refused_text : ℕ → List ℕ
refused_text line = codes "program refused at line " ++ decimal line ++ 10 ∷ []

-- the bytes are refused as a program, with this text: they are too many, or no program that is accepted has them
pub data IsRefusedProgram (bytes : List ℕ) : List ℕ → Type 0 where
  too_long : most_bytes < length bytes → IsRefusedProgram bytes (codes "program too long" ++ 10 ∷ [])
  not_accepted : (line : ℕ) → length bytes ≤ most_bytes → ((program : Program) → IsAccepted bytes program → ⊥) →
      IsRefusedProgram bytes (refused_text line)

-- The headline: the effects of the journal are those of the machine without debugger on the journal's erasure, and the
-- erasure is legal itself.
pub record Unnoticed (program : Program) (journal : List Entry) : Type 0 where
  pub same : SameEffects (rules_of program) (first_of_program program) journal
  pub erased : ErasesLegally (rules_of program) (first_of_program program) journal
  -- so far a script has turns and ticks alone, so the machine without debugger runs the journal as it stands
  pub plainly : RunsPlainly program journal

-- what was loaded where memory ran out before the script was run
pub data LoadsSome (file script : List ℕ) (shelf shelf' : Option ShelfTold) : Type 0 where
  -- it ran out in the load of the file
  file_lacks : Loads file shelf shelf' (Err load.Memory) → LoadsSome file script shelf shelf'
  -- behind it, before the bytes were accepted or refused, or while the refusal was made
  file_read : (bytes : List ℕ) → Loads file shelf shelf' (Ok bytes) → LoadsSome file script shelf shelf'
  -- in the load of the script of an accepted program
  script_lacks : (bytes : List ℕ) (program : Program) (mid : Option ShelfTold) → Loads file shelf mid (Ok bytes) → IsAccepted bytes program →
      Loads script mid shelf' (Err load.Memory) → LoadsSome file script shelf shelf'

-- The ways in which a replay of a file under a script ends, by what the shelf and the sink tell before and after it.
pub data Replays (file script : List ℕ) (shelf shelf' : Option ShelfTold) (sink sink' : Option SinkTold) (journal : List Entry) (end : Result ℕ Stop) : Type 0 where
  -- the file isn't read
  unread : Loads file shelf shelf' (Err load.Failed) → journal ≡ [] → Wrote sink sink' [] → end ≡ Err Unread → Replays file script shelf shelf' sink sink' journal end
  -- its bytes are no accepted program
  refused : (bytes text : List ℕ) → Loads file shelf shelf' (Ok bytes) → IsRefusedProgram bytes text → journal ≡ [] → Says text 2 sink sink' end → Replays file script shelf shelf' sink sink' journal end
  -- they are, and the script isn't read
  unscripted : (bytes : List ℕ) (program : Program) (mid : Option ShelfTold) → Loads file shelf mid (Ok bytes) → IsAccepted bytes program →
      Loads script mid shelf' (Err load.Failed) → journal ≡ [] → Wrote sink sink' [] → end ≡ Err Unread → Replays file script shelf shelf' sink sink' journal end
  -- both are read, and the script is run; the debugger can't be noticed
  ran : (bytes : List ℕ) (program : Program) (mid : Option ShelfTold) (lines : List ℕ) → Loads file shelf mid (Ok bytes) → IsAccepted bytes program →
      Loads script mid shelf' (Ok lines) → RunsScript program lines sink sink' journal end → Unnoticed program journal → Replays file script shelf shelf' sink sink' journal end
  -- memory runs out before the script is run
  ran_out : LoadsSome file script shelf shelf' → journal ≡ [] → Wrote sink sink' [] → end ≡ Err Memory → Replays file script shelf shelf' sink sink' journal end
