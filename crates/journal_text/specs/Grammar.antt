-- Which lines there are.
use Rattle.std.specs.Prelude.{◌≡◌, ◌≢◌, ℕ, ◌+◌, ◌^◌, ◌<◌, ◌≤◌, IsTrue, List, [], ◌∷◌, ◌++◌, All, length, ◌⊎◌, IfSome}
use Rattle.std.specs.List.{flat_map}
use Rattle.byte_classes.specs.Classes.{is_lower, is_word_byte}
use Rattle.world_types.specs.declared.event.Event.{Event}
use Rattle.world_types.specs.declared.event.Event.TheVariants.{Turn, Packet, Tick, Stop, Halt, Resume, Ask, Answer, Set, Clear, HaltAll, ResumeAll, Say, Quit}
use Rattle.world_types.specs.declared.event.Question.{Question}
use Rattle.world_types.specs.declared.event.Question.TheVariants.{Ps, Trace, Caller, Vars, Print, Calls, Time}
use Rattle.world_types.specs.declared.event.Told.{Told}
use Rattle.journal_text.specs.Spelling.{spelled}

-- the number of a node
abbrev pub IsNode : ℕ → Type 0
IsNode node = node < 2 ^ 32

-- a stamp, a reading, a packet's place or a time
abbrev pub IsNumber : ℕ → Type 0
IsNumber number = number < 2 ^ 62

-- the number of a process or of a call
abbrev pub IsSerial : ℕ → Type 0
IsSerial number = number ≤ 2 ^ 62

-- how many steps a turn may have
abbrev pub IsStepCount : ℕ → Type 0
IsStepCount steps = (0 < steps) × (steps ≤ 64)

-- a line of a program
abbrev pub IsLine : ℕ → Type 0
IsLine line = (0 < line) × (line ≤ 1048576)

-- the name of a variable, at most 64 bytes: a lower-case letter, and what may follow in a word
abbrev pub IsName : List ℕ → Type 0
IsName [] = ⊥
IsName (b ∷ bytes) = IsTrue (is_lower b) × All (λ x. IsTrue (is_word_byte x)) bytes × (length bytes < 64)

-- the numbers and the name of a question are within their bounds
abbrev pub IsQuestion : Question → Type 0
IsQuestion Ps = Unit {0}
IsQuestion (Trace process) = IsSerial process
IsQuestion (Caller kind seq) = IsSerial seq
IsQuestion (Vars process) = IsSerial process
IsQuestion (Print process name) = IsSerial process × IsName name
IsQuestion Calls = Unit {0}
IsQuestion Time = Unit {0}

-- the numbers and names of an event are within their bounds
abbrev pub IsEvent : Event → Type 0
IsEvent (Turn node steps reading) = IsNode node × IsStepCount steps × IsNumber reading
IsEvent (Packet node sender index) = IsNode node × IsNode sender × IsNumber index
IsEvent (Tick node) = IsNode node
IsEvent (Stop node) = IsNode node
IsEvent (Halt node) = IsNode node
IsEvent (Resume node) = IsNode node
IsEvent (Ask node question) = IsNode node × IsQuestion question
IsEvent (Answer node) = IsNode node
IsEvent (Set node line) = IsNode node × IsLine line
IsEvent (Clear node line) = IsNode node × IsLine line
IsEvent HaltAll = Unit {0}
IsEvent (ResumeAll until) = IfSome until IsNumber
IsEvent (Say word) = Unit {0}
IsEvent Quit = Unit {0}

-- the line is one that a journal may have
abbrev pub InGrammar : Told → Type 0
InGrammar told = IsNumber told.stamp × IsEvent told.event

-- the bytes begin with no line of the grammar
abbrev pub BeginsWithNoLine : List ℕ → Type 0
BeginsWithNoLine bytes = (told : Told) (rest : List ℕ) → InGrammar told → bytes ≡ spelled told ++ rest → ⊥

-- the most lines that a journal may have
abbrev pub most_lines : ℕ
most_lines = 1000000

-- the bytes are these lines, one after the other, and nothing else
pub record IsJournal (bytes : List ℕ) (lines : List Told) : Type 0 where
  pub few : length lines ≤ most_lines
  pub each : All InGrammar lines
  pub whole : bytes ≡ flat_map spelled lines

-- the line of this number, from 1, is there, and no line of the grammar or one too many; those before it are lines of the grammar
pub record IsFirstBad (bytes : List ℕ) (number : ℕ) : Type 0 where
  pub before : List Told
  pub rest : List ℕ
  pub each : All InGrammar before
  pub parts : bytes ≡ flat_map spelled before ++ rest
  pub there : rest ≢ []
  pub place : number ≡ length before + 1
  pub few : length before ≤ most_lines
  pub bad : (length before ≡ most_lines) ⊎ BeginsWithNoLine rest
