-- Reading a line from left to right.
use Rattle.std.specs.Prelude.{◌≡◌, ℕ, ◌+◌, ◌-◌, ◌*◌, ◌^◌, List, [], ◌∷◌, take, drop, Option, Some, None, Result, Ok, Err, nat_le, ◌==◌, ◌||◌, not, if◌then◌else◌, codes}
use Rattle.std.specs.List.{prefix_len}
use Rattle.byte_classes.specs.Classes.{is_lower, is_digit, is_word_byte}
use Rattle.world_types.specs.declared.event.Event.{Event}
use Rattle.world_types.specs.declared.event.Event.TheVariants.{Turn, Packet, Tick, Stop, Halt, Resume, Ask, Answer, Set, Clear, HaltAll, ResumeAll, Say, Quit}
use Rattle.world_types.specs.declared.event.Kind.{Kind}
use Rattle.world_types.specs.declared.event.Kind.TheVariants.{Once, Maybe}
use Rattle.world_types.specs.declared.event.Question.{Question}
use Rattle.world_types.specs.declared.event.Question.TheVariants.{Ps, Trace, Caller, Vars, Print, Calls, Time}
use Rattle.world_types.specs.declared.event.SayWord.{SayWord}
use Rattle.world_types.specs.declared.event.SayWord.TheVariants.{Unknown, NoNode, Changes}
use Rattle.world_types.specs.declared.event.Told.{Told}
use Rattle.journal_text.specs.declared.fault.LineFault.{LineFault}
use Rattle.journal_text.specs.declared.fault.LineFault.TheVariants.{Bad, Memory}
use Rattle.journal_text.specs.declared.word.Word.{Word}
use Rattle.journal_text.specs.declared.word.Word.TheVariants as word
use Rattle.journal_text.specs.declared.word.TheConstants.{WORDS}

infixl 10 ◌>>=◌
abbrev pub ◌>>=◌ : {A B : Type 0} → Option A → (A → Option B) → Option B
(Some x) >>= f = f x
None >>= f = None

-- what a function found, seen by view, is what reading finds
abbrev pub Finds : {X Y : Type 0} → (X → Y) → Option X → Option Y → Type 0
Finds view (Some x) read = read ≡ Some (view x)
Finds view None read = read ≡ None

-- reading finds nothing, unless memory ran out
abbrev pub Fails : {Y : Type 0} → LineFault → Option Y → Type 0
Fails Memory read = Unit {0}
Fails Bad read = read ≡ None

-- what a function answered, seen by view, is what reading finds, unless memory ran out
abbrev pub Gives : {X Y : Type 0} → (X → Y) → Result X LineFault → Option Y → Type 0
Gives view (Ok x) read = read ≡ Some (view x)
Gives view (Err fault) read = Fails fault read

-- the bytes behind a text
unfoldable pub text_at : List ℕ → List ℕ → Option (List ℕ)
text_at [] bytes = Some bytes
text_at (c ∷ text) [] = None
text_at (c ∷ text) (b ∷ bytes) = if b == c then text_at text bytes else None

-- the value of a digit, and the bytes behind it
unfoldable pub digit_at : List ℕ → Option (ℕ × List ℕ)
digit_at [] = None
digit_at (b ∷ bytes) = if is_digit b then Some (b - 48, bytes) else None

-- the number that goes on behind the digits of value, with no zero at its front
unfoldable pub digits_on : ℕ → ℕ → List ℕ → Option (ℕ × List ℕ)
digits_on largest value [] = Some (value, [])
digits_on largest value (b ∷ bytes) =
    if is_digit b
    then (if (value == 0) || not (nat_le (value * 10 + (b - 48)) largest) then None else digits_on largest (value * 10 + (b - 48)) bytes)
    else Some (value, b ∷ bytes)

-- a number, and the bytes behind it
unfoldable pub number_at : ℕ → List ℕ → Option (ℕ × List ℕ)
number_at largest bytes = do
  first ← digit_at bytes
  digits_on largest first.0 first.1

unfoldable pub word_number_at : ℕ → List ℕ → Option (ℕ × List ℕ)
word_number_at largest bytes = do
  word ← text_at (32 ∷ []) bytes
  number_at largest word

unfoldable pub positive_at : ℕ → List ℕ → Option (ℕ × List ℕ)
positive_at largest bytes = do
  n ← word_number_at largest bytes
  if n.0 == 0 then None else Some n

-- how a word is spelled
abbrev pub word_text : Word → List ℕ
word_text word.Turn = codes "turn"
word_text word.Packet = codes "packet"
word_text word.Tick = codes "tick"
word_text word.Stop = codes "stop"
word_text word.HaltAll = codes "haltall"
word_text word.Halt = codes "halt"
word_text word.ResumeAll = codes "resumeall"
word_text word.Resume = codes "resume"
word_text word.Ask = codes "ask"
word_text word.Answer = codes "answer"
word_text word.Set = codes "set"
word_text word.Clear = codes "clear"
word_text word.Say = codes "say"
word_text word.Quit = codes "quit"
word_text word.Ps = codes "ps"
word_text word.Where = codes "where"
word_text word.Caller = codes "caller"
word_text word.Vars = codes "vars"
word_text word.Print = codes "print"
word_text word.Calls = codes "calls"
word_text word.Time = codes "time"
word_text word.Once = codes "once"
word_text word.Maybe = codes "maybe"
word_text word.Unknown = codes "unknown"
word_text word.Node = codes "node"
word_text word.Changes = codes "changes"

-- a word with the bytes behind it, or else what the others give
abbrev pub word_or : Word → Option (List ℕ) → Option (Word × List ℕ) → Option (Word × List ℕ)
word_or w (Some rest) others = Some (w, rest)
word_or w None others = others

-- the first of the words with which the bytes begin
abbrev pub first_word : List Word → List ℕ → Option (Word × List ℕ)
first_word [] bytes = None
first_word (w ∷ words) bytes = word_or w (text_at (word_text w) bytes) (first_word words bytes)

unfoldable pub word_at : List ℕ → Option (Word × List ℕ)
word_at bytes = do
  behind ← text_at (32 ∷ []) bytes
  first_word WORDS behind

-- a name, and the bytes behind it
unfoldable pub name_at : List ℕ → Option (List ℕ × List ℕ)
name_at [] = None
name_at (b ∷ bytes) =
    if is_lower b
    then Some (take (prefix_len is_word_byte (take 64 (b ∷ bytes))) (b ∷ bytes), drop (prefix_len is_word_byte (take 64 (b ∷ bytes))) (b ∷ bytes))
    else None

unfoldable pub word_name_at : List ℕ → Option (List ℕ × List ℕ)
word_name_at bytes = do
  behind ← text_at (32 ∷ []) bytes
  name_at behind

-- ---- questions

-- a kind of call, by its word
abbrev pub kind_of : Word → List ℕ → Option (Kind × List ℕ)
kind_of word.Once bytes = Some (Once, bytes)
kind_of word.Maybe bytes = Some (Maybe, bytes)
kind_of _ bytes = None

unfoldable pub kind_at : List ℕ → Option (Kind × List ℕ)
kind_at bytes = do
  w ← word_at bytes
  kind_of w.0 w.1

unfoldable pub trace_at : List ℕ → Option (Question × List ℕ)
trace_at bytes = do
  process ← word_number_at (2 ^ 62) bytes
  Some (Trace process.0, process.1)

unfoldable pub caller_at : List ℕ → Option (Question × List ℕ)
caller_at bytes = do
  kind ← kind_at bytes
  seq ← word_number_at (2 ^ 62) kind.1
  Some (Caller kind.0 seq.0, seq.1)

unfoldable pub vars_at : List ℕ → Option (Question × List ℕ)
vars_at bytes = do
  process ← word_number_at (2 ^ 62) bytes
  Some (Vars process.0, process.1)

unfoldable pub print_at : List ℕ → Option (Question × List ℕ)
print_at bytes = do
  process ← word_number_at (2 ^ 62) bytes
  name ← word_name_at process.1
  Some (Print process.0 name.0, name.1)

-- a question, by its word
abbrev pub question_of : Word → List ℕ → Option (Question × List ℕ)
question_of word.Ps bytes = Some (Ps, bytes)
question_of word.Where bytes = trace_at bytes
question_of word.Caller bytes = caller_at bytes
question_of word.Vars bytes = vars_at bytes
question_of word.Print bytes = print_at bytes
question_of word.Calls bytes = Some (Calls, bytes)
question_of word.Time bytes = Some (Time, bytes)
question_of _ bytes = None

unfoldable pub question_at : List ℕ → Option (Question × List ℕ)
question_at bytes = do
  w ← word_at bytes
  question_of w.0 w.1

-- ---- events of a node

unfoldable pub turn_at : ℕ → List ℕ → Option (Event × List ℕ)
turn_at node bytes = do
  steps ← positive_at 64 bytes
  reading ← word_number_at (2 ^ 62 - 1) steps.1
  Some (Turn node steps.0 reading.0, reading.1)

unfoldable pub packet_at : ℕ → List ℕ → Option (Event × List ℕ)
packet_at node bytes = do
  sender ← word_number_at (2 ^ 32 - 1) bytes
  index ← word_number_at (2 ^ 62 - 1) sender.1
  Some (Packet node sender.0 index.0, index.1)

unfoldable pub ask_at : ℕ → List ℕ → Option (Event × List ℕ)
ask_at node bytes = do
  question ← question_at bytes
  Some (Ask node question.0, question.1)

unfoldable pub set_at : ℕ → List ℕ → Option (Event × List ℕ)
set_at node bytes = do
  line ← positive_at 1048576 bytes
  Some (Set node line.0, line.1)

unfoldable pub clear_at : ℕ → List ℕ → Option (Event × List ℕ)
clear_at node bytes = do
  line ← positive_at 1048576 bytes
  Some (Clear node line.0, line.1)

-- an event of the node, by its word
abbrev pub of_node : Word → ℕ → List ℕ → Option (Event × List ℕ)
of_node word.Turn node bytes = turn_at node bytes
of_node word.Packet node bytes = packet_at node bytes
of_node word.Tick node bytes = Some (Tick node, bytes)
of_node word.Stop node bytes = Some (Stop node, bytes)
of_node word.Halt node bytes = Some (Halt node, bytes)
of_node word.Resume node bytes = Some (Resume node, bytes)
of_node word.Ask node bytes = ask_at node bytes
of_node word.Answer node bytes = Some (Answer node, bytes)
of_node word.Set node bytes = set_at node bytes
of_node word.Clear node bytes = clear_at node bytes
of_node _ node bytes = None

unfoldable pub of_node_at : Word → List ℕ → Option (Event × List ℕ)
of_node_at w bytes = do
  node ← word_number_at (2 ^ 32 - 1) bytes
  of_node w node.0 node.1

-- ---- events

-- a time, or none at the end of the line
unfoldable pub until_at : List ℕ → Option (Option ℕ × List ℕ)
until_at [] = Some (None, [])
until_at (b ∷ bytes) =
    if b == 32
    then (do
      time ← word_number_at (2 ^ 62 - 1) (b ∷ bytes)
      Some (Some time.0, time.1))
    else Some (None, b ∷ bytes)

unfoldable pub resume_all_at : List ℕ → Option (Event × List ℕ)
resume_all_at bytes = do
  until ← until_at bytes
  Some (ResumeAll until.0, until.1)

-- why a line was no command, by its word
abbrev pub say_word_of : Word → List ℕ → Option (SayWord × List ℕ)
say_word_of word.Unknown bytes = Some (Unknown, bytes)
say_word_of word.Node bytes = Some (NoNode, bytes)
say_word_of word.Changes bytes = Some (Changes, bytes)
say_word_of _ bytes = None

unfoldable pub say_word_at : List ℕ → Option (SayWord × List ℕ)
say_word_at bytes = do
  w ← word_at bytes
  say_word_of w.0 w.1

unfoldable pub say_at : List ℕ → Option (Event × List ℕ)
say_at bytes = do
  w ← say_word_at bytes
  Some (Say w.0, w.1)

-- an event, by its word
abbrev pub event_of : Word → List ℕ → Option (Event × List ℕ)
event_of word.HaltAll bytes = Some (HaltAll, bytes)
event_of word.ResumeAll bytes = resume_all_at bytes
event_of word.Say bytes = say_at bytes
event_of word.Quit bytes = Some (Quit, bytes)
event_of w bytes = of_node_at w bytes

unfoldable pub event_at : List ℕ → Option (Event × List ℕ)
event_at bytes = do
  w ← word_at bytes
  event_of w.0 w.1

unfoldable pub line_at : List ℕ → Option (Told × List ℕ)
line_at bytes = do
  stamp ← number_at (2 ^ 62 - 1) bytes
  event ← event_at stamp.1
  rest ← text_at (10 ∷ []) event.1
  Some (record { stamp = stamp.0; event = event.0 }, rest)
