-- The text of a line.
use Rattle.std.specs.Prelude.{ℕ, List, [], ◌∷◌, ◌++◌, Option, Some, None, codes}
use Rattle.std.specs.Fmt.{decimal}
use Rattle.world_types.specs.declared.event.Event.{Event}
use Rattle.world_types.specs.declared.event.Event.TheVariants.{Turn, Packet, Tick, Stop, Halt, Resume, Ask, Answer, Set, Clear, HaltAll, ResumeAll, Say, Quit}
use Rattle.world_types.specs.declared.event.Kind.{Kind}
use Rattle.world_types.specs.declared.event.Kind.TheVariants.{Once, Maybe}
use Rattle.world_types.specs.declared.event.Question.{Question}
use Rattle.world_types.specs.declared.event.Question.TheVariants.{Ps, Trace, Caller, Vars, Print, Calls, Time}
use Rattle.world_types.specs.declared.event.SayWord.{SayWord}
use Rattle.world_types.specs.declared.event.SayWord.TheVariants.{Unknown, NoNode, Changes}
use Rattle.world_types.specs.declared.event.Told.{Told}

-- the word for a kind of call
abbrev pub kind_word : Kind → List ℕ
kind_word Once = codes "once"
kind_word Maybe = codes "maybe"

-- the words of a question
abbrev pub question_words : Question → List (List ℕ)
question_words Ps = codes "ps" ∷ []
question_words (Trace process) = codes "where" ∷ decimal process ∷ []
question_words (Caller kind seq) = codes "caller" ∷ kind_word kind ∷ decimal seq ∷ []
question_words (Vars process) = codes "vars" ∷ decimal process ∷ []
question_words (Print process name) = codes "print" ∷ decimal process ∷ name ∷ []
question_words Calls = codes "calls" ∷ []
question_words Time = codes "time" ∷ []

-- the word for why a line of the console was no command
abbrev pub say_word : SayWord → List ℕ
say_word Unknown = codes "unknown"
say_word NoNode = codes "node"
say_word Changes = codes "changes"

-- the words of a time that may be named
abbrev pub until_words : Option ℕ → List (List ℕ)
until_words None = []
until_words (Some time) = decimal time ∷ []

-- the words of an event
abbrev pub event_words : Event → List (List ℕ)
event_words (Turn node steps reading) = codes "turn" ∷ decimal node ∷ decimal steps ∷ decimal reading ∷ []
event_words (Packet node sender index) = codes "packet" ∷ decimal node ∷ decimal sender ∷ decimal index ∷ []
event_words (Tick node) = codes "tick" ∷ decimal node ∷ []
event_words (Stop node) = codes "stop" ∷ decimal node ∷ []
event_words (Halt node) = codes "halt" ∷ decimal node ∷ []
event_words (Resume node) = codes "resume" ∷ decimal node ∷ []
event_words (Ask node question) = codes "ask" ∷ decimal node ∷ question_words question
event_words (Answer node) = codes "answer" ∷ decimal node ∷ []
event_words (Set node line) = codes "set" ∷ decimal node ∷ decimal line ∷ []
event_words (Clear node line) = codes "clear" ∷ decimal node ∷ decimal line ∷ []
event_words HaltAll = codes "haltall" ∷ []
event_words (ResumeAll until) = codes "resumeall" ∷ until_words until
event_words (Say word) = codes "say" ∷ say_word word ∷ []
event_words Quit = codes "quit" ∷ []

-- each word with one space before it
abbrev pub spaced : List (List ℕ) → List ℕ
spaced [] = []
spaced (word ∷ words) = 32 ∷ (word ++ spaced words)

-- a line with its end: the stamp, the words of the event, and byte 10
abbrev pub spelled : Told → List ℕ
spelled told = decimal told.stamp ++ spaced (event_words told.event) ++ 10 ∷ []
