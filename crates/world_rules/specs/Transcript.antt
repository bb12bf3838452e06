-- What is written for a list of entries.
use Rattle.std.specs.Prelude.{ℕ, List, [], ◌∷◌, ◌++◌, codes}
use Rattle.world_types.specs.declared.event.Event.{Event}
use Rattle.world_types.specs.declared.event.Event.TheVariants.{Turn, Packet, Tick, Stop, Resume, Answer, Say}
use Rattle.world_types.specs.declared.event.SayWord.{SayWord}
use Rattle.world_types.specs.declared.event.SayWord.TheVariants.{Unknown, NoNode, Changes}
use Rattle.world_types.specs.declared.effects.Line.{Line}
use Rattle.world_types.specs.declared.effects.Effects.{Effects}
use Rattle.world_types.specs.declared.effects.Entry.{Entry}

-- lines, each with its end
abbrev pub printed : List Line → List ℕ
printed [] = []
printed (l ∷ ls) = l.text ++ 10 ∷ printed ls

-- why a line of the console was no command
abbrev pub say_text : SayWord → List ℕ
say_text Unknown = codes "unknown command"
say_text NoNode = codes "no such node"
say_text Changes = codes "refused: changes state"

-- what stands for an event with these effects
abbrev pub written_by : Event → Effects → List ℕ
written_by (Turn n k r) x = printed x.lines
written_by (Packet n m j) x = printed x.lines
written_by (Tick n) x = printed x.lines
written_by (Resume n) x = printed x.lines
written_by (Stop n) x = x.shown ++ 10 ∷ []
written_by (Answer n) x = x.shown ++ 10 ∷ []
written_by (Say word) x = say_text word ++ 10 ∷ []
written_by e x = []

-- what stands for all entries, in order
abbrev pub transcript : List Entry → List ℕ
transcript [] = []
transcript (e ∷ es) = written_by e.event e.effects ++ transcript es
