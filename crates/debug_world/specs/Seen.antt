-- What a world is seen as, and what its calls answer.
use Rattle.std.specs.Prelude.{◌≡◌, ℕ, ◌≤◌, Bool, true, false, List, [], ◌∷◌, ◌++◌, reverse, Option, Some, Result, Ok, Err}
use Rattle.clu_tree.specs.declared.program.Program.{Program}
use Rattle.world_types.specs.declared.event.Event.{Event}
use Rattle.world_types.specs.declared.event.Event.TheVariants.{Turn, Tick}
use Rattle.world_types.specs.declared.event.Told.{Told}
use Rattle.world_types.specs.declared.effects.Sent.{Sent}
use Rattle.world_types.specs.declared.effects.Effects.{Effects}
use Rattle.world_types.specs.declared.effects.Entry.{Entry}
use Rattle.world_rules.specs.Plain.{plain}
use Rattle.world_rules.specs.Said.{last_stamp, plain_events}
use Rattle.world_rules.specs.Legal.{Follows, first_failing, settled, told}
use Rattle.world_rules.specs.Node.{first_of_program, rules_of}
use Rattle.node_core.specs.Seen.{NodeSeen}
use Rattle.debug_world.specs.declared.world.WorldFault.{WorldFault}
use Rattle.debug_world.specs.declared.world.WorldFault.TheVariants.{Illegal, Memory}

-- A world with its program and the list of the events applied, the oldest first. Once it is spent it answers want of memory.
pub record Seen : Type 0 where
  pub program : Program
  pub list : List Told
  pub spent : Bool

-- what can be applied yet: a turn of 1 to 64 steps, or a tick
abbrev pub MayBeApplied : Event → Type 0
MayBeApplied (Turn node steps reading) = (1 ≤ steps) × (steps ≤ 64)
MayBeApplied (Tick node) = Unit {0}
MayBeApplied _ = ⊥

abbrev pub turned : ℕ → ℕ → ℕ → ℕ → Told
turned stamp node steps reading = record { stamp = stamp; event = Turn node steps reading }

abbrev pub ticked : ℕ → ℕ → Told
ticked stamp node = record { stamp = stamp; event = Tick node }

-- ---- what a world keeps true of its parts

-- a turn or a tick of the node 1
abbrev pub IsOwn : Event → Type 0
IsOwn (Turn node steps reading) = node ≡ 1
IsOwn (Tick node) = node ≡ 1
IsOwn _ = ⊥

abbrev pub AreOwn : List Told → Type 0
AreOwn [] = Unit {0}
AreOwn (e ∷ past) = IsOwn e.event × AreOwn past

-- the node is what the machine without debugger leaves after the list
pub record Leaves (node : NodeSeen) (list : List Told) (last : ℕ) : Type 0 where
  pub unspent : node.spent ≡ false
  pub sent : List Sent
  pub effects : Effects
  pub ran : plain (rules_of node.program) (first_of_program node.program) (plain_events list) ≡ Some ((node.state, sent) ∷ [], effects)
  pub early : node.state.time ≤ last

pub record Keeps (node : NodeSeen) (list : List Told) (last : ℕ) (spent : Bool) : Type 0 where
  pub own : AreOwn (reverse list)
  pub leaves : spent ≡ false → (last_stamp (reverse list) ≡ last) × Leaves node list last

-- ---- what applying an event answers

-- the entry of the event follows the list, a Turn with the greatest number of steps up to the event's, and is added to it
pub record Adds (old new : Seen) (event : Told) (entry : Entry) : Type 0 where
  pub was : old.spent ≡ false
  pub is : new ≡ record { program = old.program; list = old.list ++ told entry ∷ []; spent = false }
  pub most : told entry ≡ settled (rules_of old.program) (first_of_program old.program) (reverse old.list) event
  pub follows : Follows (rules_of old.program) (first_of_program old.program) (reverse old.list) entry

-- the number of the first condition that the event fails after the list, where it fails one
abbrev pub refusal : Seen → Told → Option ℕ
refusal world event = first_failing (rules_of world.program) (first_of_program world.program) (reverse world.list) event

-- the event isn't legal after the list, by this number, and nothing changed
pub record Refuses (old new : Seen) (event : Told) (number : ℕ) : Type 0 where
  pub was : old.spent ≡ false
  pub is : new ≡ old
  pub first : refusal old event ≡ Some number

abbrev pub AnswersTo : Seen → Seen → Told → Result Entry WorldFault → Type 0
AnswersTo old new event (Ok entry) = Adds old new event entry
AnswersTo old new event (Err (Illegal number)) = Refuses old new event number
AnswersTo old new event (Err Memory) = (new.spent ≡ true) × (new.program ≡ old.program)
