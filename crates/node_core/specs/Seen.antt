-- What a node is seen as, and what its calls answer.
use Rattle.std.specs.Prelude.{◌≡◌, ◌≢◌, ◌≤◌, ℕ, Bool, true, false, is_some, List, [], ◌∷◌, Option, Some, None, Result, Ok, Err}
use Rattle.clu_tree.specs.Typed.{IsTyped}
use Rattle.clu_tree.specs.declared.program.Program.{Program}
use Rattle.machine_rules.specs.declared.frame.Frame.{Frame}
use Rattle.machine_rules.specs.Typing.{FramesFit}
use Rattle.world_types.specs.Limits.{Limit}
use Rattle.world_types.specs.declared.effects.Effects.{Effects}
use Rattle.world_types.specs.declared.effects.Owner.TheVariants as owner
use Rattle.timer_queue.specs.Limits.{limit_of}
use Rattle.world_rules.specs.Legal.{most}
use Rattle.world_rules.specs.Plain.{node_at}
use Rattle.world_rules.specs.Node.{Live, NodeState, asleep, due, first_of_program, limits, picks, ready, rules_of, tick, turn}
use Rattle.node_core.specs.declared.node.NodeFault.{NodeFault}
use Rattle.node_core.specs.declared.node.NodeFault.TheVariants.{Illegal, Memory}

-- A node with its program. Once it is spent it answers want of memory.
pub record NodeSeen : Type 0 where
  pub program : Program
  pub state : NodeState
  pub spent : Bool

-- the process of the number 1, which sleeps where it has a limit
abbrev pub live_by : Option ℕ → List Frame → Live
live_by None frames = ready 1 frames
live_by (Some limit) frames = asleep 1 limit frames

-- the only process, where there is one
abbrev pub live : Option (List Frame) → Option ℕ → List Live
live None limit = []
live (Some frames) limit = live_by limit frames ∷ []

-- its limit
abbrev pub own_limit : List Limit → Option ℕ
own_limit queue = limit_of queue (owner.Process 1)

abbrev pub state_of : ℕ → List Live → ℕ → ℕ → NodeState
state_of number processes picked time = record { number = number; processes = processes; picked = picked; time = time }

-- the process is typed, and not over
abbrev pub IsRunning : Program → Option (List Frame) → Type 0
IsRunning program None = Unit {0}
IsRunning program (Some frames) = FramesFit program frames × (frames ≢ [])

-- the processes of the program's node at its start
abbrev pub StartsAs : Program → Option (List Frame) → Type 0
StartsAs program process = node_at (first_of_program program) 1 ≡ Some (state_of 1 (live process None) 0 0, [])

-- the queue that holds this limit of the process alone
abbrev pub queue_of : Option ℕ → List Limit
queue_of None = []
queue_of (Some limit) = (limit, owner.Process 1) ∷ []

-- The queue has the limits of the process, and no other; the process is typed, and not over.
pub record Holds (program : Program) (process : Option (List Frame)) (queue : List Limit) : Type 0 where
  pub queued : queue ≡ limits (live process (own_limit queue))
  pub running : IsRunning program process

-- What a node keeps true of its parts.
pub record Keeps (program : Program) (process : Option (List Frame)) (queue : List Limit) (spent : Bool) : Type 0 where
  pub typed : IsTyped program
  pub holds : spent ≡ false → Holds program process queue

-- no line is marked
abbrev pub no_marks : ℕ → Bool
no_marks line = false

-- the greatest number of steps, up to the number given, that are possible at the time, or 0
abbrev pub most_steps : NodeSeen → ℕ → ℕ → ℕ
most_steps node t up_to = most (rules_of node.program) node.state t no_marks up_to

-- memory ran out: the node is spent
pub record IsSpent (old new : NodeSeen) : Type 0 where
  pub spent : new.spent ≡ true
  pub program : new.program ≡ old.program

-- a call that isn't possible changed nothing
pub record IsUnchanged (old new : NodeSeen) : Type 0 where
  pub was : old.spent ≡ false
  pub is : new ≡ old

-- the most steps up to the number given were taken, with their effects
pub record Turns (old new : NodeSeen) (t up_to : ℕ) (taken : ℕ × Effects) : Type 0 where
  pub was : old.spent ≡ false
  pub unspent : new.spent ≡ false
  pub program : new.program ≡ old.program
  pub most : taken.0 ≡ most_steps old t up_to
  pub turned : turn old.program old.state taken.0 t ≡ Some (new.state, taken.1)

-- What a turn at a time answers: the most steps up to the number given, with their effects; Illegal exactly where there
-- are none, and nothing changed; or want of memory.
abbrev pub TurnAnswers : NodeSeen → NodeSeen → ℕ → ℕ → Result (ℕ × Effects) NodeFault → Type 0
TurnAnswers old new t up_to (Ok taken) = Turns old new t up_to taken
TurnAnswers old new t up_to (Err Illegal) = IsUnchanged old new × (most_steps old t up_to ≡ 0)
TurnAnswers old new t up_to (Err Memory) = IsSpent old new

-- the node advanced, with these effects
pub record Ticks (old new : NodeSeen) (t : ℕ) (effects : Effects) : Type 0 where
  pub was : old.spent ≡ false
  pub unspent : new.spent ≡ false
  pub program : new.program ≡ old.program
  pub ticked : tick old.state t ≡ Some (new.state, effects)

-- What a tick at a time answers: the node advanced, with its effects; Illegal exactly where it isn't possible, and
-- nothing changed; or want of memory.
abbrev pub TickAnswers : NodeSeen → NodeSeen → ℕ → Result Effects NodeFault → Type 0
TickAnswers old new t (Ok effects) = Ticks old new t effects
TickAnswers old new t (Err Illegal) = IsUnchanged old new × (tick old.state t ≡ None)
TickAnswers old new t (Err Memory) = IsSpent old new

-- ---- where a call is possible

-- a turn of at least one step at a time that isn't below the node's: a process is ready, and nothing is due
pub record CanTurn (node : NodeSeen) (t up_to : ℕ) : Type 0 where
  pub unspent : node.spent ≡ false
  pub some : 1 ≤ up_to
  pub late : node.state.time ≤ t
  pub free : due node.state t ≡ false
  pub ready : is_some (picks node.state) ≡ true

-- a tick at a time that isn't below the node's, where something is due
pub record CanTick (node : NodeSeen) (t : ℕ) : Type 0 where
  pub unspent : node.spent ≡ false
  pub late : node.state.time ≤ t
  pub due : due node.state t ≡ true
