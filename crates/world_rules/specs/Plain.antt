-- The machine without debugger: worlds of nodes, over any rules of one node.
use Rattle.std.specs.Prelude.{◌≡◌, ℕ, zero, suc, ◌-◌, ◌≤◌, Bool, true, false, if◌then◌else◌, ◌==◌, List, [], ◌∷◌, ◌++◌, Option, Some, None, IsSome, slice_get, slice_set}
use Rattle.world_types.specs.declared.event.PlainEvent.{PlainEvent}
use Rattle.world_types.specs.declared.event.PlainEvent.TheVariants.{Turn, Deliver, Tick}
use Rattle.world_types.specs.declared.effects.Effects.{Effects}
use Rattle.world_types.specs.declared.effects.Sent.{Sent}
use Rattle.world_types.specs.declared.event.Question.{Question}

-- what one node does, where it can, and what can be read off it
pub record Rules (S : Type 0) : Type 0 where
  -- so many steps of the picked process at a time
  pub turn : S → ℕ → ℕ → Option (S × Effects)
  -- a packet's bytes at a time
  pub deliver : S → List ℕ → ℕ → Option (S × Effects)
  pub tick : S → ℕ → Option (S × Effects)
  pub time : S → ℕ
  -- some limit is at or before a time
  pub due : S → ℕ → Bool
  -- some process is ready
  pub ready : S → Bool
  -- the picked process and its line, where its next step begins a statement
  pub stands : S → Option (ℕ × ℕ)
  -- the line that the next step begins after so many steps of a turn at a time
  pub begins : S → ℕ → ℕ → Option ℕ
  -- the text of an answer at a time
  pub answer : S → Question → ℕ → List ℕ

-- how what can be read off a node tells what is possible there
pub record Lawful {S : Type 0} (rules : Rules S) : Type 0 where
  pub turn_is : (s : S) (k t : ℕ) → IsSome (rules.turn s k t) → (1 ≤ k) × (rules.ready s ≡ true) × (rules.due s t ≡ false) × (rules.time s ≤ t)
  pub tick_is : (s : S) (t : ℕ) → IsSome (rules.tick s t) → (rules.due s t ≡ true) × (rules.time s ≤ t)
  pub ticks : (s : S) (t : ℕ) → rules.due s t ≡ true → rules.time s ≤ t → IsSome (rules.tick s t)
  pub delivers : (s : S) (bytes : List ℕ) (t : ℕ) → rules.time s ≤ t → IsSome (rules.deliver s bytes t)
  pub turn_time : (s : S) (k t : ℕ) (a : S × Effects) → rules.turn s k t ≡ Some a → rules.time a.0 ≡ t
  pub deliver_time : (s : S) (bytes : List ℕ) (t : ℕ) (a : S × Effects) → rules.deliver s bytes t ≡ Some a → rules.time a.0 ≡ t
  pub tick_time : (s : S) (t : ℕ) (a : S × Effects) → rules.tick s t ≡ Some a → rules.time a.0 ≡ t

-- nodes at their start have the time 0
abbrev pub Fresh : {S : Type 0} → Rules S → List (S × List Sent) → Type 0
Fresh rules [] = Unit {0}
Fresh rules (node ∷ nodes) = (rules.time node.0 ≡ 0) × Fresh rules nodes

-- nodes, each with the list of what it sent
abbrev pub World : Type 0 → Type 0
World S = List (S × List Sent)

abbrev pub and_then : {A B : Type 0} → Option A → (A → Option B) → Option B
and_then None go = None
and_then (Some a) go = go a

abbrev pub nothing : Effects
nothing = record { sent = []; lines = []; marks = []; shown = [] }

-- one after the other, each of the lists joined in order
abbrev pub join : Effects → Effects → Effects
join x y = record { sent = x.sent ++ y.sent; lines = x.lines ++ y.lines; marks = x.marks ++ y.marks; shown = x.shown ++ y.shown }

-- nodes are numbered from 1
abbrev pub node_at : {S : Type 0} → World S → ℕ → Option (S × List Sent)
node_at w zero = None
node_at w (suc n) = slice_get w n

-- the node's next state stands in its place, and what it sent at the end of its list
abbrev pub moved : {S : Type 0} → World S → ℕ → List Sent → Option (S × Effects) → Option (World S × Effects)
moved w n sent None = None
moved w n sent (Some after) = Some (slice_set w (n - 1) (after.0, sent ++ after.1.sent), after.1)

-- the j-th packet that node m sent, if it went to n
abbrev pub to_node : ℕ → Option Sent → Option (List ℕ)
to_node n None = None
to_node n (Some s) = if s.to == n then Some s.bytes else None

abbrev pub packet_of : {S : Type 0} → World S → ℕ → ℕ → ℕ → Option (List ℕ)
packet_of w n m zero = None
packet_of w n m (suc j) = and_then (node_at w m) (λ from. to_node n (slice_get from.1 j))

-- one event, where it is possible
abbrev pub step : {S : Type 0} → Rules S → World S → PlainEvent → Option (World S × Effects)
step rules w (Turn n k t) = and_then (node_at w n) (λ node. moved w n node.1 (rules.turn node.0 k t))
step rules w (Deliver n m j t) = and_then (node_at w n) (λ node. and_then (packet_of w n m j) (λ bytes. moved w n node.1 (rules.deliver node.0 bytes t)))
step rules w (Tick n t) = and_then (node_at w n) (λ node. moved w n node.1 (rules.tick node.0 t))

-- what is reached later, with these effects before its own
abbrev pub behind : {A : Type 0} → Effects → A × Effects → Option (A × Effects)
behind x b = Some (b.0, join x b.1)

-- the world after the events, and their effects joined in order; defined where each event is possible after those before it
abbrev pub plain : {S : Type 0} → Rules S → World S → List PlainEvent → Option (World S × Effects)
plain rules w [] = Some (w, nothing)
plain rules w (e ∷ es) = and_then (step rules w e) (λ a. and_then (plain rules a.0 es) (behind a.1))
