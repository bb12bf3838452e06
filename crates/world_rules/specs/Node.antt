-- What a node keeps, when it can take steps, and what they do.
use Rattle.std.specs.Prelude.{ℕ, zero, suc, ◌+◌, ℤ, pos, nat_abs, int_le, Bool, not, ◌&&◌, if◌then◌else◌, ◌==◌, nat_le, List, [], ◌∷◌, length, Option, Some, None, is_none, is_some}
use Rattle.std.specs.List.{filter, list_any}
use Rattle.std.specs.Str.{bytes_eq}
use Rattle.clu_tree.specs.declared.value.Value.{Value}
use Rattle.clu_tree.specs.declared.program.Routine.{Routine}
use Rattle.clu_tree.specs.declared.program.NodePart.{NodePart}
use Rattle.clu_tree.specs.declared.program.NodePart.TheVariants.{Export, Start}
use Rattle.clu_tree.specs.declared.program.NodeDecl.{NodeDecl}
use Rattle.clu_tree.specs.declared.program.Program.{Program}
use Rattle.machine_rules.specs.declared.frame.Frame.{Frame}
use Rattle.machine_rules.specs.declared.act.Act.{Act}
use Rattle.machine_rules.specs.declared.act.Act.TheVariants as act
use Rattle.machine_rules.specs.Row.{bare_world, row, stands, start}
use Rattle.machine_rules.specs.Picking as turns
use Rattle.machine_rules.specs.Picking.{is_ready}
use Rattle.machine_rules.specs.declared.status.Status.{Status}
use Rattle.machine_rules.specs.declared.status.Status.TheVariants.{Ready, Sleeping}
use Rattle.world_types.specs.Limits.{Limit, in_order}
use Rattle.world_types.specs.declared.effects.Owner.{Owner}
use Rattle.world_types.specs.declared.effects.Owner.TheVariants as owner
use Rattle.world_types.specs.declared.effects.Effects.{Effects}
use Rattle.world_types.specs.declared.effects.Entry.{Entry}
use Rattle.world_types.specs.declared.effects.Mark.TheVariants as mark
use Rattle.world_rules.specs.Plain.{Rules, World, and_then, nothing, behind, join}
use Rattle.world_rules.specs.Legal.{Legal}
use Rattle.world_rules.specs.Shown.{line_text}

-- a live process: its number, what it does, its time limit if it has one, and its frames from the innermost
pub record Live : Type 0 where
  pub number : ℕ
  pub status : Status
  pub limit : Option ℕ
  pub frames : List Frame

-- A node: its number, its live processes by number, the number last picked (0 before the first turn), and its time.
-- Stores and calls join it with the parts of the language that make them.
pub record NodeState : Type 0 where
  pub number : ℕ
  pub processes : List Live
  pub picked : ℕ
  pub time : ℕ

-- a process that may take steps
abbrev pub ready : ℕ → List Frame → Live
ready n frames = record { number = n; status = Ready; limit = None; frames = frames }

-- a process that sleeps until its limit
abbrev pub asleep : ℕ → ℕ → List Frame → Live
asleep n limit frames = record { number = n; status = Sleeping; limit = Some limit; frames = frames }

-- ---- which process a turn picks

abbrev pub statuses : List Live → List (ℕ × Status)
statuses [] = []
statuses (p ∷ ps) = (p.number, p.status) ∷ statuses ps

-- the least ready number above the one last picked, else the least ready number
abbrev pub picks : NodeState → Option ℕ
picks s = turns.picks s.picked (statuses s.processes)

-- ---- processes by number

-- the frames of the ready process of this number
abbrev pub ready_frames : ℕ → List Live → Option (List Frame)
ready_frames n [] = None
ready_frames n (p ∷ ps) = if (p.number == n) && is_ready p.status then Some p.frames else ready_frames n ps

-- the process stands in the place of the one of its number
abbrev pub with_process : Live → List Live → List Live
with_process new [] = []
with_process new (p ∷ ps) = if p.number == new.number then new ∷ ps else p ∷ with_process new ps

-- the process of this number is gone
abbrev pub without : ℕ → List Live → List Live
without n [] = []
without n (p ∷ ps) = if p.number == n then ps else p ∷ without n ps

-- the process of this number may take steps again
abbrev pub woken : ℕ → List Live → List Live
woken n [] = []
woken n (p ∷ ps) = if p.number == n then ready n p.frames ∷ ps else p ∷ woken n ps

-- ---- time limits

abbrev pub limit_by : ℕ → Option ℕ → List Limit → List Limit
limit_by n None rest = rest
limit_by n (Some t) rest = (t, owner.Process n) ∷ rest

-- the limits of waiting processes
abbrev pub limits : List Live → List Limit
limits [] = []
limits (p ∷ ps) = limit_by p.number p.limit (limits ps)

-- the limits at or before t, in the order in which they expire
abbrev pub expiring : NodeState → ℕ → List Limit
expiring s t = in_order (filter (λ (l : Limit). nat_le l.0 t) (limits s.processes))

-- some limit is at or before t
abbrev pub due : NodeState → ℕ → Bool
due s t = list_any (λ (l : Limit). nat_le l.0 t) (limits s.processes)

-- a limit expires: a sleeper may take steps again
abbrev pub expired : Owner → NodeState → NodeState × Effects
expired (owner.Process n) s = (record s { processes = woken n s.processes }, record nothing { marks = mark.Expired (owner.Process n) ∷ [] })
expired call s = (s, record nothing { marks = mark.Expired call ∷ [] })

-- the node after what it did first and what it did then, with the effects of both
abbrev pub followed_by : NodeState × Effects → (NodeState → NodeState × Effects) → NodeState × Effects
followed_by a next = ((next a.0).0, join a.1 (next a.0).1)

-- these limits expire one after the other
abbrev pub expire : List Limit → NodeState → NodeState × Effects
expire [] s = (s, nothing)
expire (l ∷ ls) s = followed_by (expired l.1 s) (expire ls)

-- the node advances to t: its time is t, and all limits at or before t expire in their order
abbrev pub advance : NodeState → ℕ → NodeState × Effects
advance s t = expire (expiring s t) (record s { time = t })

-- a tick: some limit is at or before t, and the node advances to it
abbrev pub tick : NodeState → ℕ → Option (NodeState × Effects)
tick s t = if nat_le s.time t && due s t then Some (advance s t) else None

-- a packet reaches the node at t; no routine is exported in this part of the language, so it does nothing but advance it
abbrev pub deliver : NodeState → List ℕ → ℕ → Option (NodeState × Effects)
deliver s bytes t = if nat_le s.time t then Some (advance s t) else None

-- no process is ready, and no limit stands
abbrev pub is_quiet : NodeState → Bool
is_quiet s = is_none (picks s) && (length (limits s.processes) == 0)

-- ---- steps

-- the process sleeps for so many ms from the time t; at 0 or less it goes on
abbrev pub napping : ℕ → ℕ → ℤ → List Frame → Live
napping p t ms frames = if int_le ms (pos 0) then ready p frames else asleep p (t + nat_abs ms) frames

-- what a step of the process p did to its node
abbrev pub acted : ℕ → NodeState → Act → List Frame → Option (NodeState × Effects)
acted p s act.Went frames = Some (record s { processes = with_process (ready p frames) s.processes }, nothing)
acted p s (act.Put text) frames =
    Some (record s { processes = with_process (ready p frames) s.processes }, record nothing { lines = record { node = s.number; text = line_text s.number text } ∷ [] })
acted p s (act.Sleep ms) frames = Some (record s { processes = with_process (napping p s.time ms frames) s.processes }, nothing)
acted p s (act.Ended value) frames = Some (record s { processes = without p s.processes }, record nothing { marks = mark.Ended p ∷ [] })
acted p s does frames = None

-- one step of the process p, where it is ready
abbrev pub step_of : Program → ℕ → NodeState → Option (NodeState × Effects)
step_of program p s =
    and_then (ready_frames p s.processes) (λ frames. and_then (row (bare_world program s.time) frames) (λ next. acted p s next.act next.frames))

-- so many steps of the process p, which is ready before each of them
abbrev pub steps : Program → ℕ → ℕ → NodeState → Option (NodeState × Effects)
steps program p zero s = Some (s, nothing)
steps program p (suc k) s = and_then (step_of program p s) (λ a. and_then (steps program p k a.0) (behind a.1))

-- the process p was picked at the time t
abbrev pub picked_at : ℕ → ℕ → NodeState → NodeState
picked_at p t s = record s { picked = p; time = t }

-- 1 to 64 steps of the picked process at a time that isn't below the node's, where no limit is at or before it
abbrev pub can_turn : NodeState → ℕ → ℕ → Bool
can_turn s k t = nat_le 1 k && (nat_le k 64 && (nat_le s.time t && not (due s t)))

abbrev pub turn : Program → NodeState → ℕ → ℕ → Option (NodeState × Effects)
turn program s k t = if can_turn s k t then and_then (picks s) (λ p. steps program p k (picked_at p t s)) else None

-- ---- the rules of a program's nodes

-- the line at which the process p stands
abbrev pub line_at : ℕ → NodeState → Option ℕ
line_at p s = and_then (ready_frames p s.processes) stands

abbrev pub rules_of : Program → Rules NodeState
rules_of program = record {
  turn = turn program;
  deliver = deliver;
  tick = tick;
  time = λ s. s.time;
  due = due;
  ready = λ s. is_some (picks s);
  stands = λ s. and_then (picks s) (λ p. and_then (line_at p s) (λ line. Some (p, line)));
  begins = λ s k t. and_then (picks s) (λ p. and_then (steps program p k (picked_at p t s)) (λ a. line_at p a.0));
  answer = λ s question t. [];
}

-- ---- the nodes at their start

-- the first of the routines with this name, with its number, where the first of them has the number k
abbrev pub routine_named : List ℕ → ℕ → List Routine → Option (ℕ × Routine)
routine_named x k [] = None
routine_named x k (r ∷ rs) = if bytes_eq x r.name then Some (k, r) else routine_named x (suc k) rs

abbrev pub started_as : ℕ → Option (ℕ × Routine) → List Value → List Live → List Live
started_as n None args rest = rest
started_as n (Some r) args rest = ready n (start r.0 r.1 args) ∷ rest

-- the processes that a block starts, numbered from n in the order of the text
abbrev pub started : Program → ℕ → List NodePart → List Live
started program n [] = []
started program n (Export x line ∷ parts) = started program n parts
started program n (Start x args line ∷ parts) = started_as n (routine_named x 0 program.routines) args (started program (suc n) parts)

-- the nodes of the blocks, numbered from n, at their start
abbrev pub nodes_from : Program → ℕ → List NodeDecl → World NodeState
nodes_from program n [] = []
nodes_from program n (d ∷ ds) = (record { number = n; processes = started program 1 d.parts; picked = 0; time = 0 }, []) ∷ nodes_from program (suc n) ds

abbrev pub first_of_program : Program → World NodeState
first_of_program program = nodes_from program 1 program.nodes

-- the entries are a legal list for the program
abbrev pub IsLegal : Program → List Entry → Type 0
IsLegal program list = Legal (rules_of program) (first_of_program program) list
