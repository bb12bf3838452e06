-- What a list of events says at a position, read off the events before it, the newest first.
use Rattle.std.specs.Prelude.{ℕ, zero, suc, ◌+◌, Bool, true, false, not, ◌&&◌, ◌||◌, if◌then◌else◌, nat_lt, ◌==◌, List, [], ◌∷◌, ◌++◌, reverse, Option, Some, None, is_none}
use Rattle.world_types.specs.declared.event.Event.{Event}
use Rattle.world_types.specs.declared.event.Event.TheVariants.{Turn, Packet, Tick, Stop, Halt, Resume, Ask, Answer, Set, Clear, HaltAll, ResumeAll, Quit}
use Rattle.world_types.specs.declared.event.Question.{Question}
use Rattle.world_types.specs.declared.event.Told.{Told}
use Rattle.world_types.specs.declared.event.PlainEvent.{PlainEvent}
use Rattle.world_types.specs.declared.event.PlainEvent.TheVariants as plainly
pub use Rattle.world_types.specs.Rounds.{Round, is_open, opened, closed, cut, read_by}

-- ---- the node of an event, 0 where it has none

abbrev pub node_of : Event → ℕ
node_of (Turn n k r) = n
node_of (Packet n m j) = n
node_of (Tick n) = n
node_of (Stop n) = n
node_of (Halt n) = n
node_of (Resume n) = n
node_of (Ask n q) = n
node_of (Answer n) = n
node_of (Set n l) = n
node_of (Clear n l) = n
node_of e = 0

-- ---- halted nodes

abbrev pub halted_by : Event → Bool → Bool
halted_by (Stop m) before = true
halted_by (Halt m) before = true
halted_by (Resume m) before = false
halted_by e before = before

-- the last Stop, Halt or Resume of the node isn't a Resume
abbrev pub halted : ℕ → List Told → Bool
halted n [] = false
halted n (e ∷ past) = if node_of e.event == n then halted_by e.event (halted n past) else halted n past

abbrev pub all_halted : ℕ → List Told → Bool
all_halted zero past = true
all_halted (suc n) past = halted (suc n) past && all_halted n past

-- ---- last stamps

abbrev pub last_by : ℕ → Event → ℕ → ℕ
last_by s (Ask m q) before = before
last_by s (Set m l) before = before
last_by s (Clear m l) before = before
last_by s e before = s

-- the stamp of the node's last Turn, Packet, Tick, Stop, Halt, Resume or Answer
abbrev pub last_of : ℕ → List Told → ℕ
last_of n [] = 0
last_of n (e ∷ past) = if node_of e.event == n then last_by e.stamp e.event (last_of n past) else last_of n past

abbrev pub last_stamp : List Told → ℕ
last_stamp [] = 0
last_stamp (e ∷ past) = e.stamp

-- ---- rounds

abbrev pub rounds_by : ℕ → Event → List Round → List Round
rounds_by s (Stop n) rs = opened s rs
rounds_by s HaltAll rs = opened s rs
rounds_by s (ResumeAll until) rs = closed s rs
rounds_by s e rs = rs

-- a round opens at a Stop or HaltAll while none is open, and closes at the next ResumeAll
abbrev pub rounds : List Told → List Round
rounds [] = []
rounds (e ∷ past) = rounds_by e.stamp e.event (rounds past)

-- ---- the goal

abbrev pub goal_of : ℕ → Option ℕ → Option ℕ
goal_of c None = None
goal_of c (Some t) = Some (c + t)

abbrev pub goal_by : List Round → ℕ → Event → Option ℕ → Option ℕ
goal_by rs s (ResumeAll until) before = goal_of (cut rs s) until
goal_by rs s e before = before

abbrev pub goal : List Told → Option ℕ
goal [] = None
goal (e ∷ past) = goal_by (rounds past) e.stamp e.event (goal past)

abbrev pub below : Option ℕ → ℕ → Bool
below None t = true
below (Some g) t = nat_lt t g

-- ---- the Turn that a node may place while a round is open

abbrev pub turned_by : ℕ → Event → Bool → Bool → Bool
turned_by n (Turn m k r) in_round before = (m == n) || before
turned_by n (Stop m) in_round before = in_round && before
turned_by n HaltAll in_round before = in_round && before
turned_by n e in_round before = before

-- the node has a Turn since the last round opened
abbrev pub turned : ℕ → List Told → Bool
turned n [] = false
turned n (e ∷ past) = turned_by n e.event (is_open (rounds past)) (turned n past)

-- ---- marks, questions, quit

abbrev pub marked_by : ℕ → Event → Bool → Bool
marked_by line (Set m l) before = (l == line) || before
marked_by line (Clear m l) before = not (l == line) && before
marked_by line e before = before

-- the last Set or Clear of the line at the node is a Set
abbrev pub marked : ℕ → List Told → ℕ → Bool
marked n [] line = false
marked n (e ∷ past) line = if node_of e.event == n then marked_by line e.event (marked n past line) else marked n past line

abbrev pub asked_by : Event → Option Question → Option Question
asked_by (Ask m q) before = Some q
asked_by (Answer m) before = None
asked_by e before = before

-- the question of the node's last Ask, where no Answer followed
abbrev pub asked : ℕ → List Told → Option Question
asked n [] = None
asked n (e ∷ past) = if node_of e.event == n then asked_by e.event (asked n past) else asked n past

abbrev pub none_asked : ℕ → List Told → Bool
none_asked zero past = true
none_asked (suc n) past = is_none (asked (suc n) past) && none_asked n past

abbrev pub quits : Event → Bool
quits Quit = true
quits e = false

abbrev pub has_quit : List Told → Bool
has_quit [] = false
has_quit (e ∷ past) = quits e.event || has_quit past

-- ---- held packets, and what is left of a list without the debugger

abbrev pub held_by : Event → Bool → List (ℕ × ℕ) → List (ℕ × ℕ)
held_by (Packet m from index) is_halted before = if is_halted then before ++ (from, index) ∷ [] else before
held_by (Resume m) is_halted before = []
held_by e is_halted before = before

-- the packets that found the node halted and that no Resume followed, in order
abbrev pub held : ℕ → List Told → List (ℕ × ℕ)
held n [] = []
held n (e ∷ past) = if node_of e.event == n then held_by e.event (halted n past) (held n past) else held n past

abbrev pub resumed : ℕ → ℕ → List (ℕ × ℕ) → List Told
resumed n t [] = []
resumed n t (p ∷ ps) = record { stamp = t; event = Packet n p.0 p.1 } ∷ resumed n t ps

-- what an event adds, where c cuts the stamps
abbrev pub items_by : (ℕ → ℕ) → List Told → ℕ → Event → List Told
items_by c past s (Turn n k r) = record { stamp = c s; event = Turn n k (c r) } ∷ []
items_by c past s (Tick n) = record { stamp = c s; event = Tick n } ∷ []
items_by c past s (Packet n from index) = if halted n past then [] else record { stamp = c s; event = Packet n from index } ∷ []
items_by c past s (Resume n) = resumed n (c s) (held n past)
items_by c past s e = []

abbrev pub items : (ℕ → ℕ) → List Told → Told → List Told
items c past e = items_by c past e.stamp e.event

-- the items of all events in order
abbrev pub erased : (ℕ → ℕ) → List Told → List Told
erased c [] = []
erased c (e ∷ past) = erased c past ++ items c past e

-- the list without the debugger: by the cut of the whole list
abbrev pub erase : List Told → List Told
erase list = erased (cut (rounds (reverse list))) (reverse list)

abbrev pub plainly_at : ℕ → Event → List PlainEvent
plainly_at s (Turn n k r) = plainly.Turn n k r ∷ []
plainly_at s (Packet n from index) = plainly.Deliver n from index s ∷ []
plainly_at s (Tick n) = plainly.Tick n s ∷ []
plainly_at s e = []

-- as plain events a Turn is at its reading and the others are at their stamps
abbrev pub plain_events : List Told → List PlainEvent
plain_events [] = []
plain_events (e ∷ es) = plainly_at e.stamp e.event ++ plain_events es
