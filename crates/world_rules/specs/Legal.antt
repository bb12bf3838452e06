-- Which entry may come next, what it gives, legal lists of entries, and their laws.
use Rattle.std.specs.Prelude.{◌≡◌, ℕ, zero, suc, ◌-◌, ◌≤◌, Bool, true, false, not, ◌&&◌, ◌||◌, if◌then◌else◌, nat_le, ◌==◌, List, [], ◌∷◌, ◌++◌, reverse, length, Option, Some, None, is_none, is_some, codes, decimal}
use Rattle.world_types.specs.declared.event.Event.{Event}
use Rattle.world_types.specs.declared.event.Event.TheVariants.{Turn, Packet, Tick, Stop, Halt, Resume, Ask, Answer, Set, Clear, HaltAll}
use Rattle.world_types.specs.declared.event.Question.{Question}
use Rattle.world_types.specs.declared.event.Told.{Told}
use Rattle.world_types.specs.declared.effects.Sent.{Sent}
use Rattle.world_types.specs.declared.effects.Entry.{Entry}
use Rattle.world_types.specs.declared.effects.Effects.{Effects}
use Rattle.world_rules.specs.Plain.{Rules, World, node_at, packet_of, and_then, plain, join, nothing}
use Rattle.world_rules.specs.declared.condition.Condition.TheVariants as on
use Rattle.world_rules.specs.Conditions.{Test, first_of}
use Rattle.world_rules.specs.Said.{node_of, halted, all_halted, last_of, last_stamp, is_open, rounds, cut, read_by, goal, below, turned, marked, asked, none_asked, has_quit, erase, erased, items, plain_events}

-- ---- the world that a list leaves

abbrev pub world_or : {S : Type 0} → World S → Option (World S × Effects) → World S
world_or first None = first
world_or first (Some a) = a.0

-- the nodes after the list, which are those of the plain machine after its erasure
abbrev pub reached : {S : Type 0} → Rules S → World S → List Told → World S
reached rules first past = world_or first (plain rules first (plain_events (erased (cut (rounds past)) past)))

-- ---- what is read off a node of a world

abbrev pub test : {A : Type 0} → Option A → (A → Bool) → Bool
test None f = false
test (Some a) f = f a

abbrev pub due_at : {S : Type 0} → Rules S → World S → ℕ → ℕ → Bool
due_at rules w n t = test (node_at w n) (λ node. rules.due node.0 t)

abbrev pub ready_at : {S : Type 0} → Rules S → World S → ℕ → Bool
ready_at rules w n = test (node_at w n) (λ node. rules.ready node.0)

abbrev pub stands_at : {S : Type 0} → Rules S → World S → ℕ → Option (ℕ × ℕ)
stands_at rules w n = and_then (node_at w n) (λ node. rules.stands node.0)

-- ---- lines passed

abbrev pub same_process : Option (ℕ × ℕ) → Option (ℕ × ℕ) → Bool
same_process None b = false
same_process (Some a) None = false
same_process (Some a) (Some b) = a.0 == b.0

abbrev pub same_place : Option (ℕ × ℕ) → ℕ × ℕ → Bool
same_place None b = false
same_place (Some a) b = (a.0 == b.0) && (a.1 == b.1)

abbrev pub passed_by : Event → Option (ℕ × ℕ) → Option (ℕ × ℕ) → Option (ℕ × ℕ)
passed_by (Stop m) here before = here
passed_by (Turn m k r) here before = if same_process here before then None else before
passed_by e here before = before

-- the process and the line that the node's last Stop was for, where that process hasn't stepped since
abbrev pub passed : {S : Type 0} → Rules S → World S → ℕ → List Told → Option (ℕ × ℕ)
passed rules first n [] = None
passed rules first n (e ∷ past) = if node_of e.event == n then passed_by e.event (stands_at rules (reached rules first past) n) (passed rules first n past) else passed rules first n past

-- the picked process stands at a marked line that it hasn't passed
abbrev pub blocked : Option (ℕ × ℕ) → (ℕ → Bool) → Option (ℕ × ℕ) → Bool
blocked here marks passed = test here (λ place. marks place.1 && not (same_place passed place))

-- ---- the numbered conditions

abbrev pub is_node : {S : Type 0} → World S → ℕ → Bool
is_node w n = is_some (node_at w n)

abbrev pub names_nodes : {S : Type 0} → World S → Event → Bool
names_nodes w (Turn n k r) = is_node w n
names_nodes w (Packet n m j) = is_node w n && is_node w m
names_nodes w (Tick n) = is_node w n
names_nodes w (Stop n) = is_node w n
names_nodes w (Halt n) = is_node w n
names_nodes w (Resume n) = is_node w n
names_nodes w (Ask n q) = is_node w n
names_nodes w (Answer n) = is_node w n
names_nodes w (Set n l) = is_node w n
names_nodes w (Clear n l) = is_node w n
names_nodes w e = true

-- the conditions named for an event, in order, of a node n: the list before says past, it leaves w, and p is what n has passed
abbrev pub tests : {S : Type 0} → Rules S → World S → Option (ℕ × ℕ) → List Told → ℕ → Event → List Test
tests rules w p past s (Turn n k r) =
    (on.Runs, not (halted n past)) ∷
    (on.FirstTurn, not (is_open (rounds past)) || not (turned n past)) ∷
    (on.ReadsInTime, nat_le (last_of n past) r && (nat_le r s && read_by (rounds past) r)) ∷
    (on.BeforeGoal, below (goal past) (cut (rounds past) r)) ∷
    (on.DueFits, not (due_at rules w n (cut (rounds past) r))) ∷
    (on.CanStep, ready_at rules w n) ∷
    (on.AtMark, not (blocked (stands_at rules w n) (marked n past) p)) ∷ []
tests rules w p past s (Packet n m j) =
    (on.WasSent, is_some (packet_of w n m j)) ∷
    (on.HaltsInRound, not (is_open (rounds past)) || halted n past) ∷
    (on.BeforeGoal, below (goal past) (cut (rounds past) s) || halted n past) ∷ []
tests rules w p past s (Tick n) =
    (on.Runs, not (halted n past)) ∷
    (on.NoRound, not (is_open (rounds past))) ∷
    (on.DueFits, due_at rules w n (cut (rounds past) s)) ∷
    (on.BeforeGoal, below (goal past) (cut (rounds past) s)) ∷ []
tests rules w p past s (Stop n) =
    (on.Runs, not (halted n past)) ∷
    (on.DueFits, not (due_at rules w n (cut (rounds past) (last_of n past)))) ∷
    (on.CanStep, ready_at rules w n) ∷
    (on.AtMark, blocked (stands_at rules w n) (marked n past) p) ∷ []
tests rules w p past s (Halt n) = (on.Runs, not (halted n past)) ∷ (on.InRound, is_open (rounds past)) ∷ []
tests rules w p past s (Resume n) = (on.Halts, halted n past) ∷ (on.NoRound, not (is_open (rounds past))) ∷ []
tests rules w p past s (Ask n q) = (on.InRound, is_open (rounds past)) ∷ (on.AllHalt, all_halted (length w) past) ∷ (on.NotAsked, is_none (asked n past)) ∷ []
tests rules w p past s (Answer n) = (on.IsAsked, is_some (asked n past)) ∷ []
tests rules w p past s HaltAll = (on.NoRound, not (is_open (rounds past))) ∷ []
tests rules w p past s e = (on.InRound, is_open (rounds past)) ∷ (on.AllHalt, all_halted (length w) past) ∷ (on.NoneAsked, none_asked (length w) past) ∷ []

abbrev pub all_tests : {S : Type 0} → Rules S → World S → Option (ℕ × ℕ) → List Told → Told → List Test
all_tests rules w p past e =
    (on.StampRises, nat_le (last_stamp past) e.stamp) ∷ (on.NotQuit, not (has_quit past)) ∷ (on.NamesNodes, names_nodes w e.event) ∷ tests rules w p past e.stamp e.event

-- the first number that refuses the entry after the list
abbrev pub first_failing : {S : Type 0} → Rules S → World S → List Told → Told → Option ℕ
first_failing rules first past e = first_of (all_tests rules (reached rules first past) (passed rules first (node_of e.event) past) past e)

-- ---- the steps of a Turn

-- none of the first k steps after the first begins a statement on a marked line
abbrev pub unmarked : {S : Type 0} → Rules S → S → ℕ → (ℕ → Bool) → ℕ → Bool
unmarked rules s t marks zero = true
unmarked rules s t marks (suc k) = not (test (rules.begins s (suc k) t) marks) && unmarked rules s t marks k

abbrev pub allowed : {S : Type 0} → Rules S → S → ℕ → (ℕ → Bool) → ℕ → Bool
allowed rules s t marks k = is_some (rules.turn s k t) && unmarked rules s t marks (k - 1)

-- the greatest number up to k that is allowed, or 0
abbrev pub most : {S : Type 0} → Rules S → S → ℕ → (ℕ → Bool) → ℕ → ℕ
most rules s t marks zero = zero
most rules s t marks (suc k) = if allowed rules s t marks (suc k) then suc k else most rules s t marks k

abbrev pub most_at : {S : Type 0} → Rules S → Option (S × List Sent) → ℕ → (ℕ → Bool) → ℕ → ℕ
most_at rules None t marks k = zero
most_at rules (Some node) t marks k = most rules node.0 t marks k

abbrev pub settled_by : {S : Type 0} → Rules S → World S → List Told → Event → Event
settled_by rules w past (Turn n k r) = Turn n (most_at rules (node_at w n) (cut (rounds past) r) (marked n past) k) r
settled_by rules w past e = e

-- a Turn has the greatest number of steps up to the given one
abbrev pub settled : {S : Type 0} → Rules S → World S → List Told → Told → Told
settled rules first past e = record { stamp = e.stamp; event = settled_by rules (reached rules first past) past e.event }

-- ---- what an entry gives

abbrev pub answer_of : {S : Type 0} → Rules S → Option (S × List Sent) → Option Question → ℕ → List ℕ
answer_of rules (Some node) (Some q) t = rules.answer node.0 q t
answer_of rules at q t = []

-- the line of a Stop at the node, for the process and the line where it stands
abbrev pub stop_text : ℕ → Option (ℕ × ℕ) → List ℕ
stop_text n None = []
stop_text n (Some place) =
    codes "* node " ++ decimal n ++ codes " process " ++ decimal place.0 ++ codes " stopped at line " ++ decimal place.1

abbrev pub shown_by : {S : Type 0} → Rules S → World S → List Told → ℕ → Event → List ℕ
shown_by rules w past s (Stop n) = stop_text n (stands_at rules w n)
shown_by rules w past s (Answer n) = answer_of rules (node_at w n) (asked n past) (cut (rounds past) s)
shown_by rules w past s e = []

abbrev pub showing : {S : Type 0} → List ℕ → World S × Effects → Option (World S × Effects)
showing text a = Some (a.0, record { sent = a.1.sent; lines = a.1.lines; marks = a.1.marks; shown = text })

-- the world after the entry, and its effects
abbrev pub enter : {S : Type 0} → Rules S → World S → List Told → Told → Option (World S × Effects)
enter rules w past e = and_then (plain rules w (plain_events (items (cut (rounds past)) past e))) (showing (shown_by rules w past e.stamp e.event))

-- ---- legal lists

abbrev pub told : Entry → Told
told e = record { stamp = e.stamp; event = e.event }

abbrev pub tolds : List Entry → List Told
tolds [] = []
tolds (e ∷ es) = told e ∷ tolds es

-- effects without what is shown
abbrev pub bare : Effects → Effects
bare x = record { sent = x.sent; lines = x.lines; marks = x.marks; shown = [] }

abbrev pub effects_of : List Entry → Effects
effects_of [] = nothing
effects_of (e ∷ past) = join (effects_of past) (bare e.effects)

-- the entry may stand after the list, and its effects are its own
pub record Follows {S : Type 0} (rules : Rules S) (first : World S) (past : List Told) (e : Entry) : Type 0 where
  pub meets : first_failing rules first past (told e) ≡ None
  pub whole : settled rules first past (told e) ≡ told e
  pub after : World S
  pub gives : enter rules (reached rules first past) past (told e) ≡ Some (after, e.effects)

-- each entry, the newest first, follows those before it
abbrev pub LegalPast : {S : Type 0} → Rules S → World S → List Entry → Type 0
LegalPast rules first [] = Unit {0}
LegalPast rules first (e ∷ past) = LegalPast rules first past × Follows rules first (tolds past) e

abbrev pub Legal : {S : Type 0} → Rules S → World S → List Entry → Type 0
Legal rules first list = LegalPast rules first (reverse list)

-- a list without the debugger
abbrev pub IsPlainEvent : Event → Type 0
IsPlainEvent (Turn n k r) = Unit {0}
IsPlainEvent (Packet n m j) = Unit {0}
IsPlainEvent (Tick n) = Unit {0}
IsPlainEvent e = ⊥

abbrev pub ArePlain : List Told → Type 0
ArePlain [] = Unit {0}
ArePlain (e ∷ es) = IsPlainEvent e.event × ArePlain es

-- a Turn's reading isn't after its stamp
abbrev pub ReadsBy : ℕ → Event → Type 0
ReadsBy s (Turn n k r) = r ≤ s
ReadsBy s e = Unit {0}

-- stamps don't fall, from s back, and no reading is after its stamp
abbrev pub InTime : ℕ → List Told → Type 0
InTime s [] = Unit {0}
InTime s (e ∷ past) = (e.stamp ≤ s) × ReadsBy e.stamp e.event × InTime e.stamp past

-- the effects of a legal list are those of its erasure
pub record SameEffects {S : Type 0} (rules : Rules S) (first : World S) (list : List Entry) : Type 0 where
  pub last : World S
  pub most : Effects
  pub same : plain rules first (plain_events (erase (tolds list))) ≡ Some (last, most)
  pub bare_same : bare most ≡ effects_of (reverse list)

-- the list without the debugger is legal again
pub record ErasesLegally {S : Type 0} (rules : Rules S) (first : World S) (list : List Entry) : Type 0 where
  pub entries : List Entry
  pub erased : tolds entries ≡ erase (tolds list)
  pub legal : Legal rules first entries
