-- The laws of what a list says, over every program.
use Rattle.std.specs.Prelude.{◌≡◌, ℕ, ◌≤◌, true, List, [], ◌∷◌, ◌++◌, length, reverse, Some, None}
use Rattle.clu_tree.specs.declared.program.Program.{Program}
use Rattle.world_types.specs.declared.event.Event.TheVariants.{Resume}
use Rattle.world_types.specs.declared.event.Told.{Told}
use Rattle.world_types.specs.declared.effects.Entry.{Entry}
use Rattle.world_types.specs.declared.effects.Effects.{Effects}
use Rattle.world_rules.specs.Plain.{World, plain}
use Rattle.world_rules.specs.Said.{Round, rounds, cut, erase, items, plain_events, read_by}
use Rattle.world_rules.specs.Clock.{ClosedBy, Knows, Lacks, Ordered, clock_reads, opening, total}
use Rattle.world_rules.specs.Legal.{ArePlain, ErasesLegally, Follows, SameEffects, first_failing, reached, tolds}
use Rattle.world_rules.specs.Node.{IsLegal, NodeState, first_of_program, rules_of}
use Rattle.world_rules.specs.Transcript.{printed, transcript, written_by}

-- the events of the entries, the newest first
abbrev pub past_of : List Entry → List Told
past_of list = reverse (tolds list)

-- Of the cut: it doesn't fall as the stamp rises, and a later entry never changes it at an earlier stamp.
pub record CutLaws (program : Program) : Type 0 where
  pub rises : (list : List Entry) (t u : ℕ) → IsLegal program list → t ≤ u → cut (rounds (past_of list)) t ≤ cut (rounds (past_of list)) u
  pub stays : (past : List Told) (e : Told) (t : ℕ) → t ≤ e.stamp → cut (rounds (e ∷ past)) t ≡ cut (rounds past) t

-- Of the list without the debugger: one more entry adds its items; it has only turns, packets and ticks; its effects
-- are those of the list; it is legal; and erasing it once more changes nothing.
pub record ErasingLaws (program : Program) : Type 0 where
  pub one_more : (list : List Entry) (e : Told) → IsLegal program list → first_failing (rules_of program) (first_of_program program) (past_of list) e ≡ None →
      erase (tolds list ++ e ∷ []) ≡ erase (tolds list) ++ items (cut (rounds (past_of list))) (past_of list) e
  pub plain_only : (list : List Told) → ArePlain (erase list)
  pub same : (list : List Entry) → IsLegal program list → SameEffects (rules_of program) (first_of_program program) list
  pub legal : (list : List Entry) → IsLegal program list → ErasesLegally (rules_of program) (first_of_program program) list
  pub again : (list : List Told) → erase (erase list) ≡ erase list

-- Of one more entry: the events of a list that is read from its end are its past; what is written for the entry comes
-- behind what is written for the list; and a legal list that an entry follows
-- is legal with that entry.
pub record FollowingLaws (program : Program) : Type 0 where
  pub past : (list : List Entry) → tolds (reverse list) ≡ past_of list
  pub written : (list : List Entry) (e : Entry) → transcript (list ++ e ∷ []) ≡ transcript list ++ written_by e.event e.effects
  pub legal : (list : List Entry) (e : Entry) → IsLegal program list → Follows (rules_of program) (first_of_program program) (past_of list) e → IsLegal program (list ++ e ∷ [])

-- The machine without debugger runs the events of the list as they stand, and what is written for the list are that
-- machine's lines.
pub record RunsPlainly (program : Program) (list : List Entry) : Type 0 where
  pub last : World NodeState
  pub most : Effects
  pub ran : plain (rules_of program) (first_of_program program) (plain_events (tolds list)) ≡ Some (last, most)
  pub written : transcript list ≡ printed most.lines

-- Of turns, packets and ticks alone: a legal list of them is run as it stands.
abbrev pub PlainLaw : Program → Type 0
PlainLaw program = (list : List Entry) → IsLegal program list → ArePlain (tolds list) → RunsPlainly program list

-- a clock that keeps the total and the opening of the rounds reads their cut where all that are closed are closed by then
abbrev pub ClockLaw : Type 0
ClockLaw = (rs : List Round) (s t : ℕ) → Ordered rs s → ClosedBy t rs → clock_reads (total rs) (opening rs) t ≡ cut rs t

-- rounds that a clock knows, which lack some of the list's, have the list's cut at a time that the list lets be read
abbrev pub LaggingClockLaw : Type 0
LaggingClockLaw = (known rs : List Round) (t : ℕ) → Lacks known rs → read_by rs t ≡ true → cut known t ≡ cut rs t

-- The node's clock, which knows these rounds, knows the list also with an entry that meets its conditions; where that
-- is the node's Resume, it knew all rounds.
abbrev pub KnowingLaw : Program → Type 0
KnowingLaw program =
    (past : List Told) (e : Told) (n : ℕ) (known : List Round) → first_failing (rules_of program) (first_of_program program) past e ≡ None →
    1 ≤ n → n ≤ length (reached (rules_of program) (first_of_program program) past) → (e.event ≡ Resume n → known ≡ rounds past) →
    Knows n past known → Knows n (e ∷ past) known
