-- The rule of a book's table: what holds of its words, its slot and the views of all seats between any two steps.
use Rattle.std.specs.Prelude.{◌≡◌, ◌≢◌, ◌⊎◌, ℕ, ◌+◌, ◌-◌, ◌%◌, ◌^◌, ◌<◌, ◌≤◌, List, [], ◌∷◌, length, Option, Some}
use Rattle.std.specs.List.{All, AllPairs, Contains, sum_by}
use mathlib.Core.Option as maybe
use mathlib.Core.List.{IsPrefix}
use lib.ListN.{get_elem?}
use Rattle.atomic_table.specs.Table.{State}
use Rattle.turn_book.specs.declared.view.Stage.{Stage}
use Rattle.turn_book.specs.declared.view.Stage.TheVariants.{Spent, Idle, Waits, OnTurn}
use Rattle.turn_book.specs.declared.view.View.{View}
use Rattle.turn_book.specs.History.{entries, entries_of, numbers}

-- how many tickets a stage holds
abbrev pub tickets : Stage → ℕ
tickets Spent = 0
tickets Idle = 0
tickets (Waits n) = 1
tickets (OnTurn n) = 1

-- how many passes a view stands for: its own, and those that may still be split from it
abbrev pub share : Stage → ℕ → ℕ
share Spent room = 0
share Idle room = room + 1
share (Waits n) room = room + 1
share (OnTurn n) room = room + 1

-- the stage holds this ticket
abbrev pub Holds : Stage → ℕ → Type 0
Holds Spent ticket = ⊥
Holds Idle ticket = ⊥
Holds (Waits n) ticket = n ≡ ticket
Holds (OnTurn n) ticket = n ≡ ticket

-- the stage that the seat j may have, while the tickets from `served` to before `drawn` are out and `turn` is the seat on turn, if there is one
abbrev pub StageOk : ℕ → ℕ → maybe.Option ℕ → ℕ → Stage → Type 0
StageOk served drawn turn j Spent = turn ≢ maybe.some j
StageOk served drawn turn j Idle = turn ≢ maybe.some j
StageOk served drawn turn j (Waits n) = (turn ≢ maybe.some j) × (served ≤ n) × (n < drawn)
StageOk served drawn turn j (OnTurn n) = (turn ≡ maybe.some j) × (n ≡ served) × (n < drawn)

-- an ended pass has a number that was split off, and the entries of that number
abbrev pub EndedOk : {E : Type 0} → List (ℕ × E) → ℕ → ℕ × List E → Type 0
EndedOk log splits p = (1 ≤ p.0) × (p.0 ≤ splits) × (p.1 ≡ entries_of p.0 log)

module _ {E L : Type 0} where
  -- the view of the first pass
  abbrev pub first_view : L → ℕ → View E L
  first_view label seats = record { stage = Idle; number = 0; seen = []; mine = []; ended = []; room = seats - 1; splits = 0; seats = seats; label = Some label }

  -- a view that isn't spent has this number
  abbrev pub Named : List (View E L) → ℕ → Type 0
  Named views k = (j : ℕ) × (v : View E L) × (get_elem? views j ≡ maybe.some v) × (v.stage ≢ Spent) × (v.number ≡ k)

  -- what a view that isn't spent knows is true, and the first pass alone knows of splits and ended passes
  pub record Knows (log : List (ℕ × E)) (splits : ℕ) (ended : List (ℕ × List E)) (label : L) (seats : ℕ) (v : View E L) : Type 0 where
    pub named : v.label ≡ Some label
    pub seated : v.seats ≡ seats
    pub seen : IsPrefix v.seen (entries log)
    pub mine : v.mine ≡ entries_of v.number log
    pub first : v.number ≡ 0 → (v.splits ≡ splits) × (v.ended ≡ ended)
    pub later : v.number ≢ 0 → (v.number ≤ splits) × (v.room ≡ 0) × (v.splits ≡ 0) × (v.ended ≡ [])

  -- the view of the seat j, which has seen the whole history where it is on turn
  pub record ViewOk (log : List (ℕ × E)) (splits : ℕ) (ended : List (ℕ × List E)) (served drawn : ℕ) (turn : maybe.Option ℕ) (label : L) (seats j : ℕ) (v : View E L) : Type 0 where
    pub stands : StageOk served drawn turn j v.stage
    pub knows : v.stage ≢ Spent → Knows log splits ended label seats v
    pub whole : (n : ℕ) → v.stage ≡ OnTurn n → v.seen ≡ entries log

  -- two views have different numbers, unless one is spent, and different tickets
  pub record Apart (v w : View E L) : Type 0 where
    pub numbers : v.stage ≢ Spent → w.stage ≢ Spent → v.number ≢ w.number
    pub tickets : (n : ℕ) → Holds v.stage n → Holds w.stage n → ⊥

module _ {J E L : Type 0} (history_of : J → List E) (label_of : J → L) where
  -- while no seat is on turn the slot has a value with the whole history and the label, and else it is out with that seat
  abbrev pub SlotOk : List (ℕ × E) → L → maybe.Option ℕ → List (maybe.Option (Option J)) → Type 0
  SlotOk log label maybe.none homes = (x : J) × (homes ≡ maybe.some (Some x) ∷ []) × (history_of x ≡ entries log) × (label_of x ≡ label)
  SlotOk log label (maybe.some j) homes = homes ≡ maybe.none ∷ []

  -- the rule
  pub record BookRule (label : L) (seats : ℕ) (s : State (Option J) (View E L)) : Type 0 where
    -- each entry of the history, with the number of the pass that made it
    pub log : List (ℕ × E)
    -- the tickets that were served and drawn, counted without an end
    pub served : ℕ
    pub drawn : ℕ
    -- the passes that were split from the first, and those that were joined to it
    pub splits : ℕ
    pub ended : List (ℕ × List E)
    -- the seat on turn, if there is one
    pub turn : maybe.Option ℕ
    -- the words are these counts
    pub words : s.words ≡ length log % 2 ^ 64 ∷ drawn % 2 ^ 64 ∷ served % 2 ^ 64 ∷ []
    -- as many tickets are out as views hold one, and the views stand for all seats
    pub few : seats < 2 ^ 32
    pub waiting : served + sum_by (λ (v : View E L). tickets v.stage) s.views ≡ drawn
    pub shares : sum_by (λ (v : View E L). share v.stage v.room) s.views ≡ seats
    -- where the value is
    pub slot : SlotOk log label turn s.homes
    pub holder : (j : ℕ) → turn ≡ maybe.some j → (v : View E L) × (get_elem? s.views j ≡ maybe.some v) × (v.stage ≡ OnTurn served)
    -- each view by itself, and each two
    pub each : (j : ℕ) (v : View E L) → get_elem? s.views j ≡ maybe.some v → ViewOk log splits ended served drawn turn label seats j v
    pub apart : (i j : ℕ) (v w : View E L) → i ≢ j → get_elem? s.views i ≡ maybe.some v → get_elem? s.views j ≡ maybe.some w → Apart v w
    -- there is a first pass, and each entry is of a view's number or of an ended pass's
    pub root : Named s.views 0
    pub owned : (k : ℕ) → Contains (numbers log) k → Named s.views k ⊎ Contains (numbers ended) k
    -- the ended passes, whose numbers differ from one another and from those of the views
    pub kept : All (EndedOk log splits) ended
    pub once : AllPairs (λ j k. j ≢ k) (numbers ended)
    pub gone : (k : ℕ) → Contains (numbers ended) k → Named s.views k → ⊥
