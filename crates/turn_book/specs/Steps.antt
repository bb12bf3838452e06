-- What a step tells the seat that makes it: m is the seat before, r the number that was found, and m' the seat after.
use Rattle.std.specs.Prelude.{◌≡◌, ◌≢◌, ℕ, ◌+◌, ◌-◌, ◌%◌, ◌^◌, List, [], ◌∷◌, ◌++◌, Option, Some, None}
use mathlib.Core.List.{IsPrefix}
use Rattle.atomic_table.specs.Table.{Me, Step}
use Rattle.turn_book.specs.declared.view.Stage.TheVariants.{Spent, Idle, Waits, OnTurn}
use Rattle.turn_book.specs.declared.view.View.{View}
use Rattle.turn_book.specs.History.{longer}

module _ {J E L : Type 0} where
  -- the number found is that of the ticket, which the seat holds from now on
  abbrev pub drew : Step (Option J) → Me (Option J) (View E L) → ℕ → Me (Option J) (View E L) → Type 0
  drew st m r m' = (n : ℕ) × (r ≡ n % 2 ^ 64) × (m' ≡ (record m.0 { stage = Waits n }, m.1))

  -- Where the number found is that of the seat's ticket, the seat is on turn. It then has the value, whose history begins with what the seat had seen.
  abbrev pub looked : (J → List E) → (J → L) → Step (Option J) → Me (Option J) (View E L) → ℕ → Me (Option J) (View E L) → Type 0
  looked history_of label_of st m r m' = (n : ℕ) → m.0.stage ≡ Waits n
      → (r ≢ n % 2 ^ 64 → m' ≡ m)
      × (r ≡ n % 2 ^ 64 → (x : J) × (m' ≡ (record m.0 { stage = OnTurn n; seen = history_of x }, (0, Some x) ∷ m.1)) × IsPrefix m.0.seen (history_of x) × (m.0.label ≡ Some (label_of x)))

  -- the seat's value has one entry more than was seen, which the seat has entered
  abbrev pub entered : (J → List E) → Step (Option J) → Me (Option J) (View E L) → ℕ → Me (Option J) (View E L) → Type 0
  entered history_of st m r m' = (x : J) × (e : E) × (m.1 ≡ (0, Some x) ∷ []) × (history_of x ≡ m.0.seen ++ e ∷ [])
      × (m' ≡ (record m.0 { seen = history_of x; mine = m.0.mine ++ e ∷ [] }, m.1))

  -- the turn is over, and the slot at home
  abbrev pub left : Step (Option J) → Me (Option J) (View E L) → ℕ → Me (Option J) (View E L) → Type 0
  left st m r m' = m' ≡ (record m.0 { stage = Idle }, [])

module _ {E L : Type 0} where
  -- what is left of a view that another was split from
  abbrev pub rest_of : View E L → View E L
  rest_of v = record v { room = v.room - 1; splits = v.splits + 1 }

  -- the view that is split off
  abbrev pub part_of : View E L → View E L
  part_of v = record v { stage = Idle; number = v.splits + 1; mine = []; ended = []; room = 0; splits = 0 }

  -- the view that another was joined to
  abbrev pub joined : View E L → View E L → View E L
  joined v w = record v { seen = longer v.seen w.seen; room = v.room + 1; ended = v.ended ++ (w.number, w.mine) ∷ [] }

  -- the view of a seat that was joined to another
  abbrev pub spent : View E L
  spent = record { stage = Spent; number = 0; seen = []; mine = []; ended = []; room = 0; splits = 0; seats = 0; label = None }
