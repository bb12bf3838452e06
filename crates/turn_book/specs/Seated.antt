-- A seat of the table, and what contracts see of it.
use Rattle.std.specs.Prelude.{◌≡◌, ℕ, ◌%◌, ◌^◌, List, [], ◌∷◌, Option, Some, None, IsSome}
use Rattle.std.proofs.Common.{true≢false, sym}
use Rattle.atomic_table.specs.Seated.{TableId}
use Rattle.atomic_table.specs.Table.{Me}
use Rattle.turn_book.specs.declared.view.Stage.TheVariants.{Idle, Waits, OnTurn}
use Rattle.turn_book.specs.declared.view.View.{View}
use Rattle.turn_book.specs.PassView.{PassView}

-- the value of an option that has one
abbrev pub value_of : {A : Type 0} (o : Option A) → IsSome o → A
value_of (Some x) some = x
value_of None some = absurd (true≢false (sym some))

-- the value of the slot that the seat took last
abbrev pub in_hand : {J : Type 0} → List (ℕ × Option J) → Option J
in_hand [] = None
in_hand (x ∷ xs) = x.1

module _ {E L : Type 0} where
  -- the pass that a view of this table shows
  abbrev pub shown : TableId → (v : View E L) → IsSome v.label → PassView E L
  shown book v labelled = record { book = book; number = v.number; seen = v.seen; mine = v.mine; ended = v.ended; room = v.room; splits = v.splits; seats = v.seats; label = value_of v.label labelled }

module _ {J E L : Type 0} where
  -- the seat neither waits nor is on turn
  abbrev pub IsAtRest : Me (Option J) (View E L) → Type 0
  IsAtRest me = (me.0.stage ≡ Idle) × (me.1 ≡ [])

  -- the seat waits until this ticket is served
  abbrev pub IsInLine : Me (Option J) (View E L) → ℕ → Type 0
  IsInLine me ticket = ((n : ℕ) × (me.0.stage ≡ Waits n) × (ticket ≡ n % 2 ^ 64)) × (me.1 ≡ [])

  -- the seat is on turn, and its slot has this
  abbrev pub HasTurn : Me (Option J) (View E L) → Option J → Type 0
  HasTurn me slot = ((n : ℕ) × (me.0.stage ≡ OnTurn n)) × (me.1 ≡ (0, slot) ∷ [])
