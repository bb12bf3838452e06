-- What contracts see of a pass, and of the turn that it takes.
use Rattle.std.specs.Prelude.{ℕ, ◌-◌, List, [], ◌∷◌, ◌++◌}
use Rattle.atomic_table.specs.Seated.{TableId}

-- a pass of a book
pub record PassView (E L : Type 0) : Type 0 where
  -- which book it is of
  pub book : TableId
  -- a number of its own, which is 0 for the first pass
  pub number : ℕ
  -- the beginning of the history that it has seen
  pub seen : List E
  -- the entries that it made, in order
  pub mine : List E
  -- the passes that were joined to it, each as its number and the entries that it made
  pub ended : List (ℕ × List E)
  -- how many passes may still be split from it, and how many were
  pub room : ℕ
  pub splits : ℕ
  -- how many passes the book may have at one time
  pub seats : ℕ
  -- the label of the book's value
  pub label : L

-- the first pass of a book whose value has this label, and which may have this many passes at one time
abbrev pub first_pass : {E L : Type 0} → TableId → L → ℕ → PassView E L
first_pass book label seats = record { book = book; number = 0; seen = []; mine = []; ended = []; room = seats - 1; splits = 0; seats = seats; label = label }

-- the pass once it has made this entry, which comes next in the history
abbrev pub with_entry : {E L : Type 0} → PassView E L → E → PassView E L
with_entry p e = record p { seen = p.seen ++ e ∷ []; mine = p.mine ++ e ∷ [] }

-- a pass whose turn it is, with the value that lies in the table
pub record HolderView (J E L : Type 0) : Type 0 where
  pub pass : PassView E L
  pub state : J
