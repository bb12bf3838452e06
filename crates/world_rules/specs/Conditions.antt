-- The numbers of the conditions, and which of several conditions fails first.
use Rattle.std.specs.Prelude.{ℕ, Bool, if◌then◌else◌, List, [], ◌∷◌, Option, Some, None}
use Rattle.world_rules.specs.declared.condition.Condition.{Condition}
use Rattle.world_rules.specs.declared.condition.Condition.TheVariants as on

-- the number that a refusal answers
abbrev pub number_of : Condition → ℕ
number_of on.StampRises = 1
number_of on.NotQuit = 2
number_of on.NamesNodes = 3
number_of on.Runs = 4
number_of on.Halts = 5
number_of on.InRound = 6
number_of on.NoRound = 7
number_of on.AllHalt = 8
number_of on.FirstTurn = 9
number_of on.ReadsInTime = 10
number_of on.DueFits = 11
number_of on.CanStep = 12
number_of on.AtMark = 13
number_of on.WasSent = 14
number_of on.HaltsInRound = 15
number_of on.NotAsked = 16
number_of on.IsAsked = 17
number_of on.NoneAsked = 18
number_of on.BeforeGoal = 22

-- a condition, and whether it holds
abbrev pub Test : Type 0
Test = Condition × Bool

-- the number of the first condition that fails
abbrev pub first_of : List Test → Option ℕ
first_of [] = None
first_of (t ∷ ts) = if t.1 then first_of ts else Some (number_of t.0)
