-- Which programs are accepted.
use Rattle.std.specs.Prelude.{ℕ, ◌≤◌, List, length}
use Rattle.clu_tree.specs.declared.program.Program.{Program}
use Rattle.clu_tree.specs.Typed.{IsTyped}
use Rattle.clu_reader.specs.Reads.{Reads}

-- The program is of the part of the language that can run so far: it is typed, and has at most one routine.
pub record CanRun (program : Program) : Type 0 where
  pub typed : IsTyped program
  pub few : length program.routines ≤ 1

-- The text is accepted as the program: it reads as the program, and the program can run.
abbrev pub IsAccepted : List ℕ → Program → Type 0
IsAccepted text program = Reads text program × CanRun program
