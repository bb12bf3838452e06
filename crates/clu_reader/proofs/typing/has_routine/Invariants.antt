use Rattle.std.proofs.Common.{◌≡◌, ℕ, ◌<◌, get_or}
use Rattle.clu_tree.specs.declared.program.Routine.{Routine}
use Rattle.clu_reader.proofs.typing.has_routine.Given as goal

abbrev pub invariant-loop-routine : goal.invariant-loop-routine
invariant-loop-routine l = record {
  items : l.routine-items ≡ l.program.routines;
  others : (k : ℕ) (d : Routine) → k < l.routine-index → (get_or l.routine-items k d).name ≡ l.name → ⊥;
}
