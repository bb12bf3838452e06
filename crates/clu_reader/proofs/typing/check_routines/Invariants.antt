use Rattle.std.proofs.Common.{ℕ, ◌<◌, get_or}
use Rattle.clu_tree.specs.declared.program.Routine.{Routine}
use Rattle.clu_tree.specs.Typed.{IsTypedRoutine}
use Rattle.clu_reader.proofs.typing.check_routines.Given as goal

abbrev pub invariant-loop-routine : goal.invariant-loop-routine
invariant-loop-routine l = (k : ℕ) (d : Routine) → k < l.routine-index → IsTypedRoutine (get_or l.routines k d)
