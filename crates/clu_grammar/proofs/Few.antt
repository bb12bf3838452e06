-- A part of a program has no more routines than tokens.
use Rattle.std.proofs.Common.{◌≡◌, ℕ, ◌+◌, ◌≤◌, List, [], ◌∷◌, length, Some, arith}
use Rattle.clu_tree.specs.declared.program.Routine.{Routine}
use Rattle.clu_grammar.specs.Grammar.{Tokens, Part, routines_in, ReadsRoutines, ReadsPart}
use Rattle.clu_grammar.specs.Grammar as g
use Rattle.clu_grammar.specs.ProgramPlan as plan
use Rattle.clu_grammar.proofs.Shrinks.{shrinks-shape}
use Rattle.clu_grammar.proofs.StmtShrinks.{shrinks-names}
use Rattle.clu_grammar.proofs.ProgramComplete.{shrinks-routine, shrinks-node_parts, shrinks-initial}
use Rattle.clu_grammar.proofs.ProgramSound.{part-sound}

few-routines : {ts r : Tokens} {xs : List Routine} → ReadsRoutines ts r xs → length xs + length r ≤ length ts
few-routines g.no_routines = omega arith
few-routines (g.routine_and p q) = omega (arith, shrinks-routine p, few-routines q)

few-part : {ts r : Tokens} {x : Part} → ReadsPart ts r x → routines_in x + length r ≤ length ts
few-part (g.equate p) = omega (arith, shrinks-shape p)
few-part (g.node_var p) = omega (arith, shrinks-shape p)
few-part (g.node_var_as p q) = omega (arith, shrinks-shape p, shrinks-initial q)
few-part (g.a_routine p) = omega (arith, shrinks-routine p)
few-part (g.cluster p s q e) = omega (arith, shrinks-names p, shrinks-shape s, few-routines q)
few-part (g.node p) = omega (arith, shrinks-node_parts p)

pub part_has_few : (ts r : Tokens) (x : Part) → plan.part 200 ts ≡ Some (x, r) → routines_in x + length r ≤ length ts
part_has_few ts r x h = few-part (part-sound 200 ts (x, r) h).0
