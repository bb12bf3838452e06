-- All the tokens as a program.
use Rattle.std.proofs.Common.{◌≡◌, ℕ, ◌≤◌, Some, None}
use Rattle.std.specs.Prelude.{Result, Ok, Err, IfOk}
use Rattle.clu_tree.specs.declared.program.Program.{Program}
use Rattle.clu_grammar.specs.Grammar.{Tokens, ReadsProgram}
use Rattle.clu_grammar.specs.Nesting.{program_nesting}
use Rattle.clu_grammar.specs.ProgramPlan as plan
use Rattle.clu_grammar.proofs.ProgramSound.{program-sound}
use Rattle.clu_grammar.proofs.ProgramComplete.{program-finds}
use Rattle.clu_expr_reader.specs.declared.fault.ReadFault.{ReadFault}
use Rattle.clu_expr_reader.specs.declared.fault.ReadFault.TheVariants.{Syntax, Memory}
use Rattle.clu_program_reader.specs.Whole.{GivesAll}

pub reads : (r : Result Program ReadFault) (ts : Tokens) → GivesAll r (plan.program ts) → IfOk r (λ p. ReadsProgram ts p × (program_nesting p ≤ 200))
reads (Ok p) ts h = program-sound ts p h
reads (Err _) ts h = tt

pub reads_none : (r : Result Program ReadFault) (ts : Tokens) → GivesAll r (plan.program ts) → (line : ℕ) → r ≡ Err (Syntax line) → (p : Program) → ReadsProgram ts p → program_nesting p ≤ 200 → ⊥
reads_none (Ok _) ts h line e p read nested = absurd cc
reads_none (Err Memory) ts h line e p read nested = absurd cc
reads_none (Err (Syntax _)) ts h line e p read nested = let found = program-finds ts p read nested in cc
