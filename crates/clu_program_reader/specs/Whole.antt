-- Programs put together part by part.
use Rattle.std.specs.Prelude.{◌≡◌, Option, Some, None, Result, Ok, Err, List}
use Rattle.clu_tree.specs.declared.program.Program.{Program}
use Rattle.clu_grammar.specs.Grammar.{Part, program_of}
use Rattle.clu_expr_reader.specs.declared.fault.ReadFault.{ReadFault}
use Rattle.clu_expr_reader.specs.declared.fault.ReadFault.TheVariants.{Syntax, Memory}

-- an Ok is what is found; a fault of the text comes where nothing is found
abbrev pub GivesAll : {A : Type 0} → Result A ReadFault → Option A → Type 0
GivesAll (Ok x) found = found ≡ Some x
GivesAll (Err Memory) found = Unit {0}
GivesAll (Err (Syntax _)) found = found ≡ None

-- the program that these parts make with what was read before
abbrev pub with_rest : Program → Option (List Part) → Option Program
with_rest p (Some xs) = Some (program_of p xs)
with_rest p None = None
