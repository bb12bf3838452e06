-- What a function of the reader ensures: it finds what the plan finds, unless memory runs out.
use Rattle.std.specs.Prelude.{◌≡◌, Some, None, Result, Ok, Err}
use Rattle.clu_grammar.specs.Grammar.{Tokens}
use Rattle.clu_grammar.specs.ExprPlan.{Found}
use Rattle.clu_expr_reader.specs.declared.fault.ReadFault.{ReadFault}
use Rattle.clu_expr_reader.specs.declared.fault.ReadFault.TheVariants.{Syntax, Memory}

-- `Gives view result new found`: seen by view, an Ok is what is found, and new are the tokens that follow it; a fault of the text comes where nothing is found
abbrev pub Gives : {A B : Type 0} → (A → B) → Result A ReadFault → Tokens → Found B → Type 0
Gives view (Ok x) new found = found ≡ Some (view x, new)
Gives view (Err Memory) new found = Unit {0}
Gives view (Err (Syntax _)) new found = found ≡ None
