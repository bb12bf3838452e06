-- Answers of the reader.
use Rattle.std.specs.Prelude.{Result, Ok, Err}
use Rattle.clu_expr_reader.specs.declared.fault.ReadFault.{ReadFault}
use Rattle.clu_expr_reader.specs.declared.fault.ReadFault.TheVariants.{Syntax, Memory}

-- P holds where the fault is one of the text
abbrev pub IfOfText : ReadFault → Type 0 → Type 0
IfOfText Memory P = Unit {0}
IfOfText (Syntax _) P = P

-- P holds where the answer is a fault of the text
abbrev pub OnSyntax : {A : Type 0} → Result A ReadFault → Type 0 → Type 0
OnSyntax (Ok _) P = Unit {0}
OnSyntax (Err fault) P = IfOfText fault P
