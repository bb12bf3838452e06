-- How a text reads as a program.
use Rattle.std.specs.Prelude.{ℕ, ◌≤◌, List, length}
use Rattle.clu_tree.specs.declared.lexeme.Lexeme.{Lexeme}
use Rattle.clu_tree.specs.declared.program.Program.{Program}
use Rattle.clu_text.specs.declared.token.Token.{Token}
use Rattle.clu_text.specs.Tokens.{HasTokens}
use Rattle.clu_lexeme.specs.Lexemes.{AreLexemes}
use Rattle.clu_grammar.specs.Grammar.{ReadsProgram}
use Rattle.clu_grammar.specs.Nesting.{program_nesting}

-- The text has at most 1 MiB, and its tokens are a program's, whose statements, expressions and types are nested at most 200 deep.
pub record Reads (text : List ℕ) (program : Program) : Type 0 where
  pub tokens : List Token
  pub lexemes : List Lexeme
  pub short : length text ≤ 1048576
  pub scanned : HasTokens text tokens
  pub told : AreLexemes text tokens lexemes
  pub read : ReadsProgram lexemes program
  pub nested : program_nesting program ≤ 200
