-- A text is one program at most.
use Rattle.std.proofs.Common.{◌≡◌, ℕ, List, sym, subst}
use Rattle.clu_tree.specs.declared.lexeme.Lexeme.{Lexeme}
use Rattle.clu_tree.specs.declared.program.Program.{Program}
use Rattle.clu_text.specs.declared.token.Token.{Token}
use Rattle.clu_text.specs.Tokens.{HasTokens}
use Rattle.clu_lexeme.specs.Lexemes.{AreLexemes}
use Rattle.clu_grammar.specs.Grammar.{Tokens, ReadsProgram}
use Rattle.clu_reader.specs.Reads.{Reads}

-- a text has one list of tokens, tokens are one list of lexemes, and lexemes read as one program
abbrev pub OneTokens : Type 0
OneTokens = (text : List ℕ) (ts us : List Token) → HasTokens text ts → HasTokens text us → ts ≡ us

abbrev pub OneLexemes : Type 0
OneLexemes = (text : List ℕ) (tokens : List Token) (xs ys : List Lexeme) → AreLexemes text tokens xs → AreLexemes text tokens ys → xs ≡ ys

abbrev pub OneProgram : Type 0
OneProgram = (ts : Tokens) (p q : Program) → ReadsProgram ts p → ReadsProgram ts q → p ≡ q

-- the lexemes of a text that reads are those that its tokens are
pub same_lexemes : OneTokens → OneLexemes → (text : List ℕ) (tokens : List Token) (xs : List Lexeme) (p : Program) (r : Reads text p) → HasTokens text tokens → AreLexemes text tokens xs → r.lexemes ≡ xs
same_lexemes tokens_one lexemes_one text tokens xs p r scanned told =
    lexemes_one text tokens r.lexemes xs (subst (λ ts. AreLexemes text ts r.lexemes) (tokens_one text r.tokens tokens r.scanned scanned) r.told) told

pub one_reading : OneTokens → OneLexemes → OneProgram → (text : List ℕ) (p q : Program) → Reads text p → Reads text q → p ≡ q
one_reading tokens_one lexemes_one program_one text p q a b =
    program_one a.lexemes p q a.read (subst (λ xs. ReadsProgram xs q) (same_lexemes tokens_one lexemes_one text a.tokens a.lexemes q b a.scanned a.told) b.read)
