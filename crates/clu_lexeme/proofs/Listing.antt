-- Tokens one by one.
use Rattle.std.proofs.Common.{ℕ, List, [], ◌∷◌, ◌++◌, sym, subst, append_assoc}
use Rattle.std.proofs.lemmas.List.{append-nil}
use Rattle.clu_tree.specs.declared.lexeme.Lexeme.{Lexeme}
use Rattle.clu_text.specs.declared.token.Token.{Token}
use Rattle.clu_text.specs.Tokens.{spelling_of}
use Rattle.clu_lexeme.specs.Lexemes.{AreLexemes, Denotes, none, more}

-- These were found, and what the other tokens are goes behind them.
abbrev pub GoesOn : List ℕ → List Token → List Lexeme → List Token → Type 0
GoesOn text tokens found left = (xs : List Lexeme) → AreLexemes text left xs → AreLexemes text tokens (found ++ xs)

pub goes_on : (text : List ℕ) (tokens : List Token) (found : List Lexeme) (t : Token) (left : List Token) (x : Lexeme) →
    Denotes t.line t.kind (spelling_of text t) x → GoesOn text tokens found (t ∷ left) → GoesOn text tokens (found ++ x ∷ []) left
goes_on text tokens found t left x d h xs k = subst (AreLexemes text tokens) (sym (append_assoc found (x ∷ []) xs)) (h (x ∷ xs) (more d k))

pub goes_on_none : (text : List ℕ) (tokens : List Token) (found : List Lexeme) → GoesOn text tokens found [] → AreLexemes text tokens found
goes_on_none text tokens found h = subst (AreLexemes text tokens) (append-nil found) (h [] none)
