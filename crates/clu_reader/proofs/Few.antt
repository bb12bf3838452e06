-- A text has no more tokens than bytes.
use Rattle.std.proofs.Common.{◌≡◌, ℕ, zero, suc, ◌+◌, ◌<◌, ◌≤◌, List, [], ◌∷◌, length, refl, ap, arith}
use Rattle.std.specs.Prelude.{All}
use Rattle.clu_tree.specs.declared.lexeme.Lexeme.{Lexeme}
use Rattle.clu_text.specs.declared.token.Token.{Token}
use Rattle.clu_text.specs.Tokens.{AreInOrder, IsSpelled}
use Rattle.clu_lexeme.specs.Lexemes.{AreLexemes, none, more}

few : (text : List ℕ) (at : ℕ) (ts : List Token) → AreInOrder at ts → All (IsSpelled text) ts → at ≤ length text → at + length ts ≤ length text
few text at [] order spelled h = omega arith
few text at (t ∷ ts) order spelled h =
    let here = spelled 0 t (omega arith) in
    let rest = few text t.to ts order.1 (λ k d below. spelled (suc k) d (omega (arith, below))) here.within in
    omega (arith, rest, order.0, here.some)

-- tokens and lexemes are as many
pub as_many : (text : List ℕ) (ts : List Token) (xs : List Lexeme) → AreLexemes text ts xs → length xs ≡ length ts
as_many text _ _ none = refl
as_many text _ _ (more d a) = ap suc (as_many text _ _ a)

pub few_lexemes : (text : List ℕ) (ts : List Token) (xs : List Lexeme) → AreInOrder 0 ts → All (IsSpelled text) ts → AreLexemes text ts xs → length xs ≤ length text
few_lexemes text ts xs order spelled a = let f = few text 0 ts order spelled (omega arith) in let e = as_many text ts xs a in omega arith
