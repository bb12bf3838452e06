-- What the keys of statements tell of what came before them.
use Rattle.std.proofs.Common.{◌≡◌, ℕ, ◌∷◌, Some, ap}
use Rattle.clu_tree.specs.declared.lexeme.Key.TheVariants as key
use Rattle.clu_tree.specs.declared.lexeme.Lexeme.TheVariants as lexeme
use Rattle.clu_grammar.specs.Grammar.{Tokens}
use Rattle.clu_grammar.specs.ExprPlan.{Found, ◌>>=◌}
use Rattle.clu_grammar.specs.StmtPlan.{comma, colon, at_key, within_key, then_key, do_key, in_key, end_key}

same_some : {A : Type 0} (x y : A × Tokens) → Some x ≡ Some y → x ≡ y
same_some x y h = cc

module _ {A : Type 0} where
  pub comma_ok : (o : Found A) (y : A × Tokens) → (o >>= comma) ≡ Some y → (n : ℕ) × (o ≡ Some (y.0, lexeme.Key key.Comma n ∷ y.1))
  comma_ok (Some (x, lexeme.Key key.Comma n ∷ r)) y h = (n, ap (λ (z : A × Tokens). Some (z.0, lexeme.Key key.Comma n ∷ z.1)) (same_some (x, r) y h))
  comma_ok _ y h = absurd cc

  pub colon_ok : (o : Found A) (y : A × Tokens) → (o >>= colon) ≡ Some y → (n : ℕ) × (o ≡ Some (y.0, lexeme.Key key.Colon n ∷ y.1))
  colon_ok (Some (x, lexeme.Key key.Colon n ∷ r)) y h = (n, ap (λ (z : A × Tokens). Some (z.0, lexeme.Key key.Colon n ∷ z.1)) (same_some (x, r) y h))
  colon_ok _ y h = absurd cc

  pub at_ok : (o : Found A) (y : A × Tokens) → (o >>= at_key) ≡ Some y → (n : ℕ) × (o ≡ Some (y.0, lexeme.Key key.At n ∷ y.1))
  at_ok (Some (x, lexeme.Key key.At n ∷ r)) y h = (n, ap (λ (z : A × Tokens). Some (z.0, lexeme.Key key.At n ∷ z.1)) (same_some (x, r) y h))
  at_ok _ y h = absurd cc

  pub within_key_ok : (o : Found A) (y : A × Tokens) → (o >>= within_key) ≡ Some y → (n : ℕ) × (o ≡ Some (y.0, lexeme.Key key.Within n ∷ y.1))
  within_key_ok (Some (x, lexeme.Key key.Within n ∷ r)) y h = (n, ap (λ (z : A × Tokens). Some (z.0, lexeme.Key key.Within n ∷ z.1)) (same_some (x, r) y h))
  within_key_ok _ y h = absurd cc

  pub then_ok : (o : Found A) (y : A × Tokens) → (o >>= then_key) ≡ Some y → (n : ℕ) × (o ≡ Some (y.0, lexeme.Key key.Then n ∷ y.1))
  then_ok (Some (x, lexeme.Key key.Then n ∷ r)) y h = (n, ap (λ (z : A × Tokens). Some (z.0, lexeme.Key key.Then n ∷ z.1)) (same_some (x, r) y h))
  then_ok _ y h = absurd cc

  pub do_ok : (o : Found A) (y : A × Tokens) → (o >>= do_key) ≡ Some y → (n : ℕ) × (o ≡ Some (y.0, lexeme.Key key.Do n ∷ y.1))
  do_ok (Some (x, lexeme.Key key.Do n ∷ r)) y h = (n, ap (λ (z : A × Tokens). Some (z.0, lexeme.Key key.Do n ∷ z.1)) (same_some (x, r) y h))
  do_ok _ y h = absurd cc

  pub in_ok : (o : Found A) (y : A × Tokens) → (o >>= in_key) ≡ Some y → (n : ℕ) × (o ≡ Some (y.0, lexeme.Key key.In n ∷ y.1))
  in_ok (Some (x, lexeme.Key key.In n ∷ r)) y h = (n, ap (λ (z : A × Tokens). Some (z.0, lexeme.Key key.In n ∷ z.1)) (same_some (x, r) y h))
  in_ok _ y h = absurd cc

  pub end_ok : (o : Found A) (y : A × Tokens) → (o >>= end_key) ≡ Some y → (n : ℕ) × (o ≡ Some (y.0, lexeme.Key key.End n ∷ y.1))
  end_ok (Some (x, lexeme.Key key.End n ∷ r)) y h = (n, ap (λ (z : A × Tokens). Some (z.0, lexeme.Key key.End n ∷ z.1)) (same_some (x, r) y h))
  end_ok _ y h = absurd cc
