-- What an answer of a step tells of its parts.
use Rattle.std.proofs.Common.{◌≡◌, ℕ, ◌≤◌, Bool, true, false, cond, ◌∷◌, Option, Some, None, refl, ap, subst, inl, inr}
use Rattle.std.specs.Prelude.{nat_le, ◌⊎◌}
use Rattle.std.proofs.lemmas.Bool.{leb-true, le-leb}
use Rattle.clu_tree.specs.declared.lexeme.Key.TheVariants as key
use Rattle.clu_tree.specs.declared.lexeme.Lexeme.TheVariants as lexeme
use Rattle.clu_grammar.specs.Grammar.{Tokens}
use Rattle.clu_grammar.specs.ExprPlan.{Found, Parser, ◌>>=◌, within, closed, bracketed, braced, dollar}

pub bind_ok : {A B : Type 0} {y : B × Tokens} → (o : Found A) (f : A → Parser B) → (o >>= f) ≡ Some y → (x : A × Tokens) × (o ≡ Some x) × (f x.0 x.1 ≡ Some y)
bind_ok (Some x) f h = (x, refl, h)
bind_ok None f h = absurd cc

pub bind_assoc : {A B C : Type 0} (o : Found A) (f : A → Parser B) (g : B → Parser C) → (o >>= f >>= g) ≡ (o >>= λ x r. f x r >>= g)
bind_assoc (Some x) f g = refl
bind_assoc None f g = refl

-- what a found value makes of a bind
pub bind_some : {A B : Type 0} {o : Found A} {x : A} {r : Tokens} → o ≡ Some (x, r) → (f : A → Parser B) → (o >>= f) ≡ f x r
bind_some h f = ap (λ o. o >>= f) h

pub bind_same : {A : Type 0} (o : Found A) → (o >>= λ x r. Some (x, r)) ≡ o
bind_same (Some x) = refl
bind_same None = refl

pub chosen : {A : Type 0} {z : A} → (b : Bool) (x y : A) → cond b x y ≡ z → ((b ≡ true) × (x ≡ z)) ⊎ ((b ≡ false) × (y ≡ z))
chosen true x y h = inl (refl, h)
chosen false x y h = inr (refl, h)

-- a value that was found, in place of its parts
pub same_found : {A : Type 0} (P : A → Tokens → Type 0) (x : A) (r : Tokens) (y : A × Tokens) → ◌≡◌ {A = Option (A × Tokens)} (Some (x, r)) (Some y) → P x r → P y.0 y.1
same_found {A} P x r y h p = let same : ◌≡◌ {A = A × Tokens} (x, r) y = cc in subst (λ (z : A × Tokens). P z.0 z.1) same p

module _ {A : Type 0} (nesting : A → ℕ) where
  pub within_ok : (y : A × Tokens) (d : ℕ) (x : A) (ts : Tokens) → within nesting d x ts ≡ Some y → (nesting x ≤ d) × (◌≡◌ {A = A × Tokens} (x, ts) y)
  unfolding within
  within_ok y d x ts h = go (nat_le (nesting x) d) refl h
    where
      go : (b : Bool) → nat_le (nesting x) d ≡ b → cond {A = Option (A × Tokens)} b (Some (x, ts)) None ≡ Some y → (nesting x ≤ d) × (◌≡◌ {A = A × Tokens} (x, ts) y)
      go true e h = (leb-true _ _ e, cc)
      go false e h = absurd cc

  pub within_fits : (d : ℕ) (x : A) (ts : Tokens) → nesting x ≤ d → within nesting d x ts ≡ Some (x, ts)
  unfolding within
  within_fits d x ts h = rw (le-leb (nesting x) d h) refl

  pub passes : (P : A → Tokens → Type 0) (d : ℕ) (x : A) (r : Tokens) (y : A × Tokens) → within nesting d x r ≡ Some y → P x r → P y.0 y.1 × (nesting y.0 ≤ d)
  passes P d x r y h p =
      let w = within_ok y d x r h in
      (subst (λ (z : A × Tokens). P z.0 z.1) w.1 p, subst (λ (z : A × Tokens). nesting z.0 ≤ d) w.1 w.0)

  pub kept : (P : A → Tokens → Type 0) (d : ℕ) (x : A) (r : Tokens) (y : A × Tokens) → ◌≡◌ {A = Option (A × Tokens)} (Some (x, r)) (Some y) → P x r → nesting x ≤ d → P y.0 y.1 × (nesting y.0 ≤ d)
  kept P d x r y h p f =
      let same : ◌≡◌ {A = A × Tokens} (x, r) y = cc in
      (subst (λ (z : A × Tokens). P z.0 z.1) same p, subst (λ (z : A × Tokens). nesting z.0 ≤ d) same f)

-- ---- the key that comes next

module _ {A : Type 0} where
  closed_at : (x : A) (m : Tokens) (y : A × Tokens) → closed x m ≡ Some y → (n : ℕ) × (◌≡◌ {A = A × Tokens} (x, m) (y.0, lexeme.Key key.RParen n ∷ y.1))
  closed_at x (lexeme.Key key.RParen n ∷ r) y h = (n, cc)
  closed_at x _ y h = absurd cc

  bracketed_at : (x : A) (m : Tokens) (y : A × Tokens) → bracketed x m ≡ Some y → (n : ℕ) × (◌≡◌ {A = A × Tokens} (x, m) (y.0, lexeme.Key key.RBracket n ∷ y.1))
  bracketed_at x (lexeme.Key key.RBracket n ∷ r) y h = (n, cc)
  bracketed_at x _ y h = absurd cc

  braced_at : (x : A) (m : Tokens) (y : A × Tokens) → braced x m ≡ Some y → (n : ℕ) × (◌≡◌ {A = A × Tokens} (x, m) (y.0, lexeme.Key key.RBrace n ∷ y.1))
  braced_at x (lexeme.Key key.RBrace n ∷ r) y h = (n, cc)
  braced_at x _ y h = absurd cc

  dollar_at : (x : A) (m : Tokens) (y : A × Tokens) → dollar x m ≡ Some y → (n : ℕ) × (◌≡◌ {A = A × Tokens} (x, m) (y.0, lexeme.Key key.Dollar n ∷ y.1))
  dollar_at x (lexeme.Key key.Dollar n ∷ r) y h = (n, cc)
  dollar_at x _ y h = absurd cc

  pub closed_ok : (o : Found A) (y : A × Tokens) → (o >>= closed) ≡ Some y → (n : ℕ) × (o ≡ Some (y.0, lexeme.Key key.RParen n ∷ y.1))
  closed_ok (Some x) y h = let c = closed_at x.0 x.1 y h in (c.0, ap Some c.1)
  closed_ok None y h = absurd cc

  pub bracketed_ok : (o : Found A) (y : A × Tokens) → (o >>= bracketed) ≡ Some y → (n : ℕ) × (o ≡ Some (y.0, lexeme.Key key.RBracket n ∷ y.1))
  bracketed_ok (Some x) y h = let c = bracketed_at x.0 x.1 y h in (c.0, ap Some c.1)
  bracketed_ok None y h = absurd cc

  pub braced_ok : (o : Found A) (y : A × Tokens) → (o >>= braced) ≡ Some y → (n : ℕ) × (o ≡ Some (y.0, lexeme.Key key.RBrace n ∷ y.1))
  braced_ok (Some x) y h = let c = braced_at x.0 x.1 y h in (c.0, ap Some c.1)
  braced_ok None y h = absurd cc

  pub dollar_ok : (o : Found A) (y : A × Tokens) → (o >>= dollar) ≡ Some y → (n : ℕ) × (o ≡ Some (y.0, lexeme.Key key.Dollar n ∷ y.1))
  dollar_ok (Some x) y h = let c = dollar_at x.0 x.1 y h in (c.0, ap Some c.1)
  dollar_ok None y h = absurd cc
