-- Brackets at the front, which take turns of a loop.
use Rattle.std.proofs.Common.{◌≡◌, ℕ, false, List, [], ◌∷◌, ◌++◌, reverse, None, refl, ap, sym, ◌∙◌}
use Rattle.std.proofs.lemmas.List.{reverse-append}
use Rattle.clu_tree.specs.declared.lexeme.Key.TheVariants as key
use Rattle.clu_tree.specs.declared.lexeme.Lexeme.TheVariants as lexeme
use Rattle.clu_tree.specs.declared.tree.Expr.{Expr}
use Rattle.clu_grammar.specs.Grammar.{Tokens}
use Rattle.clu_grammar.specs.ExprPlan.{Found, Parser, ◌>>=◌, closed, onward, plain, unwound, inside}
use Rattle.clu_grammar.specs.StmtPlan.{opens}

turned : (xs : List ℕ) (l : ℕ) → reverse (xs ++ l ∷ []) ≡ l ∷ reverse xs
turned xs l = reverse-append xs (l ∷ [])

module _ (below : ℕ → Parser Expr) (d : ℕ) where
  pub inside-more : (xs : List ℕ) (l : ℕ) (ts m : Tokens) → ts ≡ lexeme.Key key.LParen l ∷ m → inside below d (reverse xs) ts ≡ inside below d (reverse (xs ++ l ∷ [])) m
  unfolding inside
  inside-more xs l ts m e = ap (inside below d (reverse xs)) e ∙ sym (ap (λ ls. inside below d ls m) (turned xs l))

  pub inside-done : (ls : List ℕ) (ts : Tokens) → opens ts ≡ false → inside below d ls ts ≡ unwound below d ls (plain below d 5 ts)
  unfolding inside
  inside-done ls (lexeme.Key key.LParen _ ∷ _) h = absurd cc
  inside-done ls _ h = refl

  pub unwound-none : (ls : List ℕ) → unwound below d ls None ≡ None
  unfolding unwound
  unwound-none [] = refl
  unwound-none (l ∷ ls) = unwound-none ls

  pub unwound-last : (ls xs : List ℕ) (l : ℕ) (o : Found Expr) → ls ≡ xs ++ l ∷ [] → unwound below d (reverse ls) o ≡ unwound below d (reverse xs) (o >>= closed >>= onward below d 5 l)
  unfolding unwound
  unwound-last ls xs l o e = ap (λ ys. unwound below d (reverse ys) o) e ∙ ap (λ ys. unwound below d ys o) (turned xs l)

  pub unwound-all : (ls : List ℕ) (o : Found Expr) → ls ≡ [] → unwound below d (reverse ls) o ≡ o
  unfolding unwound
  unwound-all ls o e = ap (λ ys. unwound below d (reverse ys) o) e

pub ruleset brackets = (inside-more, inside-done)
