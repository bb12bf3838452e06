-- Brackets at the front of an expression: a loop over their lines finds what a recursion on each would find.
use Rattle.std.proofs.Common.{◌≡◌, ℕ, zero, suc, false, List, [], ◌∷◌, Some, None, refl, ap, sym, ◌∙◌}
use Rattle.clu_tree.specs.declared.lexeme.Key.TheVariants as key
use Rattle.clu_tree.specs.declared.lexeme.Lexeme.TheVariants as lexeme
use Rattle.clu_tree.specs.declared.tree.Expr.{Expr}
use Rattle.clu_grammar.specs.Grammar.{Tokens, line_of}
use Rattle.clu_grammar.specs.ExprPlan.{Found, Parser, ◌>>=◌, closed, atom, postfix, joins, binaries, onward, operand, unwound, inside, group, level}
use Rattle.clu_grammar.proofs.Binds.{bind_assoc, bind_same}
use Rattle.clu_grammar.proofs.Ending.{signs}

bind_cong : {A B : Type 0} (o : Found A) (f g : A → Parser B) → ((x : A) (r : Tokens) → f x r ≡ g x r) → (o >>= f) ≡ (o >>= g)
bind_cong (Some x) f g h = h x.0 x.1
bind_cong None f g h = refl

module _ (below : ℕ → Parser Expr) (d : ℕ) where
  inside-unwound : (m : Tokens) (ls : List ℕ) → inside below d ls m ≡ unwound below d ls (inside below d [] m)
  unfolding inside unwound
  inside-unwound (lexeme.Key key.LParen l ∷ m) ls = inside-unwound m (l ∷ ls) ∙ ap (unwound below d ls) (sym (inside-unwound m (l ∷ [])))
  inside-unwound _ ls = refl

  inside-level : (m : Tokens) → inside below d [] m ≡ level below d 5 m
  unfolding inside unwound level
  inside-level (lexeme.Key key.LParen l ∷ m) = inside-unwound m (l ∷ [])
  inside-level _ = refl

  -- A group is an expression and a closing bracket.
  pub group-level : (m : Tokens) → group below d m ≡ (level below d 5 m >>= closed)
  group-level m = ap (λ (z : Found Expr). z >>= closed) (inside-level m)

  -- the primary that comes first, but for its fields and elements
  abbrev pub lead : Parser Expr
  lead (lexeme.Key key.LParen _ ∷ m) = group below d m
  lead ts = atom below d ts

  pub level-opened : (k l : ℕ) (m : Tokens) → level below d k (lexeme.Key key.LParen l ∷ m) ≡ (level below d 5 m >>= closed >>= onward below d k l)
  unfolding level
  level-opened k l m = ap (λ (z : Found Expr). z >>= onward below d k l) (group-level m)

  -- One looseness more is one more turn of joins.
  pub level-next : (k : ℕ) (ts : Tokens) → level below d (suc k) ts ≡ (level below d k ts >>= joins below d (suc d) k (line_of ts))
  unfolding level binaries
  level-next k (lexeme.Key key.LParen l ∷ m) =
      bind_cong (group below d m) (onward below d (suc k) l) (λ a r. onward below d k l a r >>= joins below d (suc d) k l) (λ a r. sym (bind_assoc (postfix below d (suc d) l a r) (binaries below d k l) (joins below d (suc d) k l)))
      ∙ sym (bind_assoc (group below d m) (onward below d k l) (joins below d (suc d) k l))
  level-next k ts = sym (bind_assoc (operand below d ts) (binaries below d k (line_of ts)) (joins below d (suc d) k (line_of ts)))

  -- At looseness 0 it is the primary with what goes on with it.
  pub level-lead : (ts : Tokens) → signs ts ≡ false → level below d zero ts ≡ (lead ts >>= postfix below d (suc d) (line_of ts))
  unfolding level operand binaries
  level-lead (lexeme.Key key.LParen l ∷ m) h = bind_cong (group below d m) (onward below d zero l) (postfix below d (suc d) l) (λ a r. bind_same (postfix below d (suc d) l a r))
  level-lead (lexeme.Key key.Minus l ∷ m) h = absurd cc
  level-lead (lexeme.Key key.Tilde l ∷ m) h = absurd cc
  level-lead ts h = bind_same (atom below d ts >>= postfix below d (suc d) (line_of ts))
