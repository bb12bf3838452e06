-- The keys that come next.
use Rattle.std.specs.Prelude.{ℕ, ◌≡◌, Bool, true, false, List, [], ◌∷◌}
use Rattle.clu_tree.specs.declared.lexeme.Key.{Key}
use Rattle.clu_tree.specs.declared.lexeme.Key.TheVariants as key
use Rattle.clu_tree.specs.declared.lexeme.Lexeme.TheVariants as lexeme
use Rattle.clu_grammar.specs.Grammar.{Tokens}

-- the tokens begin with this key
abbrev pub BeginsWith : Key → Tokens → Type 0
BeginsWith k ts = (l : ℕ) × (r : Tokens) × (ts ≡ lexeme.Key k l ∷ r)

-- the tokens begin with these keys, and r is what follows
abbrev pub HasKeys : List Key → Tokens → Tokens → Type 0
HasKeys [] ts r = ts ≡ r
HasKeys (k ∷ ks) ts r = (l : ℕ) × (m : Tokens) × (ts ≡ lexeme.Key k l ∷ m) × HasKeys ks m r

-- the tokens begin with a prefix operator
abbrev pub is_signed : Tokens → Bool
is_signed (lexeme.Key key.Minus _ ∷ _) = true
is_signed (lexeme.Key key.Tilde _ ∷ _) = true
is_signed _ = false

-- the tokens begin with an opening bracket
abbrev pub opens : Tokens → Bool
opens (lexeme.Key key.LParen _ ∷ _) = true
opens _ = false
