-- Parts of types and expressions.
use Rattle.std.specs.Prelude.{ℕ, Bool, true, false, List, [], ◌∷◌, Some, None, length}
use Rattle.clu_tree.specs.declared.lexeme.Key.TheVariants as key
use Rattle.clu_tree.specs.declared.lexeme.Lexeme.TheVariants as lexeme
use Rattle.clu_tree.specs.declared.shape.Shape.{Shape}
use Rattle.clu_tree.specs.declared.shape.Shape.TheVariants as s
use Rattle.clu_tree.specs.declared.shape.Named.{Named}
use Rattle.clu_tree.specs.declared.tree.Expr.{Expr}
use Rattle.clu_grammar.specs.Grammar.{Tokens, type_of}
use Rattle.clu_grammar.specs.ExprPlan.{Parser, ◌>>=◌, bracketed, shape, fields, type_word_at, items}

-- a name and the colon behind it
abbrev pub label : Parser (List ℕ)
label (lexeme.Name x _ ∷ lexeme.Key key.Colon _ ∷ m) = Some (x, m)
label _ = None

-- a token, and an opening bracket behind it
abbrev pub opened : Parser Unit
opened (_ ∷ lexeme.Key key.LBracket _ ∷ m) = Some (tt, m)
opened _ = None

-- behind the opening bracket of an array's type
abbrev pub array_rest : ℕ → Parser Shape
array_rest d m = shape d m >>= bracketed >>= λ t r. Some (s.Arr t, r)

-- behind the opening bracket of a record's or a oneof's type
abbrev pub fields_rest : ℕ → Parser (List Named)
fields_rest d m = fields (shape d) (length m) m >>= bracketed

-- a type of one reserved word
abbrev pub word_at : Parser Shape
word_at (lexeme.Key o _ ∷ r) = type_word_at (type_of o) r
word_at _ = None

-- a name or a type of several tokens
abbrev pub is_long : Tokens → Bool
is_long (lexeme.Name _ _ ∷ _) = true
is_long (lexeme.Key key.Array _ ∷ _) = true
is_long (lexeme.Key key.Record _ ∷ _) = true
is_long (lexeme.Key key.Oneof _ ∷ _) = true
is_long _ = false

-- the elements of an array behind an opening bracket, and the closing one
abbrev pub elements : (ℕ → Parser Expr) → ℕ → Parser (List Expr)
elements below d (lexeme.Key key.RBracket _ ∷ r) = Some ([], r)
elements below d ts = items below d (length ts) ts >>= bracketed
