-- How a reader goes over types and expressions. Contracts that are public don't name this: it finds what the grammar says, and nothing else.
use Rattle.std.specs.Prelude.{ℕ, zero, suc, true, false, if◌then◌else◌, ◌==◌, nat_le, List, [], ◌∷◌, length, Option, Some, None}
use Rattle.clu_tree.specs.Lexical.{word_of}
use Rattle.clu_tree.specs.declared.lexeme.Key.{Key}
use Rattle.clu_tree.specs.declared.lexeme.Key.TheVariants as key
use Rattle.clu_tree.specs.declared.lexeme.Lexeme.TheVariants as lexeme
use Rattle.clu_tree.specs.declared.shape.Shape.{Shape}
use Rattle.clu_tree.specs.declared.shape.Shape.TheVariants as s
use Rattle.clu_tree.specs.declared.shape.Named.{Named}
use Rattle.clu_tree.specs.declared.value.Value.{Value}
use Rattle.clu_tree.specs.declared.value.Value.TheVariants as v
use Rattle.clu_tree.specs.declared.tree.Meant.TheVariants as meant
use Rattle.clu_tree.specs.declared.tree.Prefix.TheVariants as p
use Rattle.clu_tree.specs.declared.tree.Expr.{Expr}
use Rattle.clu_tree.specs.declared.tree.Expr.TheVariants as e
use Rattle.clu_tree.specs.declared.tree.FieldInit.{FieldInit, roll-FieldInit}
use Rattle.clu_grammar.specs.Grammar.{Tokens, line_of, type_of, field_of, looseness, joined, repeats}
use Rattle.clu_grammar.specs.Nesting.{expr_nesting}
use Rattle.clu_grammar.specs.Ahead.{is_target}

-- what was found, and the tokens that follow
abbrev pub Found : Type 0 → Type 0
Found A = Option (A × Tokens)

abbrev pub Parser : Type 0 → Type 0
Parser A = Tokens → Found A

infixl 10 ◌>>=◌
abbrev pub ◌>>=◌ : {A B : Type 0} → Found A → (A → Parser B) → Found B
(Some x) >>= f = f x.0 x.1
None >>= f = None

-- what has at most d levels
unfoldable pub within : {A : Type 0} → (A → ℕ) → ℕ → A → Parser A
within nesting d x ts = if nat_le (nesting x) d then Some (x, ts) else None

-- ---- the key that comes next

abbrev pub closed : {A : Type 0} → A → Parser A
closed x (lexeme.Key key.RParen _ ∷ r) = Some (x, r)
closed x _ = None

abbrev pub bracketed : {A : Type 0} → A → Parser A
bracketed x (lexeme.Key key.RBracket _ ∷ r) = Some (x, r)
bracketed x _ = None

abbrev pub braced : {A : Type 0} → A → Parser A
braced x (lexeme.Key key.RBrace _ ∷ r) = Some (x, r)
braced x _ = None

abbrev pub dollar : {A : Type 0} → A → Parser A
dollar x (lexeme.Key key.Dollar _ ∷ r) = Some (x, r)
dollar x _ = None

-- ---- types

abbrev pub fields_after : Parser (List Named) → List ℕ → Shape → Parser (List Named)
fields_after others x t (lexeme.Key key.Comma _ ∷ m) = others m >>= λ fs r. Some (field_of x t ∷ fs, r)
fields_after others x t m = Some (field_of x t ∷ [], m)

-- one or more fields, at most so many, over a parser of their types
unfoldable pub fields : Parser Shape → ℕ → Parser (List Named)
fields inner zero ts = None
fields inner (suc n) (lexeme.Name x _ ∷ lexeme.Key key.Colon _ ∷ m) = inner m >>= fields_after (fields inner n) x
fields inner (suc n) _ = None

abbrev pub type_word_at : Option Shape → Parser Shape
type_word_at (Some t) r = Some (t, r)
type_word_at None r = None

-- a type of at most d levels
unfoldable pub shape : ℕ → Parser Shape
shape zero ts = None
shape (suc d) (lexeme.Name x _ ∷ r) = Some (s.Name x, r)
shape (suc d) (lexeme.Key key.Array _ ∷ lexeme.Key key.LBracket _ ∷ m) = shape d m >>= bracketed >>= λ t r. Some (s.Arr t, r)
shape (suc d) (lexeme.Key key.Record _ ∷ lexeme.Key key.LBracket _ ∷ m) = fields (shape d) (length m) m >>= bracketed >>= λ fs r. Some (s.Rec fs, r)
shape (suc d) (lexeme.Key key.Oneof _ ∷ lexeme.Key key.LBracket _ ∷ m) = fields (shape d) (length m) m >>= bracketed >>= λ fs r. Some (s.Oneof fs, r)
shape (suc d) (lexeme.Key o _ ∷ r) = type_word_at (type_of o) r
shape (suc d) _ = None

-- ---- expressions

-- a literal without a sign
abbrev pub literal_at : Parser Value
literal_at (lexeme.Key key.Nil _ ∷ r) = Some (v.Nil, r)
literal_at (lexeme.Key key.True _ ∷ r) = Some (v.Bool true, r)
literal_at (lexeme.Key key.False _ ∷ r) = Some (v.Bool false, r)
literal_at (lexeme.Int n _ ∷ r) = Some (v.Int n, r)
literal_at (lexeme.Char n _ ∷ r) = Some (v.Char n, r)
literal_at (lexeme.Str x _ ∷ r) = Some (v.Str x, r)
literal_at _ = None

-- the name of an operation and the bracket that opens its arguments
abbrev pub op_word_at : Option (List ℕ) → Parser (List ℕ)
op_word_at (Some x) r = Some (x, r)
op_word_at None r = None

abbrev pub op_at : Parser (List ℕ)
op_at (lexeme.Name x _ ∷ lexeme.Key key.LParen _ ∷ r) = Some (x, r)
op_at (lexeme.Key o _ ∷ lexeme.Key key.LParen _ ∷ r) = op_word_at (word_of o) r
op_at _ = None

abbrev pub items_after : Parser (List Expr) → Expr → Parser (List Expr)
items_after others x (lexeme.Key key.Comma _ ∷ m) = others m >>= λ xs r. Some (x ∷ xs, r)
items_after others x m = Some (x ∷ [], m)

abbrev pub init_of : List ℕ → Expr → FieldInit
init_of x a = roll-FieldInit (record { name = x; value = a })

abbrev pub inits_after : Parser (List FieldInit) → List ℕ → Expr → Parser (List FieldInit)
inits_after others x a (lexeme.Key key.Comma _ ∷ m) = others m >>= λ xs r. Some (init_of x a ∷ xs, r)
inits_after others x a m = Some (init_of x a ∷ [], m)

-- an expression of at most d levels
abbrev pub expr_within : ℕ → Expr → Parser Expr
expr_within = within expr_nesting

abbrev pub dotted : ℕ → ℕ → Expr → Parser Expr
dotted d line a (lexeme.Name x _ ∷ r) = expr_within d (e.Field a x line meant.Unknown) r
dotted d line a _ = None

-- `below k` reads at looseness k with at most d - 1 levels; everything here has at most d
module _ (below : ℕ → Parser Expr) (d : ℕ) where
  -- one or more expressions, at most so many
  unfoldable pub items : ℕ → Parser (List Expr)
  items zero ts = None
  items (suc n) ts = below 5 ts >>= items_after (items n)

  -- the arguments behind an opening bracket, and the closing one
  unfoldable pub args : Parser (List Expr)
  args (lexeme.Key key.RParen _ ∷ r) = Some ([], r)
  args ts = items (length ts) ts >>= closed

  -- one or more fields with their values, at most so many
  unfoldable pub inits : ℕ → Parser (List FieldInit)
  inits zero ts = None
  inits (suc n) (lexeme.Name x _ ∷ lexeme.Key key.Colon _ ∷ m) = below 5 m >>= inits_after (inits n) x
  inits (suc n) _ = None

  -- what follows a type and `$`
  unfoldable pub behind_type : ℕ → Shape → Parser Expr
  behind_type line t (lexeme.Key key.LBrace _ ∷ m) = inits (length m) m >>= braced >>= λ fs. expr_within d (e.Record t fs line meant.Unknown)
  behind_type line t (lexeme.Key key.LBracket _ ∷ lexeme.Key key.RBracket _ ∷ r) = expr_within d (e.Array t [] line meant.Unknown) r
  behind_type line t (lexeme.Key key.LBracket _ ∷ m) = items (length m) m >>= bracketed >>= λ xs. expr_within d (e.Array t xs line meant.Unknown)
  behind_type line t ts = op_at ts >>= λ x m. args m >>= λ xs. expr_within d (e.Op t x xs line meant.Unknown)

  -- a type, `$` and what follows them
  abbrev pub typed : Parser Expr
  typed ts = shape d ts >>= dollar >>= behind_type (line_of ts)

  abbrev pub literal_or : Found Value → Parser Expr
  literal_or (Some x) ts = expr_within d (e.Literal x.0 (line_of ts)) x.1
  literal_or None ts = typed ts

  -- a primary that begins with no bracket; behind a name, a bracket opens its arguments unless it begins the target of an assignment
  unfoldable pub atom : Parser Expr
  atom (lexeme.Name x l ∷ lexeme.Key key.LParen k ∷ m) =
      if is_target m then expr_within d (e.Name x l meant.Unknown) (lexeme.Key key.LParen k ∷ m) else (args m >>= λ xs. expr_within d (e.Call x xs l meant.Unknown))
  atom (lexeme.Name x l ∷ lexeme.Key key.Dollar k ∷ m) = typed (lexeme.Name x l ∷ lexeme.Key key.Dollar k ∷ m)
  atom (lexeme.Name x l ∷ r) = expr_within d (e.Name x l meant.Unknown) r
  atom (lexeme.Key key.Up l ∷ lexeme.Key key.LParen _ ∷ m) = below 5 m >>= closed >>= λ a. expr_within d (e.Up a l)
  atom (lexeme.Key key.Down l ∷ lexeme.Key key.LParen _ ∷ m) = below 5 m >>= closed >>= λ a. expr_within d (e.Down a l)
  atom (lexeme.Key key.Now l ∷ lexeme.Key key.LParen _ ∷ lexeme.Key key.RParen _ ∷ r) = expr_within d (e.Now l) r
  atom ts = literal_or (literal_at ts) ts

  -- what goes on with a primary, at most so many times
  unfoldable pub postfix : ℕ → ℕ → Expr → Parser Expr
  postfix zero line a ts = None
  postfix (suc n) line a (lexeme.Key key.Dot _ ∷ m) = dotted d line a m >>= postfix n line
  postfix (suc n) line a (lexeme.Key key.LBracket _ ∷ m) = below 5 m >>= bracketed >>= λ b r. expr_within d (e.Index a b line meant.Unknown) r >>= postfix n line
  postfix (suc n) line a ts = Some (a, ts)

  abbrev pub join : ℕ → ℕ → Key → Expr → Parser Expr
  join k line o a m = below k m >>= λ b. expr_within d (joined o a b line)

  -- the operators of looseness k + 1, at most so many
  unfoldable pub joins : ℕ → ℕ → ℕ → Expr → Parser Expr
  joins zero k line a ts = None
  joins (suc n) k line a (lexeme.Key o l ∷ m) =
      if looseness o == suc k then (join k line o a m >>= (if repeats k then joins n k line else (λ x q. Some (x, q)))) else Some (a, lexeme.Key o l ∷ m)
  joins (suc n) k line a ts = Some (a, ts)

  -- the operators up to looseness k, the tightest first
  unfoldable pub binaries : ℕ → ℕ → Expr → Parser Expr
  binaries zero line a ts = Some (a, ts)
  binaries (suc k) line a ts = binaries k line a ts >>= joins (suc d) k line

  -- what follows a primary, up to looseness k
  abbrev pub onward : ℕ → ℕ → Expr → Parser Expr
  onward k line a ts = postfix (suc d) line a ts >>= binaries k line

  -- an operand that begins with no bracket
  unfoldable pub operand : Parser Expr
  operand (lexeme.Key key.Minus l ∷ m) = below 0 m >>= λ a. expr_within d (e.Unary p.Minus a l meant.Unknown)
  operand (lexeme.Key key.Tilde l ∷ m) = below 0 m >>= λ a. expr_within d (e.Unary p.Not a l meant.Unknown)
  operand ts = atom ts >>= postfix (suc d) (line_of ts)

  -- an expression of looseness k that begins with no bracket
  abbrev pub plain : ℕ → Parser Expr
  plain k ts = operand ts >>= binaries k (line_of ts)

  -- Brackets were opened on these lines, the innermost first, and inside the innermost this was found.
  unfoldable pub unwound : List ℕ → Found Expr → Found Expr
  unwound [] found = found
  unwound (l ∷ ls) found = unwound ls (found >>= closed >>= onward 5 l)

  -- what stands inside brackets that were opened on these lines, and inside one more
  unfoldable pub inside : List ℕ → Parser Expr
  inside ls (lexeme.Key key.LParen l ∷ m) = inside (l ∷ ls) m
  inside ls ts = unwound ls (plain 5 ts)

  -- a bracket that was opened, and all up to the closing one
  abbrev pub group : Parser Expr
  group m = inside [] m >>= closed

  -- an expression of looseness k
  unfoldable pub level : ℕ → Parser Expr
  level k (lexeme.Key key.LParen l ∷ m) = group m >>= onward k l
  level k ts = plain k ts

-- an expression of looseness k with at most d levels
unfoldable pub levels : ℕ → ℕ → Parser Expr
levels zero k ts = None
levels (suc d) k ts = level (levels d) (suc d) k ts
