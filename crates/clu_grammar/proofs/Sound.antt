-- What the plan finds is read so.
use Rattle.std.proofs.Common.{◌≡◌, ℕ, zero, suc, ◌≤◌, map, Bool, true, false, cond, List, [], ◌∷◌, length, Option, Some, None, refl, subst, arith, inl, inr}
use Rattle.std.specs.Prelude.{◌==◌, ◌⊎◌}
use Rattle.std.proofs.lemmas.Bool.{eqb-true}
use Rattle.clu_tree.specs.Lexical.{word_of}
use Rattle.clu_tree.specs.declared.lexeme.Key.{Key}
use Rattle.clu_tree.specs.declared.lexeme.Key.TheVariants as key
use Rattle.clu_tree.specs.declared.lexeme.Lexeme.TheVariants as lexeme
use Rattle.clu_tree.specs.declared.shape.Shape.{Shape}
use Rattle.clu_tree.specs.declared.value.Value.{Value}
use Rattle.clu_tree.specs.declared.tree.Meant.TheVariants as meant
use Rattle.clu_tree.specs.declared.tree.Prefix.{Prefix}
use Rattle.clu_tree.specs.declared.tree.Prefix.TheVariants as p
use Rattle.clu_tree.specs.declared.tree.Expr.{Expr}
use Rattle.clu_tree.specs.declared.tree.Expr.TheVariants as e
use Rattle.clu_tree.specs.declared.tree.FieldInit.{FieldInit}
use Rattle.clu_grammar.specs.Grammar.{Tokens, line_of, looseness, joined, repeats, prefix_of, ReadsShape, ReadsLiteral, nil, yes, no, int, char, string, ReadsOp, op_name, op_word, ReadsExpr, primary, prefix, alone, grouped, compared, ReadsPrimary, literal, name, called, record_of, no_items, array_of, group, up, down, now, field, index, call, operation, ReadsArgs, no_args, args, ReadsItems, last_item, item, ReadsInits, last_init, init}
use Rattle.clu_grammar.specs.Nesting.{deepest, expr_nesting, init_nesting}
use Rattle.clu_grammar.specs.Ahead.{is_target}
use Rattle.clu_grammar.specs.ExprPlan.{Found, Parser, ◌>>=◌, within, closed, bracketed, braced, dollar, shape, literal_at, op_word_at, op_at, items_after, init_of, inits_after, expr_within, dotted, items, inits, behind_type, typed, literal_or, atom, postfix, join, joins, binaries, onward, operand, plain, level, levels}
use Rattle.clu_grammar.specs.ExprPlan as plan
use Rattle.clu_grammar.proofs.Binds.{bind_ok, chosen, same_found, passes, kept, closed_ok, bracketed_ok, braced_ok, dollar_ok}
use Rattle.clu_grammar.proofs.Shapes.{shape-sound}
use Rattle.clu_grammar.proofs.Leading.{group-level}

-- What is found at looseness k is read there, with at most b levels.
abbrev Sound : (ℕ → Parser Expr) → ℕ → Type 0
Sound below b = (k : ℕ) (ts : Tokens) (y : Expr × Tokens) → below k ts ≡ Some y → ReadsExpr k ts y.1 y.0 × (expr_nesting y.0 ≤ b)

abbrev SoundItems : ℕ → Tokens → List Expr × Tokens → Type 0
SoundItems b ts y = ReadsItems ts y.1 y.0 × (deepest (map expr_nesting y.0) ≤ b)

abbrev SoundInits : ℕ → Tokens → List FieldInit × Tokens → Type 0
SoundInits b ts y = ReadsInits ts y.1 y.0 × (deepest (map init_nesting y.0) ≤ b)

abbrev SoundPrimary : ℕ → Tokens → Expr × Tokens → Type 0
SoundPrimary d ts y = ReadsPrimary ts y.1 y.0 × (expr_nesting y.0 ≤ d)

pub literal_at-sound : (ts : Tokens) (y : Value × Tokens) → literal_at ts ≡ Some y → ReadsLiteral ts y.1 y.0
literal_at-sound (lexeme.Key key.Nil l ∷ r) y h = same_found (λ z q. ReadsLiteral (lexeme.Key key.Nil l ∷ r) q z) _ r y h nil
literal_at-sound (lexeme.Key key.True l ∷ r) y h = same_found (λ z q. ReadsLiteral (lexeme.Key key.True l ∷ r) q z) _ r y h yes
literal_at-sound (lexeme.Key key.False l ∷ r) y h = same_found (λ z q. ReadsLiteral (lexeme.Key key.False l ∷ r) q z) _ r y h no
literal_at-sound (lexeme.Int n l ∷ r) y h = same_found (λ z q. ReadsLiteral (lexeme.Int n l ∷ r) q z) _ r y h int
literal_at-sound (lexeme.Char n l ∷ r) y h = same_found (λ z q. ReadsLiteral (lexeme.Char n l ∷ r) q z) _ r y h char
literal_at-sound (lexeme.Str x l ∷ r) y h = same_found (λ z q. ReadsLiteral (lexeme.Str x l ∷ r) q z) _ r y h string
literal_at-sound _ y h = absurd cc

op_word-sound : (o : Key) (l j : ℕ) (r : Tokens) (y : List ℕ × Tokens) → op_word_at (word_of o) r ≡ Some y → ReadsOp (lexeme.Key o l ∷ lexeme.Key key.LParen j ∷ r) (lexeme.Key key.LParen j ∷ y.1) y.0
op_word-sound o l j r y h = go (word_of o) refl h
  where
    go : (x : Option (List ℕ)) → word_of o ≡ x → op_word_at x r ≡ Some y → ReadsOp (lexeme.Key o l ∷ lexeme.Key key.LParen j ∷ r) (lexeme.Key key.LParen j ∷ y.1) y.0
    go (Some x) e h = same_found (λ z q. ReadsOp (lexeme.Key o l ∷ lexeme.Key key.LParen j ∷ r) (lexeme.Key key.LParen j ∷ q) z) x r y h (op_word e)
    go None e h = absurd cc

op_at-sound : (ts : Tokens) (y : List ℕ × Tokens) → op_at ts ≡ Some y → (j : ℕ) × ReadsOp ts (lexeme.Key key.LParen j ∷ y.1) y.0
op_at-sound (lexeme.Name x l ∷ lexeme.Key key.LParen j ∷ r) y h =
    (j, same_found (λ z q. ReadsOp (lexeme.Name x l ∷ lexeme.Key key.LParen j ∷ r) (lexeme.Key key.LParen j ∷ q) z) x r y h op_name)
op_at-sound (lexeme.Key o l ∷ lexeme.Key key.LParen j ∷ r) y h = (j, op_word-sound o l j r y h)
op_at-sound _ y h = absurd cc

items_after-sound : (b : ℕ) (others : Parser (List Expr)) → ((ts : Tokens) (y : List Expr × Tokens) → others ts ≡ Some y → SoundItems b ts y) →
    (ts : Tokens) (x : Expr) (m : Tokens) (y : List Expr × Tokens) → ReadsExpr 5 ts m x → expr_nesting x ≤ b → items_after others x m ≡ Some y → SoundItems b ts y
items_after-sound b others ih ts x (lexeme.Key key.Comma l ∷ m) y p f h =
    let c = bind_ok (others m) _ h in
    let i = ih m c.0 c.1 in
    same_found (λ z q. SoundItems b ts (z, q)) (x ∷ c.0.0) c.0.1 y c.2 (item p i.0, omega (arith, i.1, f))
items_after-sound b others ih ts x m y p f h = same_found (λ z q. SoundItems b ts (z, q)) (x ∷ []) m y h (last_item p, omega (arith, f))

inits_after-sound : (b l k : ℕ) (others : Parser (List FieldInit)) → ((ts : Tokens) (y : List FieldInit × Tokens) → others ts ≡ Some y → SoundInits b ts y) →
    (x : List ℕ) (ts : Tokens) (a : Expr) (m : Tokens) (y : List FieldInit × Tokens) → ReadsExpr 5 ts m a → expr_nesting a ≤ b → inits_after others x a m ≡ Some y →
    SoundInits b (lexeme.Name x l ∷ lexeme.Key key.Colon k ∷ ts) y
inits_after-sound b l k others ih x ts a (lexeme.Key key.Comma j ∷ m) y p f h =
    let c = bind_ok (others m) _ h in
    let i = ih m c.0 c.1 in
    same_found (λ z q. SoundInits b (lexeme.Name x l ∷ lexeme.Key key.Colon k ∷ ts) (z, q)) (init_of x a ∷ c.0.0) c.0.1 y c.2 (init p i.0, omega (arith, i.1, f))
inits_after-sound b l k others ih x ts a m y p f h =
    same_found (λ z q. SoundInits b (lexeme.Name x l ∷ lexeme.Key key.Colon k ∷ ts) (z, q)) (init_of x a ∷ []) m y h (last_init p, omega (arith, f))

dotted-sound : (d n : ℕ) (ts : Tokens) (a : Expr) (m : Tokens) (y : Expr × Tokens) → ReadsPrimary ts (lexeme.Key key.Dot n ∷ m) a → dotted d (line_of ts) a m ≡ Some y → SoundPrimary d ts y
dotted-sound d n ts a (lexeme.Name x l ∷ r) y p h = passes expr_nesting (λ z q. ReadsPrimary ts q z) d _ r y h (field p)
dotted-sound d n ts a _ y p h = absurd cc

module _ (below : ℕ → Parser Expr) (b : ℕ) (sound : Sound below b) (d : ℕ) where
  items-sound : (n : ℕ) (ts : Tokens) (y : List Expr × Tokens) → items below d n ts ≡ Some y → ReadsItems ts y.1 y.0 × (deepest (map expr_nesting y.0) ≤ b)
  unfolding items
  items-sound zero ts y h = absurd cc
  items-sound (suc n) ts y h =
      let c = bind_ok (below 5 ts) _ h in
      let i = sound 5 ts c.0 c.1 in
      items_after-sound b (items below d n) (items-sound n) ts c.0.0 c.0.1 y i.0 i.1 c.2

  closed_items-sound : (ts : Tokens) (y : List Expr × Tokens) → (items below d (length ts) ts >>= closed) ≡ Some y → ReadsArgs ts y.1 y.0 × (deepest (map expr_nesting y.0) ≤ b)
  closed_items-sound ts y h =
      let c = closed_ok (items below d (length ts) ts) y h in
      let i = items-sound (length ts) ts (y.0, lexeme.Key key.RParen c.0 ∷ y.1) c.1 in
      (args i.0, i.1)

  args_over-sound : (ts : Tokens) (y : List Expr × Tokens) → plan.args below d ts ≡ Some y → ReadsArgs ts y.1 y.0 × (deepest (map expr_nesting y.0) ≤ b)
  unfolding plan.args
  args_over-sound (lexeme.Key key.RParen l ∷ r) y h = same_found (λ z q. ReadsArgs (lexeme.Key key.RParen l ∷ r) q z × (deepest (map expr_nesting z) ≤ b)) [] r y h (no_args, omega arith)
  args_over-sound ts y h = closed_items-sound ts y h

  inits-sound : (n : ℕ) (ts : Tokens) (y : List FieldInit × Tokens) → inits below d n ts ≡ Some y → ReadsInits ts y.1 y.0 × (deepest (map init_nesting y.0) ≤ b)
  unfolding inits
  inits-sound zero ts y h = absurd cc
  inits-sound (suc n) (lexeme.Name x l ∷ lexeme.Key key.Colon k ∷ m) y h =
      let c = bind_ok (below 5 m) _ h in
      let i = sound 5 m c.0 c.1 in
      inits_after-sound b l k (inits below d n) (inits-sound n) x m c.0.0 c.0.1 y i.0 i.1 c.2
  inits-sound (suc n) _ y h = absurd cc

  record-sound : (k j : ℕ) (ts : Tokens) (t : Shape) (m : Tokens) (y : Expr × Tokens) → ReadsShape ts (lexeme.Key key.Dollar k ∷ lexeme.Key key.LBrace j ∷ m) t →
      (inits below d (length m) m >>= braced >>= λ fs. expr_within d (e.Record t fs (line_of ts) meant.Unknown)) ≡ Some y → SoundPrimary d ts y
  record-sound k j ts t m y p h =
      let c = bind_ok (inits below d (length m) m >>= braced) _ h in
      let g = braced_ok (inits below d (length m) m) c.0 c.1 in
      let i = inits-sound (length m) m (c.0.0, lexeme.Key key.RBrace g.0 ∷ c.0.1) g.1 in
      passes expr_nesting (λ z q. ReadsPrimary ts q z) d _ c.0.1 y c.2 (record_of p i.0)

  array-sound : (k j : ℕ) (ts : Tokens) (t : Shape) (m : Tokens) (y : Expr × Tokens) → ReadsShape ts (lexeme.Key key.Dollar k ∷ lexeme.Key key.LBracket j ∷ m) t →
      (items below d (length m) m >>= bracketed >>= λ xs. expr_within d (e.Array t xs (line_of ts) meant.Unknown)) ≡ Some y → SoundPrimary d ts y
  array-sound k j ts t m y p h =
      let c = bind_ok (items below d (length m) m >>= bracketed) _ h in
      let g = bracketed_ok (items below d (length m) m) c.0 c.1 in
      let i = items-sound (length m) m (c.0.0, lexeme.Key key.RBracket g.0 ∷ c.0.1) g.1 in
      passes expr_nesting (λ z q. ReadsPrimary ts q z) d _ c.0.1 y c.2 (array_of p i.0)

  operation-sound : (k : ℕ) (ts : Tokens) (t : Shape) (m : Tokens) (y : Expr × Tokens) → ReadsShape ts (lexeme.Key key.Dollar k ∷ m) t →
      (op_at m >>= λ x q. plan.args below d q >>= λ xs. expr_within d (e.Op t x xs (line_of ts) meant.Unknown)) ≡ Some y → SoundPrimary d ts y
  operation-sound k ts t m y p h =
      let o = bind_ok (op_at m) _ h in
      let c = bind_ok (plan.args below d o.0.1) _ o.2 in
      let w = op_at-sound m o.0 o.1 in
      let i = args_over-sound o.0.1 c.0 c.1 in
      passes expr_nesting (λ z q. ReadsPrimary ts q z) d _ c.0.1 y c.2 (called (operation p w.1 i.0))

  behind-sound : (k : ℕ) (ts : Tokens) (t : Shape) (m : Tokens) (y : Expr × Tokens) → ReadsShape ts (lexeme.Key key.Dollar k ∷ m) t → behind_type below d (line_of ts) t m ≡ Some y → SoundPrimary d ts y
  unfolding behind_type
  behind-sound k ts t (lexeme.Key key.LBrace j ∷ m) y p h = record-sound k j ts t m y p h
  behind-sound k ts t (lexeme.Key key.LBracket j ∷ lexeme.Key key.RBracket g ∷ r) y p h = passes expr_nesting (λ z q. ReadsPrimary ts q z) d _ r y h (no_items p)
  behind-sound k ts t (lexeme.Key key.LBracket j ∷ m) y p h = array-sound k j ts t m y p h
  behind-sound k ts t m y p h = operation-sound k ts t m y p h

  typed-sound : (ts : Tokens) (y : Expr × Tokens) → typed below d ts ≡ Some y → SoundPrimary d ts y
  typed-sound ts y h =
      let c = bind_ok (shape d ts >>= dollar) _ h in
      let g = dollar_ok (shape d ts) c.0 c.1 in
      let i = shape-sound d ts (c.0.0, lexeme.Key key.Dollar g.0 ∷ c.0.1) g.1 in
      behind-sound g.0 ts c.0.0 c.0.1 y i.0 c.2

  literal_or-sound : (ts : Tokens) (y : Expr × Tokens) → literal_or below d (literal_at ts) ts ≡ Some y → SoundPrimary d ts y
  literal_or-sound ts y h = go (literal_at ts) refl h
    where
      go : (o : Found Value) → literal_at ts ≡ o → literal_or below d o ts ≡ Some y → SoundPrimary d ts y
      go (Some x) g h = passes expr_nesting (λ z q. ReadsPrimary ts q z) d _ x.1 y h (literal (literal_at-sound ts x g))
      go None g h = typed-sound ts y h

  name-sound : (x : List ℕ) (l k : ℕ) (m : Tokens) (y : Expr × Tokens) →
      cond {A = Found Expr} (is_target m) (expr_within d (e.Name x l meant.Unknown) (lexeme.Key key.LParen k ∷ m)) (plan.args below d m >>= λ xs. expr_within d (e.Call x xs l meant.Unknown)) ≡ Some y →
      SoundPrimary d (lexeme.Name x l ∷ lexeme.Key key.LParen k ∷ m) y
  name-sound x l k m y h = go (chosen (is_target m) _ _ h)
    where
      go : ((is_target m ≡ true) × (expr_within d (e.Name x l meant.Unknown) (lexeme.Key key.LParen k ∷ m) ≡ Some y))
          ⊎ ((is_target m ≡ false) × ((plan.args below d m >>= λ xs. expr_within d (e.Call x xs l meant.Unknown)) ≡ Some y)) →
          SoundPrimary d (lexeme.Name x l ∷ lexeme.Key key.LParen k ∷ m) y
      go (inl q) = passes expr_nesting (λ z r. ReadsPrimary (lexeme.Name x l ∷ lexeme.Key key.LParen k ∷ m) r z) d _ _ y q.1 name
      go (inr q) =
          let c = bind_ok (plan.args below d m) _ q.1 in
          let i = args_over-sound m c.0 c.1 in
          passes expr_nesting (λ z r. ReadsPrimary (lexeme.Name x l ∷ lexeme.Key key.LParen k ∷ m) r z) d _ c.0.1 y c.2 (called (call i.0))

  up-sound : (l j : ℕ) (m : Tokens) (y : Expr × Tokens) → (below 5 m >>= closed >>= λ a. expr_within d (e.Up a l)) ≡ Some y → SoundPrimary d (lexeme.Key key.Up l ∷ lexeme.Key key.LParen j ∷ m) y
  up-sound l j m y h =
      let c = bind_ok (below 5 m >>= closed) _ h in
      let g = closed_ok (below 5 m) c.0 c.1 in
      let i = sound 5 m (c.0.0, lexeme.Key key.RParen g.0 ∷ c.0.1) g.1 in
      passes expr_nesting (λ z q. ReadsPrimary (lexeme.Key key.Up l ∷ lexeme.Key key.LParen j ∷ m) q z) d _ c.0.1 y c.2 (up i.0)

  down-sound : (l j : ℕ) (m : Tokens) (y : Expr × Tokens) → (below 5 m >>= closed >>= λ a. expr_within d (e.Down a l)) ≡ Some y → SoundPrimary d (lexeme.Key key.Down l ∷ lexeme.Key key.LParen j ∷ m) y
  down-sound l j m y h =
      let c = bind_ok (below 5 m >>= closed) _ h in
      let g = closed_ok (below 5 m) c.0 c.1 in
      let i = sound 5 m (c.0.0, lexeme.Key key.RParen g.0 ∷ c.0.1) g.1 in
      passes expr_nesting (λ z q. ReadsPrimary (lexeme.Key key.Down l ∷ lexeme.Key key.LParen j ∷ m) q z) d _ c.0.1 y c.2 (down i.0)

  atom_over-sound : (ts : Tokens) (y : Expr × Tokens) → atom below d ts ≡ Some y → ReadsPrimary ts y.1 y.0 × (expr_nesting y.0 ≤ d)
  unfolding atom
  atom_over-sound (lexeme.Name x l ∷ lexeme.Key key.LParen k ∷ m) y h = name-sound x l k m y h
  atom_over-sound (lexeme.Name x l ∷ lexeme.Key key.Dollar k ∷ m) y h = typed-sound (lexeme.Name x l ∷ lexeme.Key key.Dollar k ∷ m) y h
  atom_over-sound (lexeme.Name x l ∷ r) y h = passes expr_nesting (λ z q. ReadsPrimary (lexeme.Name x l ∷ r) q z) d _ r y h name
  atom_over-sound (lexeme.Key key.Up l ∷ lexeme.Key key.LParen j ∷ m) y h = up-sound l j m y h
  atom_over-sound (lexeme.Key key.Down l ∷ lexeme.Key key.LParen j ∷ m) y h = down-sound l j m y h
  atom_over-sound (lexeme.Key key.Now l ∷ lexeme.Key key.LParen k ∷ lexeme.Key key.RParen j ∷ r) y h =
      passes expr_nesting (λ z q. ReadsPrimary (lexeme.Key key.Now l ∷ lexeme.Key key.LParen k ∷ lexeme.Key key.RParen j ∷ r) q z) d _ r y h now
  atom_over-sound ts y h = literal_or-sound ts y h

  postfix-sound : (n : ℕ) (ts : Tokens) (a : Expr) (m : Tokens) (y : Expr × Tokens) → ReadsPrimary ts m a → expr_nesting a ≤ d → postfix below d n (line_of ts) a m ≡ Some y → SoundPrimary d ts y
  unfolding postfix
  postfix-sound zero ts a m y p f h = absurd cc
  postfix-sound (suc n) ts a (lexeme.Key key.Dot l ∷ m) y p f h =
      let c = bind_ok (dotted d (line_of ts) a m) _ h in
      let w = dotted-sound d l ts a m c.0 p c.1 in
      postfix-sound n ts c.0.0 c.0.1 y w.0 w.1 c.2
  postfix-sound (suc n) ts a (lexeme.Key key.LBracket l ∷ m) y p f h =
      let c = bind_ok (below 5 m >>= bracketed) _ h in
      let g = bracketed_ok (below 5 m) c.0 c.1 in
      let i = sound 5 m (c.0.0, lexeme.Key key.RBracket g.0 ∷ c.0.1) g.1 in
      let u = bind_ok (expr_within d (e.Index a c.0.0 (line_of ts) meant.Unknown) c.0.1) _ c.2 in
      let w = passes expr_nesting (λ z q. ReadsPrimary ts q z) d _ c.0.1 u.0 u.1 (index p i.0) in
      postfix-sound n ts u.0.0 u.0.1 y w.0 w.1 u.2
  postfix-sound (suc n) ts a m y p f h = kept expr_nesting (λ z q. ReadsPrimary ts q z) d a m y h p f

  abbrev SoundAt : ℕ → Tokens → Expr × Tokens → Type 0
  SoundAt k ts y = ReadsExpr k ts y.1 y.0 × (expr_nesting y.0 ≤ d)

  prefix-sound : (op : Prefix) (l : ℕ) (ts : Tokens) (y : Expr × Tokens) → (below 0 ts >>= λ a. expr_within d (e.Unary op a l meant.Unknown)) ≡ Some y → SoundAt zero (lexeme.Key (prefix_of op) l ∷ ts) y
  prefix-sound op l ts y h =
      let c = bind_ok (below 0 ts) _ h in
      let i = sound 0 ts c.0 c.1 in
      passes expr_nesting (λ z q. ReadsExpr zero (lexeme.Key (prefix_of op) l ∷ ts) q z) d _ c.0.1 y c.2 (prefix op i.0)

  bare-sound : (ts : Tokens) (y : Expr × Tokens) → (atom below d ts >>= postfix below d (suc d) (line_of ts)) ≡ Some y → SoundAt zero ts y
  bare-sound ts y h =
      let c = bind_ok (atom below d ts) _ h in
      let i = atom_over-sound ts c.0 c.1 in
      let w = postfix-sound (suc d) ts c.0.0 c.0.1 y i.0 i.1 c.2 in
      (primary w.0, w.1)

  operand-sound : (ts : Tokens) (y : Expr × Tokens) → operand below d ts ≡ Some y → SoundAt zero ts y
  unfolding operand
  operand-sound (lexeme.Key key.Minus l ∷ m) y h = prefix-sound p.Minus l m y h
  operand-sound (lexeme.Key key.Tilde l ∷ m) y h = prefix-sound p.Not l m y h
  operand-sound ts y h = bare-sound ts y h

  join-sound : (P : Expr → Tokens → Type 0) (k line : ℕ) (o : Key) (a : Expr) (m : Tokens) (y : Expr × Tokens) → ((c : Expr) (q : Tokens) → ReadsExpr k m q c → P (joined o a c line) q) →
      join below d k line o a m ≡ Some y → P y.0 y.1 × (expr_nesting y.0 ≤ d)
  join-sound P k line o a m y f h =
      let c = bind_ok (below k m) _ h in
      let i = sound k m c.0 c.1 in
      passes expr_nesting P d _ c.0.1 y c.2 (f c.0.0 c.0.1 i.0)

  joins-left : (n k : ℕ) (ts : Tokens) (a : Expr) (m : Tokens) (y : Expr × Tokens) → repeats k ≡ true → ReadsExpr (suc k) ts m a → expr_nesting a ≤ d → joins below d n k (line_of ts) a m ≡ Some y → SoundAt (suc k) ts y
  unfolding joins
  joins-left zero k ts a m y c p f h = absurd cc
  joins-left (suc n) k ts a (lexeme.Key o l ∷ m) y c p f h = go (λ z q pz fz hz. joins-left n k ts z q y c pz fz hz) (chosen (looseness o == suc k) _ _ h)
    where
      go : ((z : Expr) (q : Tokens) → ReadsExpr (suc k) ts q z → expr_nesting z ≤ d → joins below d n k (line_of ts) z q ≡ Some y → SoundAt (suc k) ts y) →
          (((looseness o == suc k) ≡ true) × ((join below d k (line_of ts) o a m >>= cond (repeats k) (joins below d n k (line_of ts)) (λ x q. Some (x, q))) ≡ Some y))
          ⊎ (((looseness o == suc k) ≡ false) × (◌≡◌ {A = Option (Expr × Tokens)} (Some (a, lexeme.Key o l ∷ m)) (Some y))) → SoundAt (suc k) ts y
      go ih (inl q) =
          let j = bind_ok (join below d k (line_of ts) o a m) _ q.1 in
          let w = join-sound (λ z r. ReadsExpr (suc k) ts r z) k (line_of ts) o a m j.0 (λ z r i. grouped (eqb-true _ _ q.0) c p i) j.1 in
          ih j.0.0 j.0.1 w.0 w.1 (subst (λ u. cond u (joins below d n k (line_of ts)) (λ x q. Some (x, q)) j.0.0 j.0.1 ≡ Some y) c j.2)
      go ih (inr q) = kept expr_nesting (λ z r. ReadsExpr (suc k) ts r z) d a (lexeme.Key o l ∷ m) y q.1 p f
  joins-left (suc n) k ts a m y c p f h = kept expr_nesting (λ z r. ReadsExpr (suc k) ts r z) d a m y h p f

  joins-once : (n k : ℕ) (ts : Tokens) (a : Expr) (m : Tokens) (y : Expr × Tokens) → repeats k ≡ false → ReadsExpr k ts m a → expr_nesting a ≤ d → joins below d n k (line_of ts) a m ≡ Some y → SoundAt (suc k) ts y
  unfolding joins
  joins-once zero k ts a m y c p f h = absurd cc
  joins-once (suc n) k ts a (lexeme.Key o l ∷ m) y c p f h = go (chosen (looseness o == suc k) _ _ h)
    where
      go : (((looseness o == suc k) ≡ true) × ((join below d k (line_of ts) o a m >>= cond (repeats k) (joins below d n k (line_of ts)) (λ x q. Some (x, q))) ≡ Some y))
          ⊎ (((looseness o == suc k) ≡ false) × (◌≡◌ {A = Option (Expr × Tokens)} (Some (a, lexeme.Key o l ∷ m)) (Some y))) → SoundAt (suc k) ts y
      go (inl q) =
          let j = bind_ok (join below d k (line_of ts) o a m) _ q.1 in
          let w = join-sound (λ z r. ReadsExpr (suc k) ts r z) k (line_of ts) o a m j.0 (λ z r i. compared (eqb-true _ _ q.0) c p i) j.1 in
          kept expr_nesting (λ z r. ReadsExpr (suc k) ts r z) d j.0.0 j.0.1 y (subst (λ u. cond u (joins below d n k (line_of ts)) (λ x q. Some (x, q)) j.0.0 j.0.1 ≡ Some y) c j.2) w.0 w.1
      go (inr q) = kept expr_nesting (λ z r. ReadsExpr (suc k) ts r z) d a (lexeme.Key o l ∷ m) y q.1 (alone p) f
  joins-once (suc n) k ts a m y c p f h = kept expr_nesting (λ z r. ReadsExpr (suc k) ts r z) d a m y h (alone p) f

  joins-sound : (k : ℕ) (ts : Tokens) (a : Expr) (m : Tokens) (y : Expr × Tokens) → ReadsExpr k ts m a → expr_nesting a ≤ d → joins below d (suc d) k (line_of ts) a m ≡ Some y → SoundAt (suc k) ts y
  joins-sound k ts a m y p f h = go (repeats k) refl
    where
      go : (c : Bool) → repeats k ≡ c → SoundAt (suc k) ts y
      go true c = joins-left (suc d) k ts a m y c (alone p) f h
      go false c = joins-once (suc d) k ts a m y c p f h

  binaries-sound : (k : ℕ) (ts : Tokens) (a : Expr) (m : Tokens) (y : Expr × Tokens) → ReadsExpr zero ts m a → expr_nesting a ≤ d → binaries below d k (line_of ts) a m ≡ Some y → SoundAt k ts y
  unfolding binaries
  binaries-sound zero ts a m y p f h = kept expr_nesting (λ z r. ReadsExpr zero ts r z) d a m y h p f
  binaries-sound (suc k) ts a m y p f h =
      let c = bind_ok (binaries below d k (line_of ts) a m) _ h in
      let w = binaries-sound k ts a m c.0 p f c.1 in
      joins-sound k ts c.0.0 c.0.1 y w.0 w.1 c.2

  plain-sound : (k : ℕ) (ts : Tokens) (y : Expr × Tokens) → plain below d k ts ≡ Some y → SoundAt k ts y
  plain-sound k ts y h =
      let c = bind_ok (operand below d ts) _ h in
      let w = operand-sound ts c.0 c.1 in
      binaries-sound k ts c.0.0 c.0.1 y w.0 w.1 c.2

  onward-sound : (k : ℕ) (ts : Tokens) (a : Expr) (m : Tokens) (y : Expr × Tokens) → ReadsPrimary ts m a → expr_nesting a ≤ d → onward below d k (line_of ts) a m ≡ Some y → SoundAt k ts y
  onward-sound k ts a m y p f h =
      let c = bind_ok (postfix below d (suc d) (line_of ts) a m) _ h in
      let w = postfix-sound (suc d) ts a m c.0 p f c.1 in
      binaries-sound k ts c.0.0 c.0.1 y (primary w.0) w.1 c.2

  closed_group-sound : (l : ℕ) (m : Tokens) → ((y : Expr × Tokens) → level below d 5 m ≡ Some y → SoundAt 5 m y) → (y : Expr × Tokens) → plan.group below d m ≡ Some y → SoundPrimary d (lexeme.Key key.LParen l ∷ m) y
  closed_group-sound l m ih y h =
      let g = closed_ok (level below d 5 m) y (subst (λ (z : Found Expr). z ≡ Some y) (group-level below d m) h) in
      let i = ih (y.0, lexeme.Key key.RParen g.0 ∷ y.1) g.1 in
      (group i.0, i.1)

  level-sound : (k : ℕ) (ts : Tokens) (y : Expr × Tokens) → level below d k ts ≡ Some y → ReadsExpr k ts y.1 y.0 × (expr_nesting y.0 ≤ d)
  unfolding level
  level-sound k (lexeme.Key key.LParen l ∷ m) y h =
      let c = bind_ok (plan.group below d m) _ h in
      let w = closed_group-sound l m (level-sound 5 m) c.0 c.1 in
      onward-sound k (lexeme.Key key.LParen l ∷ m) c.0.0 c.0.1 y w.0 w.1 c.2
  level-sound k ts y h = plain-sound k ts y h

  group_over-sound : (l : ℕ) (m : Tokens) (y : Expr × Tokens) → plan.group below d m ≡ Some y → ReadsPrimary (lexeme.Key key.LParen l ∷ m) y.1 y.0 × (expr_nesting y.0 ≤ d)
  group_over-sound l m y h = closed_group-sound l m (level-sound 5 m) y h

pub levels-sound : (d k : ℕ) (ts : Tokens) (y : Expr × Tokens) → levels d k ts ≡ Some y → ReadsExpr k ts y.1 y.0 × (expr_nesting y.0 ≤ d)
unfolding levels
levels-sound zero k ts y h = absurd cc
levels-sound (suc d) k ts y h = level-sound (levels d) d (levels-sound d) (suc d) k ts y h

pub args-sound : (d : ℕ) (ts : Tokens) (y : List Expr × Tokens) → plan.args (levels d) d ts ≡ Some y → ReadsArgs ts y.1 y.0 × (deepest (map expr_nesting y.0) ≤ d)
args-sound d ts y h = args_over-sound (levels d) d (levels-sound d) d ts y h

pub atom-sound : (d : ℕ) (ts : Tokens) (y : Expr × Tokens) → atom (levels d) d ts ≡ Some y → ReadsPrimary ts y.1 y.0 × (expr_nesting y.0 ≤ d)
atom-sound d ts y h = atom_over-sound (levels d) d (levels-sound d) d ts y h

-- a group, behind its opening bracket
pub group-sound : (d l : ℕ) (ts : Tokens) (y : Expr × Tokens) → plan.group (levels d) d ts ≡ Some y → ReadsPrimary (lexeme.Key key.LParen l ∷ ts) y.1 y.0 × (expr_nesting y.0 ≤ d)
group-sound d l ts y h = group_over-sound (levels d) d (levels-sound d) d l ts y h
