-- What is read is found, wherever it ends.
use Rattle.std.proofs.Common.{◌≡◌, ℕ, zero, suc, ◌+◌, ◌<◌, ◌≤◌, max, map, Bool, true, false, cond, List, [], ◌∷◌, length, Option, Some, refl, ap, arith, ◌∙◌, inl, inr}
use Rattle.std.specs.Prelude.{◌==◌, ◌⊎◌, ◌≢◌}
use Rattle.std.proofs.lemmas.Bool.{eq-eqb, cond-true, cond-false}
use Rattle.std.proofs.lemmas.Bool.Decides.{eqb_tells}
use Rattle.clu_tree.specs.Lexical.{word_of}
use Rattle.clu_tree.specs.declared.lexeme.Key.{Key}
use Rattle.clu_tree.specs.declared.lexeme.Key.TheVariants as key
use Rattle.clu_tree.specs.declared.lexeme.Lexeme.TheVariants as lexeme
use Rattle.clu_tree.specs.declared.shape.Shape.{Shape}
use Rattle.clu_tree.specs.declared.value.Value.{Value}
use Rattle.clu_tree.specs.declared.tree.Infix.TheVariants as i
use Rattle.clu_tree.specs.declared.tree.Meant.TheVariants as meant
use Rattle.clu_tree.specs.declared.tree.Prefix.{Prefix}
use Rattle.clu_tree.specs.declared.tree.Prefix.TheVariants as p
use Rattle.clu_tree.specs.declared.tree.Expr.{Expr}
use Rattle.clu_tree.specs.declared.tree.Expr.TheVariants as e
use Rattle.clu_tree.specs.declared.tree.FieldInit.{FieldInit}
use Rattle.clu_grammar.specs.Grammar.{Tokens, line_of, type_of, looseness, infix_of, joined, repeats, prefix_of, ReadsShape, type_word, type_name, array_type, record_type, oneof_type, ReadsLiteral, nil, yes, no, int, char, string, ReadsOp, op_name, op_word, ReadsExpr, primary, prefix, alone, grouped, compared, ReadsPrimary, literal, name, called, record_of, no_items, array_of, group, up, down, now, field, index, ReadsCall, call, operation, ReadsArgs, no_args, args, ReadsItems, last_item, item, ReadsInits, last_init, init}
use Rattle.clu_grammar.specs.Nesting.{deepest, shape_nesting, expr_nesting, init_nesting}
use Rattle.clu_grammar.specs.Ahead.{is_target, assigns}
use Rattle.clu_grammar.specs.ExprPlan.{Found, Parser, ◌>>=◌, within, closed, bracketed, braced, dollar, shape, literal_at, op_word_at, op_at, items_after, init_of, inits_after, expr_within, dotted, items, inits, behind_type, typed, literal_or, atom, postfix, join, joins, binaries, onward, operand, plain, level, levels}
use Rattle.clu_grammar.specs.ExprPlan as plan
use Rattle.clu_grammar.proofs.Binds.{bind_some, within_fits}
use Rattle.clu_grammar.proofs.Nests.{nests-Binary, nests-Unary, nests-Call, nests-Op, nests-Record, nests-Array, nests-Up, nests-Down, nests-Field, nests-Index, nests_pos}
use Rattle.clu_grammar.proofs.Shrinks.{shrinks, shrinks-items, shrinks-inits}
use Rattle.clu_grammar.proofs.Balance.{skips, closes-args}
use Rattle.clu_grammar.proofs.Ending.{loosens, ends, Ends, Clear, clear-ends, clear-field, clear-index, operator-ends, opens, closes, signs, bare-shape, bare-literal, fresh, unclosed-items}
use Rattle.clu_grammar.proofs.Shapes.{commas, shape-finds}
use Rattle.clu_grammar.proofs.Leading.{lead, group-level, level-next, level-lead}

ne-eqb : (a b : ℕ) → (a ≡ b → ⊥) → (a == b) ≡ false
ne-eqb a b h = go (eqb_tells a b)
  where
    go : ((a == b) ≡ true) × (a ≡ b) ⊎ ((a == b) ≡ false) × (a ≢ b) → (a == b) ≡ false
    go (inl q) = absurd (h q.1)
    go (inr q) = q.0

-- An operator's node is deeper than both sides.
joined-nests : (o : Key) (a b : Expr) (n : ℕ) → (expr_nesting a < expr_nesting (joined o a b n)) × (expr_nesting b < expr_nesting (joined o a b n))
joined-nests key.Differs a b n =
    let u = nests-Unary p.Not (e.Binary a i.Equal b n meant.Unknown) n meant.Unknown in
    let w = nests-Binary a i.Equal b n meant.Unknown in
    (omega (arith, u, w), omega (arith, u, w))
joined-nests o a b n = let w = nests-Binary a (infix_of o) b n meant.Unknown in (omega (arith, w), omega (arith, w))

-- ---- what the plan does where its parts were found

module _ (below : ℕ → Parser Expr) (d : ℕ) where
  fits : (x : Expr) (r : Tokens) → expr_nesting x ≤ d → expr_within d x r ≡ Some (x, r)
  fits x r f = within_fits expr_nesting d x r f

  literal-finds : {ts r : Tokens} {x : Value} → ReadsLiteral ts r x → expr_nesting (e.Literal x (line_of ts)) ≤ d → lead below d ts ≡ Some (e.Literal x (line_of ts), r)
  unfolding atom
  literal-finds {r = r} nil f = fits _ r f
  literal-finds {r = r} yes f = fits _ r f
  literal-finds {r = r} no f = fits _ r f
  literal-finds {r = r} int f = fits _ r f
  literal-finds {r = r} char f = fits _ r f
  literal-finds {r = r} string f = fits _ r f

  name-within : (x : List ℕ) (l : ℕ) (r : Tokens) → ends r ≡ true → atom below d (lexeme.Name x l ∷ r) ≡ expr_within d (e.Name x l meant.Unknown) r
  unfolding atom
  name-within x l (lexeme.Key key.LParen k ∷ m) h = cond-true (is_target m) _ _ h
  name-within x l (lexeme.Key key.Dollar k ∷ m) h = absurd cc
  name-within x l _ h = refl

  name-finds : (x : List ℕ) (l : ℕ) (r : Tokens) → ends r ≡ true → expr_nesting (e.Name x l meant.Unknown) ≤ d → lead below d (lexeme.Name x l ∷ r) ≡ Some (e.Name x l meant.Unknown, r)
  name-finds x l r h f = name-within x l r h ∙ fits _ r f

  call-finds : (x : List ℕ) (l k : ℕ) (m r : Tokens) (xs : List Expr) → is_target m ≡ false → plan.args below d m ≡ Some (xs, r) → expr_nesting (e.Call x xs l meant.Unknown) ≤ d →
      lead below d (lexeme.Name x l ∷ lexeme.Key key.LParen k ∷ m) ≡ Some (e.Call x xs l meant.Unknown, r)
  unfolding atom
  call-finds x l k m r xs t h f = cond-false (is_target m) _ _ t ∙ bind_some h (λ xs. expr_within d (e.Call x xs l meant.Unknown)) ∙ fits _ r f

  up-finds : (l k j : ℕ) (m r : Tokens) (x : Expr) → below 5 m ≡ Some (x, lexeme.Key key.RParen k ∷ r) → expr_nesting (e.Up x l) ≤ d → lead below d (lexeme.Key key.Up l ∷ lexeme.Key key.LParen j ∷ m) ≡ Some (e.Up x l, r)
  unfolding atom
  up-finds l k j m r x h f = ap (λ (z : Found Expr). z >>= closed >>= λ a. expr_within d (e.Up a l)) h ∙ fits _ r f

  down-finds : (l k j : ℕ) (m r : Tokens) (x : Expr) → below 5 m ≡ Some (x, lexeme.Key key.RParen k ∷ r) → expr_nesting (e.Down x l) ≤ d → lead below d (lexeme.Key key.Down l ∷ lexeme.Key key.LParen j ∷ m) ≡ Some (e.Down x l, r)
  unfolding atom
  down-finds l k j m r x h f = ap (λ (z : Found Expr). z >>= closed >>= λ a. expr_within d (e.Down a l)) h ∙ fits _ r f

  now-finds : (l k j : ℕ) (r : Tokens) → expr_nesting (e.Now l) ≤ d → lead below d (lexeme.Key key.Now l ∷ lexeme.Key key.LParen k ∷ lexeme.Key key.RParen j ∷ r) ≡ Some (e.Now l, r)
  unfolding atom
  now-finds l k j r f = fits _ r f

  lead-group : (l k : ℕ) (m r : Tokens) (x : Expr) → level below d 5 m ≡ Some (x, lexeme.Key key.RParen k ∷ r) → lead below d (lexeme.Key key.LParen l ∷ m) ≡ Some (x, r)
  lead-group l k m r x h = group-level below d m ∙ bind_some h closed

  -- ---- behind a type

  word-typed : (o : Key) (l : ℕ) (r : Tokens) (t : Shape) → type_of o ≡ Some t → lead below d (lexeme.Key o l ∷ r) ≡ typed below d (lexeme.Key o l ∷ r)
  unfolding atom
  word-typed key.LParen l r t h = absurd cc
  word-typed key.Up l r t h = absurd cc
  word-typed key.Down l r t h = absurd cc
  word-typed key.Now l r t h = absurd cc
  word-typed key.Nil l r t h = absurd cc
  word-typed key.True l r t h = absurd cc
  word-typed key.False l r t h = absurd cc
  word-typed _ l r t h = refl

  lead-typed : {k : ℕ} {ts m : Tokens} {t : Shape} → ReadsShape ts (lexeme.Key key.Dollar k ∷ m) t → lead below d ts ≡ typed below d ts
  unfolding atom
  lead-typed {k = k} {m = m} {t = t} (type_word {o = o} {n = l} h) = word-typed o l (lexeme.Key key.Dollar k ∷ m) t h
  lead-typed type_name = refl
  lead-typed (array_type p) = refl
  lead-typed (record_type p) = refl
  lead-typed (oneof_type p) = refl

  type-goes : {k : ℕ} {ts m : Tokens} {t : Shape} → ReadsShape ts (lexeme.Key key.Dollar k ∷ m) t → shape_nesting t ≤ d → lead below d ts ≡ behind_type below d (line_of ts) t m
  type-goes {ts = ts} p f = lead-typed p ∙ ap (λ (z : Found Shape). z >>= dollar >>= behind_type below d (line_of ts)) (shape-finds p d f)

  record-behind : (line j h : ℕ) (t : Shape) (m r : Tokens) (fs : List FieldInit) → inits below d (length m) m ≡ Some (fs, lexeme.Key key.RBrace h ∷ r) → expr_nesting (e.Record t fs line meant.Unknown) ≤ d →
      behind_type below d line t (lexeme.Key key.LBrace j ∷ m) ≡ Some (e.Record t fs line meant.Unknown, r)
  unfolding behind_type
  record-behind line j h t m r fs g f = ap (λ (z : Found (List FieldInit)). z >>= braced >>= λ fs. expr_within d (e.Record t fs line meant.Unknown)) g ∙ fits _ r f

  empty-behind : (line j h : ℕ) (t : Shape) (r : Tokens) → expr_nesting (e.Array t [] line meant.Unknown) ≤ d →
      behind_type below d line t (lexeme.Key key.LBracket j ∷ lexeme.Key key.RBracket h ∷ r) ≡ Some (e.Array t [] line meant.Unknown, r)
  unfolding behind_type
  empty-behind line j h t r f = fits _ r f

  array-goes : (line j : ℕ) (t : Shape) (m : Tokens) → closes m ≡ false →
      behind_type below d line t (lexeme.Key key.LBracket j ∷ m) ≡ (items below d (length m) m >>= bracketed >>= λ xs. expr_within d (e.Array t xs line meant.Unknown))
  unfolding behind_type
  array-goes line j t (lexeme.Key key.RBracket h ∷ m) c = absurd cc
  array-goes line j t m c = refl

  array-behind : (line j h : ℕ) (t : Shape) (m r : Tokens) (xs : List Expr) → closes m ≡ false → items below d (length m) m ≡ Some (xs, lexeme.Key key.RBracket h ∷ r) → expr_nesting (e.Array t xs line meant.Unknown) ≤ d →
      behind_type below d line t (lexeme.Key key.LBracket j ∷ m) ≡ Some (e.Array t xs line meant.Unknown, r)
  array-behind line j h t m r xs c g f =
      array-goes line j t m c ∙ ap (λ (z : Found (List Expr)). z >>= bracketed >>= λ xs. expr_within d (e.Array t xs line meant.Unknown)) g ∙ fits _ r f

  abbrev operation_at : ℕ → Shape → Found (List ℕ) → Found Expr
  operation_at line t o = o >>= λ x m. plan.args below d m >>= λ xs. expr_within d (e.Op t x xs line meant.Unknown)

  word-goes : (o : Key) (line l j : ℕ) (t : Shape) (m : Tokens) (x : List ℕ) → word_of o ≡ Some x →
      behind_type below d line t (lexeme.Key o l ∷ lexeme.Key key.LParen j ∷ m) ≡ operation_at line t (op_word_at (word_of o) m)
  unfolding behind_type
  word-goes key.LBrace line l j t m x h = absurd cc
  word-goes key.LBracket line l j t m x h = absurd cc
  word-goes _ line l j t m x h = refl

  operation-goes : (line : ℕ) {j : ℕ} (t : Shape) {a m : Tokens} {x : List ℕ} → ReadsOp a (lexeme.Key key.LParen j ∷ m) x → behind_type below d line t a ≡ operation_at line t (Some (x, m))
  unfolding behind_type
  operation-goes line t op_name = refl
  operation-goes line {j} t {m = m} {x = x} (op_word {o = o} {l = l} h) =
      word-goes o line l j t m x h ∙ ap (λ (z : Option (List ℕ)). operation_at line t (op_word_at z m)) h

  operation-behind : (line : ℕ) {j : ℕ} (t : Shape) {a m : Tokens} {x : List ℕ} → ReadsOp a (lexeme.Key key.LParen j ∷ m) x → (r : Tokens) (xs : List Expr) →
      plan.args below d m ≡ Some (xs, r) → expr_nesting (e.Op t x xs line meant.Unknown) ≤ d → behind_type below d line t a ≡ Some (e.Op t x xs line meant.Unknown, r)
  operation-behind line t {x = x} o r xs h f = operation-goes line t o ∙ bind_some h (λ xs. expr_within d (e.Op t x xs line meant.Unknown)) ∙ fits _ r f

  -- what begins with a type
  record-finds : {k j h : ℕ} {ts m r : Tokens} {t : Shape} {fs : List FieldInit} → ReadsShape ts (lexeme.Key key.Dollar k ∷ lexeme.Key key.LBrace j ∷ m) t →
      inits below d (length m) m ≡ Some (fs, lexeme.Key key.RBrace h ∷ r) → expr_nesting (e.Record t fs (line_of ts) meant.Unknown) ≤ d → lead below d ts ≡ Some (e.Record t fs (line_of ts) meant.Unknown, r)
  record-finds {j = j} {h = h} {ts = ts} {m = m} {r = r} {t = t} {fs = fs} p g f =
      type-goes p (omega (arith, f, nests-Record t fs (line_of ts) meant.Unknown)) ∙ record-behind (line_of ts) j h t m r fs g f

  empty-finds : {k j h : ℕ} {ts r : Tokens} {t : Shape} → ReadsShape ts (lexeme.Key key.Dollar k ∷ lexeme.Key key.LBracket j ∷ lexeme.Key key.RBracket h ∷ r) t →
      expr_nesting (e.Array t [] (line_of ts) meant.Unknown) ≤ d → lead below d ts ≡ Some (e.Array t [] (line_of ts) meant.Unknown, r)
  empty-finds {j = j} {h = h} {ts = ts} {r = r} {t = t} p f = type-goes p (omega (arith, f, nests-Array t [] (line_of ts) meant.Unknown)) ∙ empty-behind (line_of ts) j h t r f

  array-finds : {k j h : ℕ} {ts m r : Tokens} {t : Shape} {xs : List Expr} → ReadsShape ts (lexeme.Key key.Dollar k ∷ lexeme.Key key.LBracket j ∷ m) t → closes m ≡ false →
      items below d (length m) m ≡ Some (xs, lexeme.Key key.RBracket h ∷ r) → expr_nesting (e.Array t xs (line_of ts) meant.Unknown) ≤ d → lead below d ts ≡ Some (e.Array t xs (line_of ts) meant.Unknown, r)
  array-finds {j = j} {h = h} {ts = ts} {m = m} {r = r} {t = t} {xs = xs} p c g f =
      type-goes p (omega (arith, f, nests-Array t xs (line_of ts) meant.Unknown)) ∙ array-behind (line_of ts) j h t m r xs c g f

  operation-finds : {k j : ℕ} {ts a m r : Tokens} {t : Shape} {x : List ℕ} {xs : List Expr} → ReadsShape ts (lexeme.Key key.Dollar k ∷ a) t → ReadsOp a (lexeme.Key key.LParen j ∷ m) x →
      plan.args below d m ≡ Some (xs, r) → expr_nesting (e.Op t x xs (line_of ts) meant.Unknown) ≤ d → lead below d ts ≡ Some (e.Op t x xs (line_of ts) meant.Unknown, r)
  operation-finds {ts = ts} {r = r} {t = t} {x = x} {xs = xs} p o h f =
      type-goes p (omega (arith, f, nests-Op t x xs (line_of ts) meant.Unknown)) ∙ operation-behind (line_of ts) t o r xs h f

  -- ---- lists

  last-item-finds : (n : ℕ) (ts r : Tokens) (x : Expr) → below 5 ts ≡ Some (x, r) → commas r ≡ false → items below d (suc n) ts ≡ Some (x ∷ [], r)
  unfolding items
  last-item-finds n ts r x h c = bind_some h (items_after (items below d n)) ∙ go r c
    where
      go : (r : Tokens) → commas r ≡ false → items_after (items below d n) x r ≡ Some (x ∷ [], r)
      go (lexeme.Key key.Comma k ∷ r) c = absurd cc
      go _ c = refl

  item-finds : (n k : ℕ) (ts m r : Tokens) (x : Expr) (xs : List Expr) → below 5 ts ≡ Some (x, lexeme.Key key.Comma k ∷ m) → items below d n m ≡ Some (xs, r) → items below d (suc n) ts ≡ Some (x ∷ xs, r)
  unfolding items
  item-finds n k ts m r x xs h g = bind_some h (items_after (items below d n)) ∙ bind_some g (λ xs r. Some (x ∷ xs, r))

  last-init-finds : (n l k : ℕ) (y : List ℕ) (m r : Tokens) (x : Expr) → below 5 m ≡ Some (x, r) → commas r ≡ false →
      inits below d (suc n) (lexeme.Name y l ∷ lexeme.Key key.Colon k ∷ m) ≡ Some (init_of y x ∷ [], r)
  unfolding inits
  last-init-finds n l k y m r x h c = bind_some h (inits_after (inits below d n) y) ∙ go r c
    where
      go : (r : Tokens) → commas r ≡ false → inits_after (inits below d n) y x r ≡ Some (init_of y x ∷ [], r)
      go (lexeme.Key key.Comma k ∷ r) c = absurd cc
      go _ c = refl

  init-finds : (n l k j : ℕ) (y : List ℕ) (m q r : Tokens) (x : Expr) (fs : List FieldInit) → below 5 m ≡ Some (x, lexeme.Key key.Comma j ∷ q) → inits below d n q ≡ Some (fs, r) →
      inits below d (suc n) (lexeme.Name y l ∷ lexeme.Key key.Colon k ∷ m) ≡ Some (init_of y x ∷ fs, r)
  unfolding inits
  init-finds n l k j y m q r x fs h g = bind_some h (inits_after (inits below d n) y) ∙ bind_some g (λ fs r. Some (init_of y x ∷ fs, r))

  no_args-finds : (k : ℕ) (r : Tokens) → plan.args below d (lexeme.Key key.RParen k ∷ r) ≡ Some ([], r)
  unfolding plan.args
  no_args-finds k r = refl

  args-goes : (ts : Tokens) → closes ts ≡ false → plan.args below d ts ≡ (items below d (length ts) ts >>= closed)
  unfolding plan.args
  args-goes (lexeme.Key key.RParen l ∷ r) c = absurd cc
  args-goes ts c = refl

  -- ---- what goes on

  postfix-ends : (n line : ℕ) (a : Expr) (r : Tokens) → 0 < loosens r → postfix below d (suc n) line a r ≡ Some (a, r)
  unfolding postfix
  postfix-ends n line a (lexeme.Key key.Dot l ∷ r) h = absurd (omega arith)
  postfix-ends n line a (lexeme.Key key.LBracket l ∷ r) h = absurd (omega arith)
  postfix-ends n line a _ h = refl

  joins-ends : (n k line : ℕ) (a : Expr) (r : Tokens) → suc k < loosens r → joins below d (suc n) k line a r ≡ Some (a, r)
  unfolding joins
  joins-ends n k line a (lexeme.Key o l ∷ r) h = cond-false (looseness o == suc k) _ _ (ne-eqb (looseness o) (suc k) (λ q. absurd (omega arith)))
  joins-ends n k line a _ h = refl

  join-finds : (k line : ℕ) (o : Key) (a c : Expr) (m r : Tokens) → below k m ≡ Some (c, r) → expr_nesting (joined o a c line) ≤ d → join below d k line o a m ≡ Some (joined o a c line, r)
  join-finds k line o a c m r h f = bind_some h (λ c. expr_within d (joined o a c line)) ∙ fits _ r f

  joins-next : (n k line : ℕ) (o : Key) (l : ℕ) (a c : Expr) (m r : Tokens) → looseness o ≡ suc k → below k m ≡ Some (c, r) → expr_nesting (joined o a c line) ≤ d →
      joins below d (suc n) k line a (lexeme.Key o l ∷ m) ≡ cond {A = Expr → Parser Expr} (repeats k) (joins below d n k line) (λ x q. Some (x, q)) (joined o a c line) r
  unfolding joins
  joins-next n k line o l a c m r e h f =
      cond-true (looseness o == suc k) _ _ (eq-eqb (looseness o) (suc k) e)
      ∙ bind_some (join-finds k line o a c m r h f) (cond {A = Expr → Parser Expr} (repeats k) (joins below d n k line) (λ x q. Some (x, q)))

  prefix-finds : (op : Prefix) (l : ℕ) (ts r : Tokens) (x : Expr) → below 0 ts ≡ Some (x, r) → expr_nesting (e.Unary op x l meant.Unknown) ≤ d →
      level below d zero (lexeme.Key (prefix_of op) l ∷ ts) ≡ Some (e.Unary op x l meant.Unknown, r)
  unfolding level operand binaries
  prefix-finds p.Minus l ts r x h f =
      ap (λ (z : Found Expr). z >>= (λ a. expr_within d (e.Unary p.Minus a l meant.Unknown)) >>= λ a q. Some (a, q)) h ∙ bind_some (fits _ r f) (λ a q. Some (a, q))
  prefix-finds p.Not l ts r x h f =
      ap (λ (z : Found Expr). z >>= (λ a. expr_within d (e.Unary p.Not a l meant.Unknown)) >>= λ a q. Some (a, q)) h ∙ bind_some (fits _ r f) (λ a q. Some (a, q))

-- ---- levels of at most d, over such of at most b

abbrev Whole : ℕ → ℕ → ℕ → Tokens → Tokens → Expr → Type 0
Whole k b d ts r x = Ends k r → level (levels b) d k ts ≡ Some (x, r)

-- Behind x the plan goes on with the operators of its looseness, and as many turns are left as it may nest.
abbrev Goes_on : ℕ → ℕ → ℕ → Tokens → Tokens → Expr → Type 0
Goes_on zero b d ts r x = Unit {0}
Goes_on (suc k) b d ts r x =
    repeats k ≡ true → Ends k r → (t : ℕ) × (d < t + expr_nesting x) × (level (levels b) d (suc k) ts ≡ joins (levels b) d t k (line_of ts) x r)

-- Behind the primary x the plan goes on with fields and elements.
abbrev Primary : ℕ → ℕ → Tokens → Tokens → Expr → Type 0
Primary b d ts r x =
    (t : ℕ) × (d < t + expr_nesting x) × ((lead (levels b) d ts >>= postfix (levels b) d (suc d) (line_of ts)) ≡ postfix (levels b) d t (line_of ts) x r)

lead-goes : (b d : ℕ) (ts r : Tokens) (x : Expr) → lead (levels b) d ts ≡ Some (x, r) → Primary b d ts r x
lead-goes b d ts r x h = (suc d, omega (arith, nests_pos x), bind_some h (postfix (levels b) d (suc d) (line_of ts)))

field-goes : (b d k l : ℕ) (x : List ℕ) (ts r : Tokens) (a : Expr) → expr_nesting (e.Field a x (line_of ts) meant.Unknown) ≤ d →
    Primary b d ts (lexeme.Key key.Dot k ∷ lexeme.Name x l ∷ r) a → Primary b d ts r (e.Field a x (line_of ts) meant.Unknown)
unfolding postfix
field-goes b d k l x ts r a f (zero, g, h) = absurd (omega (arith, nests-Field a x (line_of ts) meant.Unknown))
field-goes b d k l x ts r a f (suc t, g, h) = (
  t,
  omega (arith, nests-Field a x (line_of ts) meant.Unknown),
  h ∙ bind_some (within_fits expr_nesting d (e.Field a x (line_of ts) meant.Unknown) r f) (postfix (levels b) d t (line_of ts)),
)

index-goes : (b d k l : ℕ) (ts m r : Tokens) (a c : Expr) → expr_nesting (e.Index a c (line_of ts) meant.Unknown) ≤ d → levels b 5 m ≡ Some (c, lexeme.Key key.RBracket l ∷ r) →
    Primary b d ts (lexeme.Key key.LBracket k ∷ m) a → Primary b d ts r (e.Index a c (line_of ts) meant.Unknown)
unfolding postfix
index-goes b d k l ts m r a c f i (zero, g, h) = absurd (omega (arith, nests-Index a c (line_of ts) meant.Unknown))
index-goes b d k l ts m r a c f i (suc t, g, h) = (
  t,
  omega (arith, nests-Index a c (line_of ts) meant.Unknown),
  h ∙ ap (λ (z : Found Expr). z >>= bracketed >>= λ c r. expr_within d (e.Index a c (line_of ts) meant.Unknown) r >>= postfix (levels b) d t (line_of ts)) i
      ∙ bind_some (within_fits expr_nesting d (e.Index a c (line_of ts) meant.Unknown) r f) (postfix (levels b) d t (line_of ts)),
)

primary-whole : (b d : ℕ) (ts r : Tokens) (x : Expr) → signs ts ≡ false → expr_nesting x ≤ d → Primary b d ts r x → Whole zero b d ts r x
primary-whole b d ts r x s f (zero, g, h) l = absurd (omega arith)
primary-whole b d ts r x s f (suc t, g, h) l = level-lead (levels b) d ts s ∙ h ∙ postfix-ends (levels b) d t (line_of ts) x r l.0

alone-whole : (k b d : ℕ) (ts r : Tokens) (x : Expr) → Whole k b d ts r x → Whole (suc k) b d ts r x
alone-whole k b d ts r x h l =
    level-next (levels b) d k ts ∙ bind_some (h (omega arith, l.1)) (joins (levels b) d (suc d) k (line_of ts)) ∙ joins-ends (levels b) d d k (line_of ts) x r l.0

alone-goes : (k b d : ℕ) (ts r : Tokens) (x : Expr) → Whole k b d ts r x → Goes_on (suc k) b d ts r x
alone-goes k b d ts r x h c l = (suc d, omega (arith, nests_pos x), level-next (levels b) d k ts ∙ bind_some (h l) (joins (levels b) d (suc d) k (line_of ts)))

grouped-goes : (k b d l : ℕ) (o : Key) (ts m r : Tokens) (a c : Expr) → looseness o ≡ suc k → k < 5 → expr_nesting (joined o a c (line_of ts)) ≤ d →
    Goes_on (suc k) b d ts (lexeme.Key o l ∷ m) a → levels b k m ≡ Some (c, r) → repeats k ≡ true →
    (t : ℕ) × (d < t + expr_nesting (joined o a c (line_of ts))) × (level (levels b) d (suc k) ts ≡ joins (levels b) d t k (line_of ts) (joined o a c (line_of ts)) r)
grouped-goes k b d l o ts m r a c e u f g w h = go (g h (omega arith, operator-ends o k l m e u))
  where
    go : (t : ℕ) × (d < t + expr_nesting a) × (level (levels b) d (suc k) ts ≡ joins (levels b) d t k (line_of ts) a (lexeme.Key o l ∷ m)) →
        (t : ℕ) × (d < t + expr_nesting (joined o a c (line_of ts))) × (level (levels b) d (suc k) ts ≡ joins (levels b) d t k (line_of ts) (joined o a c (line_of ts)) r)
    go (zero, v, s) = absurd (omega (arith, joined-nests o a c (line_of ts)))
    go (suc t, v, s) = (
      t,
      omega (arith, joined-nests o a c (line_of ts)),
      s ∙ joins-next (levels b) d t k (line_of ts) o l a c m r e w f
          ∙ ap (λ z. cond {A = Expr → Parser Expr} z (joins (levels b) d t k (line_of ts)) (λ x q. Some (x, q)) (joined o a c (line_of ts)) r) h,
    )

goes-whole : (k b d : ℕ) (ts r : Tokens) (x : Expr) → repeats k ≡ true → expr_nesting x ≤ d → Goes_on (suc k) b d ts r x → Whole (suc k) b d ts r x
goes-whole k b d ts r x c f g l = go (g c (omega arith, l.1))
  where
    go : (t : ℕ) × (d < t + expr_nesting x) × (level (levels b) d (suc k) ts ≡ joins (levels b) d t k (line_of ts) x r) → level (levels b) d (suc k) ts ≡ Some (x, r)
    go (zero, u, h) = absurd (omega arith)
    go (suc t, u, h) = h ∙ joins-ends (levels b) d t k (line_of ts) x r l.0

compared-whole : (k b d l : ℕ) (o : Key) (ts m r : Tokens) (a c : Expr) → looseness o ≡ suc k → k < 5 → repeats k ≡ false → expr_nesting (joined o a c (line_of ts)) ≤ d →
    Whole k b d ts (lexeme.Key o l ∷ m) a → levels b k m ≡ Some (c, r) → level (levels b) d (suc k) ts ≡ Some (joined o a c (line_of ts), r)
compared-whole k b d l o ts m r a c e u h f wa wc =
    level-next (levels b) d k ts
    ∙ bind_some (wa (omega arith, operator-ends o k l m e u)) (joins (levels b) d (suc d) k (line_of ts))
    ∙ joins-next (levels b) d d k (line_of ts) o l a c m r e wc f
    ∙ ap (λ z. cond {A = Expr → Parser Expr} z (joins (levels b) d d k (line_of ts)) (λ x q. Some (x, q)) (joined o a c (line_of ts)) r) h

inner-finds : (k : ℕ) (m r : Tokens) (c : Expr) → ((b d : ℕ) → d ≤ suc b → expr_nesting c ≤ d → Whole k b d m r c) → Ends k r → (b : ℕ) → expr_nesting c ≤ b → levels b k m ≡ Some (c, r)
unfolding levels
inner-finds k m r c h l zero f = absurd (omega (arith, nests_pos c))
inner-finds k m r c h l (suc b) f = h b (suc b) (omega arith) f l

mutual
  complete : {k : ℕ} {ts r : Tokens} {x : Expr} → ReadsExpr k ts r x → k ≤ 5 → (b d : ℕ) → d ≤ suc b → expr_nesting x ≤ d → Whole k b d ts r x × Goes_on k b d ts r x
  complete {ts = ts} {r = r} {x = x} (primary p) u b d f g = ((λ l. primary-whole b d ts r x (fresh p).1 g (complete-primary p (clear-ends r l) b d f g) l), tt)
  complete {r = r} (prefix {l = l} {ts = ts} {x = x} op p) u b d f g =
      ((λ q. prefix-finds (levels b) d op l ts r x (inner-finds zero ts r x (λ b d f g. (complete p u b d f g).0) q b (omega (arith, nests-Unary op x l meant.Unknown))) g), tt)
  complete {ts = ts} {r = r} {x = x} (alone {k = k} p) u b d f g =
      (alone-whole k b d ts r x (complete p (omega arith) b d f g).0, alone-goes k b d ts r x (complete p (omega arith) b d f g).0)
  complete {ts = ts} {r = r} (grouped {k = k} {l = l} {o = o} {m = m} {a = a} {b = c} h e p q) u b d f g =
      let s = joined-nests o a c (line_of ts) in
      let w : Goes_on (suc k) b d ts r (joined o a c (line_of ts)) =
      λ e v. grouped-goes k b d l o ts m r a c h (omega arith) g (complete p u b d f (omega arith)).1 (inner-finds k m r c (λ b d f g. (complete q (omega arith) b d f g).0) v b (omega arith)) e in
      (goes-whole k b d ts r (joined o a c (line_of ts)) e g w, w)
  complete {ts = ts} {r = r} (compared {k = k} {l = l} {o = o} {m = m} {a = a} {b = c} h e p q) u b d f g =
      let s = joined-nests o a c (line_of ts) in (
        (λ v. compared-whole k b d l o ts m r a c h (omega arith) e g (complete p (omega arith) b d f (omega arith)).0
            (inner-finds k m r c (λ b d f g. (complete q (omega arith) b d f g).0) (omega arith, v.1) b (omega arith))),
        (λ h. absurd cc),
      )

  complete-primary : {ts r : Tokens} {x : Expr} → ReadsPrimary ts r x → Clear r → (b d : ℕ) → d ≤ suc b → expr_nesting x ≤ d → Primary b d ts r x
  complete-primary {ts = ts} {r = r} (literal p) c b d f g = lead-goes b d ts r _ (literal-finds (levels b) d p g)
  complete-primary {ts = ts} {r = r} (name {x = x} {l = l}) c b d f g = lead-goes b d ts r _ (name-finds (levels b) d x l r c.1 g)
  complete-primary {ts = ts} {r = r} (called p) c b d f g = lead-goes b d ts r _ (complete-call p c b d f g)
  complete-primary {ts = ts} {r = r} (record_of {m = m} {t = t} {fs = fs} p q) c b d f g =
      lead-goes b d ts r _ (record-finds (levels b) d p (complete-inits q (omega arith, refl) refl (length m) (omega arith) b d (omega (arith, nests-Record t fs (line_of ts) meant.Unknown))) g)
  complete-primary {ts = ts} {r = r} (no_items p) c b d f g = lead-goes b d ts r _ (empty-finds (levels b) d p g)
  complete-primary {ts = ts} {r = r} (array_of {m = m} {t = t} {xs = xs} p q) c b d f g =
      lead-goes b d ts r _
      (array-finds (levels b) d p (unclosed-items q) (complete-items q (omega arith, refl) refl (length m) (omega arith) b d (omega (arith, nests-Array t xs (line_of ts) meant.Unknown))) g)
  complete-primary {ts = ts} {r = r} (group {l = l} {k = k} {m = m} {x = x} p) c b d f g = lead-goes b d ts r x (lead-group (levels b) d l k m r x ((complete p (omega arith) b d f g).0 (omega arith, refl)))
  complete-primary {ts = ts} {r = r} (up {l = l} {k = k} {j = j} {m = m} {x = x} p) c b d f g =
      lead-goes b d ts r _ (up-finds (levels b) d l k j m r x (inner-finds 5 m (lexeme.Key key.RParen k ∷ r) x (λ b d f g. (complete p (omega arith) b d f g).0) (omega arith, refl) b (omega (arith, nests-Up x l))) g)
  complete-primary {ts = ts} {r = r} (down {l = l} {k = k} {j = j} {m = m} {x = x} p) c b d f g =
      lead-goes b d ts r _ (down-finds (levels b) d l k j m r x (inner-finds 5 m (lexeme.Key key.RParen k ∷ r) x (λ b d f g. (complete p (omega arith) b d f g).0) (omega arith, refl) b (omega (arith, nests-Down x l))) g)
  complete-primary {ts = ts} {r = r} (now {l = l} {k = k} {j = j}) c b d f g = lead-goes b d ts r _ (now-finds (levels b) d l k j r g)
  complete-primary {ts = ts} {r = r} (field {x = x} {k = k} {l = l} {a = a} p) c b d f g =
      field-goes b d k l x ts r a g (complete-primary p (clear-field k l x r c) b d f (omega (arith, nests-Field a x (line_of ts) meant.Unknown)))
  complete-primary {ts = ts} {r = r} (index {k = k} {l = l} {m = m} {a = a} {b = y} p q) c b d f g =
      let s = nests-Index a y (line_of ts) meant.Unknown in
      index-goes b d k l ts m r a y g
      (inner-finds 5 m (lexeme.Key key.RBracket l ∷ r) y (λ b d f g. (complete q (omega arith) b d f g).0) (omega arith, refl) b (omega arith))
      (complete-primary p (clear-index k m r (skips q (omega arith) zero) c) b d f (omega arith))

  complete-call : {ts r : Tokens} {x : Expr} → ReadsCall ts r x → Clear r → (b d : ℕ) → d ≤ suc b → expr_nesting x ≤ d → lead (levels b) d ts ≡ Some (x, r)
  complete-call {r = r} (call {x = x} {l = l} {k = k} {m = m} {xs = xs} p) c b d f g =
      call-finds (levels b) d x l k m r xs (ap (assigns (length m)) (closes-args p) ∙ c.0 (length m)) (complete-args p b d (omega (arith, nests-Call x xs l meant.Unknown))) g
  complete-call {ts = ts} (operation {x = x} {t = t} {xs = xs} p o q) c b d f g =
      operation-finds (levels b) d p o (complete-args q b d (omega (arith, nests-Op t x xs (line_of ts) meant.Unknown))) g

  complete-args : {ts r : Tokens} {xs : List Expr} → ReadsArgs ts r xs → (b d : ℕ) → deepest (map expr_nesting xs) ≤ b → plan.args (levels b) d ts ≡ Some (xs, r)
  complete-args {r = r} (no_args {k = k}) b d f = no_args-finds (levels b) d k r
  complete-args {ts = ts} (args p) b d f = args-goes (levels b) d ts (unclosed-items p) ∙ bind_some (complete-items p (omega arith, refl) refl (length ts) (omega arith) b d f) closed

  complete-items : {ts r : Tokens} {xs : List Expr} → ReadsItems ts r xs → Ends 5 r → commas r ≡ false → (n : ℕ) → length ts ≤ n → (b d : ℕ) → deepest (map expr_nesting xs) ≤ b → items (levels b) d n ts ≡ Some (xs, r)
  complete-items p l c zero g b d f = absurd (omega (arith, shrinks-items p))
  complete-items {ts = ts} {r = r} (last_item {x = x} p) l c (suc n) g b d f =
      last-item-finds (levels b) d n ts r x (inner-finds 5 ts r x (λ b d f g. (complete p (omega arith) b d f g).0) l b (omega arith)) c
  complete-items {ts = ts} {r = r} (item {k = k} {m = m} {x = x} {xs = xs} p q) l c (suc n) g b d f =
      item-finds (levels b) d n k ts m r x xs (inner-finds 5 ts (lexeme.Key key.Comma k ∷ m) x (λ b d f g. (complete p (omega arith) b d f g).0) (omega arith, refl) b (omega arith))
      (complete-items q l c n (omega (arith, shrinks p)) b d (omega arith))

  complete-inits : {ts r : Tokens} {fs : List FieldInit} → ReadsInits ts r fs → Ends 5 r → commas r ≡ false → (n : ℕ) → length ts ≤ n → (b d : ℕ) → deepest (map init_nesting fs) ≤ b → inits (levels b) d n ts ≡ Some (fs, r)
  complete-inits p l c zero g b d f = absurd (omega (arith, shrinks-inits p))
  complete-inits {r = r} (last_init {y = y} {l = j} {k = k} {m = m} {x = x} p) l c (suc n) g b d f =
      last-init-finds (levels b) d n j k y m r x (inner-finds 5 m r x (λ b d f g. (complete p (omega arith) b d f g).0) l b (omega arith)) c
  complete-inits {r = r} (init {y = y} {l = h} {k = k} {j = j} {m = m} {q = q} {x = x} {fs = fs} p w) l c (suc n) g b d f =
      init-finds (levels b) d n h k j y m q r x fs (inner-finds 5 m (lexeme.Key key.Comma j ∷ q) x (λ b d f g. (complete p (omega arith) b d f g).0) (omega arith, refl) b (omega arith))
      (complete-inits w l c n (omega (arith, shrinks p)) b d (omega arith))

-- An expression that is read is found, wherever it ends.
pub levels-finds : {k : ℕ} {ts r : Tokens} {x : Expr} → ReadsExpr k ts r x → k ≤ 5 → Ends k r → (d : ℕ) → expr_nesting x ≤ d → levels d k ts ≡ Some (x, r)
levels-finds {k} {ts} {r} {x} p u l d f = inner-finds k ts r x (λ b d f g. (complete p u b d f g).0) l d f

pub args-finds : {ts r : Tokens} {xs : List Expr} → ReadsArgs ts r xs → (d : ℕ) → deepest (map expr_nesting xs) ≤ d → plan.args (levels d) d ts ≡ Some (xs, r)
args-finds p d f = complete-args p d d f

-- a group, behind its opening bracket
pub group-finds : {m r : Tokens} {x : Expr} {k : ℕ} → ReadsExpr 5 m (lexeme.Key key.RParen k ∷ r) x → (d : ℕ) → expr_nesting x ≤ d → plan.group (levels d) d m ≡ Some (x, r)
group-finds {m} {r} {x} {k} p d f = lead-group (levels d) d zero k m r x ((complete p (omega arith) d d (omega arith) f).0 (omega arith, refl))

-- a primary that is found whatever follows it
abbrev pub is_leaf : {ts r : Tokens} {x : Expr} → ReadsPrimary ts r x → Bool
is_leaf name = false
is_leaf (called (call p)) = false
is_leaf (group p) = false
is_leaf (field p) = false
is_leaf (index p q) = false
is_leaf _ = true

lead-atom : (below : ℕ → Parser Expr) (d : ℕ) (ts : Tokens) → opens ts ≡ false → atom below d ts ≡ lead below d ts
lead-atom below d (lexeme.Key key.LParen k ∷ ts) h = absurd cc
lead-atom below d _ h = refl

pub leaf-finds : {ts r : Tokens} {x : Expr} → (p : ReadsPrimary ts r x) → is_leaf p ≡ true → (d : ℕ) → expr_nesting x ≤ d → atom (levels d) d ts ≡ Some (x, r)
leaf-finds {ts = ts} (literal p) h d f = lead-atom (levels d) d ts (bare-literal p).1 ∙ literal-finds (levels d) d p f
leaf-finds name h d f = absurd cc
leaf-finds (called (call p)) h d f = absurd cc
leaf-finds {ts = ts} (called (operation {x = x} {t = t} {xs = xs} p o q)) h d f =
    lead-atom (levels d) d ts (bare-shape p).1 ∙ operation-finds (levels d) d p o (complete-args q d d (omega (arith, nests-Op t x xs (line_of ts) meant.Unknown))) f
leaf-finds {ts = ts} (record_of {m = m} {t = t} {fs = fs} p q) h d f =
    lead-atom (levels d) d ts (bare-shape p).1
    ∙ record-finds (levels d) d p (complete-inits q (omega arith, refl) refl (length m) (omega arith) d d (omega (arith, nests-Record t fs (line_of ts) meant.Unknown))) f
leaf-finds {ts = ts} (no_items p) h d f = lead-atom (levels d) d ts (bare-shape p).1 ∙ empty-finds (levels d) d p f
leaf-finds {ts = ts} (array_of {m = m} {t = t} {xs = xs} p q) h d f =
    lead-atom (levels d) d ts (bare-shape p).1
    ∙ array-finds (levels d) d p (unclosed-items q) (complete-items q (omega arith, refl) refl (length m) (omega arith) d d (omega (arith, nests-Array t xs (line_of ts) meant.Unknown))) f
leaf-finds (group p) h d f = absurd cc
leaf-finds {r = r} (up {l = l} {k = k} {j = j} {m = m} {x = x} p) h d f = up-finds (levels d) d l k j m r x (levels-finds p (omega arith) (omega arith, refl) d (omega (arith, nests-Up x l))) f
leaf-finds {r = r} (down {l = l} {k = k} {j = j} {m = m} {x = x} p) h d f = down-finds (levels d) d l k j m r x (levels-finds p (omega arith) (omega arith, refl) d (omega (arith, nests-Down x l))) f
leaf-finds {r = r} (now {l = l} {k = k} {j = j}) h d f = now-finds (levels d) d l k j r f
leaf-finds (field p) h d f = absurd cc
leaf-finds (index p q) h d f = absurd cc

-- Tokens that are an expression throughout are one only.
pub one_expression : (ts : Tokens) (x y : Expr) → ReadsExpr 5 ts [] x → ReadsExpr 5 ts [] y → x ≡ y
one_expression ts x y p q =
    let d = max (expr_nesting x) (expr_nesting y) in
    let a = levels-finds p (omega arith) (omega arith, refl) d (omega arith) in
    let b = levels-finds q (omega arith) (omega arith, refl) d (omega arith) in
    let same : ◌≡◌ {A = Expr × Tokens} (x, []) (y, []) = cc in
    ap (λ (z : Expr × Tokens). z.0) same
