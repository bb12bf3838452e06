-- The statements that have parts but no statements inside: what is read is found.
use Rattle.std.proofs.Common.{◌≡◌, ℕ, zero, suc, ◌≤◌, true, false, List, [], ◌∷◌, length, Option, Some, None, refl, ap, ◌∙◌, arith, codes}
use Rattle.std.specs.Prelude.{bytes_eq}
use Rattle.std.proofs.lemmas.Bool.{cond-true, cond-false}
use Rattle.std.proofs.lemmas.Slice.Eq.{bytes_eq-Decides}
use Rattle.clu_tree.specs.declared.lexeme.Key.{Key}
use Rattle.clu_tree.specs.declared.lexeme.Key.TheVariants as key
use Rattle.clu_tree.specs.declared.lexeme.Lexeme.TheVariants as lexeme
use Rattle.clu_tree.specs.declared.shape.Shape.{Shape}
use Rattle.clu_tree.specs.declared.shape.Named.{Named}
use Rattle.clu_tree.specs.declared.tree.Meant.TheVariants as meant
use Rattle.clu_tree.specs.declared.tree.Expr.{Expr}
use Rattle.clu_tree.specs.declared.tree.Target.TheVariants as t
use Rattle.clu_tree.specs.declared.tree.Remote.{Remote}
use Rattle.clu_tree.specs.declared.tree.Remote.TheVariants as c
use Rattle.clu_tree.specs.declared.tree.Iter.{Iter}
use Rattle.clu_tree.specs.declared.tree.Iter.TheVariants as i
use Rattle.clu_tree.specs.declared.tree.Stmt.{Stmt}
use Rattle.clu_tree.specs.declared.tree.Stmt.TheVariants as st
use Rattle.clu_grammar.specs.Grammar as g
use Rattle.clu_grammar.specs.Grammar.{Tokens, line_of, field_of, type_of, ReadsShape, ReadsExpr, ReadsArgs, ReadsNames, ReadsVariable, ReadsRemote, ReadsIter}
use Rattle.clu_grammar.specs.Nesting.{expr_nesting, stmt_nesting, remote_nesting, iter_nesting, variable_nesting}
use Rattle.clu_grammar.specs.Ahead.{is_target, assigns}
use Rattle.clu_grammar.specs.ExprPlan as expr_plan
use Rattle.clu_grammar.specs.ExprPlan.{Found, Parser, ◌>>=◌, within, closed, bracketed, dollar, shape, levels}
use Rattle.clu_grammar.specs.StmtPlan as plan
use Rattle.clu_grammar.specs.StmtPlan.{comma, colon, at_key, within_key, then_key, do_key, in_key, end_key, begins_remote}
use Rattle.clu_grammar.proofs.Binds.{bind_some, within_fits}
use Rattle.clu_grammar.proofs.Nests.{nests-Declare, nests-Assign, nests-Remote, nests-PutLine, nests-Sleep, nests-Fork, nests-Return, nests-Signal}
use Rattle.clu_grammar.proofs.Balance.{skips}
use Rattle.clu_grammar.proofs.Ending.{ends, Ends, clear-ends}
use Rattle.clu_grammar.proofs.Shapes.{shape-finds, commas}
use Rattle.clu_grammar.proofs.Complete.{levels-finds, args-finds}
use Rattle.clu_grammar.proofs.StmtFollows.{unremote}

last-finds : (n l : ℕ) (x : List ℕ) (r : Tokens) → commas r ≡ false → plan.names (suc n) (lexeme.Name x l ∷ r) ≡ Some (x ∷ [], r)
unfolding plan.names
last-finds n l x (lexeme.Key key.Comma k ∷ r) h = absurd cc
last-finds n l x _ h = refl

and-finds : (n l k : ℕ) (x : List ℕ) (m r : Tokens) (xs : List (List ℕ)) → plan.names n m ≡ Some (xs, r) → plan.names (suc n) (lexeme.Name x l ∷ lexeme.Key key.Comma k ∷ m) ≡ Some (x ∷ xs, r)
unfolding plan.names
and-finds n l k x m r xs h = bind_some h (λ xs r. Some (x ∷ xs, r))

pub names-finds : {ts r : Tokens} {xs : List (List ℕ)} → ReadsNames ts r xs → commas r ≡ false → (n : ℕ) → length ts ≤ n → plan.names n ts ≡ Some (xs, r)
names-finds g.last_name c zero f = absurd (omega (arith, f))
names-finds {r = r} (g.last_name {x = x} {l = l}) c (suc n) f = last-finds n l x r c
names-finds (g.name_and p) c zero f = absurd (omega (arith, f))
names-finds {r = r} (g.name_and {x = x} {l = l} {k = k} {m = m} {xs = xs} p) c (suc n) f = and-finds n l k x m r xs (names-finds p c n (omega (arith, f)))

pub expr-finds : {ts r : Tokens} {x : Expr} → ReadsExpr 5 ts r x → Ends 5 r → (d : ℕ) → expr_nesting x ≤ d → levels d 5 ts ≡ Some (x, r)
expr-finds p e d f = levels-finds p (omega arith) e d f

-- What stands in brackets isn't taken for a target.
no_target : {m r : Tokens} {j : ℕ} {x : Expr} → ReadsExpr 5 m (lexeme.Key key.RParen j ∷ r) x → Ends 5 r → is_target m ≡ false
no_target {m = m} {r = r} p e = ap (assigns (length m)) (skips p (omega arith) zero) ∙ (clear-ends r (omega (arith, e.0), e.1)).0 (length m)

module _ (bd : Parser (List Stmt)) (d : ℕ) where
  pub variable-finds : {ts q : Tokens} {o : Option Named} {j : ℕ} → ReadsVariable ts (lexeme.Key key.Colon j ∷ q) o → variable_nesting o ≤ d → plan.variable bd d ts ≡ Some (o, lexeme.Key key.Colon j ∷ q)
  variable-finds g.no_variable f = refl
  variable-finds {q = q} {j = j} (g.variable {x = x} {m = m} {s = s} p) f =
      bind_some (bind_some (shape-finds p d (omega (arith, f))) closed) (λ t r. Some (Some (field_of x t), r))

  once-finds : (l j k h : ℕ) (x : List ℕ) (m q r : Tokens) (xs : List Expr) (a : Expr) → expr_plan.args (levels d) d m ≡ Some (xs, lexeme.Key key.At h ∷ q) → levels d 5 q ≡ Some (a, r) →
      plan.remote bd d (lexeme.Key key.Once l ∷ lexeme.Name x j ∷ lexeme.Key key.LParen k ∷ m) ≡ Some (c.Once x xs a l meant.Unknown, r)
  once-finds l j k h x m q r xs a p w =
      ap (λ (o : Found (List Expr)). o >>= at_key >>= λ xs q. levels d 5 q >>= λ a r. Some (c.Once x xs a l meant.Unknown, r)) p
      ∙ bind_some w (λ a r. Some (c.Once x xs a l meant.Unknown, r))

  maybe-finds : (l j k h g : ℕ) (x : List ℕ) (m q w r : Tokens) (xs : List Expr) (a b : Expr) → expr_plan.args (levels d) d m ≡ Some (xs, lexeme.Key key.At h ∷ q) → levels d 5 q ≡ Some (a, lexeme.Key key.Within g ∷ w) →
      levels d 5 w ≡ Some (b, r) → plan.remote bd d (lexeme.Key key.Maybe l ∷ lexeme.Name x j ∷ lexeme.Key key.LParen k ∷ m) ≡ Some (c.Maybe x xs a b l meant.Unknown, r)
  maybe-finds l j k h g x m q w r xs a b p u v =
      ap (λ (o : Found (List Expr)). o >>= at_key >>= λ xs q. levels d 5 q >>= within_key >>= λ a w. levels d 5 w >>= λ b r. Some (c.Maybe x xs a b l meant.Unknown, r)) p
      ∙ ap (λ (o : Found Expr). o >>= within_key >>= λ a w. levels d 5 w >>= λ b r. Some (c.Maybe x xs a b l meant.Unknown, r)) u
      ∙ bind_some v (λ b r. Some (c.Maybe x xs a b l meant.Unknown, r))

  pub remote-finds : {ts r : Tokens} {x : Remote} → ReadsRemote ts r x → Ends 5 r → remote_nesting x ≤ d → plan.remote bd d ts ≡ Some (x, r)
  remote-finds {r = r} (g.once {x = x} {l = l} {j = j} {k = k} {h = h} {m = m} {q = q} {xs = xs} {a = a} p u) e f =
      once-finds l j k h x m q r xs a (args-finds p d (omega (arith, f))) (expr-finds u e d (omega (arith, f)))
  remote-finds {r = r} (g.maybe {x = x} {l = l} {j = j} {k = k} {h = h} {g = g} {m = m} {q = q} {w = w} {xs = xs} {a = a} {b = b} p u v) e f =
      maybe-finds l j k h g x m q w r xs a b (args-finds p d (omega (arith, f))) (expr-finds u (omega arith, refl) d (omega (arith, f))) (expr-finds v e d (omega (arith, f)))

  -- ---- what a `for` goes over

  range-finds : (l k j h f : ℕ) (x : List ℕ) (m q r : Tokens) (a b : Expr) → x ≡ codes "from_to" → levels d 5 m ≡ Some (a, lexeme.Key key.Comma f ∷ q) → (levels d 5 q >>= closed) ≡ Some (b, r) →
      plan.iter bd d (lexeme.Key key.Int l ∷ lexeme.Key key.Dollar k ∷ lexeme.Name x j ∷ lexeme.Key key.LParen h ∷ m) ≡ Some (i.FromTo a b l, r)
  range-finds l k j h f x m q r a b e p w =
      cond-true (bytes_eq x (codes "from_to")) _ _ ((bytes_eq-Decides x (codes "from_to")).1 e)
      ∙ ap (λ (o : Found Expr). o >>= comma >>= λ a q. levels d 5 q >>= closed >>= λ b r. Some (i.FromTo a b l, r)) p
      ∙ bind_some w (λ b r. Some (i.FromTo a b l, r))

  elements_key-finds : (x : List ℕ) (j h : ℕ) (m : Tokens) (s : Shape) → x ≡ codes "elements" → plan.elements_key bd d s (lexeme.Name x j ∷ lexeme.Key key.LParen h ∷ m) ≡ Some (s, m)
  elements_key-finds x j h m s e = cond-true (bytes_eq x (codes "elements")) _ _ ((bytes_eq-Decides x (codes "elements")).1 e)

  elements-finds : (x : List ℕ) (k j h : ℕ) (ts m r : Tokens) (s : Shape) (a : Expr) → x ≡ codes "elements" → shape d ts ≡ Some (s, lexeme.Key key.Dollar k ∷ lexeme.Name x j ∷ lexeme.Key key.LParen h ∷ m) →
      (levels d 5 m >>= closed) ≡ Some (a, r) → plan.elements bd d ts ≡ Some (i.Elements s a (line_of ts), r)
  elements-finds x k j h ts m r s a e p w =
      ap (λ (o : Found Shape). o >>= dollar >>= plan.elements_key bd d >>= λ t m. levels d 5 m >>= closed >>= λ a r. Some (i.Elements t a (line_of ts), r)) p
      ∙ ap (λ (o : Found Shape). o >>= λ t m. levels d 5 m >>= closed >>= λ a r. Some (i.Elements t a (line_of ts), r)) (elements_key-finds x j h m s e)
      ∙ bind_some w (λ a r. Some (i.Elements s a (line_of ts), r))

  other_name : (x : List ℕ) → x ≡ codes "elements" → bytes_eq x (codes "from_to") ≡ false
  other_name x e = ap (λ z. bytes_eq z (codes "from_to")) e

  word-elements : (o : Key) (l k j h : ℕ) (x : List ℕ) (m : Tokens) → x ≡ codes "elements" →
      plan.iter bd d (lexeme.Key o l ∷ lexeme.Key key.Dollar k ∷ lexeme.Name x j ∷ lexeme.Key key.LParen h ∷ m) ≡ plan.elements bd d (lexeme.Key o l ∷ lexeme.Key key.Dollar k ∷ lexeme.Name x j ∷ lexeme.Key key.LParen h ∷ m)
  word-elements key.Int l k j h x m e = cond-false (bytes_eq x (codes "from_to")) _ _ (other_name x e)
  word-elements _ l k j h x m e = refl

  iter-elements : {ts m : Tokens} {s : Shape} {x : List ℕ} {k j h : ℕ} → ReadsShape ts (lexeme.Key key.Dollar k ∷ lexeme.Name x j ∷ lexeme.Key key.LParen h ∷ m) s → x ≡ codes "elements" → plan.iter bd d ts ≡ plan.elements bd d ts
  iter-elements {m = m} {x = x} {k = k} {j = j} {h = h} (g.type_word {o = o} {n = l} p) e = word-elements o l k j h x m e
  iter-elements g.type_name e = refl
  iter-elements (g.array_type p) e = refl
  iter-elements (g.record_type p) e = refl
  iter-elements (g.oneof_type p) e = refl

  pub iter-finds : {ts r : Tokens} {x : Iter} → ReadsIter ts r x → iter_nesting x ≤ d → plan.iter bd d ts ≡ Some (x, r)
  iter-finds {r = r} (g.from_to {x = x} {l = l} {k = k} {j = j} {h = h} {g = v} {f = w} {m = m} {q = q} {a = a} {b = b} e p u) f =
      range-finds l k j h w x m q r a b e (expr-finds p (omega arith, refl) d (omega (arith, f))) (bind_some (expr-finds u (omega arith, refl) d (omega (arith, f))) closed)
  iter-finds {ts = ts} {r = r} (g.elements {x = x} {k = k} {j = j} {h = h} {g = v} {m = m} {s = s} {a = a} e p u) f =
      iter-elements p e ∙ elements-finds x k j h ts m r s a e (shape-finds p d (omega (arith, f))) (bind_some (expr-finds u (omega arith, refl) d (omega (arith, f))) closed)

  -- ---- simple statements

  undeclared : (x : List ℕ) (l : ℕ) (s : Shape) (r : Tokens) → ends r ≡ true → plan.declared bd d x l s r ≡ within stmt_nesting d (st.Declare x s None l) r
  undeclared x l s (lexeme.Key key.Becomes j ∷ r) h = absurd cc
  undeclared x l s _ h = refl

  pub declare-finds : (x : List ℕ) (l k : ℕ) (m r : Tokens) (s : Shape) → ReadsShape m r s → ends r ≡ true → stmt_nesting (st.Declare x s None l) ≤ d →
      plan.simple bd d (lexeme.Name x l ∷ lexeme.Key key.Colon k ∷ m) ≡ Some (st.Declare x s None l, r)
  unfolding plan.simple
  declare-finds x l k m r s p e f =
      bind_some (shape-finds p d (omega (arith, f, nests-Declare x s None l))) (plan.declared bd d x l) ∙ undeclared x l s r e ∙ within_fits stmt_nesting d (st.Declare x s None l) r f

  pub declare_as-finds : (x : List ℕ) (l k j : ℕ) (m q r : Tokens) (s : Shape) (a : Expr) → ReadsShape m (lexeme.Key key.Becomes j ∷ q) s → ReadsExpr 5 q r a → Ends 5 r → stmt_nesting (st.Declare x s (Some a) l) ≤ d →
      plan.simple bd d (lexeme.Name x l ∷ lexeme.Key key.Colon k ∷ m) ≡ Some (st.Declare x s (Some a) l, r)
  unfolding plan.simple
  declare_as-finds x l k j m q r s a p u e f =
      bind_some (shape-finds p d (omega (arith, f, nests-Declare x s (Some a) l))) (plan.declared bd d x l)
      ∙ bind_some (expr-finds u e d (omega (arith, f, nests-Declare x s (Some a) l))) (λ a. within stmt_nesting d (st.Declare x s (Some a) l))
      ∙ within_fits stmt_nesting d (st.Declare x s (Some a) l) r f

  pub assigns-name : (x : List ℕ) (l k : ℕ) (m r : Tokens) (a : Expr) → ReadsExpr 5 m r a → Ends 5 r → stmt_nesting (st.Assign (t.Name x l meant.Unknown) a l) ≤ d →
      plan.simple bd d (lexeme.Name x l ∷ lexeme.Key key.Becomes k ∷ m) ≡ Some (st.Assign (t.Name x l meant.Unknown) a l, r)
  unfolding plan.simple
  assigns-name x l k m r a p e f =
      cond-false (begins_remote m) _ _ (unremote p)
      ∙ bind_some (expr-finds p e d (omega (arith, f, nests-Assign (t.Name x l meant.Unknown) a l))) (λ a. within stmt_nesting d (st.Assign (t.Name x l meant.Unknown) a l))
      ∙ within_fits stmt_nesting d (st.Assign (t.Name x l meant.Unknown) a l) r f

  remote-begins : {ts r : Tokens} {x : Remote} → ReadsRemote ts r x → begins_remote ts ≡ true
  remote-begins (g.once p q) = refl
  remote-begins (g.maybe p q w) = refl

  pub remote_to-finds : (x : List ℕ) (l k : ℕ) (m r : Tokens) (y : Remote) → ReadsRemote m r y → Ends 5 r → stmt_nesting (st.Remote (Some x) y l meant.Unknown) ≤ d →
      plan.simple bd d (lexeme.Name x l ∷ lexeme.Key key.Becomes k ∷ m) ≡ Some (st.Remote (Some x) y l meant.Unknown, r)
  unfolding plan.simple
  remote_to-finds x l k m r y p e f =
      cond-true (begins_remote m) _ _ (remote-begins p)
      ∙ bind_some (remote-finds p e (omega (arith, f, nests-Remote (Some x) y l meant.Unknown))) (λ y. within stmt_nesting d (st.Remote (Some x) y l meant.Unknown))
      ∙ within_fits stmt_nesting d (st.Remote (Some x) y l meant.Unknown) r f

  simple-remote : {ts r : Tokens} {x : Remote} → ReadsRemote ts r x → plan.simple bd d ts ≡ (plan.remote bd d ts >>= λ x. within stmt_nesting d (st.Remote None x (line_of ts) meant.Unknown))
  unfolding plan.simple
  simple-remote (g.once p q) = refl
  simple-remote (g.maybe p q w) = refl

  pub remote_alone-finds : {ts r : Tokens} {x : Remote} → ReadsRemote ts r x → Ends 5 r → stmt_nesting (st.Remote None x (line_of ts) meant.Unknown) ≤ d →
      plan.simple bd d ts ≡ Some (st.Remote None x (line_of ts) meant.Unknown, r)
  remote_alone-finds {ts = ts} {r = r} {x = x} p e f =
      simple-remote p
      ∙ bind_some (remote-finds p e (omega (arith, f, nests-Remote None x (line_of ts) meant.Unknown))) (λ x. within stmt_nesting d (st.Remote None x (line_of ts) meant.Unknown))
      ∙ within_fits stmt_nesting d (st.Remote None x (line_of ts) meant.Unknown) r f

  pub put_line-finds : (l k j : ℕ) (m r : Tokens) (a : Expr) → ReadsExpr 5 m (lexeme.Key key.RParen j ∷ r) a → stmt_nesting (st.PutLine a l) ≤ d →
      plan.simple bd d (lexeme.Key key.PutLine l ∷ lexeme.Key key.LParen k ∷ m) ≡ Some (st.PutLine a l, r)
  unfolding plan.simple
  put_line-finds l k j m r a p f =
      bind_some (bind_some (expr-finds p (omega arith, refl) d (omega (arith, f, nests-PutLine a l))) closed) (λ a. within stmt_nesting d (st.PutLine a l)) ∙ within_fits stmt_nesting d (st.PutLine a l) r f

  pub sleep-finds : (l k j : ℕ) (m r : Tokens) (a : Expr) → ReadsExpr 5 m (lexeme.Key key.RParen j ∷ r) a → stmt_nesting (st.Sleep a l) ≤ d →
      plan.simple bd d (lexeme.Key key.Sleep l ∷ lexeme.Key key.LParen k ∷ m) ≡ Some (st.Sleep a l, r)
  unfolding plan.simple
  sleep-finds l k j m r a p f =
      bind_some (bind_some (expr-finds p (omega arith, refl) d (omega (arith, f, nests-Sleep a l))) closed) (λ a. within stmt_nesting d (st.Sleep a l)) ∙ within_fits stmt_nesting d (st.Sleep a l) r f

  pub fork-finds : (x : List ℕ) (l k j : ℕ) (m r : Tokens) (xs : List Expr) → ReadsArgs m r xs → stmt_nesting (st.Fork x xs l meant.Unknown) ≤ d →
      plan.simple bd d (lexeme.Key key.Fork l ∷ lexeme.Name x k ∷ lexeme.Key key.LParen j ∷ m) ≡ Some (st.Fork x xs l meant.Unknown, r)
  unfolding plan.simple
  fork-finds x l k j m r xs p f =
      bind_some (args-finds p d (omega (arith, f, nests-Fork x xs l meant.Unknown))) (λ xs. within stmt_nesting d (st.Fork x xs l meant.Unknown)) ∙ within_fits stmt_nesting d (st.Fork x xs l meant.Unknown) r f

  pub leave-finds : (l : ℕ) (r : Tokens) → ends r ≡ true → stmt_nesting (st.Return None l) ≤ d → plan.simple bd d (lexeme.Key key.Return l ∷ r) ≡ Some (st.Return None l, r)
  unfolding plan.simple
  leave-finds l (lexeme.Key key.LParen k ∷ m) e f = cond-true (is_target m) _ _ e ∙ within_fits stmt_nesting d (st.Return None l) (lexeme.Key key.LParen k ∷ m) f
  leave-finds l r e f = within_fits stmt_nesting d (st.Return None l) r f

  pub give-finds : (l k j : ℕ) (m r : Tokens) (a : Expr) → ReadsExpr 5 m (lexeme.Key key.RParen j ∷ r) a → Ends 5 r → stmt_nesting (st.Return (Some a) l) ≤ d →
      plan.simple bd d (lexeme.Key key.Return l ∷ lexeme.Key key.LParen k ∷ m) ≡ Some (st.Return (Some a) l, r)
  unfolding plan.simple
  give-finds l k j m r a p e f =
      cond-false (is_target m) _ _ (no_target p e)
      ∙ bind_some (bind_some (expr-finds p (omega arith, refl) d (omega (arith, f, nests-Return (Some a) l))) closed) (λ a. within stmt_nesting d (st.Return (Some a) l))
      ∙ within_fits stmt_nesting d (st.Return (Some a) l) r f

  pub signal-finds : (x : List ℕ) (l k : ℕ) (r : Tokens) → ends r ≡ true → stmt_nesting (st.Signal x None l) ≤ d → plan.simple bd d (lexeme.Key key.Signal l ∷ lexeme.Name x k ∷ r) ≡ Some (st.Signal x None l, r)
  unfolding plan.simple
  signal-finds x l k (lexeme.Key key.LParen j ∷ m) e f = cond-true (is_target m) _ _ e ∙ within_fits stmt_nesting d (st.Signal x None l) (lexeme.Key key.LParen j ∷ m) f
  signal-finds x l k r e f = within_fits stmt_nesting d (st.Signal x None l) r f

  pub signal_with-finds : (x : List ℕ) (l k j h : ℕ) (m r : Tokens) (a : Expr) → ReadsExpr 5 m (lexeme.Key key.RParen h ∷ r) a → Ends 5 r → stmt_nesting (st.Signal x (Some a) l) ≤ d →
      plan.simple bd d (lexeme.Key key.Signal l ∷ lexeme.Name x k ∷ lexeme.Key key.LParen j ∷ m) ≡ Some (st.Signal x (Some a) l, r)
  unfolding plan.simple
  signal_with-finds x l k j h m r a p e f =
      cond-false (is_target m) _ _ (no_target p e)
      ∙ bind_some (bind_some (expr-finds p (omega arith, refl) d (omega (arith, f, nests-Signal x (Some a) l))) closed) (λ a. within stmt_nesting d (st.Signal x (Some a) l))
      ∙ within_fits stmt_nesting d (st.Signal x (Some a) l) r f
