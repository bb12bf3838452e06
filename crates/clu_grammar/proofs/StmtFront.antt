-- The front of a statement that is a call or assigns to a field or an element: what is read is found.
use denote.Hole.Carrier
use Rattle.std.proofs.Common.{◌≡◌, ℕ, zero, suc, ◌+◌, ◌<◌, ◌≤◌, Bool, true, false, List, ◌∷◌, Some, refl, ap, sym, ◌∙◌, arith}
use Rattle.std.proofs.lemmas.Bool.{cond-true}
use Rattle.clu_tree.specs.declared.lexeme.Key.{Key}
use Rattle.clu_tree.specs.declared.lexeme.Key.TheVariants as key
use Rattle.clu_tree.specs.declared.lexeme.Lexeme.TheVariants as lexeme
use Rattle.clu_tree.specs.declared.shape.Shape.{Shape}
use Rattle.clu_tree.specs.declared.value.Value.{Value}
use Rattle.clu_tree.specs.declared.tree.Meant.TheVariants as meant
use Rattle.clu_tree.specs.declared.tree.Expr.{Expr, out-Expr}
use Rattle.clu_tree.specs.declared.tree.Expr.TheVariants as e
use Rattle.clu_tree.specs.declared.tree.Target.TheVariants as t
use Rattle.clu_tree.specs.declared.tree.Stmt.{Stmt}
use Rattle.clu_tree.specs.declared.tree.Stmt.TheVariants as st
use Rattle.clu_grammar.specs.Grammar as g
use Rattle.clu_grammar.specs.Grammar.{Tokens, line_of, type_of, looseness, ReadsShape, ReadsLiteral, ReadsExpr, ReadsPrimary, ReadsCall, ReadsArgs}
use Rattle.clu_grammar.specs.Nesting.{expr_nesting, stmt_nesting}
use Rattle.clu_grammar.specs.ExprPlan.{Found, Parser, ◌>>=◌, within, bracketed, levels, atom}
use Rattle.clu_grammar.specs.StmtPlan as plan
use Rattle.clu_grammar.specs.StmtPlan.{Place, Whole, FieldOf, ItemOf, place_node, is_call, opens}
use Rattle.clu_grammar.proofs.Binds.{bind_some, bind_assoc, within_fits}
use Rattle.clu_grammar.proofs.Nests.{nests-Call, nests-Field, nests-Index, nests-CallOf, nests-Assign, nests_pos}
use Rattle.clu_grammar.proofs.Ending.{loosens}
use Rattle.clu_grammar.proofs.Complete.{levels-finds, args-finds, group-finds, is_leaf, leaf-finds}

-- a field or an element follows
abbrev goes_on : Tokens → Bool
goes_on (lexeme.Key key.Dot _ ∷ _) = true
goes_on (lexeme.Key key.LBracket _ ∷ _) = true
goes_on _ = false

-- no statement that its first tokens tell
abbrev untold : Tokens → Bool
untold (lexeme.Name _ _ ∷ lexeme.Key key.Colon _ ∷ _) = false
untold (lexeme.Name _ _ ∷ lexeme.Key key.Becomes _ ∷ _) = false
untold (lexeme.Key key.Once _ ∷ _) = false
untold (lexeme.Key key.Maybe _ ∷ _) = false
untold (lexeme.Key key.PutLine _ ∷ _) = false
untold (lexeme.Key key.Sleep _ ∷ _) = false
untold (lexeme.Key key.Fork _ ∷ _) = false
untold (lexeme.Key key.Return _ ∷ _) = false
untold (lexeme.Key key.Signal _ ∷ _) = false
untold (lexeme.Key key.If _ ∷ _) = false
untold (lexeme.Key key.While _ ∷ _) = false
untold (lexeme.Key key.For _ ∷ _) = false
untold (lexeme.Key key.Tagcase _ ∷ _) = false
untold (lexeme.Key key.Begin _ ∷ _) = false
untold (lexeme.Key key.Region _ ∷ _) = false
untold _ = true

-- neither a bracket nor a name before one
abbrev lone : Tokens → Bool
lone (lexeme.Name _ _ ∷ lexeme.Key key.LParen _ ∷ _) = false
lone (lexeme.Key key.LParen _ ∷ _) = false
lone _ = true

type-lone : (o : Key) (l : ℕ) (r : Tokens) (t : Shape) → type_of o ≡ Some t → (untold (lexeme.Key o l ∷ r) ≡ true) × (lone (lexeme.Key o l ∷ r) ≡ true)
type-lone key.Null l r t h = (refl, refl)
type-lone key.Bool l r t h = (refl, refl)
type-lone key.Int l r t h = (refl, refl)
type-lone key.Char l r t h = (refl, refl)
type-lone key.String l r t h = (refl, refl)
type-lone key.Lock l r t h = (refl, refl)
type-lone key.Semaphore l r t h = (refl, refl)
type-lone key.Cvt l r t h = (refl, refl)
type-lone key.Rep l r t h = (refl, refl)
type-lone _ l r t h = absurd cc

shape-lone : {ts r : Tokens} {t : Shape} {k : ℕ} → ReadsShape ts (lexeme.Key key.Dollar k ∷ r) t → (untold ts ≡ true) × (lone ts ≡ true)
shape-lone {r = r} {t = t} {k = k} (g.type_word {o = o} {n = l} h) = type-lone o l (lexeme.Key key.Dollar k ∷ r) t h
shape-lone g.type_name = (refl, refl)
shape-lone (g.array_type p) = (refl, refl)
shape-lone (g.record_type p) = (refl, refl)
shape-lone (g.oneof_type p) = (refl, refl)

literal-lone : {ts r : Tokens} {x : Value} → ReadsLiteral ts r x → (untold ts ≡ true) × (lone ts ≡ true)
literal-lone g.nil = (refl, refl)
literal-lone g.yes = (refl, refl)
literal-lone g.no = (refl, refl)
literal-lone g.int = (refl, refl)
literal-lone g.char = (refl, refl)
literal-lone g.string = (refl, refl)

leaf-lone : {ts r : Tokens} {x : Expr} → (p : ReadsPrimary ts r x) → is_leaf p ≡ true → lone ts ≡ true
leaf-lone (g.literal p) h = (literal-lone p).1
leaf-lone g.name h = absurd cc
leaf-lone (g.called (g.call p)) h = absurd cc
leaf-lone (g.called (g.operation p o q)) h = (shape-lone p).1
leaf-lone (g.record_of p q) h = (shape-lone p).1
leaf-lone (g.no_items p) h = (shape-lone p).1
leaf-lone (g.array_of p q) h = (shape-lone p).1
leaf-lone (g.group p) h = absurd cc
leaf-lone (g.up p) h = refl
leaf-lone (g.down p) h = refl
leaf-lone g.now h = refl
leaf-lone (g.field p) h = absurd cc
leaf-lone (g.index p q) h = absurd cc

call-untold : {ts r : Tokens} {x : Expr} → ReadsCall ts r x → untold ts ≡ true
call-untold (g.call p) = refl
call-untold (g.operation p o q) = (shape-lone p).0

lone-unopened : (ts : Tokens) → lone ts ≡ true → opens ts ≡ false
lone-unopened (lexeme.Key key.LParen k ∷ ts) h = absurd cc
lone-unopened _ h = refl

call-unopened : {ts r : Tokens} {x : Expr} → ReadsCall ts r x → opens ts ≡ false
call-unopened (g.call p) = refl
call-unopened {ts = ts} (g.operation p o q) = lone-unopened ts (shape-lone p).1

call-is : {ts r : Tokens} {x : Expr} → ReadsCall ts r x → is_call (out-Expr x) ≡ true
unfolding out-Expr Carrier.out
call-is (g.call p) = refl
call-is (g.operation p o q) = refl

primary-untold : {ts r : Tokens} {x : Expr} → ReadsPrimary ts r x → goes_on r ≡ true → untold ts ≡ true
primary-untold (g.literal p) h = (literal-lone p).0
primary-untold (g.name {r = lexeme.Key key.Dot k ∷ r}) h = refl
primary-untold (g.name {r = lexeme.Key key.LBracket k ∷ r}) h = refl
primary-untold (g.name {r = _}) h = absurd cc
primary-untold (g.called p) h = call-untold p
primary-untold (g.record_of p q) h = (shape-lone p).0
primary-untold (g.no_items p) h = (shape-lone p).0
primary-untold (g.array_of p q) h = (shape-lone p).0
primary-untold (g.group p) h = refl
primary-untold (g.up p) h = refl
primary-untold (g.down p) h = refl
primary-untold g.now h = refl
primary-untold (g.field p) h = primary-untold p refl
primary-untold (g.index p q) h = primary-untold p refl

module _ (bd : Parser (List Stmt)) (d : ℕ) where
  simple-front : (ts : Tokens) → untold ts ≡ true → plan.simple bd d ts ≡ plan.from_front bd d ts
  unfolding plan.simple
  simple-front (lexeme.Name x l ∷ lexeme.Key key.Colon k ∷ m) h = absurd cc
  simple-front (lexeme.Name x l ∷ lexeme.Key key.Becomes k ∷ m) h = absurd cc
  simple-front (lexeme.Key key.Once l ∷ m) h = absurd cc
  simple-front (lexeme.Key key.Maybe l ∷ m) h = absurd cc
  simple-front (lexeme.Key key.PutLine l ∷ m) h = absurd cc
  simple-front (lexeme.Key key.Sleep l ∷ m) h = absurd cc
  simple-front (lexeme.Key key.Fork l ∷ m) h = absurd cc
  simple-front (lexeme.Key key.Return l ∷ m) h = absurd cc
  simple-front (lexeme.Key key.Signal l ∷ m) h = absurd cc
  simple-front (lexeme.Key key.If l ∷ m) h = absurd cc
  simple-front (lexeme.Key key.While l ∷ m) h = absurd cc
  simple-front (lexeme.Key key.For l ∷ m) h = absurd cc
  simple-front (lexeme.Key key.Tagcase l ∷ m) h = absurd cc
  simple-front (lexeme.Key key.Begin l ∷ m) h = absurd cc
  simple-front (lexeme.Key key.Region l ∷ m) h = absurd cc
  simple-front _ h = refl

  front-lone : (ts : Tokens) → lone ts ≡ true → plan.front bd d ts ≡ atom (levels d) d ts
  front-lone (lexeme.Name x l ∷ lexeme.Key key.LParen k ∷ m) h = absurd cc
  front-lone (lexeme.Key key.LParen k ∷ m) h = absurd cc
  front-lone _ h = refl

  front-leaf : {ts r : Tokens} {x : Expr} → (p : ReadsPrimary ts r x) → is_leaf p ≡ true → expr_nesting x ≤ d → plan.front bd d ts ≡ Some (x, r)
  front-leaf {ts = ts} p h f = front-lone ts (leaf-lone p h) ∙ leaf-finds p h d f

  front-named : (x : List ℕ) (l k : ℕ) (m r : Tokens) (xs : List Expr) → ReadsArgs m r xs → expr_nesting (e.Call x xs l meant.Unknown) ≤ d →
      plan.front bd d (lexeme.Name x l ∷ lexeme.Key key.LParen k ∷ m) ≡ Some (e.Call x xs l meant.Unknown, r)
  front-named x l k m r xs p f =
      bind_some (args-finds p d (omega (arith, f, nests-Call x xs l meant.Unknown))) (λ xs. within expr_nesting d (e.Call x xs l meant.Unknown))
      ∙ within_fits expr_nesting d (e.Call x xs l meant.Unknown) r f

  front-call : {ts r : Tokens} {x : Expr} → ReadsCall ts r x → expr_nesting x ≤ d → plan.front bd d ts ≡ Some (x, r)
  front-call {r = r} (g.call {x = x} {l = l} {k = k} {m = m} {xs = xs} p) f = front-named x l k m r xs p f
  front-call (g.operation p o q) f = front-leaf (g.called (g.operation p o q)) refl f

  name-front : (x : List ℕ) (l : ℕ) (r : Tokens) → goes_on r ≡ true → plan.front bd d (lexeme.Name x l ∷ r) ≡ within expr_nesting d (e.Name x l meant.Unknown) r
  unfolding atom
  name-front x l (lexeme.Key key.Dot k ∷ r) h = refl
  name-front x l (lexeme.Key key.LBracket k ∷ r) h = refl
  name-front x l _ h = absurd cc

  -- After x the plan goes on with places, of which so many turns are left; the node of the last isn't made yet.
  abbrev Front : Tokens → Tokens → Expr → Type 0
  Front ts r x =
      (n : ℕ) × (q : Place) × (place_node (line_of ts) q ≡ x) × (d < n + expr_nesting x)
      × ((plan.front bd d ts >>= λ a. plan.places bd d (suc d) (line_of ts) (Whole a)) ≡ plan.places bd d n (line_of ts) q r)

  starts-front : (ts r : Tokens) (x : Expr) → plan.front bd d ts ≡ Some (x, r) → Front ts r x
  starts-front ts r x h = (suc d, Whole x, refl, omega (arith, nests_pos x), bind_some h (λ a. plan.places bd d (suc d) (line_of ts) (Whole a)))

  place-field : (n line k l : ℕ) (q : Place) (a : Expr) (x : List ℕ) (r : Tokens) → place_node line q ≡ a → expr_nesting a ≤ d →
      plan.places bd d (suc n) line q (lexeme.Key key.Dot k ∷ lexeme.Name x l ∷ r) ≡ plan.places bd d n line (FieldOf a x) r
  unfolding plan.places
  place-field n line k l q a x r e f =
      ap (λ z. within expr_nesting d z (lexeme.Name x l ∷ r) >>= plan.field_place >>= plan.places bd d n line) e
      ∙ ap (λ (o : Found Expr). o >>= plan.field_place >>= plan.places bd d n line) (within_fits expr_nesting d a (lexeme.Name x l ∷ r) f)

  place-item : (n line k l : ℕ) (q : Place) (a b : Expr) (m r : Tokens) → place_node line q ≡ a → expr_nesting a ≤ d → levels d 5 m ≡ Some (b, lexeme.Key key.RBracket l ∷ r) →
      plan.places bd d (suc n) line q (lexeme.Key key.LBracket k ∷ m) ≡ plan.places bd d n line (ItemOf a b) r
  unfolding plan.places
  place-item n line k l q a b m r e f h =
      ap (λ z. within expr_nesting d z m >>= (λ a w. levels d 5 w >>= bracketed >>= λ b r. Some (ItemOf a b, r)) >>= plan.places bd d n line) e
      ∙ ap (λ (o : Found Expr). o >>= (λ a w. levels d 5 w >>= bracketed >>= λ b r. Some (ItemOf a b, r)) >>= plan.places bd d n line) (within_fits expr_nesting d a m f)
      ∙ ap (λ (o : Found Expr). o >>= bracketed >>= (λ b r. Some (ItemOf a b, r)) >>= plan.places bd d n line) h

  places-end : (n line : ℕ) (q : Place) (r : Tokens) → goes_on r ≡ false → plan.places bd d (suc n) line q r ≡ Some (q, r)
  unfolding plan.places
  places-end n line q (lexeme.Key key.Dot k ∷ r) h = absurd cc
  places-end n line q (lexeme.Key key.LBracket k ∷ r) h = absurd cc
  places-end n line q _ h = refl

  field-front : (ts r : Tokens) (k l : ℕ) (a : Expr) (x : List ℕ) → expr_nesting a ≤ d → Front ts (lexeme.Key key.Dot k ∷ lexeme.Name x l ∷ r) a → Front ts r (e.Field a x (line_of ts) meant.Unknown)
  field-front ts r k l a x f (zero, q, e, u, h) = absurd (omega arith)
  field-front ts r k l a x f (suc n, q, e, u, h) = (n, FieldOf a x, refl, omega (arith, u, nests-Field a x (line_of ts) meant.Unknown), h ∙ place-field n (line_of ts) k l q a x r e f)

  index-front : (ts m r : Tokens) (k l : ℕ) (a b : Expr) → expr_nesting a ≤ d → levels d 5 m ≡ Some (b, lexeme.Key key.RBracket l ∷ r) → Front ts (lexeme.Key key.LBracket k ∷ m) a →
      Front ts r (e.Index a b (line_of ts) meant.Unknown)
  index-front ts m r k l a b f i (zero, q, e, u, h) = absurd (omega arith)
  index-front ts m r k l a b f i (suc n, q, e, u, h) = (n, ItemOf a b, refl, omega (arith, u, nests-Index a b (line_of ts) meant.Unknown), h ∙ place-item n (line_of ts) k l q a b m r e f i)

  front-finds : {ts r : Tokens} {x : Expr} → ReadsPrimary ts r x → goes_on r ≡ true → expr_nesting x ≤ d → Front ts r x
  front-finds {ts = ts} {r = r} {x = x} (g.literal p) h f = starts-front ts r x (front-leaf (g.literal p) refl f)
  front-finds {ts = ts} {r = r} {x = x} (g.name {x = y} {l = l}) h f = starts-front ts r x (name-front y l r h ∙ within_fits expr_nesting d x r f)
  front-finds {ts = ts} {r = r} {x = x} (g.called p) h f = starts-front ts r x (front-call p f)
  front-finds {ts = ts} {r = r} {x = x} (g.record_of p q) h f = starts-front ts r x (front-leaf (g.record_of p q) refl f)
  front-finds {ts = ts} {r = r} {x = x} (g.no_items p) h f = starts-front ts r x (front-leaf (g.no_items p) refl f)
  front-finds {ts = ts} {r = r} {x = x} (g.array_of p q) h f = starts-front ts r x (front-leaf (g.array_of p q) refl f)
  front-finds {ts = ts} {r = r} {x = x} (g.group p) h f = starts-front ts r x (group-finds p d f)
  front-finds {ts = ts} {r = r} {x = x} (g.up p) h f = starts-front ts r x (front-leaf (g.up p) refl f)
  front-finds {ts = ts} {r = r} {x = x} (g.down p) h f = starts-front ts r x (front-leaf (g.down p) refl f)
  front-finds {ts = ts} {r = r} {x = x} g.now h f = starts-front ts r x (front-leaf g.now refl f)
  front-finds {ts = ts} {r = r} (g.field {x = y} {k = k} {l = l} {a = a} p) h f =
      let s = nests-Field a y (line_of ts) meant.Unknown in
      field-front ts r k l a y (omega (arith, f, s)) (front-finds p refl (omega (arith, f, s)))
  front-finds {ts = ts} {r = r} (g.index {k = k} {l = l} {m = m} {a = a} {b = b} p q) h f =
      let s = nests-Index a b (line_of ts) meant.Unknown in
      index-front ts m r k l a b (omega (arith, f, s)) (levels-finds q (omega arith) (omega arith, refl) d (omega (arith, f, s))) (front-finds p refl (omega (arith, f, s)))

  -- ---- the statements

  from-places : (ts m : Tokens) (q : Place) (o : Found Stmt) → (plan.front bd d ts >>= λ a. plan.places bd d (suc d) (line_of ts) (Whole a)) ≡ Some (q, m) →
      plan.front_stmt bd d (opens ts) (line_of ts) q m ≡ o → plan.from_front bd d ts ≡ o
  from-places ts m q o h e =
      sym (bind_assoc (plan.front bd d ts) (λ a. plan.places bd d (suc d) (line_of ts) (Whole a)) (plan.front_stmt bd d (opens ts) (line_of ts)))
      ∙ bind_some h (plan.front_stmt bd d (opens ts) (line_of ts)) ∙ e

  pub assigns-field : (ts m r : Tokens) (k l j : ℕ) (a b : Expr) (x : List ℕ) → ReadsPrimary ts (lexeme.Key key.Dot k ∷ lexeme.Name x l ∷ lexeme.Key key.Becomes j ∷ m) a → levels d 5 m ≡ Some (b, r) →
      stmt_nesting (st.Assign (t.Field a x (line_of ts) meant.Unknown) b (line_of ts)) ≤ d → plan.simple bd d ts ≡ Some (st.Assign (t.Field a x (line_of ts) meant.Unknown) b (line_of ts), r)
  assigns-field ts m r k l j a b x p i f =
      let s = nests-Assign (t.Field a x (line_of ts) meant.Unknown) b (line_of ts) in
      simple-front ts (primary-untold p refl) ∙ go (omega (arith, s, f)) (front-finds p refl (omega (arith, s, f)))
    where
      made : (c : Bool) → plan.front_stmt bd d c (line_of ts) (FieldOf a x) (lexeme.Key key.Becomes j ∷ m) ≡ Some (st.Assign (t.Field a x (line_of ts) meant.Unknown) b (line_of ts), r)
      made c = bind_some i (λ b. within stmt_nesting d (st.Assign (t.Field a x (line_of ts) meant.Unknown) b (line_of ts))) ∙ within_fits stmt_nesting d (st.Assign (t.Field a x (line_of ts) meant.Unknown) b (line_of ts)) r f

      go : expr_nesting a < d → Front ts (lexeme.Key key.Dot k ∷ lexeme.Name x l ∷ lexeme.Key key.Becomes j ∷ m) a →
          plan.from_front bd d ts ≡ Some (st.Assign (t.Field a x (line_of ts) meant.Unknown) b (line_of ts), r)
      go n (zero, q, e, u, h) = absurd (omega arith)
      go n (suc zero, q, e, u, h) = absurd (omega arith)
      go n (suc (suc c), q, e, u, h) =
          from-places ts (lexeme.Key key.Becomes j ∷ m) (FieldOf a x) _
          (h ∙ place-field (suc c) (line_of ts) k l q a x (lexeme.Key key.Becomes j ∷ m) e (omega (arith, n)) ∙ places-end c (line_of ts) (FieldOf a x) (lexeme.Key key.Becomes j ∷ m) refl)
          (made (opens ts))

  pub assigns-item : (ts w m r : Tokens) (k l j : ℕ) (a c b : Expr) → ReadsPrimary ts (lexeme.Key key.LBracket k ∷ w) a → ReadsExpr 5 w (lexeme.Key key.RBracket l ∷ lexeme.Key key.Becomes j ∷ m) c →
      levels d 5 m ≡ Some (b, r) → stmt_nesting (st.Assign (t.Index a c (line_of ts) meant.Unknown) b (line_of ts)) ≤ d →
      plan.simple bd d ts ≡ Some (st.Assign (t.Index a c (line_of ts) meant.Unknown) b (line_of ts), r)
  assigns-item ts w m r k l j a c b p v i f =
      let s = nests-Assign (t.Index a c (line_of ts) meant.Unknown) b (line_of ts) in
      simple-front ts (primary-untold p refl) ∙ go (omega (arith, s, f)) (levels-finds v (omega arith) (omega arith, refl) d (omega (arith, s, f))) (front-finds p refl (omega (arith, s, f)))
    where
      made : (g : Bool) → plan.front_stmt bd d g (line_of ts) (ItemOf a c) (lexeme.Key key.Becomes j ∷ m) ≡ Some (st.Assign (t.Index a c (line_of ts) meant.Unknown) b (line_of ts), r)
      made g = bind_some i (λ b. within stmt_nesting d (st.Assign (t.Index a c (line_of ts) meant.Unknown) b (line_of ts))) ∙ within_fits stmt_nesting d (st.Assign (t.Index a c (line_of ts) meant.Unknown) b (line_of ts)) r f

      go : expr_nesting a < d → levels d 5 w ≡ Some (c, lexeme.Key key.RBracket l ∷ lexeme.Key key.Becomes j ∷ m) → Front ts (lexeme.Key key.LBracket k ∷ w) a →
          plan.from_front bd d ts ≡ Some (st.Assign (t.Index a c (line_of ts) meant.Unknown) b (line_of ts), r)
      go n z (zero, q, e, u, h) = absurd (omega arith)
      go n z (suc zero, q, e, u, h) = absurd (omega arith)
      go n z (suc (suc o), q, e, u, h) =
          from-places ts (lexeme.Key key.Becomes j ∷ m) (ItemOf a c) _
          (h ∙ place-item (suc o) (line_of ts) k l q a c w (lexeme.Key key.Becomes j ∷ m) e (omega (arith, n)) z ∙ places-end o (line_of ts) (ItemOf a c) (lexeme.Key key.Becomes j ∷ m) refl)
          (made (opens ts))

  unopened : (r : Tokens) → 0 < loosens r → goes_on r ≡ false
  unopened (lexeme.Key key.Dot k ∷ r) h = absurd (omega arith)
  unopened (lexeme.Key key.LBracket k ∷ r) h = absurd (omega arith)
  unopened _ h = refl

  pub call-finds : {ts r : Tokens} {x : Expr} → ReadsCall ts r x → 0 < loosens r → stmt_nesting (st.Call x (line_of ts)) ≤ d → plan.simple bd d ts ≡ Some (st.Call x (line_of ts), r)
  call-finds {ts = ts} {r = r} {x = x} p l f =
      simple-front ts (call-untold p)
      ∙ from-places ts r (Whole x) _ (bind_some (front-call p (omega (arith, f, nests-CallOf x (line_of ts)))) (λ a. plan.places bd d (suc d) (line_of ts) (Whole a)) ∙ places-end d (line_of ts) (Whole x) r (unopened r l))
      (ap (λ c. plan.front_stmt bd d c (line_of ts) (Whole x) r) (call-unopened p) ∙ cond-true (is_call (out-Expr x)) _ _ (call-is p) ∙ within_fits stmt_nesting d (st.Call x (line_of ts)) r f)
