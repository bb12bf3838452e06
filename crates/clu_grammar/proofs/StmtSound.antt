-- What the plan of statements finds is read so.
use denote.Hole.Carrier
use Rattle.std.proofs.Common.{◌≡◌, ℕ, zero, suc, ◌≤◌, Bool, true, false, List, [], ◌∷◌, length, map, Option, Some, None, refl, subst, sym, arith, inl, inr, codes}
use Rattle.std.specs.Prelude.{◌⊎◌, bytes_eq}
use Rattle.std.proofs.lemmas.Slice.Eq.{bytes_eq-Decides}
use Rattle.clu_tree.specs.declared.lexeme.Key.TheVariants as key
use Rattle.clu_tree.specs.declared.lexeme.Lexeme.TheVariants as lexeme
use Rattle.clu_tree.specs.declared.shape.Shape.{Shape}
use Rattle.clu_tree.specs.declared.shape.Named.{Named}
use Rattle.clu_tree.specs.declared.tree.Meant.TheVariants as meant
use Rattle.clu_tree.specs.declared.tree.Expr.{Expr, out-Expr}
use Rattle.clu_tree.specs.declared.tree.Expr.TheVariants as e
use Rattle.clu_tree.specs.declared.tree.Target.TheVariants as t
use Rattle.clu_tree.specs.declared.tree.Remote.{Remote}
use Rattle.clu_tree.specs.declared.tree.Remote.TheVariants as c
use Rattle.clu_tree.specs.declared.tree.Iter.{Iter}
use Rattle.clu_tree.specs.declared.tree.Iter.TheVariants as i
use Rattle.clu_tree.specs.declared.tree.Stmt.{Stmt}
use Rattle.clu_tree.specs.declared.tree.Stmt.TheVariants as st
use Rattle.clu_tree.specs.declared.tree.Arm.{Arm, roll-Arm}
use Rattle.clu_tree.specs.declared.tree.TagArm.{TagArm, roll-TagArm}
use Rattle.clu_tree.specs.declared.tree.When.{When, roll-When}
use Rattle.clu_tree.specs.declared.tree.Handlers.{Handlers, roll-Handlers}
use Rattle.clu_grammar.specs.Grammar as g
use Rattle.clu_grammar.specs.Grammar.{Tokens, line_of, field_of, ReadsShape, ReadsExpr, ReadsPrimary, ReadsCall, ReadsArgs, ReadsNames, ReadsVariable, ReadsRemote, ReadsIter, ReadsBody, ReadsStmt, ReadsSimple, ReadsArms, ReadsElse, ReadsTags, ReadsOthers, ReadsWhens, ReadsHandlers}
use Rattle.clu_grammar.specs.Nesting.{expr_nesting, stmt_nesting, deepest}
use Rattle.clu_grammar.specs.Ahead.{is_target}
use Rattle.clu_grammar.specs.ExprPlan as expr_plan
use Rattle.clu_grammar.specs.ExprPlan.{Found, Parser, ◌>>=◌, within, closed, bracketed, dollar, shape, levels, group, atom}
use Rattle.clu_grammar.specs.StmtPlan as plan
use Rattle.clu_grammar.specs.StmtPlan.{comma, colon, at_key, within_key, then_key, do_key, in_key, end_key, Place, Whole, FieldOf, ItemOf, place_node, is_call, opens, begins_remote, ends_body}
use Rattle.clu_grammar.proofs.Binds.{bind_ok, chosen, same_found, within_ok, passes, kept, closed_ok, bracketed_ok, dollar_ok}
use Rattle.clu_grammar.proofs.StmtKeys.{comma_ok, colon_ok, at_ok, within_key_ok, then_ok, do_ok, in_ok, end_ok}
use Rattle.clu_grammar.proofs.Shapes.{shape-sound}
use Rattle.clu_grammar.proofs.Sound.{levels-sound, args-sound, atom-sound, group-sound}

pub names-sound : (n : ℕ) (ts : Tokens) (y : List (List ℕ) × Tokens) → plan.names n ts ≡ Some y → ReadsNames ts y.1 y.0
unfolding plan.names
names-sound zero ts y h = absurd cc
names-sound (suc n) (lexeme.Name x l ∷ lexeme.Key key.Comma k ∷ m) y h =
    let b = bind_ok (plan.names n m) _ h in
    same_found (λ xs q. ReadsNames (lexeme.Name x l ∷ lexeme.Key key.Comma k ∷ m) q xs) (x ∷ b.0.0) b.0.1 y b.2 (g.name_and (names-sound n m b.0 b.1))
names-sound (suc n) (lexeme.Name x l ∷ r) y h = same_found (λ xs q. ReadsNames (lexeme.Name x l ∷ r) q xs) (x ∷ []) r y h g.last_name
names-sound (suc n) _ y h = absurd cc

module _ (d : ℕ) where
  -- an expression and the key behind it
  expr_closed : (m : Tokens) (y : Expr × Tokens) → (levels d 5 m >>= closed) ≡ Some y → (n : ℕ) × ReadsExpr 5 m (lexeme.Key key.RParen n ∷ y.1) y.0
  expr_closed m y h = let c = closed_ok (levels d 5 m) y h in (c.0, (levels-sound d 5 m (y.0, lexeme.Key key.RParen c.0 ∷ y.1) c.1).0)

  expr_bracketed : (m : Tokens) (y : Expr × Tokens) → (levels d 5 m >>= bracketed) ≡ Some y → (n : ℕ) × ReadsExpr 5 m (lexeme.Key key.RBracket n ∷ y.1) y.0
  expr_bracketed m y h = let c = bracketed_ok (levels d 5 m) y h in (c.0, (levels-sound d 5 m (y.0, lexeme.Key key.RBracket c.0 ∷ y.1) c.1).0)

  expr_then : (m : Tokens) (y : Expr × Tokens) → (levels d 5 m >>= then_key) ≡ Some y → (n : ℕ) × ReadsExpr 5 m (lexeme.Key key.Then n ∷ y.1) y.0
  expr_then m y h = let c = then_ok (levels d 5 m) y h in (c.0, (levels-sound d 5 m (y.0, lexeme.Key key.Then c.0 ∷ y.1) c.1).0)

  expr_do : (m : Tokens) (y : Expr × Tokens) → (levels d 5 m >>= do_key) ≡ Some y → (n : ℕ) × ReadsExpr 5 m (lexeme.Key key.Do n ∷ y.1) y.0
  expr_do m y h = let c = do_ok (levels d 5 m) y h in (c.0, (levels-sound d 5 m (y.0, lexeme.Key key.Do c.0 ∷ y.1) c.1).0)

  expr_comma : (m : Tokens) (y : Expr × Tokens) → (levels d 5 m >>= comma) ≡ Some y → (n : ℕ) × ReadsExpr 5 m (lexeme.Key key.Comma n ∷ y.1) y.0
  expr_comma m y h = let c = comma_ok (levels d 5 m) y h in (c.0, (levels-sound d 5 m (y.0, lexeme.Key key.Comma c.0 ∷ y.1) c.1).0)

  expr_within_key : (m : Tokens) (y : Expr × Tokens) → (levels d 5 m >>= within_key) ≡ Some y → (n : ℕ) × ReadsExpr 5 m (lexeme.Key key.Within n ∷ y.1) y.0
  expr_within_key m y h = let c = within_key_ok (levels d 5 m) y h in (c.0, (levels-sound d 5 m (y.0, lexeme.Key key.Within c.0 ∷ y.1) c.1).0)

  args_at : (m : Tokens) (y : List Expr × Tokens) → (expr_plan.args (levels d) d m >>= at_key) ≡ Some y → (n : ℕ) × ReadsArgs m (lexeme.Key key.At n ∷ y.1) y.0
  args_at m y h = let c = at_ok (expr_plan.args (levels d) d m) y h in (c.0, (args-sound d m (y.0, lexeme.Key key.At c.0 ∷ y.1) c.1).0)

  shape_closed : (m : Tokens) (y : Shape × Tokens) → (shape d m >>= closed) ≡ Some y → (n : ℕ) × ReadsShape m (lexeme.Key key.RParen n ∷ y.1) y.0
  shape_closed m y h = let c = closed_ok (shape d m) y h in (c.0, (shape-sound d m (y.0, lexeme.Key key.RParen c.0 ∷ y.1) c.1).0)

  shape_in : (m : Tokens) (y : Shape × Tokens) → (shape d m >>= in_key) ≡ Some y → (n : ℕ) × ReadsShape m (lexeme.Key key.In n ∷ y.1) y.0
  shape_in m y h = let c = in_ok (shape d m) y h in (c.0, (shape-sound d m (y.0, lexeme.Key key.In c.0 ∷ y.1) c.1).0)

  shape_dollar : (m : Tokens) (y : Shape × Tokens) → (shape d m >>= dollar) ≡ Some y → (n : ℕ) × ReadsShape m (lexeme.Key key.Dollar n ∷ y.1) y.0
  shape_dollar m y h = let c = dollar_ok (shape d m) y h in (c.0, (shape-sound d m (y.0, lexeme.Key key.Dollar c.0 ∷ y.1) c.1).0)

module _ (bd : Parser (List Stmt)) (d : ℕ) where
  variable-sound : (ts : Tokens) (y : Option Named × Tokens) → plan.variable bd d ts ≡ Some y → ReadsVariable ts y.1 y.0
  variable-sound (lexeme.Key key.LParen l ∷ lexeme.Name x k ∷ lexeme.Key key.Colon j ∷ m) y h =
      let b = bind_ok (shape d m >>= closed) _ h in
      let s = shape_closed d m b.0 b.1 in
      same_found (λ o q. ReadsVariable (lexeme.Key key.LParen l ∷ lexeme.Name x k ∷ lexeme.Key key.Colon j ∷ m) q o) (Some (field_of x b.0.0)) b.0.1 y b.2 (g.variable s.1)
  variable-sound ts y h = same_found (λ o q. ReadsVariable ts q o) None ts y h g.no_variable

  remote-sound : (ts : Tokens) (y : Remote × Tokens) → plan.remote bd d ts ≡ Some y → ReadsRemote ts y.1 y.0
  remote-sound (lexeme.Key key.Once l ∷ lexeme.Name x k ∷ lexeme.Key key.LParen j ∷ m) y h =
      let b = bind_ok (expr_plan.args (levels d) d m >>= at_key) _ h in
      let s = args_at d m b.0 b.1 in
      let a = bind_ok (levels d 5 b.0.1) _ b.2 in
      same_found (λ z q. ReadsRemote (lexeme.Key key.Once l ∷ lexeme.Name x k ∷ lexeme.Key key.LParen j ∷ m) q z) (c.Once x b.0.0 a.0.0 l meant.Unknown) a.0.1 y a.2
      (g.once s.1 (levels-sound d 5 b.0.1 a.0 a.1).0)
  remote-sound (lexeme.Key key.Maybe l ∷ lexeme.Name x k ∷ lexeme.Key key.LParen j ∷ m) y h =
      let b = bind_ok (expr_plan.args (levels d) d m >>= at_key) _ h in
      let s = args_at d m b.0 b.1 in
      let a = bind_ok (levels d 5 b.0.1 >>= within_key) _ b.2 in
      let u = expr_within_key d b.0.1 a.0 a.1 in
      let w = bind_ok (levels d 5 a.0.1) _ a.2 in
      same_found (λ z q. ReadsRemote (lexeme.Key key.Maybe l ∷ lexeme.Name x k ∷ lexeme.Key key.LParen j ∷ m) q z) (c.Maybe x b.0.0 a.0.0 w.0.0 l meant.Unknown) w.0.1 y w.2
      (g.maybe s.1 u.1 (levels-sound d 5 a.0.1 w.0 w.1).0)
  remote-sound _ y h = absurd cc

  then_elements : (o : Found Shape) (y : Shape × Tokens) → (o >>= plan.elements_key bd d) ≡ Some y →
      (x : List ℕ) × (l : ℕ) × (k : ℕ) × (x ≡ codes "elements") × (o ≡ Some (y.0, lexeme.Name x l ∷ lexeme.Key key.LParen k ∷ y.1))
  then_elements (Some (t, lexeme.Name x l ∷ lexeme.Key key.LParen k ∷ r)) y h = go (chosen (bytes_eq x (codes "elements")) _ _ h)
    where
      go : ((bytes_eq x (codes "elements") ≡ true) × (◌≡◌ {A = Option (Shape × Tokens)} (Some (t, r)) (Some y))) ⊎ ((bytes_eq x (codes "elements") ≡ false) × (◌≡◌ {A = Option (Shape × Tokens)} None (Some y))) →
          (z : List ℕ) × (i : ℕ) × (j : ℕ) × (z ≡ codes "elements") × (◌≡◌ {A = Option (Shape × Tokens)} (Some (t, lexeme.Name x l ∷ lexeme.Key key.LParen k ∷ r)) (Some (y.0, lexeme.Name z i ∷ lexeme.Key key.LParen j ∷ y.1)))
      go (inl q) =
          (x, l, k, (bytes_eq-Decides x (codes "elements")).0 q.0, same_found (λ (z : Shape) (w : Tokens). ◌≡◌ {A = Option (Shape × Tokens)} (Some (t, lexeme.Name x l ∷ lexeme.Key key.LParen k ∷ r)) (Some (z, lexeme.Name x l ∷ lexeme.Key key.LParen k ∷ w))) t r y q.1 refl)
      go (inr q) = absurd cc
  then_elements _ y h = absurd cc

  elements-sound : (ts : Tokens) (y : Iter × Tokens) → plan.elements bd d ts ≡ Some y → ReadsIter ts y.1 y.0
  elements-sound ts y h =
      let b = bind_ok (shape d ts >>= dollar >>= plan.elements_key bd d) _ h in
      let w = then_elements (shape d ts >>= dollar) b.0 b.1 in
      let s = shape_dollar d ts (b.0.0, lexeme.Name w.0 w.1 ∷ lexeme.Key key.LParen w.2 ∷ b.0.1) w.4 in
      let a = bind_ok (levels d 5 b.0.1 >>= closed) _ b.2 in
      same_found (λ z q. ReadsIter ts q z) (i.Elements b.0.0 a.0.0 (line_of ts)) a.0.1 y a.2 (g.elements w.3 s.1 (expr_closed d b.0.1 a.0 a.1).1)

  range-sound : (l k j h : ℕ) (x : List ℕ) (m : Tokens) (y : Iter × Tokens) → x ≡ codes "from_to" → plan.range bd d l m ≡ Some y →
      ReadsIter (lexeme.Key key.Int l ∷ lexeme.Key key.Dollar k ∷ lexeme.Name x j ∷ lexeme.Key key.LParen h ∷ m) y.1 y.0
  range-sound l k j h x m y f e =
      let b = bind_ok (levels d 5 m >>= comma) _ e in
      let a = bind_ok (levels d 5 b.0.1 >>= closed) _ b.2 in
      same_found (λ z q. ReadsIter (lexeme.Key key.Int l ∷ lexeme.Key key.Dollar k ∷ lexeme.Name x j ∷ lexeme.Key key.LParen h ∷ m) q z) (i.FromTo b.0.0 a.0.0 l) a.0.1 y a.2
      (g.from_to f (expr_comma d m b.0 b.1).1 (expr_closed d b.0.1 a.0 a.1).1)

  iter-sound : (ts : Tokens) (y : Iter × Tokens) → plan.iter bd d ts ≡ Some y → ReadsIter ts y.1 y.0
  iter-sound (lexeme.Key key.Int l ∷ lexeme.Key key.Dollar k ∷ lexeme.Name x j ∷ lexeme.Key key.LParen h ∷ m) y e = go (chosen (bytes_eq x (codes "from_to")) _ _ e)
    where
      go : ((bytes_eq x (codes "from_to") ≡ true) × (plan.range bd d l m ≡ Some y)) ⊎ ((bytes_eq x (codes "from_to") ≡ false) × (plan.elements bd d (lexeme.Key key.Int l ∷ lexeme.Key key.Dollar k ∷ lexeme.Name x j ∷ lexeme.Key key.LParen h ∷ m) ≡ Some y)) →
          ReadsIter (lexeme.Key key.Int l ∷ lexeme.Key key.Dollar k ∷ lexeme.Name x j ∷ lexeme.Key key.LParen h ∷ m) y.1 y.0
      go (inl q) = range-sound l k j h x m y ((bytes_eq-Decides x (codes "from_to")).0 q.0) q.1
      go (inr q) = elements-sound (lexeme.Key key.Int l ∷ lexeme.Key key.Dollar k ∷ lexeme.Name x j ∷ lexeme.Key key.LParen h ∷ m) y q.1
  iter-sound ts y e = elements-sound ts y e

-- ---- the front of a statement

-- A call that stands in no brackets is one.
call-sound : {ts r : Tokens} {x : Expr} → ReadsPrimary ts r x → opens ts ≡ false → is_call (out-Expr x) ≡ true → ReadsCall ts r x
unfolding out-Expr Carrier.out
call-sound (g.literal p) o h = absurd cc
call-sound g.name o h = absurd cc
call-sound (g.called p) o h = p
call-sound (g.record_of p q) o h = absurd cc
call-sound (g.no_items p) o h = absurd cc
call-sound (g.array_of p q) o h = absurd cc
call-sound (g.group p) o h = absurd cc
call-sound (g.up p) o h = absurd cc
call-sound (g.down p) o h = absurd cc
call-sound g.now o h = absurd cc
call-sound (g.field p) o h = absurd cc
call-sound (g.index p q) o h = absurd cc

-- what was read up to a place
abbrev PlaceReads : Tokens → Tokens → Place → Type 0
PlaceReads ts m (Whole a) = ReadsPrimary ts m a
PlaceReads ts m (FieldOf a x) = (k : ℕ) × (l : ℕ) × ReadsPrimary ts (lexeme.Key key.Dot k ∷ lexeme.Name x l ∷ m) a
PlaceReads ts m (ItemOf a b) = (k : ℕ) × (l : ℕ) × (q : Tokens) × ReadsPrimary ts (lexeme.Key key.LBracket k ∷ q) a × ReadsExpr 5 q (lexeme.Key key.RBracket l ∷ m) b

node-reads : {ts m : Tokens} (x : Place) → PlaceReads ts m x → ReadsPrimary ts m (place_node (line_of ts) x)
node-reads (Whole a) p = p
node-reads (FieldOf a x) p = g.field p.2
node-reads (ItemOf a b) p = g.index p.3 p.4

field-reads : (ts : Tokens) (k : ℕ) (a : Expr) (m : Tokens) (y : Place × Tokens) → ReadsPrimary ts (lexeme.Key key.Dot k ∷ m) a → plan.field_place a m ≡ Some y → PlaceReads ts y.1 y.0
field-reads ts k a (lexeme.Name x l ∷ r) y p h = same_found (λ z q. PlaceReads ts q z) (FieldOf a x) r y h (k, l, p)
field-reads ts k a _ y p h = absurd cc

module _ (bd : Parser (List Stmt)) (d : ℕ) where
  front-sound : (ts : Tokens) (y : Expr × Tokens) → plan.front bd d ts ≡ Some y → ReadsPrimary ts y.1 y.0
  front-sound (lexeme.Name x l ∷ lexeme.Key key.LParen k ∷ m) y h =
      let b = bind_ok (expr_plan.args (levels d) d m) _ h in
      (passes expr_nesting (λ z q. ReadsPrimary (lexeme.Name x l ∷ lexeme.Key key.LParen k ∷ m) q z) d (e.Call x b.0.0 l meant.Unknown) b.0.1 y b.2 (g.called (g.call (args-sound d m b.0 b.1).0))).0
  front-sound (lexeme.Key key.LParen k ∷ m) y h = (group-sound d k m y h).0
  front-sound ts y h = (atom-sound d ts y h).0

  item-reads : (ts : Tokens) (k : ℕ) (a : Expr) (m : Tokens) (y : Place × Tokens) → ReadsPrimary ts (lexeme.Key key.LBracket k ∷ m) a →
      (levels d 5 m >>= bracketed >>= λ b r. Some (ItemOf a b, r)) ≡ Some y → PlaceReads ts y.1 y.0
  item-reads ts k a m y p h =
      let b = bind_ok (levels d 5 m >>= bracketed) _ h in
      let s = expr_bracketed d m b.0 b.1 in
      same_found (λ z q. PlaceReads ts q z) (ItemOf a b.0.0) b.0.1 y b.2 (k, s.0, m, p, s.1)

  places-sound : (n : ℕ) (ts : Tokens) (x : Place) (m : Tokens) (y : Place × Tokens) → PlaceReads ts m x → plan.places bd d n (line_of ts) x m ≡ Some y → PlaceReads ts y.1 y.0
  unfolding plan.places
  places-sound zero ts x m y p h = absurd cc
  places-sound (suc n) ts x (lexeme.Key key.Dot k ∷ m) y p h =
      let b = bind_ok (within expr_nesting d (place_node (line_of ts) x) m >>= plan.field_place) _ h in
      let w = bind_ok (within expr_nesting d (place_node (line_of ts) x) m) plan.field_place b.1 in
      let e = within_ok expr_nesting w.0 d (place_node (line_of ts) x) m w.1 in
      let f = subst (λ (z : Expr × Tokens). plan.field_place z.0 z.1 ≡ Some b.0) (sym e.1) w.2 in
      places-sound n ts b.0.0 b.0.1 y (field-reads ts k (place_node (line_of ts) x) m b.0 (node-reads x p) f) b.2
  places-sound (suc n) ts x (lexeme.Key key.LBracket k ∷ m) y p h =
      let b = bind_ok (within expr_nesting d (place_node (line_of ts) x) m >>= λ a q. levels d 5 q >>= bracketed >>= λ b r. Some (ItemOf a b, r)) _ h in
      let w = bind_ok (within expr_nesting d (place_node (line_of ts) x) m) _ b.1 in
      let e = within_ok expr_nesting w.0 d (place_node (line_of ts) x) m w.1 in
      let f = subst (λ (z : Expr × Tokens). (levels d 5 z.1 >>= bracketed >>= λ b r. Some (ItemOf z.0 b, r)) ≡ Some b.0) (sym e.1) w.2 in
      places-sound n ts b.0.0 b.0.1 y (item-reads ts k (place_node (line_of ts) x) m b.0 (node-reads x p) f) b.2
  places-sound (suc n) ts x m y p h = same_found (λ z q. PlaceReads ts q z) x m y h p

  front_stmt-sound : (ts : Tokens) (grouped : Bool) (x : Place) (m : Tokens) (y : Stmt × Tokens) → opens ts ≡ grouped → PlaceReads ts m x → plan.front_stmt bd d grouped (line_of ts) x m ≡ Some y →
      ReadsSimple ts y.1 y.0 × (stmt_nesting y.0 ≤ d)
  front_stmt-sound ts grouped (FieldOf a x) (lexeme.Key key.Becomes k ∷ m) y o p h =
      let b = bind_ok (levels d 5 m) _ h in
      passes stmt_nesting (λ z q. ReadsSimple ts q z) d (st.Assign (t.Field a x (line_of ts) meant.Unknown) b.0.0 (line_of ts)) b.0.1 y b.2 (g.assign (g.to_field p.2) (levels-sound d 5 m b.0 b.1).0)
  front_stmt-sound ts grouped (ItemOf a c) (lexeme.Key key.Becomes k ∷ m) y o p h =
      let b = bind_ok (levels d 5 m) _ h in
      passes stmt_nesting (λ z q. ReadsSimple ts q z) d (st.Assign (t.Index a c (line_of ts) meant.Unknown) b.0.0 (line_of ts)) b.0.1 y b.2 (g.assign (g.to_item p.3 p.4) (levels-sound d 5 m b.0 b.1).0)
  front_stmt-sound ts false (Whole a) m y o p h = go (chosen (is_call (out-Expr a)) _ _ h)
    where
      go : ((is_call (out-Expr a) ≡ true) × (within stmt_nesting d (st.Call a (line_of ts)) m ≡ Some y)) ⊎ ((is_call (out-Expr a) ≡ false) × (◌≡◌ {A = Option (Stmt × Tokens)} None (Some y))) → ReadsSimple ts y.1 y.0 × (stmt_nesting y.0 ≤ d)
      go (inl q) = passes stmt_nesting (λ z q. ReadsSimple ts q z) d (st.Call a (line_of ts)) m y q.1 (g.call_of (call-sound p o q.0))
      go (inr q) = absurd cc
  front_stmt-sound ts grouped x m y o p h = absurd cc

  from_front-sound : (ts : Tokens) (y : Stmt × Tokens) → plan.from_front bd d ts ≡ Some y → ReadsSimple ts y.1 y.0 × (stmt_nesting y.0 ≤ d)
  from_front-sound ts y h =
      let a = bind_ok (plan.front bd d ts) _ h in
      let b = bind_ok (plan.places bd d (suc d) (line_of ts) (Whole a.0.0) a.0.1) _ a.2 in
      front_stmt-sound ts (opens ts) b.0.0 b.0.1 y refl (places-sound (suc d) ts (Whole a.0.0) a.0.1 b.0 (front-sound ts a.0 a.1) b.1) b.2

  declared-sound : (x : List ℕ) (l k : ℕ) (m q : Tokens) (s : Shape) (y : Stmt × Tokens) → ReadsShape m q s → plan.declared bd d x l s q ≡ Some y →
      ReadsSimple (lexeme.Name x l ∷ lexeme.Key key.Colon k ∷ m) y.1 y.0 × (stmt_nesting y.0 ≤ d)
  declared-sound x l k m (lexeme.Key key.Becomes j ∷ q) s y p h =
      let b = bind_ok (levels d 5 q) _ h in
      passes stmt_nesting (λ z r. ReadsSimple (lexeme.Name x l ∷ lexeme.Key key.Colon k ∷ m) r z) d (st.Declare x s (Some b.0.0) l) b.0.1 y b.2 (g.declare_as p (levels-sound d 5 q b.0 b.1).0)
  declared-sound x l k m q s y p h = passes stmt_nesting (λ z r. ReadsSimple (lexeme.Name x l ∷ lexeme.Key key.Colon k ∷ m) r z) d (st.Declare x s None l) q y h (g.declare p)

  assigned-sound : (x : List ℕ) (l k : ℕ) (m : Tokens) (y : Stmt × Tokens) → plan.assigned bd d x l m ≡ Some y → ReadsSimple (lexeme.Name x l ∷ lexeme.Key key.Becomes k ∷ m) y.1 y.0 × (stmt_nesting y.0 ≤ d)
  assigned-sound x l k m y h = go (chosen (begins_remote m) _ _ h)
    where
      go : ((begins_remote m ≡ true) × ((plan.remote bd d m >>= λ z. within stmt_nesting d (st.Remote (Some x) z l meant.Unknown)) ≡ Some y))
          ⊎ ((begins_remote m ≡ false) × ((levels d 5 m >>= λ a. within stmt_nesting d (st.Assign (t.Name x l meant.Unknown) a l)) ≡ Some y)) →
          ReadsSimple (lexeme.Name x l ∷ lexeme.Key key.Becomes k ∷ m) y.1 y.0 × (stmt_nesting y.0 ≤ d)
      go (inl q) =
          let b = bind_ok (plan.remote bd d m) _ q.1 in
          passes stmt_nesting (λ z r. ReadsSimple (lexeme.Name x l ∷ lexeme.Key key.Becomes k ∷ m) r z) d (st.Remote (Some x) b.0.0 l meant.Unknown) b.0.1 y b.2 (g.remote_to (remote-sound bd d m b.0 b.1))
      go (inr q) =
          let b = bind_ok (levels d 5 m) _ q.1 in
          passes stmt_nesting (λ z r. ReadsSimple (lexeme.Name x l ∷ lexeme.Key key.Becomes k ∷ m) r z) d (st.Assign (t.Name x l meant.Unknown) b.0.0 l) b.0.1 y b.2 (g.assign g.to_name (levels-sound d 5 m b.0 b.1).0)

-- ---- statements over bodies

abbrev Bodies : Parser (List Stmt) → Type 0
Bodies bd = (ts : Tokens) (y : List Stmt × Tokens) → bd ts ≡ Some y → ReadsBody ts y.1 y.0

module _ (bd : Parser (List Stmt)) (d : ℕ) (sound : Bodies bd) where
  body_ended : (m : Tokens) (y : List Stmt × Tokens) → (bd m >>= end_key) ≡ Some y → (n : ℕ) × ReadsBody m (lexeme.Key key.End n ∷ y.1) y.0
  body_ended m y h = let c = end_ok (bd m) y h in (c.0, sound m (y.0, lexeme.Key key.End c.0 ∷ y.1) c.1)

  variable_colon : (m : Tokens) (y : Option Named × Tokens) → (plan.variable bd d m >>= colon) ≡ Some y → (n : ℕ) × ReadsVariable m (lexeme.Key key.Colon n ∷ y.1) y.0
  variable_colon m y h = let c = colon_ok (plan.variable bd d m) y h in (c.0, variable-sound bd d m (y.0, lexeme.Key key.Colon c.0 ∷ y.1) c.1)

  arms-sound : (n : ℕ) (ts : Tokens) (y : List Arm × Tokens) → plan.arms bd d n ts ≡ Some y → ReadsArms ts y.1 y.0
  unfolding plan.arms
  arms-sound zero ts y h = absurd cc
  arms-sound (suc n) (lexeme.Key key.Elseif l ∷ m) y h =
      let a = bind_ok (levels d 5 m >>= then_key) _ h in
      let b = bind_ok (bd a.0.1) _ a.2 in
      let c = bind_ok (plan.arms bd d n b.0.1) _ b.2 in
      same_found (λ xs q. ReadsArms (lexeme.Key key.Elseif l ∷ m) q xs) (roll-Arm (record { test = a.0.0; body = b.0.0 }) ∷ c.0.0) c.0.1 y c.2
      (g.arm (expr_then d m a.0 a.1).1 (sound a.0.1 b.0 b.1) (arms-sound n b.0.1 c.0 c.1))
  arms-sound (suc n) ts y h = same_found (λ xs q. ReadsArms ts q xs) [] ts y h g.no_arms

  otherwise-sound : (ts : Tokens) (y : Option (List Stmt) × Tokens) → plan.otherwise bd d ts ≡ Some y → ReadsElse ts y.1 y.0
  otherwise-sound (lexeme.Key key.Else l ∷ m) y h =
      let b = bind_ok (bd m >>= end_key) _ h in
      same_found (λ o q. ReadsElse (lexeme.Key key.Else l ∷ m) q o) (Some b.0.0) b.0.1 y b.2 (g.else (body_ended m b.0 b.1).1)
  otherwise-sound (lexeme.Key key.End l ∷ m) y h = same_found (λ o q. ReadsElse (lexeme.Key key.End l ∷ m) q o) None m y h g.no_else
  otherwise-sound _ y h = absurd cc

  tags-sound : (n : ℕ) (ts : Tokens) (y : List TagArm × Tokens) → plan.tags bd d n ts ≡ Some y → ReadsTags ts y.1 y.0
  unfolding plan.tags
  tags-sound zero ts y h = absurd cc
  tags-sound (suc n) (lexeme.Key key.Tag l ∷ lexeme.Name x k ∷ m) y h =
      let a = bind_ok (plan.variable bd d m >>= colon) _ h in
      let b = bind_ok (bd a.0.1) _ a.2 in
      let c = bind_ok (plan.tags bd d n b.0.1) _ b.2 in
      same_found (λ xs q. ReadsTags (lexeme.Key key.Tag l ∷ lexeme.Name x k ∷ m) q xs) (roll-TagArm (record { tag = x; variable = a.0.0; body = b.0.0; meant = meant.Unknown }) ∷ c.0.0) c.0.1 y c.2
      (g.tag (variable_colon m a.0 a.1).1 (sound a.0.1 b.0 b.1) (tags-sound n b.0.1 c.0 c.1))
  tags-sound (suc n) (lexeme.Key key.Tag l ∷ m) y h = absurd cc
  tags-sound (suc n) ts y h = same_found (λ xs q. ReadsTags ts q xs) [] ts y h g.no_tags

  others-sound : (ts : Tokens) (y : Option (List Stmt) × Tokens) → plan.others bd d ts ≡ Some y → ReadsOthers ts y.1 y.0
  others-sound (lexeme.Key key.Others l ∷ lexeme.Key key.Colon k ∷ m) y h =
      let b = bind_ok (bd m >>= end_key) _ h in
      same_found (λ o q. ReadsOthers (lexeme.Key key.Others l ∷ lexeme.Key key.Colon k ∷ m) q o) (Some b.0.0) b.0.1 y b.2 (g.others (body_ended m b.0 b.1).1)
  others-sound (lexeme.Key key.End l ∷ m) y h = same_found (λ o q. ReadsOthers (lexeme.Key key.End l ∷ m) q o) None m y h g.no_others
  others-sound _ y h = absurd cc

  whens-sound : (n : ℕ) (ts : Tokens) (y : List When × Tokens) → plan.whens bd d n ts ≡ Some y → ReadsWhens ts y.1 y.0
  unfolding plan.whens
  whens-sound zero ts y h = absurd cc
  whens-sound (suc n) (lexeme.Key key.When l ∷ m) y h =
      let x = bind_ok (plan.names (length m) m) _ h in
      let a = bind_ok (plan.variable bd d x.0.1 >>= colon) _ x.2 in
      let b = bind_ok (bd a.0.1) _ a.2 in
      let c = bind_ok (plan.whens bd d n b.0.1) _ b.2 in
      same_found (λ xs q. ReadsWhens (lexeme.Key key.When l ∷ m) q xs) (roll-When (record { names = x.0.0; variable = a.0.0; body = b.0.0 }) ∷ c.0.0) c.0.1 y c.2
      (g.when (names-sound (length m) m x.0 x.1) (variable_colon x.0.1 a.0 a.1).1 (sound a.0.1 b.0 b.1) (whens-sound n b.0.1 c.0 c.1))
  whens-sound (suc n) ts y h = same_found (λ xs q. ReadsWhens ts q xs) [] ts y h g.no_whens

  other_handler-sound : {ts : Tokens} (ws : List When) (m : Tokens) (y : Handlers × Tokens) → ReadsWhens ts m ws → plan.other_handler bd d ws m ≡ Some y → ReadsHandlers ts y.1 y.0
  other_handler-sound {ts} ws (lexeme.Key key.Others l ∷ lexeme.Key key.Colon k ∷ m) y p h =
      let b = bind_ok (bd m) _ h in
      same_found (λ z q. ReadsHandlers ts q z) (roll-Handlers (record { whens = ws; others = Some b.0.0 })) b.0.1 y b.2 (g.and_others p (sound m b.0 b.1))
  other_handler-sound {ts} ws m y p h = same_found (λ z q. ReadsHandlers ts q z) (roll-Handlers (record { whens = ws; others = None })) m y h (g.handlers p)

  handlers-sound : (ts : Tokens) (y : Handlers × Tokens) → plan.handlers bd d ts ≡ Some y → ReadsHandlers ts y.1 y.0
  handlers-sound ts y h =
      let a = bind_ok (plan.whens bd d (suc (length ts)) ts) _ h in
      other_handler-sound a.0.0 a.0.1 y (whens-sound (suc (length ts)) ts a.0 a.1) a.2

  -- what is made of the parts of a statement
  made : (ts : Tokens) (x : Stmt) (r : Tokens) (y : Stmt × Tokens) → within stmt_nesting d x r ≡ Some y → ReadsSimple ts r x → ReadsSimple ts y.1 y.0 × (stmt_nesting y.0 ≤ d)
  made ts x r y h p = passes stmt_nesting (λ z q. ReadsSimple ts q z) d x r y h p

  return-sound : (l k : ℕ) (m : Tokens) (y : Stmt × Tokens) → plan.simple bd d (lexeme.Key key.Return l ∷ lexeme.Key key.LParen k ∷ m) ≡ Some y →
      ReadsSimple (lexeme.Key key.Return l ∷ lexeme.Key key.LParen k ∷ m) y.1 y.0 × (stmt_nesting y.0 ≤ d)
  unfolding plan.simple
  return-sound l k m y h = go (chosen (is_target m) _ _ h)
    where
      go : ((is_target m ≡ true) × (within stmt_nesting d (st.Return None l) (lexeme.Key key.LParen k ∷ m) ≡ Some y)) ⊎ ((is_target m ≡ false) × ((levels d 5 m >>= closed >>= λ a. within stmt_nesting d (st.Return (Some a) l)) ≡ Some y)) →
          ReadsSimple (lexeme.Key key.Return l ∷ lexeme.Key key.LParen k ∷ m) y.1 y.0 × (stmt_nesting y.0 ≤ d)
      go (inl q) = made (lexeme.Key key.Return l ∷ lexeme.Key key.LParen k ∷ m) (st.Return None l) (lexeme.Key key.LParen k ∷ m) y q.1 g.leave
      go (inr q) =
          let a = bind_ok (levels d 5 m >>= closed) _ q.1 in
          made (lexeme.Key key.Return l ∷ lexeme.Key key.LParen k ∷ m) (st.Return (Some a.0.0) l) a.0.1 y a.2 (g.give (expr_closed d m a.0 a.1).1)

  signal-sound : (x : List ℕ) (l k j : ℕ) (m : Tokens) (y : Stmt × Tokens) → plan.simple bd d (lexeme.Key key.Signal l ∷ lexeme.Name x k ∷ lexeme.Key key.LParen j ∷ m) ≡ Some y →
      ReadsSimple (lexeme.Key key.Signal l ∷ lexeme.Name x k ∷ lexeme.Key key.LParen j ∷ m) y.1 y.0 × (stmt_nesting y.0 ≤ d)
  unfolding plan.simple
  signal-sound x l k j m y h = go (chosen (is_target m) _ _ h)
    where
      go : ((is_target m ≡ true) × (within stmt_nesting d (st.Signal x None l) (lexeme.Key key.LParen j ∷ m) ≡ Some y)) ⊎ ((is_target m ≡ false) × ((levels d 5 m >>= closed >>= λ a. within stmt_nesting d (st.Signal x (Some a) l)) ≡ Some y)) →
          ReadsSimple (lexeme.Key key.Signal l ∷ lexeme.Name x k ∷ lexeme.Key key.LParen j ∷ m) y.1 y.0 × (stmt_nesting y.0 ≤ d)
      go (inl q) = made (lexeme.Key key.Signal l ∷ lexeme.Name x k ∷ lexeme.Key key.LParen j ∷ m) (st.Signal x None l) (lexeme.Key key.LParen j ∷ m) y q.1 g.signal
      go (inr q) =
          let a = bind_ok (levels d 5 m >>= closed) _ q.1 in
          made (lexeme.Key key.Signal l ∷ lexeme.Name x k ∷ lexeme.Key key.LParen j ∷ m) (st.Signal x (Some a.0.0) l) a.0.1 y a.2 (g.signal_with (expr_closed d m a.0 a.1).1)

  simple-sound : (ts : Tokens) (y : Stmt × Tokens) → plan.simple bd d ts ≡ Some y → ReadsSimple ts y.1 y.0 × (stmt_nesting y.0 ≤ d)
  unfolding plan.simple
  simple-sound (lexeme.Name x l ∷ lexeme.Key key.Colon k ∷ m) y h = let b = bind_ok (shape d m) _ h in declared-sound bd d x l k m b.0.1 b.0.0 y (shape-sound d m b.0 b.1).0 b.2
  simple-sound (lexeme.Name x l ∷ lexeme.Key key.Becomes k ∷ m) y h = assigned-sound bd d x l k m y h
  simple-sound (lexeme.Key key.Once l ∷ m) y h =
      let b = bind_ok (plan.remote bd d (lexeme.Key key.Once l ∷ m)) _ h in
      made (lexeme.Key key.Once l ∷ m) (st.Remote None b.0.0 l meant.Unknown) b.0.1 y b.2 (g.remote (remote-sound bd d (lexeme.Key key.Once l ∷ m) b.0 b.1))
  simple-sound (lexeme.Key key.Maybe l ∷ m) y h =
      let b = bind_ok (plan.remote bd d (lexeme.Key key.Maybe l ∷ m)) _ h in
      made (lexeme.Key key.Maybe l ∷ m) (st.Remote None b.0.0 l meant.Unknown) b.0.1 y b.2 (g.remote (remote-sound bd d (lexeme.Key key.Maybe l ∷ m) b.0 b.1))
  simple-sound (lexeme.Key key.PutLine l ∷ lexeme.Key key.LParen k ∷ m) y h =
      let b = bind_ok (levels d 5 m >>= closed) _ h in
      made (lexeme.Key key.PutLine l ∷ lexeme.Key key.LParen k ∷ m) (st.PutLine b.0.0 l) b.0.1 y b.2 (g.put_line (expr_closed d m b.0 b.1).1)
  simple-sound (lexeme.Key key.Sleep l ∷ lexeme.Key key.LParen k ∷ m) y h =
      let b = bind_ok (levels d 5 m >>= closed) _ h in
      made (lexeme.Key key.Sleep l ∷ lexeme.Key key.LParen k ∷ m) (st.Sleep b.0.0 l) b.0.1 y b.2 (g.sleep (expr_closed d m b.0 b.1).1)
  simple-sound (lexeme.Key key.Fork l ∷ lexeme.Name x k ∷ lexeme.Key key.LParen j ∷ m) y h =
      let b = bind_ok (expr_plan.args (levels d) d m) _ h in
      made (lexeme.Key key.Fork l ∷ lexeme.Name x k ∷ lexeme.Key key.LParen j ∷ m) (st.Fork x b.0.0 l meant.Unknown) b.0.1 y b.2 (g.fork (args-sound d m b.0 b.1).0)
  simple-sound (lexeme.Key key.Return l ∷ lexeme.Key key.LParen k ∷ m) y h = return-sound l k m y h
  simple-sound (lexeme.Key key.Return l ∷ r) y h = made (lexeme.Key key.Return l ∷ r) (st.Return None l) r y h g.leave
  simple-sound (lexeme.Key key.Signal l ∷ lexeme.Name x k ∷ lexeme.Key key.LParen j ∷ m) y h = signal-sound x l k j m y h
  simple-sound (lexeme.Key key.Signal l ∷ lexeme.Name x k ∷ r) y h = made (lexeme.Key key.Signal l ∷ lexeme.Name x k ∷ r) (st.Signal x None l) r y h g.signal
  simple-sound (lexeme.Key key.If l ∷ m) y h =
      let a = bind_ok (levels d 5 m >>= then_key) _ h in
      let b = bind_ok (bd a.0.1) _ a.2 in
      let c = bind_ok (plan.arms bd d (suc (length b.0.1)) b.0.1) _ b.2 in
      let o = bind_ok (plan.otherwise bd d c.0.1) _ c.2 in
      made (lexeme.Key key.If l ∷ m) (st.If a.0.0 b.0.0 c.0.0 o.0.0 l) o.0.1 y o.2
      (g.choose (expr_then d m a.0 a.1).1 (sound a.0.1 b.0 b.1) (arms-sound (suc (length b.0.1)) b.0.1 c.0 c.1) (otherwise-sound c.0.1 o.0 o.1))
  simple-sound (lexeme.Key key.While l ∷ m) y h =
      let a = bind_ok (levels d 5 m >>= do_key) _ h in
      let b = bind_ok (bd a.0.1 >>= end_key) _ a.2 in
      made (lexeme.Key key.While l ∷ m) (st.While a.0.0 b.0.0 l) b.0.1 y b.2 (g.while (expr_do d m a.0 a.1).1 (body_ended a.0.1 b.0 b.1).1)
  simple-sound (lexeme.Key key.For l ∷ lexeme.Name x k ∷ lexeme.Key key.Colon j ∷ m) y h =
      let a = bind_ok (shape d m >>= in_key) _ h in
      let u = bind_ok (plan.iter bd d a.0.1 >>= do_key) _ a.2 in
      let w = do_ok (plan.iter bd d a.0.1) u.0 u.1 in
      let b = bind_ok (bd u.0.1 >>= end_key) _ u.2 in
      made (lexeme.Key key.For l ∷ lexeme.Name x k ∷ lexeme.Key key.Colon j ∷ m) (st.For x a.0.0 u.0.0 b.0.0 l) b.0.1 y b.2
      (g.for (shape_in d m a.0 a.1).1 (iter-sound bd d a.0.1 (u.0.0, lexeme.Key key.Do w.0 ∷ u.0.1) w.1) (body_ended u.0.1 b.0 b.1).1)
  simple-sound (lexeme.Key key.Tagcase l ∷ m) y h =
      let a = bind_ok (levels d 5 m) _ h in
      let b = bind_ok (plan.tags bd d (suc (length a.0.1)) a.0.1) _ a.2 in
      let o = bind_ok (plan.others bd d b.0.1) _ b.2 in
      made (lexeme.Key key.Tagcase l ∷ m) (st.Tagcase a.0.0 b.0.0 o.0.0 l) o.0.1 y o.2
      (g.tagcase (levels-sound d 5 m a.0 a.1).0 (tags-sound (suc (length a.0.1)) a.0.1 b.0 b.1) (others-sound b.0.1 o.0 o.1))
  simple-sound (lexeme.Key key.Begin l ∷ m) y h =
      let b = bind_ok (bd m >>= end_key) _ h in
      made (lexeme.Key key.Begin l ∷ m) (st.Begin b.0.0 l) b.0.1 y b.2 (g.begin (body_ended m b.0 b.1).1)
  simple-sound (lexeme.Key key.Region l ∷ m) y h =
      let a = bind_ok (levels d 5 m >>= do_key) _ h in
      let b = bind_ok (bd a.0.1 >>= end_key) _ a.2 in
      made (lexeme.Key key.Region l ∷ m) (st.Region a.0.0 b.0.0 l) b.0.1 y b.2 (g.region (expr_do d m a.0 a.1).1 (body_ended a.0.1 b.0 b.1).1)
  simple-sound ts y h = from_front-sound bd d ts y h

  suffixes-sound : (n : ℕ) {ts : Tokens} (x : Stmt) (m : Tokens) (y : Stmt × Tokens) → ReadsStmt ts m x → stmt_nesting x ≤ d → plan.suffixes bd d n x m ≡ Some y → ReadsStmt ts y.1 y.0 × (stmt_nesting y.0 ≤ d)
  unfolding plan.suffixes
  suffixes-sound zero x m y p f h = absurd cc
  suffixes-sound (suc n) {ts} x (lexeme.Key key.Except l ∷ m) y p f h =
      let b = bind_ok (plan.handlers bd d m >>= end_key >>= λ z. within stmt_nesting d (st.Except x z)) _ h in
      let a = bind_ok (plan.handlers bd d m >>= end_key) _ b.1 in
      let c = end_ok (plan.handlers bd d m) a.0 a.1 in
      let w = passes stmt_nesting (λ z q. ReadsStmt ts q z) d (st.Except x a.0.0) a.0.1 b.0 a.2 (g.except p (handlers-sound m (a.0.0, lexeme.Key key.End c.0 ∷ a.0.1) c.1)) in
      suffixes-sound n b.0.0 b.0.1 y w.0 w.1 b.2
  suffixes-sound (suc n) {ts} x (lexeme.Key key.Resignal l ∷ m) y p f h =
      let b = bind_ok (plan.names (length m) m >>= λ xs. within stmt_nesting d (st.Resignal x xs)) _ h in
      let a = bind_ok (plan.names (length m) m) _ b.1 in
      let w = passes stmt_nesting (λ z q. ReadsStmt ts q z) d (st.Resignal x a.0.0) a.0.1 b.0 a.2 (g.resignal p (names-sound (length m) m a.0 a.1)) in
      suffixes-sound n b.0.0 b.0.1 y w.0 w.1 b.2
  suffixes-sound (suc n) {ts} x m y p f h = kept stmt_nesting (λ z q. ReadsStmt ts q z) d x m y h p f

  stmt-sound : (ts : Tokens) (y : Stmt × Tokens) → plan.stmt bd d ts ≡ Some y → ReadsStmt ts y.1 y.0 × (stmt_nesting y.0 ≤ d)
  stmt-sound ts y h =
      let a = bind_ok (plan.simple bd d ts) _ h in
      let s = simple-sound ts a.0 a.1 in
      suffixes-sound (suc d) a.0.0 a.0.1 y (g.simple s.0) s.1 a.2

  stmts-sound : (n : ℕ) (ts : Tokens) (y : List Stmt × Tokens) → plan.stmts bd d n ts ≡ Some y → ReadsBody ts y.1 y.0 × (deepest (map stmt_nesting y.0) ≤ d)
  unfolding plan.stmts
  stmts-sound zero ts y h = absurd cc
  stmts-sound (suc n) ts y h = go (stmts-sound n) (chosen (ends_body ts) _ _ h)
    where
      go : ((m : Tokens) (z : List Stmt × Tokens) → plan.stmts bd d n m ≡ Some z → ReadsBody m z.1 z.0 × (deepest (map stmt_nesting z.0) ≤ d)) →
          ((ends_body ts ≡ true) × (◌≡◌ {A = Option (List Stmt × Tokens)} (Some ([], ts)) (Some y)))
          ⊎ ((ends_body ts ≡ false) × ((plan.stmt bd d ts >>= λ x m. plan.stmts bd d n m >>= λ xs r. Some (x ∷ xs, r)) ≡ Some y)) →
          ReadsBody ts y.1 y.0 × (deepest (map stmt_nesting y.0) ≤ d)
      go ih (inl q) = same_found (λ xs r. ReadsBody ts r xs × (deepest (map stmt_nesting xs) ≤ d)) [] ts y q.1 (g.body_end, omega arith)
      go ih (inr q) =
          let a = bind_ok (plan.stmt bd d ts) _ q.1 in
          let b = bind_ok (plan.stmts bd d n a.0.1) _ a.2 in
          let s = stmt-sound ts a.0 a.1 in
          let w = ih a.0.1 b.0 b.1 in
          same_found (λ xs r. ReadsBody ts r xs × (deepest (map stmt_nesting xs) ≤ d)) (a.0.0 ∷ b.0.0) b.0.1 y b.2 (g.body s.0 w.0, omega (arith, s.1, w.1))

pub body-sound : (d : ℕ) (ts : Tokens) (y : List Stmt × Tokens) → plan.body d ts ≡ Some y → ReadsBody ts y.1 y.0 × (deepest (map stmt_nesting y.0) ≤ d)
unfolding plan.body
body-sound zero ts y h = go (chosen (ends_body ts) _ _ h)
  where
    go : ((ends_body ts ≡ true) × (◌≡◌ {A = Option (List Stmt × Tokens)} (Some ([], ts)) (Some y))) ⊎ ((ends_body ts ≡ false) × (◌≡◌ {A = Option (List Stmt × Tokens)} None (Some y))) →
        ReadsBody ts y.1 y.0 × (deepest (map stmt_nesting y.0) ≤ 0)
    go (inl q) = same_found (λ xs r. ReadsBody ts r xs × (deepest (map stmt_nesting xs) ≤ 0)) [] ts y q.1 (g.body_end, omega arith)
    go (inr q) = absurd cc
body-sound (suc d) ts y h = stmts-sound (plan.body d) (suc d) (λ m z k. (body-sound d m z k).0) (suc (length ts)) ts y h
