-- Programs that are read are found.
use Rattle.std.proofs.Common.{◌≡◌, ℕ, zero, suc, ◌<◌, ◌≤◌, Bool, true, false, List, [], ◌∷◌, length, map, Option, Some, None, refl, ap, subst, sym, ◌∙◌, arith, codes}
use Rattle.std.specs.Prelude.{bytes_eq, ℤ}
use Rattle.std.proofs.lemmas.Bool.{cond-true, cond-false}
use Rattle.std.proofs.lemmas.Slice.Eq.{bytes_eq-Decides}
use Rattle.clu_tree.specs.declared.lexeme.Key.{Key}
use Rattle.clu_tree.specs.declared.lexeme.Key.TheVariants as key
use Rattle.clu_tree.specs.declared.lexeme.Lexeme.TheVariants as lexeme
use Rattle.clu_tree.specs.declared.shape.Shape.{Shape}
use Rattle.clu_tree.specs.declared.shape.Named.{Named}
use Rattle.clu_tree.specs.declared.shape.Listed.{Listed}
use Rattle.clu_tree.specs.declared.value.Value.{Value}
use Rattle.clu_tree.specs.declared.program.Initial.{Initial}
use Rattle.clu_tree.specs.declared.program.Initial.TheVariants as n
use Rattle.clu_tree.specs.declared.program.Routine.{Routine}
use Rattle.clu_tree.specs.declared.program.NodePart.{NodePart}
use Rattle.clu_tree.specs.declared.program.NodePart.TheVariants as np
use Rattle.clu_tree.specs.declared.program.Program.{Program}
use Rattle.clu_tree.specs.declared.tree.Stmt.{Stmt}
use Rattle.clu_grammar.specs.Grammar as g
use Rattle.clu_grammar.specs.Grammar.{Tokens, type_of, Part, AnEquate, ANodeVar, ARoutine, ACluster, ANode, empty_program, program_of, ReadsShape, ReadsFields, ReadsLiteral, ReadsSigned, ReadsValueList, ReadsValues, ReadsCarried, ReadsListed, ReadsParams, ReadsResult, ReadsSignals, ReadsBody, ReadsNames, ReadsRoutine, ReadsRoutines, ReadsNodeParts, ReadsInitial, ReadsPart, ReadsParts, ReadsProgram}
use Rattle.clu_grammar.specs.Nesting.{deepest, shape_nesting, named_nesting, carried_nesting, listed_nesting, routine_nesting, initial_nesting, program_nesting}
use Rattle.clu_grammar.specs.Ahead.{becomes}
use Rattle.clu_grammar.specs.ExprPlan.{Found, Parser, ◌>>=◌, closed, bracketed, shape, fields}
use Rattle.clu_grammar.specs.StmtPlan.{names, body}
use Rattle.clu_grammar.specs.ProgramPlan as plan
use Rattle.clu_grammar.specs.ProgramPlan.{deepest_tree, rep_key}
use Rattle.clu_grammar.proofs.Binds.{bind_some}
use Rattle.clu_grammar.proofs.Shrinks.{shrinks-shape, shrinks-fields, shrinks-literal}
use Rattle.clu_grammar.proofs.Shapes.{shape-finds, fields-finds, commas}
use Rattle.clu_grammar.proofs.StmtShrinks.{shrinks-names, shrinks-body}
use Rattle.clu_grammar.proofs.StmtFollows.{headed}
use Rattle.clu_grammar.proofs.StmtPieces.{names-finds}
use Rattle.clu_grammar.proofs.StmtComplete.{body-finds, body-begins}
use Rattle.clu_grammar.proofs.ProgramNesting.{part_nesting, nests-Program}

-- ---- what is read takes a token

shrinks-signed : {ts r : Tokens} {x : Value} → ReadsSigned ts r x → length r < length ts
shrinks-signed (g.unsigned p) = shrinks-literal p
shrinks-signed g.negated = omega arith

shrinks-value_list : {ts r : Tokens} {xs : List Value} → ReadsValueList ts r xs → length r < length ts
shrinks-value_list (g.last_value p) = shrinks-signed p
shrinks-value_list (g.value_and p q) = omega (arith, shrinks-signed p, shrinks-value_list q)

shrinks-values : {ts r : Tokens} {xs : List Value} → ReadsValues ts r xs → length r < length ts
shrinks-values g.no_values = omega arith
shrinks-values (g.values p) = omega (arith, shrinks-value_list p)

shrinks-carried : {ts r : Tokens} {s : Option Shape} → ReadsCarried ts r s → length r ≤ length ts
shrinks-carried g.no_value = omega arith
shrinks-carried (g.value p) = omega (arith, shrinks-shape p)

shrinks-listed : {ts r : Tokens} {xs : List Listed} → ReadsListed ts r xs → length r < length ts
shrinks-listed (g.last_listed p) = omega (arith, shrinks-carried p)
shrinks-listed (g.listed_and p q) = omega (arith, shrinks-carried p, shrinks-listed q)

shrinks-params : {ts r : Tokens} {xs : List Named} → ReadsParams ts r xs → length r < length ts
shrinks-params g.no_params = omega arith
shrinks-params (g.params p) = omega (arith, shrinks-fields p)

shrinks-result : {ts r : Tokens} {s : Option Shape} → ReadsResult ts r s → length r ≤ length ts
shrinks-result g.no_result = omega arith
shrinks-result (g.result p) = omega (arith, shrinks-shape p)

shrinks-signals : {ts r : Tokens} {xs : List Listed} → ReadsSignals ts r xs → length r ≤ length ts
shrinks-signals g.no_signals = omega arith
shrinks-signals (g.signals p) = omega (arith, shrinks-listed p)

pub shrinks-routine : {ts r : Tokens} {x : Routine} → ReadsRoutine ts r x → length r < length ts
shrinks-routine (g.routine p t s b e) = omega (arith, shrinks-params p, shrinks-result t, shrinks-signals s, shrinks-body b)

shrinks-routines : {ts r : Tokens} {xs : List Routine} → ReadsRoutines ts r xs → length r ≤ length ts
shrinks-routines g.no_routines = omega arith
shrinks-routines (g.routine_and p q) = omega (arith, shrinks-routine p, shrinks-routines q)

pub shrinks-node_parts : {ts r : Tokens} {xs : List NodePart} → ReadsNodeParts ts r xs → length r < length ts
shrinks-node_parts g.parts_end = omega arith
shrinks-node_parts (g.export p) = omega (arith, shrinks-node_parts p)
shrinks-node_parts (g.start p q) = omega (arith, shrinks-values p, shrinks-node_parts q)

pub shrinks-initial : {ts r : Tokens} {x : Initial} → ReadsInitial ts r x → length r < length ts
shrinks-initial (g.from_literal p) = shrinks-signed p
shrinks-initial (g.from_lock e) = omega arith
shrinks-initial (g.from_semaphore e) = omega arith
shrinks-initial (g.from_array e p) = omega (arith, shrinks-shape p)

shrinks-part : {ts r : Tokens} {x : Part} → ReadsPart ts r x → length r < length ts
shrinks-part (g.equate p) = omega (arith, shrinks-shape p)
shrinks-part (g.node_var p) = omega (arith, shrinks-shape p)
shrinks-part (g.node_var_as p q) = omega (arith, shrinks-shape p, shrinks-initial q)
shrinks-part (g.a_routine p) = shrinks-routine p
shrinks-part (g.cluster p s q e) = omega (arith, shrinks-names p, shrinks-shape s, shrinks-routines q)
shrinks-part (g.node p) = omega (arith, shrinks-node_parts p)

-- ---- literals

literal-finds : {ts r : Tokens} {x : Value} → ReadsLiteral ts r x → plan.signed_at ts ≡ Some (x, r)
literal-finds g.nil = refl
literal-finds g.yes = refl
literal-finds g.no = refl
literal-finds g.int = refl
literal-finds g.char = refl
literal-finds g.string = refl

signed-finds : {ts r : Tokens} {x : Value} → ReadsSigned ts r x → plan.signed_at ts ≡ Some (x, r)
signed-finds (g.unsigned p) = literal-finds p
signed-finds g.negated = refl

last-value-finds : (n : ℕ) (ts r : Tokens) (x : Value) → plan.signed_at ts ≡ Some (x, r) → commas r ≡ false → plan.value_list (suc n) ts ≡ Some (x ∷ [], r)
unfolding plan.value_list
last-value-finds n ts r x h c = bind_some h (plan.values_after (plan.value_list n)) ∙ go r c
  where
    go : (r : Tokens) → commas r ≡ false → plan.values_after (plan.value_list n) x r ≡ Some (x ∷ [], r)
    go (lexeme.Key key.Comma k ∷ r) c = absurd cc
    go _ c = refl

value-finds : (n k : ℕ) (ts m r : Tokens) (x : Value) (xs : List Value) → plan.signed_at ts ≡ Some (x, lexeme.Key key.Comma k ∷ m) → plan.value_list n m ≡ Some (xs, r) → plan.value_list (suc n) ts ≡ Some (x ∷ xs, r)
unfolding plan.value_list
value-finds n k ts m r x xs h i = bind_some h (plan.values_after (plan.value_list n)) ∙ bind_some i (λ xs r. Some (x ∷ xs, r))

value_list-finds : {ts r : Tokens} {xs : List Value} → ReadsValueList ts r xs → commas r ≡ false → (n : ℕ) → length ts ≤ n → plan.value_list n ts ≡ Some (xs, r)
value_list-finds p c zero f = absurd (omega (arith, f, shrinks-value_list p))
value_list-finds {ts = ts} {r = r} (g.last_value {x = x} p) c (suc n) f = last-value-finds n ts r x (signed-finds p) c
value_list-finds {ts = ts} {r = r} (g.value_and {k = k} {m = m} {x = x} {xs = xs} p q) c (suc n) f =
    value-finds n k ts m r x xs (signed-finds p) (value_list-finds q c n (omega (arith, f, shrinks-signed p)))

abbrev closes : Tokens → Bool
closes (lexeme.Key key.RParen _ ∷ _) = true
closes _ = false

signed-unclosed : {ts r : Tokens} {x : Value} → ReadsSigned ts r x → closes ts ≡ false
signed-unclosed (g.unsigned g.nil) = refl
signed-unclosed (g.unsigned g.yes) = refl
signed-unclosed (g.unsigned g.no) = refl
signed-unclosed (g.unsigned g.int) = refl
signed-unclosed (g.unsigned g.char) = refl
signed-unclosed (g.unsigned g.string) = refl
signed-unclosed g.negated = refl

list-unclosed : {ts r : Tokens} {xs : List Value} → ReadsValueList ts r xs → closes ts ≡ false
list-unclosed (g.last_value p) = signed-unclosed p
list-unclosed (g.value_and p q) = signed-unclosed p

values-goes : (ts : Tokens) → closes ts ≡ false → plan.values ts ≡ (plan.value_list (length ts) ts >>= closed)
values-goes (lexeme.Key key.RParen k ∷ r) h = absurd cc
values-goes ts h = refl

values-finds : {ts r : Tokens} {xs : List Value} → ReadsValues ts r xs → plan.values ts ≡ Some (xs, r)
values-finds g.no_values = refl
values-finds {ts = ts} (g.values p) = values-goes ts (list-unclosed p) ∙ bind_some (value_list-finds p refl (length ts) (omega arith)) closed

-- ---- what the parts have in common

abbrev opens : Tokens → Bool
opens (lexeme.Key key.LParen _ ∷ _) = true
opens _ = false

abbrev returns : Tokens → Bool
returns (lexeme.Key key.Returns _ ∷ _) = true
returns _ = false

unreturned : (r : Tokens) → headed r ≡ false → returns r ≡ false
unreturned (lexeme.Key key.Returns k ∷ r) h = absurd cc
unreturned _ h = refl

signals-begins : {ts r : Tokens} {xs : List Listed} → ReadsSignals ts r xs → headed r ≡ false → returns ts ≡ false
signals-begins {r = r} g.no_signals h = unreturned r h
signals-begins (g.signals p) h = refl

own-finds : {A : Type 0} (x y : List ℕ) (v : A) (l k : ℕ) (r : Tokens) → y ≡ x → plan.own_name x v (lexeme.Key key.End l ∷ lexeme.Name y k ∷ r) ≡ Some (v, r)
own-finds x y v l k r e = cond-true (bytes_eq y x) _ _ ((bytes_eq-Decides y x).1 e)

routine-begins : {ts r : Tokens} {x : Routine} → ReadsRoutine ts r x → (plan.ends_cluster ts ≡ false) × (becomes ts ≡ false)
routine-begins (g.routine p t u v e) = (refl, refl)

node_parts-finds : {ts r : Tokens} {xs : List NodePart} → ReadsNodeParts ts r xs → (n : ℕ) → length ts < n → plan.node_parts n ts ≡ Some (xs, r)
unfolding plan.node_parts
node_parts-finds p zero f = absurd (omega (arith, f))
node_parts-finds g.parts_end (suc n) f = refl
node_parts-finds (g.export {x = x} {l = l} {m = m} p) (suc n) f = bind_some (node_parts-finds p n (omega (arith, f))) (λ ps r. Some (np.Export x l ∷ ps, r))
node_parts-finds (g.start {x = x} {l = l} {vs = vs} p q) (suc n) f =
    bind_some (values-finds p) (λ vs q. plan.node_parts n q >>= λ ps r. Some (np.Start x vs l ∷ ps, r))
    ∙ bind_some (node_parts-finds q n (omega (arith, f, shrinks-values p))) (λ ps r. Some (np.Start x vs l ∷ ps, r))

make-finds : {A B : Type 0} (x y : List ℕ) (v : A) (l k j : ℕ) (r : Tokens) (f : A → Parser B) → y ≡ x →
    (plan.behind_make x v (lexeme.Key key.Dollar l ∷ lexeme.Name y k ∷ lexeme.Key key.LParen j ∷ r) >>= f) ≡ f v r
make-finds x y v l k j r f e = ap (λ (o : Option Tokens). plan.kept v o >>= f) (cond-true (bytes_eq y x) _ _ ((bytes_eq-Decides y x).1 e))

-- ---- with types and bodies of at most so many levels

module _ (deep : ℕ) where
  shape_closed-finds : {m r : Tokens} {s : Shape} {k : ℕ} → ReadsShape m (lexeme.Key key.RParen k ∷ r) s → shape_nesting s ≤ deep → (shape deep m >>= closed) ≡ Some (s, r)
  shape_closed-finds p f = bind_some (shape-finds p deep f) closed

  carried-finds : {ts r : Tokens} {s : Option Shape} → ReadsCarried ts r s → opens r ≡ false → carried_nesting s ≤ deep → plan.carried deep ts ≡ Some (s, r)
  carried-finds {r = r} g.no_value o f = go r o
    where
      go : (r : Tokens) → opens r ≡ false → plan.carried deep r ≡ Some (None, r)
      go (lexeme.Key key.LParen k ∷ r) o = absurd cc
      go _ o = refl
  carried-finds (g.value p) o f = bind_some (shape_closed-finds p f) (λ t r. Some (Some t, r))

  last-listed-finds : (n l : ℕ) (x : List ℕ) (m r : Tokens) (s : Option Shape) → plan.carried deep m ≡ Some (s, r) → commas r ≡ false → plan.listed deep (suc n) (lexeme.Name x l ∷ m) ≡ Some (record { name = x; value = s } ∷ [], r)
  unfolding plan.listed
  last-listed-finds n l x m r s h c = bind_some h (plan.listed_after (plan.listed deep n) x) ∙ go r c
    where
      go : (r : Tokens) → commas r ≡ false → plan.listed_after (plan.listed deep n) x s r ≡ Some (record { name = x; value = s } ∷ [], r)
      go (lexeme.Key key.Comma k ∷ r) c = absurd cc
      go _ c = refl

  and-listed-finds : (n l k : ℕ) (x : List ℕ) (m q r : Tokens) (s : Option Shape) (xs : List Listed) → plan.carried deep m ≡ Some (s, lexeme.Key key.Comma k ∷ q) → plan.listed deep n q ≡ Some (xs, r) →
      plan.listed deep (suc n) (lexeme.Name x l ∷ m) ≡ Some (record { name = x; value = s } ∷ xs, r)
  unfolding plan.listed
  and-listed-finds n l k x m q r s xs h i = bind_some h (plan.listed_after (plan.listed deep n) x) ∙ bind_some i (λ xs r. Some (record { name = x; value = s } ∷ xs, r))

  listed-finds : {ts r : Tokens} {xs : List Listed} → ReadsListed ts r xs → commas r ≡ false → opens r ≡ false → (n : ℕ) → length ts ≤ n → deepest (map listed_nesting xs) ≤ deep → plan.listed deep n ts ≡ Some (xs, r)
  listed-finds p c o zero f h = absurd (omega (arith, f, shrinks-listed p))
  listed-finds {r = r} (g.last_listed {x = x} {l = l} {m = m} {s = s} p) c o (suc n) f h = last-listed-finds n l x m r s (carried-finds p o (omega (arith, h))) c
  listed-finds {r = r} (g.listed_and {x = x} {l = l} {k = k} {m = m} {q = q} {s = s} {xs = xs} p w) c o (suc n) f h =
      and-listed-finds n l k x m q r s xs (carried-finds p refl (omega (arith, h))) (listed-finds w c o n (omega (arith, f, shrinks-carried p)) (omega (arith, h)))

  params-goes : {ts r : Tokens} {xs : List Named} → ReadsFields ts r xs → plan.params deep ts ≡ (fields (shape deep) (length ts) ts >>= closed)
  params-goes (g.last_field p) = refl
  params-goes (g.field_and p q) = refl

  params-finds : {ts r : Tokens} {xs : List Named} → ReadsParams ts r xs → deepest (map named_nesting xs) ≤ deep → plan.params deep ts ≡ Some (xs, r)
  params-finds g.no_params f = refl
  params-finds {ts = ts} (g.params p) f = params-goes p ∙ bind_some (fields-finds p refl deep (length ts) (omega arith) f) closed

  result-finds : {ts r : Tokens} {s : Option Shape} → ReadsResult ts r s → returns r ≡ false → carried_nesting s ≤ deep → plan.result deep ts ≡ Some (s, r)
  result-finds {r = r} g.no_result o f = go r o
    where
      go : (r : Tokens) → returns r ≡ false → plan.result deep r ≡ Some (None, r)
      go (lexeme.Key key.Returns k ∷ r) o = absurd cc
      go _ o = refl
  result-finds (g.result p) o f = bind_some (shape_closed-finds p f) (λ t r. Some (Some t, r))

  signals-finds : {ts r : Tokens} {xs : List Listed} → ReadsSignals ts r xs → headed r ≡ false → deepest (map listed_nesting xs) ≤ deep → plan.signals deep ts ≡ Some (xs, r)
  signals-finds {r = r} g.no_signals o f = go r o
    where
      go : (r : Tokens) → headed r ≡ false → plan.signals deep r ≡ Some ([], r)
      go (lexeme.Key key.Signals k ∷ r) o = absurd cc
      go _ o = refl
  signals-finds (g.signals {m = m} p) o f = bind_some (listed-finds p refl refl (length m) (omega arith) f) closed

  routine_of-finds : (x y : List ℕ) (l f h : ℕ) (a b c d r : Tokens) (ps : List Named) (s : Option Shape) (ls : List Listed) (ss : List Stmt) → plan.params deep a ≡ Some (ps, b) → plan.result deep b ≡ Some (s, c) →
      plan.signals deep c ≡ Some (ls, d) → body deep d ≡ Some (ss, lexeme.Key key.End h ∷ lexeme.Name y f ∷ r) → y ≡ x →
      plan.routine_of deep x l a ≡ Some (record { name = x; params = ps; result = s; signals = ls; body = ss; line = l }, r)
  routine_of-finds x y l f h a b c d r ps s ls ss p t u v e =
      bind_some p (λ ps b. plan.result deep b >>= λ t c. plan.signals deep c >>= λ ls d. body deep d >>= λ ss e. plan.own_name x (record { name = x; params = ps; result = t; signals = ls; body = ss; line = l }) e)
      ∙ bind_some t (λ t c. plan.signals deep c >>= λ ls d. body deep d >>= λ ss e. plan.own_name x (record { name = x; params = ps; result = t; signals = ls; body = ss; line = l }) e)
      ∙ bind_some u (λ ls d. body deep d >>= λ ss e. plan.own_name x (record { name = x; params = ps; result = s; signals = ls; body = ss; line = l }) e)
      ∙ bind_some v (λ ss e. plan.own_name x (record { name = x; params = ps; result = s; signals = ls; body = ss; line = l }) e)
      ∙ own-finds x y (record { name = x; params = ps; result = s; signals = ls; body = ss; line = l }) h f r e

  -- a routine, and as a part
  routine-whole : {ts r : Tokens} {x : Routine} → ReadsRoutine ts r x → routine_nesting x ≤ deep → (plan.routine deep ts ≡ Some (x, r)) × (plan.part deep ts ≡ Some (ARoutine x, r))
  unfolding plan.routine plan.part
  routine-whole {r = r} (g.routine {x = x} {y = y} {l = l} {g = h} {f = f} {a = a} {b = b} {c = c} {d = d} {ps = ps} {s = s} {ls = ls} {ss = ss} p t u v e) k =
      let w = (body-begins v refl).2 in
      let found = routine_of-finds x y l f h a b c d r ps s ls ss (params-finds p (omega (arith, k))) (result-finds t (signals-begins u w) (omega (arith, k))) (signals-finds u w (omega (arith, k)))
      (body-finds v refl deep (omega (arith, k))) e in
      (found, bind_some found (λ y r. Some (ARoutine y, r)))

  routines-end : (n : ℕ) (r : Tokens) → plan.ends_cluster r ≡ true → plan.routines deep (suc n) r ≡ Some ([], r)
  unfolding plan.routines
  routines-end n r h = cond-true (plan.ends_cluster r) _ _ h

  routines-more : (n : ℕ) (ts m r : Tokens) (x : Routine) (xs : List Routine) → plan.ends_cluster ts ≡ false → plan.routine deep ts ≡ Some (x, m) → plan.routines deep n m ≡ Some (xs, r) → plan.routines deep (suc n) ts ≡ Some (x ∷ xs, r)
  unfolding plan.routines
  routines-more n ts m r x xs e h i =
      cond-false (plan.ends_cluster ts) _ _ e ∙ bind_some h (λ x m. plan.routines deep n m >>= λ xs r. Some (x ∷ xs, r)) ∙ bind_some i (λ xs r. Some (x ∷ xs, r))

  routines-finds : {ts r : Tokens} {xs : List Routine} → ReadsRoutines ts r xs → plan.ends_cluster r ≡ true → (n : ℕ) → length ts < n → deepest (map routine_nesting xs) ≤ deep → plan.routines deep n ts ≡ Some (xs, r)
  routines-finds p e zero f h = absurd (omega (arith, f))
  routines-finds {r = r} g.no_routines e (suc n) f h = routines-end n r e
  routines-finds {ts = ts} {r = r} (g.routine_and {m = m} {x = x} {xs = xs} p q) e (suc n) f h =
      routines-more n ts m r x xs (routine-begins p).0 (routine-whole p (omega (arith, h))).0 (routines-finds q e n (omega (arith, f, shrinks-routine p)) (omega (arith, h)))

  literal-initial : {ts r : Tokens} {x : Value} → ReadsSigned ts r x → plan.initial deep ts ≡ (plan.signed_at ts >>= λ x r. Some (n.Literal x, r))
  literal-initial (g.unsigned g.nil) = refl
  literal-initial (g.unsigned g.yes) = refl
  literal-initial (g.unsigned g.no) = refl
  literal-initial (g.unsigned g.int) = refl
  literal-initial (g.unsigned g.char) = refl
  literal-initial (g.unsigned g.string) = refl
  literal-initial g.negated = refl

  initial-finds : {ts r : Tokens} {x : Initial} → ReadsInitial ts r x → initial_nesting (Some x) ≤ deep → plan.initial deep ts ≡ Some (x, r)
  initial-finds (g.from_literal p) f = literal-initial p ∙ bind_some (signed-finds p) (λ x r. Some (n.Literal x, r))
  initial-finds {r = r} (g.from_lock {y = y} {k = k} {j = j} {h = h} {g = u} e) f = make-finds (codes "create") y n.Lock k j h (lexeme.Key key.RParen u ∷ r) plan.created e
  initial-finds {r = r} (g.from_semaphore {y = y} {x = x} {k = k} {j = j} {h = h} {g = u} {f = v} e) f =
      make-finds (codes "create") y n.Lock k j h (lexeme.Int x u ∷ lexeme.Key key.RParen v ∷ r) (λ _. plan.semaphore_of) e
  initial-finds {r = r} (g.from_array {y = y} {j = j} {h = h} {g = u} {f = v} {d = w} {m = m} {s = s} e p) f =
      ap (λ (o : Found Shape). o >>= bracketed >>= plan.behind_make (codes "new") >>= λ t. plan.created (n.Empty t)) (shape-finds p deep f)
      ∙ make-finds (codes "new") y s h u v (lexeme.Key key.RParen w ∷ r) (λ t. plan.created (n.Empty t)) e

  undeclared : (x : List ℕ) (l : ℕ) (s : Shape) (r : Tokens) → becomes r ≡ false → plan.node_var_of deep x l s r ≡ Some (ANodeVar (record { name = x; shape = s; first = None; line = l }), r)
  undeclared x l s (lexeme.Key key.Becomes k ∷ r) h = absurd cc
  undeclared x l s _ h = refl

  equate-goes : (x : List ℕ) (l k : ℕ) (o : Key) (i : ℕ) (m : Tokens) (t : Shape) → type_of o ≡ Some t →
      plan.part deep (lexeme.Name x l ∷ lexeme.Key key.Equals k ∷ lexeme.Key o i ∷ m) ≡ (shape deep (lexeme.Key o i ∷ m) >>= λ t r. Some (AnEquate (record { name = x; shape = t; line = l }), r))
  unfolding plan.part
  equate-goes x l k key.Proc i m t h = absurd cc
  equate-goes x l k key.Cluster i m t h = absurd cc
  equate-goes x l k _ i m t h = refl

  equates : (x : List ℕ) (l k : ℕ) {m r : Tokens} {s : Shape} → ReadsShape m r s →
      plan.part deep (lexeme.Name x l ∷ lexeme.Key key.Equals k ∷ m) ≡ (shape deep m >>= λ t r. Some (AnEquate (record { name = x; shape = t; line = l }), r))
  unfolding plan.part
  equates x l k (g.type_word {o = o} {n = i} {r = r} {t = t} h) = equate-goes x l k o i r t h
  equates x l k g.type_name = refl
  equates x l k (g.array_type p) = refl
  equates x l k (g.record_type p) = refl
  equates x l k (g.oneof_type p) = refl

  equate-finds : (x : List ℕ) (l k : ℕ) (m r : Tokens) (s : Shape) → ReadsShape m r s → shape_nesting s ≤ deep →
      plan.part deep (lexeme.Name x l ∷ lexeme.Key key.Equals k ∷ m) ≡ Some (AnEquate (record { name = x; shape = s; line = l }), r)
  equate-finds x l k m r s p f = equates x l k p ∙ bind_some (shape-finds p deep f) (λ t r. Some (AnEquate (record { name = x; shape = t; line = l }), r))

  node_var-finds : (x : List ℕ) (l k j : ℕ) (m r : Tokens) (s : Shape) → ReadsShape m r s → becomes r ≡ false → shape_nesting s ≤ deep →
      plan.part deep (lexeme.Key key.Nodevar l ∷ lexeme.Name x k ∷ lexeme.Key key.Colon j ∷ m) ≡ Some (ANodeVar (record { name = x; shape = s; first = None; line = l }), r)
  unfolding plan.part
  node_var-finds x l k j m r s p c f = bind_some (shape-finds p deep f) (plan.node_var_of deep x l) ∙ undeclared x l s r c

  node_var_as-finds : (x : List ℕ) (l k j h : ℕ) (m q r : Tokens) (s : Shape) (y : Initial) → ReadsShape m (lexeme.Key key.Becomes h ∷ q) s → plan.initial deep q ≡ Some (y, r) → shape_nesting s ≤ deep →
      plan.part deep (lexeme.Key key.Nodevar l ∷ lexeme.Name x k ∷ lexeme.Key key.Colon j ∷ m) ≡ Some (ANodeVar (record { name = x; shape = s; first = Some y; line = l }), r)
  unfolding plan.part
  node_var_as-finds x l k j h m q r s y p i f =
      bind_some (shape-finds p deep f) (plan.node_var_of deep x l) ∙ bind_some i (λ y r. Some (ANodeVar (record { name = x; shape = s; first = Some y; line = l }), r))

  cluster-finds : (x y : List ℕ) (l k j h u v e d : ℕ) (a b m r : Tokens) (xs : List (List ℕ)) (s : Shape) (rs : List Routine) → names (length a) a ≡ Some (xs, lexeme.Key key.Rep u ∷ lexeme.Key key.Equals v ∷ b) →
      shape deep b ≡ Some (s, m) → plan.routines deep (suc (length m)) m ≡ Some (rs, lexeme.Key key.End e ∷ lexeme.Name y d ∷ r) → y ≡ x →
      plan.part deep (lexeme.Name x l ∷ lexeme.Key key.Equals k ∷ lexeme.Key key.Cluster j ∷ lexeme.Key key.Is h ∷ a) ≡ Some (ACluster x xs s rs l, r)
  unfolding plan.part
  cluster-finds x y l k j h u v e d a b m r xs s rs p t w z =
      ap (λ (o : Found (List (List ℕ))). o >>= rep_key >>= λ xs b. shape deep b >>= λ t m. plan.routines deep (suc (length m)) m >>= λ rs q. plan.own_name x (ACluster x xs t rs l) q) p
      ∙ bind_some t (λ t m. plan.routines deep (suc (length m)) m >>= λ rs q. plan.own_name x (ACluster x xs t rs l) q)
      ∙ bind_some w (λ rs q. plan.own_name x (ACluster x xs s rs l) q)
      ∙ own-finds x y (ACluster x xs s rs l) e d r z

  node-finds : (x : ℤ) (l k j : ℕ) (m r : Tokens) (ps : List NodePart) → plan.node_parts (suc (length m)) m ≡ Some (ps, r) →
      plan.part deep (lexeme.Key key.Node l ∷ lexeme.Int x k ∷ lexeme.Key key.Is j ∷ m) ≡ Some (ANode (record { number = x; parts = ps; line = l }), r)
  unfolding plan.part
  node-finds x l k j m r ps h = bind_some h (λ ps r. Some (ANode (record { number = x; parts = ps; line = l }), r))

  part-finds : {ts r : Tokens} {x : Part} → ReadsPart ts r x → becomes r ≡ false → part_nesting x ≤ deep → plan.part deep ts ≡ Some (x, r)
  part-finds {r = r} (g.equate {x = x} {l = l} {k = k} {m = m} {s = s} p) c f = equate-finds x l k m r s p f
  part-finds {r = r} (g.node_var {x = x} {l = l} {k = k} {j = j} {m = m} {s = s} p) c f = node_var-finds x l k j m r s p c (omega (arith, f))
  part-finds {r = r} (g.node_var_as {x = x} {l = l} {k = k} {j = j} {h = h} {m = m} {q = q} {s = s} {y = y} p i) c f =
      node_var_as-finds x l k j h m q r s y p (initial-finds i (omega (arith, f))) (omega (arith, f))
  part-finds (g.a_routine p) c f = (routine-whole p f).1
  part-finds {r = r} (g.cluster {x = x} {y = y} {l = l} {k = k} {j = j} {h = h} {g = u} {f = v} {e = e} {d = d} {a = a} {b = b} {m = m} {xs = xs} {s = s} {rs = rs} p t w z) c n =
      cluster-finds x y l k j h u v e d a b m r xs s rs (names-finds p refl (length a) (omega arith)) (shape-finds t deep (omega (arith, n))) (routines-finds w refl (suc (length m)) (omega arith) (omega (arith, n))) z
  part-finds {r = r} (g.node {x = x} {l = l} {k = k} {j = j} {m = m} {ps = ps} p) c f = node-finds x l k j m r ps (node_parts-finds p (suc (length m)) (omega arith))

  part-begins : {ts r : Tokens} {x : Part} → ReadsPart ts r x → becomes ts ≡ false
  part-begins (g.equate p) = refl
  part-begins (g.node_var p) = refl
  part-begins (g.node_var_as p q) = refl
  part-begins (g.a_routine p) = (routine-begins p).1
  part-begins (g.cluster p s q e) = refl
  part-begins (g.node p) = refl

  parts-begin : {ts : Tokens} {xs : List Part} → ReadsParts ts xs → becomes ts ≡ false
  parts-begin g.no_parts = refl
  parts-begin (g.part_and p q) = part-begins p

  parts-more : (n : ℕ) (ts r : Tokens) (x : Part) (xs : List Part) → 0 < length ts → plan.part deep ts ≡ Some (x, r) → plan.parts deep n r ≡ Some xs → plan.parts deep (suc n) ts ≡ Some (x ∷ xs)
  unfolding plan.parts
  parts-more n [] r x xs f h i = absurd (omega (arith, f))
  parts-more n (t ∷ ts) r x xs f h i = ap (plan.parts_after (plan.parts deep n)) h ∙ ap (plan.part_before x) i

  no-parts-finds : (n : ℕ) → plan.parts deep n [] ≡ Some []
  unfolding plan.parts
  no-parts-finds zero = refl
  no-parts-finds (suc n) = refl

  parts-finds : {ts : Tokens} {xs : List Part} → ReadsParts ts xs → (n : ℕ) → length ts ≤ n → deepest (map part_nesting xs) ≤ deep → plan.parts deep n ts ≡ Some xs
  parts-finds g.no_parts n f h = no-parts-finds n
  parts-finds (g.part_and p q) zero f h = absurd (omega (arith, f, shrinks-part p))
  parts-finds {ts = ts} (g.part_and {r = r} {x = x} {xs = xs} p q) (suc n) f h =
      parts-more n ts r x xs (omega (arith, shrinks-part p)) (part-finds p (parts-begin q) (omega (arith, h))) (parts-finds q n (omega (arith, f, shrinks-part p)) (omega (arith, h)))

  -- A program that is read is found, if it has no more levels.
  pub program_within-finds : (ts : Tokens) (p : Program) → ReadsProgram ts p → program_nesting p ≤ deep → plan.program_within deep ts ≡ Some p
  program_within-finds ts p r f =
      let few : deepest (map part_nesting r.parts) ≤ deep = subst (λ n. n ≤ deep) (nests-Program r.parts) (subst (λ z. program_nesting z ≤ deep) r.made f) in
      ap plan.made_of (parts-finds r.read (length ts) (omega arith) few) ∙ ap Some (sym r.made)

pub program-finds : (ts : Tokens) (p : Program) → ReadsProgram ts p → program_nesting p ≤ 200 → plan.program ts ≡ Some p
program-finds ts p r f = program_within-finds deepest_tree ts p r f
