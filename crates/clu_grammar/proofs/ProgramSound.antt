-- What the plan of programs finds is read so.
use Rattle.std.proofs.Common.{◌≡◌, ℕ, zero, suc, ◌≤◌, Bool, true, false, cond, List, [], ◌∷◌, length, map, Option, Some, None, refl, ap, subst, sym, ◌∙◌, arith, inl, inr, codes}
use Rattle.std.specs.Prelude.{ℤ, pos, ◌⊎◌, bytes_eq}
use Rattle.std.proofs.lemmas.Slice.Eq.{bytes_eq-Decides}
use Rattle.clu_tree.specs.declared.lexeme.Key.TheVariants as key
use Rattle.clu_tree.specs.declared.lexeme.Lexeme.TheVariants as lexeme
use Rattle.clu_tree.specs.declared.shape.Shape.{Shape}
use Rattle.clu_tree.specs.declared.shape.Named.{Named}
use Rattle.clu_tree.specs.declared.shape.Listed.{Listed}
use Rattle.clu_tree.specs.declared.value.Value.{Value}
use Rattle.clu_tree.specs.declared.program.Initial.{Initial}
use Rattle.clu_tree.specs.declared.program.Initial.TheVariants as n
use Rattle.clu_tree.specs.declared.program.Routine.{Routine}
use Rattle.clu_tree.specs.declared.program.NodePart.{NodePart}
use Rattle.clu_tree.specs.declared.program.NodePart.TheVariants as np
use Rattle.clu_tree.specs.declared.program.Program.{Program}
use Rattle.clu_grammar.specs.Grammar as g
use Rattle.clu_grammar.specs.Grammar.{Tokens, Part, AnEquate, ANodeVar, ARoutine, ACluster, ANode, empty_program, program_of, ReadsShape, ReadsSigned, ReadsValueList, ReadsValues, ReadsCarried, ReadsListed, ReadsParams, ReadsResult, ReadsSignals, ReadsBody, ReadsNames, ReadsRoutine, ReadsRoutines, ReadsNodeParts, ReadsInitial, ReadsPart, ReadsParts, ReadsProgram}
use Rattle.clu_grammar.specs.Nesting.{deepest, shape_nesting, named_nesting, carried_nesting, listed_nesting, routine_nesting, initial_nesting, program_nesting}
use Rattle.clu_grammar.specs.ExprPlan.{Found, Parser, ◌>>=◌, closed, bracketed, shape, fields}
use Rattle.clu_grammar.specs.StmtPlan.{names, body}
use Rattle.clu_grammar.specs.ProgramPlan as plan
use Rattle.clu_grammar.specs.ProgramPlan.{deepest_tree, rep_key}
use Rattle.clu_grammar.proofs.Binds.{bind_ok, bind_some, chosen, same_found, closed_ok, bracketed_ok}
use Rattle.clu_grammar.proofs.Shapes.{shape-sound, fields-sound}
use Rattle.clu_grammar.proofs.Sound.{literal_at-sound}
use Rattle.clu_grammar.proofs.StmtSound.{names-sound, body-sound}
use Rattle.clu_grammar.proofs.ProgramNesting.{part_nesting, nests-Program}

-- ---- literals

signed-sound : (ts : Tokens) (y : Value × Tokens) → plan.signed_at ts ≡ Some y → ReadsSigned ts y.1 y.0
signed-sound (lexeme.Key key.Minus k ∷ lexeme.Int (pos x) l ∷ r) y h = same_found (λ z q. ReadsSigned (lexeme.Key key.Minus k ∷ lexeme.Int (pos x) l ∷ r) q z) _ r y h g.negated
signed-sound ts y h = g.unsigned (literal_at-sound ts y h)

values_after-sound : (others : Parser (List Value)) → ((m : Tokens) (z : List Value × Tokens) → others m ≡ Some z → ReadsValueList m z.1 z.0) →
    (ts : Tokens) (x : Value) (m : Tokens) (y : List Value × Tokens) → ReadsSigned ts m x → plan.values_after others x m ≡ Some y → ReadsValueList ts y.1 y.0
values_after-sound others ih ts x (lexeme.Key key.Comma k ∷ m) y p h =
    let b = bind_ok (others m) _ h in
    same_found (λ z q. ReadsValueList ts q z) (x ∷ b.0.0) b.0.1 y b.2 (g.value_and p (ih m b.0 b.1))
values_after-sound others ih ts x m y p h = same_found (λ z q. ReadsValueList ts q z) (x ∷ []) m y h (g.last_value p)

value_list-sound : (n : ℕ) (ts : Tokens) (y : List Value × Tokens) → plan.value_list n ts ≡ Some y → ReadsValueList ts y.1 y.0
unfolding plan.value_list
value_list-sound zero ts y h = absurd cc
value_list-sound (suc n) ts y h =
    let b = bind_ok (plan.signed_at ts) _ h in
    values_after-sound (plan.value_list n) (value_list-sound n) ts b.0.0 b.0.1 y (signed-sound ts b.0 b.1) b.2

value_list_closed : (m : Tokens) (y : List Value × Tokens) → (plan.value_list (length m) m >>= closed) ≡ Some y → ReadsValues m y.1 y.0
value_list_closed m y h = let c = closed_ok (plan.value_list (length m) m) y h in g.values (value_list-sound (length m) m (y.0, lexeme.Key key.RParen c.0 ∷ y.1) c.1)

values-sound : (ts : Tokens) (y : List Value × Tokens) → plan.values ts ≡ Some y → ReadsValues ts y.1 y.0
values-sound (lexeme.Key key.RParen k ∷ r) y h = same_found (λ z q. ReadsValues (lexeme.Key key.RParen k ∷ r) q z) [] r y h g.no_values
values-sound ts y h = value_list_closed ts y h

-- ---- what the parts have in common

-- `end` and this very name
own_ok : {A : Type 0} (P : A → Tokens → Type 0) (x : List ℕ) (v : A) (ts : Tokens) (y : A × Tokens) → plan.own_name x v ts ≡ Some y →
    ((z : List ℕ) (l k : ℕ) (r : Tokens) → z ≡ x → ts ≡ (lexeme.Key key.End l ∷ lexeme.Name z k ∷ r) → P v r) → P y.0 y.1
own_ok {A} P x v (lexeme.Key key.End l ∷ lexeme.Name z k ∷ r) y h f = go (chosen (bytes_eq z x) _ _ h)
  where
    go : ((bytes_eq z x ≡ true) × (◌≡◌ {A = Option (A × Tokens)} (Some (v, r)) (Some y))) ⊎ ((bytes_eq z x ≡ false) × (◌≡◌ {A = Option (A × Tokens)} None (Some y))) → P y.0 y.1
    go (inl q) = same_found P v r y q.1 (f z l k r ((bytes_eq-Decides z x).0 q.0) refl)
    go (inr q) = absurd cc
own_ok P x v _ y h f = absurd cc

rep_ok : {A : Type 0} (o : Found A) (y : A × Tokens) → (o >>= rep_key) ≡ Some y → (l : ℕ) × (k : ℕ) × (o ≡ Some (y.0, lexeme.Key key.Rep l ∷ lexeme.Key key.Equals k ∷ y.1))
rep_ok {A} (Some (x, lexeme.Key key.Rep l ∷ lexeme.Key key.Equals k ∷ r)) y h =
    (l, k, same_found (λ (z : A) (q : Tokens). ◌≡◌ {A = Option (A × Tokens)} (Some (x, lexeme.Key key.Rep l ∷ lexeme.Key key.Equals k ∷ r)) (Some (z, lexeme.Key key.Rep l ∷ lexeme.Key key.Equals k ∷ q))) x r y h refl)
rep_ok _ y h = absurd cc

node_parts-sound : (n : ℕ) (ts : Tokens) (y : List NodePart × Tokens) → plan.node_parts n ts ≡ Some y → ReadsNodeParts ts y.1 y.0
unfolding plan.node_parts
node_parts-sound zero ts y h = absurd cc
node_parts-sound (suc n) (lexeme.Key key.Export l ∷ lexeme.Name x k ∷ m) y h =
    let b = bind_ok (plan.node_parts n m) _ h in
    same_found (λ z q. ReadsNodeParts (lexeme.Key key.Export l ∷ lexeme.Name x k ∷ m) q z) (np.Export x l ∷ b.0.0) b.0.1 y b.2 (g.export (node_parts-sound n m b.0 b.1))
node_parts-sound (suc n) (lexeme.Key key.Start l ∷ lexeme.Name x k ∷ lexeme.Key key.LParen j ∷ m) y h =
    let a = bind_ok (plan.values m) _ h in
    let b = bind_ok (plan.node_parts n a.0.1) _ a.2 in
    same_found (λ z q. ReadsNodeParts (lexeme.Key key.Start l ∷ lexeme.Name x k ∷ lexeme.Key key.LParen j ∷ m) q z) (np.Start x a.0.0 l ∷ b.0.0) b.0.1 y b.2 (g.start (values-sound m a.0 a.1) (node_parts-sound n a.0.1 b.0 b.1))
node_parts-sound (suc n) (lexeme.Key key.End k ∷ r) y h = same_found (λ z q. ReadsNodeParts (lexeme.Key key.End k ∷ r) q z) [] r y h g.parts_end
node_parts-sound (suc n) _ y h = absurd cc

-- `$ name (`, and what is found behind it
record Made {A B : Type 0} (name : List ℕ) (x : A) (m : Tokens) (f : A → Parser B) (y : B × Tokens) : Type 0 where
  z : List ℕ
  l : ℕ
  k : ℕ
  j : ℕ
  r : Tokens
  named : z ≡ name
  at : m ≡ (lexeme.Key key.Dollar l ∷ lexeme.Name z k ∷ lexeme.Key key.LParen j ∷ r)
  found : f x r ≡ Some y

make_ok : {A B : Type 0} (name : List ℕ) (x : A) (m : Tokens) (f : A → Parser B) (y : B × Tokens) → (plan.behind_make name x m >>= f) ≡ Some y → Made name x m f y
make_ok {A} {B} name x (lexeme.Key key.Dollar l ∷ lexeme.Name z k ∷ lexeme.Key key.LParen j ∷ r) f y h = go (bytes_eq z name) refl h
  where
    go : (b : Bool) → bytes_eq z name ≡ b → (plan.kept x (cond {A = Option Tokens} b (Some r) None) >>= f) ≡ Some y → Made name x (lexeme.Key key.Dollar l ∷ lexeme.Name z k ∷ lexeme.Key key.LParen j ∷ r) f y
    go true e h = record { z = z; l = l; k = k; j = j; r = r; named = (bytes_eq-Decides z name).0 e; at = refl; found = h }
    go false e h = absurd cc
make_ok name x _ f y h = absurd cc

created_ok : (x : Initial) (m : Tokens) (y : Initial × Tokens) → plan.created x m ≡ Some y → (n : ℕ) × (m ≡ (lexeme.Key key.RParen n ∷ y.1)) × (x ≡ y.0)
created_ok x (lexeme.Key key.RParen n ∷ r) y h = (n, same_found (λ z q. ◌≡◌ {A = Tokens} (lexeme.Key key.RParen n ∷ r) (lexeme.Key key.RParen n ∷ q)) x r y h refl, same_found (λ z q. x ≡ z) x r y h refl)
created_ok x _ y h = absurd cc

semaphore_ok : (m : Tokens) (y : Initial × Tokens) → plan.semaphore_of m ≡ Some y → (v : ℤ) × (l : ℕ) × (r : Tokens) × (m ≡ (lexeme.Int v l ∷ r)) × (plan.created (n.Semaphore v) r ≡ Some y)
semaphore_ok (lexeme.Int v l ∷ r) y h = (v, l, r, refl, h)
semaphore_ok _ y h = absurd cc

before_ok : (P : List Part → Type 0) (x : Part) (o : Option (List Part)) (xs : List Part) → plan.part_before x o ≡ Some xs → ((ys : List Part) → o ≡ Some ys → P (x ∷ ys)) → P xs
before_ok P x (Some ys) xs h f = let same : ◌≡◌ {A = List Part} (x ∷ ys) xs = cc in subst P same (f ys refl)
before_ok P x None xs h f = absurd cc

after_ok : (P : List Part → Type 0) (others : Tokens → Option (List Part)) (o : Found Part) (xs : List Part) → plan.parts_after others o ≡ Some xs →
    ((x : Part × Tokens) (ys : List Part) → o ≡ Some x → others x.1 ≡ Some ys → P (x.0 ∷ ys)) → P xs
after_ok P others (Some x) xs h f = before_ok P x.0 (others x.1) xs h (λ ys e. f x ys refl e)
after_ok P others None xs h f = absurd cc

-- ---- with types and bodies of at most so many levels

module _ (deep : ℕ) where
  type-sound : (ts : Tokens) (y : Shape × Tokens) → shape deep ts ≡ Some y → ReadsShape ts y.1 y.0 × (shape_nesting y.0 ≤ deep)
  type-sound ts y h = shape-sound deep ts y h

  shape_closed : (m : Tokens) (y : Shape × Tokens) → (shape deep m >>= closed) ≡ Some y → (n : ℕ) × ReadsShape m (lexeme.Key key.RParen n ∷ y.1) y.0 × (shape_nesting y.0 ≤ deep)
  shape_closed m y h =
      let c = closed_ok (shape deep m) y h in
      let s = type-sound m (y.0, lexeme.Key key.RParen c.0 ∷ y.1) c.1 in
      (c.0, s.0, s.1)

  -- ---- routines

  carried-sound : (ts : Tokens) (y : Option Shape × Tokens) → plan.carried deep ts ≡ Some y → ReadsCarried ts y.1 y.0 × (carried_nesting y.0 ≤ deep)
  carried-sound (lexeme.Key key.LParen l ∷ m) y h =
      let b = bind_ok (shape deep m >>= closed) _ h in
      let s = shape_closed m b.0 b.1 in
      same_found (λ z q. ReadsCarried (lexeme.Key key.LParen l ∷ m) q z × (carried_nesting z ≤ deep)) (Some b.0.0) b.0.1 y b.2 (g.value s.1, s.2)
  carried-sound ts y h = same_found (λ z q. ReadsCarried ts q z × (carried_nesting z ≤ deep)) None ts y h (g.no_value, omega arith)

  abbrev SoundListed : Tokens → List Listed × Tokens → Type 0
  SoundListed ts y = ReadsListed ts y.1 y.0 × (deepest (map listed_nesting y.0) ≤ deep)

  listed_after-sound : (others : Parser (List Listed)) → ((m : Tokens) (z : List Listed × Tokens) → others m ≡ Some z → SoundListed m z) →
      (x : List ℕ) (l : ℕ) (ts : Tokens) (s : Option Shape) (m : Tokens) (y : List Listed × Tokens) → ReadsCarried ts m s → carried_nesting s ≤ deep → plan.listed_after others x s m ≡ Some y → SoundListed (lexeme.Name x l ∷ ts) y
  listed_after-sound others ih x l ts s (lexeme.Key key.Comma k ∷ m) y p f h =
      let b = bind_ok (others m) _ h in
      let w = ih m b.0 b.1 in
      same_found (λ z q. SoundListed (lexeme.Name x l ∷ ts) (z, q)) (record { name = x; value = s } ∷ b.0.0) b.0.1 y b.2 (g.listed_and p w.0, omega (arith, f, w.1))
  listed_after-sound others ih x l ts s m y p f h = same_found (λ z q. SoundListed (lexeme.Name x l ∷ ts) (z, q)) (record { name = x; value = s } ∷ []) m y h (g.last_listed p, omega (arith, f))

  listed-sound : (n : ℕ) (ts : Tokens) (y : List Listed × Tokens) → plan.listed deep n ts ≡ Some y → SoundListed ts y
  unfolding plan.listed
  listed-sound zero ts y h = absurd cc
  listed-sound (suc n) (lexeme.Name x l ∷ m) y h =
      let b = bind_ok (plan.carried deep m) _ h in
      let s = carried-sound m b.0 b.1 in
      listed_after-sound (plan.listed deep n) (listed-sound n) x l m b.0.0 b.0.1 y s.0 s.1 b.2
  listed-sound (suc n) _ y h = absurd cc

  fields_closed : (m : Tokens) (y : List Named × Tokens) → (fields (shape deep) (length m) m >>= closed) ≡ Some y → ReadsParams m y.1 y.0 × (deepest (map named_nesting y.0) ≤ deep)
  fields_closed m y h =
      let c = closed_ok (fields (shape deep) (length m) m) y h in
      let s = fields-sound deep (length m) m (y.0, lexeme.Key key.RParen c.0 ∷ y.1) c.1 in
      (g.params s.0, s.1)

  params-sound : (ts : Tokens) (y : List Named × Tokens) → plan.params deep ts ≡ Some y → ReadsParams ts y.1 y.0 × (deepest (map named_nesting y.0) ≤ deep)
  params-sound (lexeme.Key key.RParen k ∷ r) y h =
      same_found (λ z q. ReadsParams (lexeme.Key key.RParen k ∷ r) q z × (deepest (map named_nesting z) ≤ deep)) [] r y h (g.no_params, omega arith)
  params-sound ts y h = fields_closed ts y h

  result-sound : (ts : Tokens) (y : Option Shape × Tokens) → plan.result deep ts ≡ Some y → ReadsResult ts y.1 y.0 × (carried_nesting y.0 ≤ deep)
  result-sound (lexeme.Key key.Returns l ∷ lexeme.Key key.LParen k ∷ m) y h =
      let b = bind_ok (shape deep m >>= closed) _ h in
      let s = shape_closed m b.0 b.1 in
      same_found (λ z q. ReadsResult (lexeme.Key key.Returns l ∷ lexeme.Key key.LParen k ∷ m) q z × (carried_nesting z ≤ deep)) (Some b.0.0) b.0.1 y b.2 (g.result s.1, s.2)
  result-sound ts y h = same_found (λ z q. ReadsResult ts q z × (carried_nesting z ≤ deep)) None ts y h (g.no_result, omega arith)

  signals-sound : (ts : Tokens) (y : List Listed × Tokens) → plan.signals deep ts ≡ Some y → ReadsSignals ts y.1 y.0 × (deepest (map listed_nesting y.0) ≤ deep)
  signals-sound (lexeme.Key key.Signals l ∷ lexeme.Key key.LParen k ∷ m) y h =
      let c = closed_ok (plan.listed deep (length m) m) y h in
      let s = listed-sound (length m) m (y.0, lexeme.Key key.RParen c.0 ∷ y.1) c.1 in
      (g.signals s.0, s.1)
  signals-sound ts y h = same_found (λ z q. ReadsSignals ts q z × (deepest (map listed_nesting z) ≤ deep)) [] ts y h (g.no_signals, omega arith)

  routine_of-sound : (x : List ℕ) (l k j h : ℕ) (a : Tokens) (y : Routine × Tokens) → plan.routine_of deep x l a ≡ Some y →
      ReadsRoutine (lexeme.Name x l ∷ lexeme.Key key.Equals k ∷ lexeme.Key key.Proc j ∷ lexeme.Key key.LParen h ∷ a) y.1 y.0 × (routine_nesting y.0 ≤ deep)
  routine_of-sound x l k j h a y e =
      let p = bind_ok (plan.params deep a) _ e in
      let t = bind_ok (plan.result deep p.0.1) _ p.2 in
      let s = bind_ok (plan.signals deep t.0.1) _ t.2 in
      let b = bind_ok (body deep s.0.1) _ s.2 in
      let ps = params-sound a p.0 p.1 in
      let ts = result-sound p.0.1 t.0 t.1 in
      let ss = signals-sound t.0.1 s.0 s.1 in
      let bs = body-sound deep s.0.1 b.0 b.1 in
      own_ok (λ (v : Routine) (q : Tokens). ReadsRoutine (lexeme.Name x l ∷ lexeme.Key key.Equals k ∷ lexeme.Key key.Proc j ∷ lexeme.Key key.LParen h ∷ a) q v × (routine_nesting v ≤ deep)) x
      (record { name = x; params = p.0.0; result = t.0.0; signals = s.0.0; body = b.0.0; line = l }) b.0.1 y b.2
      (λ z m i r f w. (g.routine ps.0 ts.0 ss.0 (subst (λ q. ReadsBody s.0.1 q b.0.0) w bs.0) f, omega (arith, ps.1, ts.1, ss.1, bs.1)))

  routine-sound : (ts : Tokens) (y : Routine × Tokens) → plan.routine deep ts ≡ Some y → ReadsRoutine ts y.1 y.0 × (routine_nesting y.0 ≤ deep)
  unfolding plan.routine
  routine-sound (lexeme.Name x l ∷ lexeme.Key key.Equals k ∷ lexeme.Key key.Proc j ∷ lexeme.Key key.LParen h ∷ a) y e = routine_of-sound x l k j h a y e
  routine-sound _ y e = absurd cc

  routines-sound : (n : ℕ) (ts : Tokens) (y : List Routine × Tokens) → plan.routines deep n ts ≡ Some y → ReadsRoutines ts y.1 y.0 × (deepest (map routine_nesting y.0) ≤ deep)
  unfolding plan.routines
  routines-sound zero ts y h = absurd cc
  routines-sound (suc n) ts y h = go (routines-sound n) (chosen (plan.ends_cluster ts) _ _ h)
    where
      go : ((m : Tokens) (z : List Routine × Tokens) → plan.routines deep n m ≡ Some z → ReadsRoutines m z.1 z.0 × (deepest (map routine_nesting z.0) ≤ deep)) →
          ((plan.ends_cluster ts ≡ true) × (◌≡◌ {A = Option (List Routine × Tokens)} (Some ([], ts)) (Some y)))
          ⊎ ((plan.ends_cluster ts ≡ false) × ((plan.routine deep ts >>= λ x m. plan.routines deep n m >>= λ xs r. Some (x ∷ xs, r)) ≡ Some y)) →
          ReadsRoutines ts y.1 y.0 × (deepest (map routine_nesting y.0) ≤ deep)
      go ih (inl q) = same_found (λ z r. ReadsRoutines ts r z × (deepest (map routine_nesting z) ≤ deep)) [] ts y q.1 (g.no_routines, omega arith)
      go ih (inr q) =
          let a = bind_ok (plan.routine deep ts) _ q.1 in
          let b = bind_ok (plan.routines deep n a.0.1) _ a.2 in
          let s = routine-sound ts a.0 a.1 in
          let w = ih a.0.1 b.0 b.1 in
          same_found (λ z r. ReadsRoutines ts r z × (deepest (map routine_nesting z) ≤ deep)) (a.0.0 ∷ b.0.0) b.0.1 y b.2 (g.routine_and s.0 w.0, omega (arith, s.1, w.1))

  -- ---- parts

  abbrev SoundInitial : Tokens → Tokens → Initial → Type 0
  SoundInitial ts r x = ReadsInitial ts r x × (initial_nesting (Some x) ≤ deep)

  lock-sound : (l : ℕ) (m : Tokens) (y : Initial × Tokens) → (plan.behind_make (codes "create") n.Lock m >>= plan.created) ≡ Some y → SoundInitial (lexeme.Key key.Lock l ∷ m) y.1 y.0
  lock-sound l m y h =
      let w = make_ok (codes "create") n.Lock m plan.created y h in
      let c = created_ok n.Lock w.r y w.found in
      let at : m ≡ (lexeme.Key key.Dollar w.l ∷ lexeme.Name w.z w.k ∷ lexeme.Key key.LParen w.j ∷ lexeme.Key key.RParen c.0 ∷ y.1) = w.at ∙ ap (λ q. lexeme.Key key.Dollar w.l ∷ lexeme.Name w.z w.k ∷ lexeme.Key key.LParen w.j ∷ q) c.1 in
      subst (SoundInitial (lexeme.Key key.Lock l ∷ m) y.1) c.2 (subst (λ q. ReadsInitial (lexeme.Key key.Lock l ∷ q) y.1 n.Lock) (sym at) (g.from_lock w.named), omega arith)

  semaphore-sound : (l : ℕ) (m : Tokens) (y : Initial × Tokens) → (plan.behind_make (codes "create") n.Lock m >>= λ _. plan.semaphore_of) ≡ Some y → SoundInitial (lexeme.Key key.Semaphore l ∷ m) y.1 y.0
  semaphore-sound l m y h =
      let w = make_ok (codes "create") n.Lock m (λ _. plan.semaphore_of) y h in
      let v = semaphore_ok w.r y w.found in
      let c = created_ok (n.Semaphore v.0) v.2 y v.4 in
      let at : m ≡ (lexeme.Key key.Dollar w.l ∷ lexeme.Name w.z w.k ∷ lexeme.Key key.LParen w.j ∷ lexeme.Int v.0 v.1 ∷ lexeme.Key key.RParen c.0 ∷ y.1) =
      w.at ∙ ap (λ q. lexeme.Key key.Dollar w.l ∷ lexeme.Name w.z w.k ∷ lexeme.Key key.LParen w.j ∷ q) (v.3 ∙ ap (λ q. lexeme.Int v.0 v.1 ∷ q) c.1) in
      subst (SoundInitial (lexeme.Key key.Semaphore l ∷ m) y.1) c.2 (subst (λ q. ReadsInitial (lexeme.Key key.Semaphore l ∷ q) y.1 (n.Semaphore v.0)) (sym at) (g.from_semaphore w.named), omega arith)

  empty-sound : (l k j : ℕ) (a : Tokens) (s : Shape) (m : Tokens) (y : Initial × Tokens) → ReadsShape a (lexeme.Key key.RBracket j ∷ m) s → shape_nesting s ≤ deep →
      (plan.behind_make (codes "new") s m >>= λ t. plan.created (n.Empty t)) ≡ Some y → SoundInitial (lexeme.Key key.Array l ∷ lexeme.Key key.LBracket k ∷ a) y.1 y.0
  empty-sound l k j a s m y p f h =
      let w = make_ok (codes "new") s m (λ t. plan.created (n.Empty t)) y h in
      let c = created_ok (n.Empty s) w.r y w.found in
      let at : m ≡ (lexeme.Key key.Dollar w.l ∷ lexeme.Name w.z w.k ∷ lexeme.Key key.LParen w.j ∷ lexeme.Key key.RParen c.0 ∷ y.1) = w.at ∙ ap (λ q. lexeme.Key key.Dollar w.l ∷ lexeme.Name w.z w.k ∷ lexeme.Key key.LParen w.j ∷ q) c.1 in
      subst (SoundInitial (lexeme.Key key.Array l ∷ lexeme.Key key.LBracket k ∷ a) y.1) c.2 (g.from_array w.named (subst (λ q. ReadsShape a (lexeme.Key key.RBracket j ∷ q) s) at p), f)

  array-sound : (l k : ℕ) (a : Tokens) (y : Initial × Tokens) → (shape deep a >>= bracketed >>= plan.behind_make (codes "new") >>= λ t. plan.created (n.Empty t)) ≡ Some y →
      SoundInitial (lexeme.Key key.Array l ∷ lexeme.Key key.LBracket k ∷ a) y.1 y.0
  array-sound l k a y h =
      let b = bind_ok (shape deep a >>= bracketed >>= plan.behind_make (codes "new")) (λ t. plan.created (n.Empty t)) h in
      let c = bind_ok (shape deep a >>= bracketed) (plan.behind_make (codes "new")) b.1 in
      let d = bracketed_ok (shape deep a) c.0 c.1 in
      let s = type-sound a (c.0.0, lexeme.Key key.RBracket d.0 ∷ c.0.1) d.1 in
      empty-sound l k d.0 a c.0.0 c.0.1 y s.0 s.1 (bind_some c.2 (λ t. plan.created (n.Empty t)) ∙ b.2)

  signed_initial : (ts : Tokens) (y : Initial × Tokens) → (plan.signed_at ts >>= λ x r. Some (n.Literal x, r)) ≡ Some y → SoundInitial ts y.1 y.0
  signed_initial ts y h =
      let b = bind_ok (plan.signed_at ts) _ h in
      same_found (λ z q. SoundInitial ts q z) (n.Literal b.0.0) b.0.1 y b.2 (g.from_literal (signed-sound ts b.0 b.1), omega arith)

  initial-sound : (ts : Tokens) (y : Initial × Tokens) → plan.initial deep ts ≡ Some y → SoundInitial ts y.1 y.0
  initial-sound (lexeme.Key key.Lock l ∷ m) y h = lock-sound l m y h
  initial-sound (lexeme.Key key.Semaphore l ∷ m) y h = semaphore-sound l m y h
  initial-sound (lexeme.Key key.Array l ∷ lexeme.Key key.LBracket k ∷ m) y h = array-sound l k m y h
  initial-sound ts y h = signed_initial ts y h

  abbrev SoundPart : Tokens → Part × Tokens → Type 0
  SoundPart ts y = ReadsPart ts y.1 y.0 × (part_nesting y.0 ≤ deep)

  node_var_of-sound : (x : List ℕ) (l k j : ℕ) (m : Tokens) (s : Shape) (q : Tokens) (y : Part × Tokens) → ReadsShape m q s → shape_nesting s ≤ deep → plan.node_var_of deep x l s q ≡ Some y →
      SoundPart (lexeme.Key key.Nodevar l ∷ lexeme.Name x k ∷ lexeme.Key key.Colon j ∷ m) y
  node_var_of-sound x l k j m s (lexeme.Key key.Becomes i ∷ q) y p f h =
      let b = bind_ok (plan.initial deep q) _ h in
      let w = initial-sound q b.0 b.1 in
      same_found (λ z q. SoundPart (lexeme.Key key.Nodevar l ∷ lexeme.Name x k ∷ lexeme.Key key.Colon j ∷ m) (z, q)) (ANodeVar (record { name = x; shape = s; first = Some b.0.0; line = l })) b.0.1 y b.2
      (g.node_var_as p w.0, omega (arith, f, w.1))
  node_var_of-sound x l k j m s q y p f h =
      same_found (λ z q. SoundPart (lexeme.Key key.Nodevar l ∷ lexeme.Name x k ∷ lexeme.Key key.Colon j ∷ m) (z, q)) (ANodeVar (record { name = x; shape = s; first = None; line = l })) q y h (g.node_var p, omega (arith, f))

  cluster_of-sound : (x : List ℕ) (l k j h : ℕ) (a : Tokens) (y : Part × Tokens) → plan.cluster_of deep x l a ≡ Some y → SoundPart (lexeme.Name x l ∷ lexeme.Key key.Equals k ∷ lexeme.Key key.Cluster j ∷ lexeme.Key key.Is h ∷ a) y
  cluster_of-sound x l k j h a y e =
      let b = bind_ok (names (length a) a >>= rep_key) _ e in
      let c = rep_ok (names (length a) a) b.0 b.1 in
      let t = bind_ok (shape deep b.0.1) _ b.2 in
      let u = bind_ok (plan.routines deep (suc (length t.0.1)) t.0.1) _ t.2 in
      let xs = names-sound (length a) a (b.0.0, lexeme.Key key.Rep c.0 ∷ lexeme.Key key.Equals c.1 ∷ b.0.1) c.2 in
      let s = type-sound b.0.1 t.0 t.1 in
      let rs = routines-sound (suc (length t.0.1)) t.0.1 u.0 u.1 in
      own_ok (λ (v : Part) (q : Tokens). SoundPart (lexeme.Name x l ∷ lexeme.Key key.Equals k ∷ lexeme.Key key.Cluster j ∷ lexeme.Key key.Is h ∷ a) (v, q)) x (ACluster x b.0.0 t.0.0 u.0.0 l) u.0.1 y u.2
      (λ z m i r f w. (g.cluster xs s.0 (subst (λ q. ReadsRoutines t.0.1 q u.0.0) w rs.0) f, omega (arith, s.1, rs.1)))

  pub part-sound : (ts : Tokens) (y : Part × Tokens) → plan.part deep ts ≡ Some y → SoundPart ts y
  unfolding plan.part
  part-sound (lexeme.Key key.Nodevar l ∷ lexeme.Name x k ∷ lexeme.Key key.Colon j ∷ m) y h =
      let b = bind_ok (shape deep m) _ h in
      let s = type-sound m b.0 b.1 in
      node_var_of-sound x l k j m b.0.0 b.0.1 y s.0 s.1 b.2
  part-sound (lexeme.Key key.Node l ∷ lexeme.Int x k ∷ lexeme.Key key.Is j ∷ m) y h =
      let b = bind_ok (plan.node_parts (suc (length m)) m) _ h in
      same_found (λ z q. SoundPart (lexeme.Key key.Node l ∷ lexeme.Int x k ∷ lexeme.Key key.Is j ∷ m) (z, q)) (ANode (record { number = x; parts = b.0.0; line = l })) b.0.1 y b.2
      (g.node (node_parts-sound (suc (length m)) m b.0 b.1), omega arith)
  part-sound (lexeme.Name x l ∷ lexeme.Key key.Equals k ∷ lexeme.Key key.Proc j ∷ lexeme.Key key.LParen i ∷ m) y h =
      let b = bind_ok (plan.routine_of deep x l m) _ h in
      let s = routine_of-sound x l k j i m b.0 b.1 in
      same_found (λ z q. SoundPart (lexeme.Name x l ∷ lexeme.Key key.Equals k ∷ lexeme.Key key.Proc j ∷ lexeme.Key key.LParen i ∷ m) (z, q)) (ARoutine b.0.0) b.0.1 y b.2 (g.a_routine s.0, s.1)
  part-sound (lexeme.Name x l ∷ lexeme.Key key.Equals k ∷ lexeme.Key key.Cluster j ∷ lexeme.Key key.Is i ∷ m) y h = cluster_of-sound x l k j i m y h
  part-sound (lexeme.Name x l ∷ lexeme.Key key.Equals k ∷ m) y h =
      let b = bind_ok (shape deep m) _ h in
      let s = type-sound m b.0 b.1 in
      same_found (λ z q. SoundPart (lexeme.Name x l ∷ lexeme.Key key.Equals k ∷ m) (z, q)) (AnEquate (record { name = x; shape = b.0.0; line = l })) b.0.1 y b.2 (g.equate s.0, s.1)
  part-sound _ y h = absurd cc

  abbrev SoundParts : Tokens → List Part → Type 0
  SoundParts ts xs = ReadsParts ts xs × (deepest (map part_nesting xs) ≤ deep)

  all-sound : (xs : List Part) → ◌≡◌ {A = Option (List Part)} (Some []) (Some xs) → SoundParts [] xs
  all-sound xs h = let same : ◌≡◌ {A = List Part} [] xs = cc in subst (SoundParts []) same (g.no_parts, omega arith)

  parts-sound : (n : ℕ) (ts : Tokens) (xs : List Part) → plan.parts deep n ts ≡ Some xs → SoundParts ts xs
  unfolding plan.parts
  parts-sound zero [] xs h = all-sound xs h
  parts-sound (suc n) [] xs h = all-sound xs h
  parts-sound zero (t ∷ ts) xs h = absurd cc
  parts-sound (suc n) (t ∷ ts) xs h =
      after_ok (SoundParts (t ∷ ts)) (plan.parts deep n) (plan.part deep (t ∷ ts)) xs h
      (λ x ys e w. let s = part-sound (t ∷ ts) x e in let v = parts-sound n x.1 ys w in (g.part_and s.0 v.0, omega (arith, s.1, v.1)))

  made-sound : (ts : Tokens) (o : Option (List Part)) (p : Program) → ((xs : List Part) → o ≡ Some xs → SoundParts ts xs) → plan.made_of o ≡ Some p → ReadsProgram ts p × (program_nesting p ≤ deep)
  made-sound ts (Some xs) p f h =
      let same : ◌≡◌ {A = Program} (program_of empty_program xs) p = cc in
      let s = f xs refl in
      let few : program_nesting (program_of empty_program xs) ≤ deep = omega (arith, s.1, nests-Program xs) in
      (record { parts = xs; read = s.0; made = sym same }, subst (λ z. program_nesting z ≤ deep) same few)
  made-sound ts None p f h = absurd cc

  -- A program that is found is read so, and has no more levels.
  pub program_within-sound : (ts : Tokens) (p : Program) → plan.program_within deep ts ≡ Some p → ReadsProgram ts p × (program_nesting p ≤ deep)
  program_within-sound ts p h = made-sound ts (plan.parts deep (length ts) ts) p (parts-sound (length ts) ts) h

pub program-sound : (ts : Tokens) (p : Program) → plan.program ts ≡ Some p → ReadsProgram ts p × (program_nesting p ≤ 200)
program-sound ts p h = program_within-sound deepest_tree ts p h
