-- Types: what is found is read, and what is read is found.
use Rattle.std.proofs.Common.{◌≡◌, ℕ, zero, suc, ◌≤◌, max, map, Bool, true, false, List, [], ◌∷◌, length, Option, Some, None, refl, ap, subst, ◌∙◌, arith}
use Rattle.clu_tree.specs.declared.lexeme.Key.{Key}
use Rattle.clu_tree.specs.declared.lexeme.Key.TheVariants as key
use Rattle.clu_tree.specs.declared.lexeme.Lexeme.TheVariants as lexeme
use Rattle.clu_tree.specs.declared.shape.Shape.{Shape}
use Rattle.clu_tree.specs.declared.shape.Shape.TheVariants as s
use Rattle.clu_tree.specs.declared.shape.Named.{Named}
use Rattle.clu_grammar.specs.Grammar.{Tokens, type_of, field_of, ReadsShape, ReadsFields, type_word, type_name, array_type, record_type, oneof_type, last_field, field_and}
use Rattle.clu_grammar.specs.Nesting.{deepest, shape_nesting, named_nesting}
use Rattle.clu_grammar.specs.ExprPlan.{Found, Parser, ◌>>=◌, bracketed, fields_after, fields, type_word_at, shape}
use Rattle.clu_grammar.proofs.Binds.{bind_ok, same_found, bracketed_ok}
use Rattle.clu_grammar.proofs.Nests.{nests-Null, nests-Bool, nests-Int, nests-Char, nests-Str, nests-Lock, nests-Semaphore, nests-Cvt, nests-Rep, nests-TypeName, nests-Arr, nests-Rec, nests-Oneof, shape_nests_pos}
use Rattle.clu_grammar.proofs.Shrinks.{shrinks-shape, shrinks-fields}

-- ---- what is found is read

abbrev Sound : Parser Shape → ℕ → Type 0
Sound inner d = (ts : Tokens) (y : Shape × Tokens) → inner ts ≡ Some y → ReadsShape ts y.1 y.0 × (shape_nesting y.0 ≤ d)

abbrev SoundFields : Tokens → ℕ → List Named × Tokens → Type 0
SoundFields ts d y = ReadsFields ts y.1 y.0 × (deepest (map named_nesting y.0) ≤ d)

fields_after-sound : (d l k : ℕ) (others : Parser (List Named)) → ((ts : Tokens) (y : List Named × Tokens) → others ts ≡ Some y → SoundFields ts d y) →
    (x : List ℕ) (ts : Tokens) (t : Shape) (m : Tokens) (y : List Named × Tokens) → ReadsShape ts m t → shape_nesting t ≤ d → fields_after others x t m ≡ Some y →
    SoundFields (lexeme.Name x l ∷ lexeme.Key key.Colon k ∷ ts) d y
fields_after-sound d l k others ih x ts t (lexeme.Key key.Comma n ∷ m) y p f h =
    let b = bind_ok (others m) _ h in
    let i = ih m b.0 b.1 in
    same_found (λ z q. SoundFields (lexeme.Name x l ∷ lexeme.Key key.Colon k ∷ ts) d (z, q)) (field_of x t ∷ b.0.0) b.0.1 y b.2 (field_and p i.0, omega (arith, i.1, f))
fields_after-sound d l k others ih x ts t m y p f h =
    same_found (λ z q. SoundFields (lexeme.Name x l ∷ lexeme.Key key.Colon k ∷ ts) d (z, q)) (field_of x t ∷ []) m y h (last_field p, omega (arith, f))

fields_of-sound : (inner : Parser Shape) (d : ℕ) → Sound inner d → (n : ℕ) (ts : Tokens) (y : List Named × Tokens) → fields inner n ts ≡ Some y → SoundFields ts d y
unfolding fields
fields_of-sound inner d sound zero ts y h = absurd cc
fields_of-sound inner d sound (suc n) (lexeme.Name x l ∷ lexeme.Key key.Colon k ∷ m) y h =
    let b = bind_ok (inner m) _ h in
    let s = sound m b.0 b.1 in
    fields_after-sound d l k (fields inner n) (fields_of-sound inner d sound n) x m b.0.0 b.0.1 y s.0 s.1 b.2
fields_of-sound inner d sound (suc n) _ y h = absurd cc

-- A type that one word names has one level.
type_nests : (o : Key) (t : Shape) → type_of o ≡ Some t → shape_nesting t ≡ 1
type_nests key.Null t h = let same : s.Null ≡ t = cc in subst (λ z. shape_nesting z ≡ 1) same nests-Null
type_nests key.Bool t h = let same : s.Bool ≡ t = cc in subst (λ z. shape_nesting z ≡ 1) same nests-Bool
type_nests key.Int t h = let same : s.Int ≡ t = cc in subst (λ z. shape_nesting z ≡ 1) same nests-Int
type_nests key.Char t h = let same : s.Char ≡ t = cc in subst (λ z. shape_nesting z ≡ 1) same nests-Char
type_nests key.String t h = let same : s.Str ≡ t = cc in subst (λ z. shape_nesting z ≡ 1) same nests-Str
type_nests key.Lock t h = let same : s.Lock ≡ t = cc in subst (λ z. shape_nesting z ≡ 1) same nests-Lock
type_nests key.Semaphore t h = let same : s.Semaphore ≡ t = cc in subst (λ z. shape_nesting z ≡ 1) same nests-Semaphore
type_nests key.Cvt t h = let same : s.Cvt ≡ t = cc in subst (λ z. shape_nesting z ≡ 1) same nests-Cvt
type_nests key.Rep t h = let same : s.Rep ≡ t = cc in subst (λ z. shape_nesting z ≡ 1) same nests-Rep
type_nests _ t h = absurd cc

word-sound : (o : Key) (l d : ℕ) (r : Tokens) (y : Shape × Tokens) → type_word_at (type_of o) r ≡ Some y → ReadsShape (lexeme.Key o l ∷ r) y.1 y.0 × (shape_nesting y.0 ≤ suc d)
word-sound o l d r y h = go (type_of o) refl h
  where
    go : (t : Option Shape) → type_of o ≡ t → type_word_at t r ≡ Some y → ReadsShape (lexeme.Key o l ∷ r) y.1 y.0 × (shape_nesting y.0 ≤ suc d)
    go (Some t) e h = same_found (λ z q. ReadsShape (lexeme.Key o l ∷ r) q z × (shape_nesting z ≤ suc d)) t r y h (type_word e, omega (arith, type_nests o t e))
    go None e h = absurd cc

pub shape-sound : (d : ℕ) (ts : Tokens) (y : Shape × Tokens) → shape d ts ≡ Some y → ReadsShape ts y.1 y.0 × (shape_nesting y.0 ≤ d)
unfolding shape
shape-sound zero ts y h = absurd cc
shape-sound (suc d) (lexeme.Name x l ∷ r) y h = same_found (λ z q. ReadsShape (lexeme.Name x l ∷ r) q z × (shape_nesting z ≤ suc d)) (s.Name x) r y h (type_name, omega (arith, nests-TypeName x))
shape-sound (suc d) (lexeme.Key key.Array l ∷ lexeme.Key key.LBracket k ∷ m) y h =
    let b = bind_ok (shape d m >>= bracketed) _ h in
    let c = bracketed_ok (shape d m) b.0 b.1 in
    let i = shape-sound d m (b.0.0, lexeme.Key key.RBracket c.0 ∷ b.0.1) c.1 in
    same_found (λ z q. ReadsShape (lexeme.Key key.Array l ∷ lexeme.Key key.LBracket k ∷ m) q z × (shape_nesting z ≤ suc d)) (s.Arr b.0.0) b.0.1 y b.2 (array_type i.0, omega (arith, nests-Arr b.0.0, i.1))
shape-sound (suc d) (lexeme.Key key.Record l ∷ lexeme.Key key.LBracket k ∷ m) y h =
    let b = bind_ok (fields (shape d) (length m) m >>= bracketed) _ h in
    let c = bracketed_ok (fields (shape d) (length m) m) b.0 b.1 in
    let i = fields_of-sound (shape d) d (shape-sound d) (length m) m (b.0.0, lexeme.Key key.RBracket c.0 ∷ b.0.1) c.1 in
    same_found (λ z q. ReadsShape (lexeme.Key key.Record l ∷ lexeme.Key key.LBracket k ∷ m) q z × (shape_nesting z ≤ suc d)) (s.Rec b.0.0) b.0.1 y b.2 (record_type i.0, omega (arith, nests-Rec b.0.0, i.1))
shape-sound (suc d) (lexeme.Key key.Oneof l ∷ lexeme.Key key.LBracket k ∷ m) y h =
    let b = bind_ok (fields (shape d) (length m) m >>= bracketed) _ h in
    let c = bracketed_ok (fields (shape d) (length m) m) b.0 b.1 in
    let i = fields_of-sound (shape d) d (shape-sound d) (length m) m (b.0.0, lexeme.Key key.RBracket c.0 ∷ b.0.1) c.1 in
    same_found (λ z q. ReadsShape (lexeme.Key key.Oneof l ∷ lexeme.Key key.LBracket k ∷ m) q z × (shape_nesting z ≤ suc d)) (s.Oneof b.0.0) b.0.1 y b.2 (oneof_type i.0, omega (arith, nests-Oneof b.0.0, i.1))
shape-sound (suc d) (lexeme.Key o l ∷ r) y h = word-sound o l d r y h
shape-sound (suc d) _ y h = absurd cc

pub fields-sound : (d n : ℕ) (ts : Tokens) (y : List Named × Tokens) → fields (shape d) n ts ≡ Some y → ReadsFields ts y.1 y.0 × (deepest (map named_nesting y.0) ≤ d)
fields-sound d n ts y h = fields_of-sound (shape d) d (shape-sound d) n ts y h

-- ---- what is read is found

abbrev pub commas : Tokens → Bool
commas (lexeme.Key key.Comma _ ∷ _) = true
commas _ = false

word-finds : (o : Key) (l d : ℕ) (r : Tokens) (t : Shape) → type_of o ≡ Some t → shape (suc d) (lexeme.Key o l ∷ r) ≡ Some (t, r)
unfolding shape
word-finds key.Array l d r t h = absurd cc
word-finds key.Record l d r t h = absurd cc
word-finds key.Oneof l d r t h = absurd cc
word-finds o l d r t h = ap (λ (z : Option Shape). type_word_at z r) h

name-finds : (x : List ℕ) (l d : ℕ) (r : Tokens) → shape (suc d) (lexeme.Name x l ∷ r) ≡ Some (s.Name x, r)
unfolding shape
name-finds x l d r = refl

array-finds : (l k j d : ℕ) (m r : Tokens) (t : Shape) → shape d m ≡ Some (t, lexeme.Key key.RBracket j ∷ r) → shape (suc d) (lexeme.Key key.Array l ∷ lexeme.Key key.LBracket k ∷ m) ≡ Some (s.Arr t, r)
unfolding shape
array-finds l k j d m r t h = ap (λ (z : Found Shape). z >>= bracketed >>= λ t r. Some (s.Arr t, r)) h

record-finds : (l k j d : ℕ) (m r : Tokens) (fs : List Named) → fields (shape d) (length m) m ≡ Some (fs, lexeme.Key key.RBracket j ∷ r) →
    shape (suc d) (lexeme.Key key.Record l ∷ lexeme.Key key.LBracket k ∷ m) ≡ Some (s.Rec fs, r)
unfolding shape
record-finds l k j d m r fs h = ap (λ (z : Found (List Named)). z >>= bracketed >>= λ fs r. Some (s.Rec fs, r)) h

oneof-finds : (l k j d : ℕ) (m r : Tokens) (fs : List Named) → fields (shape d) (length m) m ≡ Some (fs, lexeme.Key key.RBracket j ∷ r) →
    shape (suc d) (lexeme.Key key.Oneof l ∷ lexeme.Key key.LBracket k ∷ m) ≡ Some (s.Oneof fs, r)
unfolding shape
oneof-finds l k j d m r fs h = ap (λ (z : Found (List Named)). z >>= bracketed >>= λ fs r. Some (s.Oneof fs, r)) h

last-finds : (inner : Parser Shape) (x : List ℕ) (l k n : ℕ) (m r : Tokens) (t : Shape) → inner m ≡ Some (t, r) → commas r ≡ false →
    fields inner (suc n) (lexeme.Name x l ∷ lexeme.Key key.Colon k ∷ m) ≡ Some (field_of x t ∷ [], r)
unfolding fields
last-finds inner x l k n m r t h c = ap (λ (z : Found Shape). z >>= fields_after (fields inner n) x) h ∙ go r c
  where
    go : (r : Tokens) → commas r ≡ false → fields_after (fields inner n) x t r ≡ Some (field_of x t ∷ [], r)
    go (lexeme.Key key.Comma n ∷ r) c = absurd cc
    go _ c = refl

and-finds : (inner : Parser Shape) (x : List ℕ) (l k j n : ℕ) (m q r : Tokens) (t : Shape) (fs : List Named) → inner m ≡ Some (t, lexeme.Key key.Comma j ∷ q) → fields inner n q ≡ Some (fs, r) →
    fields inner (suc n) (lexeme.Name x l ∷ lexeme.Key key.Colon k ∷ m) ≡ Some (field_of x t ∷ fs, r)
unfolding fields
and-finds inner x l k j n m q r t fs h g =
    ap (λ (z : Found Shape). z >>= fields_after (fields inner n) x) h ∙ ap (λ (z : Found (List Named)). z >>= λ fs r. Some (field_of x t ∷ fs, r)) g

mutual
  pub shape-finds : {ts r : Tokens} {t : Shape} → ReadsShape ts r t → (d : ℕ) → shape_nesting t ≤ d → shape d ts ≡ Some (t, r)
  shape-finds {t = t} p zero f = absurd (omega (arith, shape_nests_pos t))
  shape-finds {r = r} {t = t} (type_word {o = o} {n = l} h) (suc d) f = word-finds o l d r t h
  shape-finds {r = r} (type_name {x = x} {n = l}) (suc d) f = name-finds x l d r
  shape-finds {r = r} (array_type {n = l} {m = k} {k = j} {a = m} {t = t} p) (suc d) f = array-finds l k j d m r t (shape-finds p d (omega (arith, nests-Arr t)))
  shape-finds {r = r} (record_type {n = l} {m = k} {k = j} {a = m} {fs = fs} p) (suc d) f =
      record-finds l k j d m r fs (fields-finds p refl d (length m) (omega arith) (omega (arith, nests-Rec fs)))
  shape-finds {r = r} (oneof_type {n = l} {m = k} {k = j} {a = m} {fs = fs} p) (suc d) f =
      oneof-finds l k j d m r fs (fields-finds p refl d (length m) (omega arith) (omega (arith, nests-Oneof fs)))

  pub fields-finds : {ts r : Tokens} {fs : List Named} → ReadsFields ts r fs → commas r ≡ false → (d n : ℕ) → length ts ≤ n → deepest (map named_nesting fs) ≤ d →
      fields (shape d) n ts ≡ Some (fs, r)
  fields-finds p c d zero g f = absurd (omega (arith, shrinks-fields p))
  fields-finds {r = r} (last_field {x = x} {n = l} {m = k} {a = m} {t = t} p) c d (suc n) g f = last-finds (shape d) x l k n m r t (shape-finds p d (omega (arith, f))) c
  fields-finds {r = r} (field_and {x = x} {n = l} {m = k} {k = j} {a = m} {b = q} {t = t} {fs = fs} p w) c d (suc n) g f =
      and-finds (shape d) x l k j n m q r t fs (shape-finds p d (omega (arith, f))) (fields-finds w c d n (omega (arith, g, shrinks-shape p)) (omega (arith, f)))

-- Tokens begin with one type at most, and it ends at one place.
pub one_type : (ts r q : Tokens) (t u : Shape) → ReadsShape ts r t → ReadsShape ts q u → (t ≡ u) × (r ≡ q)
one_type ts r q t u v w =
    let d = max (shape_nesting t) (shape_nesting u) in
    let a = shape-finds v d (omega arith) in
    let b = shape-finds w d (omega arith) in
    let same : ◌≡◌ {A = Shape × Tokens} (t, r) (u, q) = cc in
    (ap (λ (z : Shape × Tokens). z.0) same, ap (λ (z : Shape × Tokens). z.1) same)
