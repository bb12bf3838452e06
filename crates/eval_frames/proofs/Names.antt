-- Lemmas on variables by name.
use Rattle.std.proofs.Common.{◌≡◌, ℕ, zero, suc, ◌+◌, ◌<◌, Bool, true, false, List, [], ◌∷◌, ◌++◌, length, take, Option, Some, None, slice_set, get_or, refl, sym, ◌∙◌, ap, arith, add-one}
use Rattle.std.specs.Str.{bytes_eq}
use Rattle.std.proofs.lemmas.Slice.Eq.{bytes_eq-Decides}
use Rattle.clu_tree.specs.declared.value.Value.{Value}
use Rattle.clu_tree.specs.declared.shape.Shape.{Shape}
use Rattle.machine_rules.specs.declared.frame.Var.{Var}
use Rattle.machine_rules.specs.Frames.{found, declare, assign, before}
use Rattle.eval_frames.specs.Places.{IsMissing, IsFirst}

pub first-within : (x : List ℕ) (vs : List Var) (i : ℕ) → IsFirst x vs i → i < length vs
first-within x [] i h = elim h [ ]
first-within x (v ∷ vs) zero h = omega arith
first-within x (v ∷ vs) (suc i) h = omega (arith, first-within x vs i h.1)

pub found-missing : (x : List ℕ) (vs : List Var) → IsMissing x vs → found x vs ≡ None
found-missing x [] h = refl
found-missing x (v ∷ vs) h = rw h.0 (found-missing x vs h.1)

pub found-first : (x : List ℕ) (vs : List Var) (i : ℕ) (v : Var) → IsFirst x vs i → v ≡ get_or vs i v → found x vs ≡ Some v
found-first x [] i v h e = elim h [ ]
found-first x (w ∷ vs) zero v h e = rw h (ap Some (sym e))
found-first x (w ∷ vs) (suc i) v h e = rw h.0 (found-first x vs i v h.1 e)

pub declare-missing : (x : List ℕ) (s : Shape) (o : Option Value) (vs : List Var) → IsMissing x vs → declare x s o vs ≡ vs ++ record { name = x; shape = s; value = o } ∷ []
declare-missing x s o [] h = refl
declare-missing x s o (v ∷ vs) h = rw h.0 (ap (λ ws. v ∷ ws) (declare-missing x s o vs h.1))

pub declare-first : (x : List ℕ) (s : Shape) (o : Option Value) (vs : List Var) (i : ℕ) → IsFirst x vs i → declare x s o vs ≡ slice_set vs i (record { name = x; shape = s; value = o })
declare-first x s o [] i h = elim h [ ]
declare-first x s o (w ∷ vs) zero h = rw h refl
declare-first x s o (w ∷ vs) (suc i) h = rw h.0 (ap (λ ws. w ∷ ws) (declare-first x s o vs i h.1))

pub assign-missing : (x : List ℕ) (u : Value) (vs : List Var) → IsMissing x vs → assign x u vs ≡ None
assign-missing x u [] h = refl
assign-missing x u (v ∷ vs) h = rw (h.0, assign-missing x u vs h.1) refl

pub assign-first : (x : List ℕ) (u : Value) (vs : List Var) (i : ℕ) (v : Var) → IsFirst x vs i → v ≡ get_or vs i v → assign x u vs ≡ Some (slice_set vs i (record { name = x; shape = v.shape; value = Some u }))
assign-first x u [] i v h e = elim h [ ]
assign-first x u (w ∷ vs) zero v h e = let same : x ≡ w.name = (bytes_eq-Decides x w.name).0 h in rw (h, e, same) refl
assign-first x u (w ∷ vs) (suc i) v h e = rw (h.0, assign-first x u vs i v h.1 e) refl

pub first-at : (x : List ℕ) (vs : List Var) (i : ℕ) (d : Var) → i < length vs → IsMissing x (take i vs) → bytes_eq x (get_or vs i d).name ≡ true → IsFirst x vs i
first-at x [] i d l m h = absurd (omega (arith, l))
first-at x (v ∷ vs) zero d l m h = h
first-at x (v ∷ vs) (suc i) d l m h = (m.0, first-at x vs i d (omega (arith, l)) m.1 h)

missing-next : (x : List ℕ) (vs : List Var) (i : ℕ) (d : Var) → i < length vs → IsMissing x (take i vs) → bytes_eq x (get_or vs i d).name ≡ false → IsMissing x (take (suc i) vs)
missing-next x [] i d l m h = absurd (omega (arith, l))
missing-next x (v ∷ vs) zero d l m h = (h, tt)
missing-next x (v ∷ vs) (suc i) d l m h = (m.0, missing-next x vs i d (omega (arith, l)) m.1 h)

pub missing-more : (x : List ℕ) (vs : List Var) (i : ℕ) (d : Var) → i < length vs → IsMissing x (take i vs) → bytes_eq x (get_or vs i d).name ≡ false → IsMissing x (take (i + 1) vs)
missing-more x vs i d l m h = rw add-one (missing-next x vs i d l m h)

pub name-is : (x : List ℕ) (v w : Var) → v ≡ w → x ≡ v.name → bytes_eq x w.name ≡ true
name-is x v w e h = (bytes_eq-Decides x w.name).1 (h ∙ ap (λ (u : Var). u.name) e)

tested : (b : Bool) → (b ≡ true → ⊥) → b ≡ false
tested true h = absurd (h refl)
tested false h = refl

differ : false ≡ true → ⊥
differ e = cc

pub name-is-not : (x : List ℕ) (v w : Var) → v ≡ w → (x ≡ v.name → false ≡ true) → bytes_eq x w.name ≡ false
name-is-not x v w e h = tested _ (λ t. differ (h ((bytes_eq-Decides x w.name).0 t ∙ sym (ap (λ (u : Var). u.name) e))))

get_or-stays : (vs : List Var) (i : ℕ) (d : Var) → i < length vs → get_or vs i d ≡ get_or vs i (get_or vs i d)
get_or-stays [] i d l = absurd (omega (arith, l))
get_or-stays (v ∷ vs) zero d l = refl
get_or-stays (v ∷ vs) (suc i) d l = get_or-stays vs i d (omega (arith, l))

pub assign-at : (x : List ℕ) (u : Value) (vs ws : List Var) (i : ℕ) (d : Var) → IsFirst x vs i → ws ≡ vs → assign x u vs ≡ Some (slice_set vs i (record { name = x; shape = (get_or ws i d).shape; value = Some u }))
assign-at x u vs ws i d h e = rw e (assign-first x u vs i (get_or vs i d) h (get_or-stays vs i d (first-within x vs i h)))
