-- The process that the node of a typed program starts.
use Rattle.std.proofs.Common.{◌≡◌, ◌≢◌, ◌<◌, ◌≤◌, ℕ, zero, suc, ◌+◌, Bool, true, false, List, [], ◌∷◌, length, Option, Some, None, All, slice_get, get_or, refl, sym, ◌∙◌, ap, subst, arith}
use Rattle.std.specs.Option.{option_map}
use Rattle.std.specs.Str.{bytes_eq}
use Rattle.std.proofs.lemmas.List.Elements.{All-get_or}
use Rattle.std.proofs.lemmas.Option.{get_or_from_slice_get, slice_get_within}
use Rattle.std.proofs.lemmas.Slice.Eq.{bytes_eq-Decides}
use Rattle.clu_tree.specs.Typed.{HasRoutine, IsTyped, IsTypedNode, IsTypedPart, IsTypedRoutine}
use Rattle.clu_tree.specs.declared.value.Value.{Value}
use Rattle.clu_tree.specs.declared.program.Routine.{Routine}
use Rattle.clu_tree.specs.declared.program.NodePart.TheVariants.{Start}
use Rattle.clu_tree.specs.declared.program.NodeDecl.{NodeDecl}
use Rattle.clu_tree.specs.declared.program.Program.{Program}
use Rattle.machine_rules.specs.declared.frame.Frame.{Frame}
use Rattle.machine_rules.specs.Row.{start}
use Rattle.machine_rules.specs.Typing.{ArgsFit}
use Rattle.world_rules.specs.Node.{routine_named}
use Rattle.node_core.specs.Seen.{StartsAs}

by_test : {P : Type 0} (b : Bool) → (b ≡ true → P) → (b ≡ false → P) → P
by_test true h k = h refl
by_test false h k = k refl

some_is : {A : Type 0} (a b : A) → Some a ≡ Some b → a ≡ b
some_is a b h = cc

-- the routine that is found stands at its number
pub named_at : (x : List ℕ) (k : ℕ) (rs : List Routine) (i : ℕ) (r : Routine) → routine_named x k rs ≡ Some (i, r) → (j : ℕ) × (i ≡ k + j) × (slice_get rs j ≡ Some r)
named_at x k [] i r h = cc
named_at x k (q ∷ qs) i r h = by_test (bytes_eq x q.name)
    (λ e. let n : k ≡ i = ap number_of (rw e at h) in
    let same : Some q ≡ Some r = ap routine_of (rw e at h) in
    (0, omega arith, same))
    (λ e. let rest = named_at x (suc k) qs i r (rw e at h) in (suc rest.0, rest.1 ∙ omega arith, rest.2))
  where
    number_of : Option (ℕ × Routine) → ℕ
    number_of None = i
    number_of (Some p) = p.0

    routine_of : Option (ℕ × Routine) → Option Routine
    routine_of None = None
    routine_of (Some p) = Some p.1

some_none : {A : Type 0} (a : A) → Some a ≡ None → ⊥
some_none a h = cc

-- a routine of this name would be found
pub found : (x : List ℕ) (k : ℕ) (rs : List Routine) → routine_named x k rs ≡ None → (j : ℕ) (d : Routine) → j < length rs → (get_or rs j d).name ≡ x → ⊥
found x k [] h j d l e = absurd (omega (arith, l))
found x k (q ∷ qs) h zero d l e = let same : bytes_eq x q.name ≡ true = (bytes_eq-Decides x q.name).1 (sym e) in some_none (k, q) (rw same at h)
found x k (q ∷ qs) h (suc j) d l e = by_test (bytes_eq x q.name)
    (λ same. some_none (k, q) (rw same at h))
    (λ other. found x (suc k) qs (rw other at h) j d (omega (arith, l)) e)

one_item : {A : Type 0} (xs : List A) (x : A) → length xs ≤ 1 → Some x ≡ slice_get xs 0 → xs ≡ x ∷ []
one_item [] x n h = cc
one_item (y ∷ []) x n h = ap (λ (z : _). z ∷ []) (some_is _ _ (sym h))
one_item (y ∷ z ∷ ys) x n h = absurd (omega arith)

no_item : {A : Type 0} (xs : List A) → None ≡ slice_get xs 0 → xs ≡ []
no_item [] h = refl
no_item (y ∷ ys) h = cc

all_at : {X : Type 0} (P : X → Type 0) (xs : List X) (x : X) → All P xs → Some x ≡ slice_get xs 0 → P x
all_at P xs x h e = subst P (get_or_from_slice_get xs 0 x x (sym e)) (All-get_or P xs 0 x (slice_get_within xs 0 x (sym e)) h)

-- the block of a typed program, and what is known of it
pub record Block (program : Program) (d : NodeDecl) : Type 0 where
  pub alone : program.nodes ≡ d ∷ []
  pub typed : IsTypedNode program d

pub block_of : (program : Program) (d : NodeDecl) → IsTyped program → Some d ≡ slice_get program.nodes 0 → Block program d
block_of program d typed h = record {
  alone = one_item program.nodes d (omega (arith, typed.one_node)) h;
  typed = all_at (IsTypedNode program) program.nodes d typed.nodes h;
}

pub starts_none : (program : Program) (d : NodeDecl) → IsTyped program → Some d ≡ slice_get program.nodes 0 → None ≡ slice_get d.parts 0 → StartsAs program None
starts_none program d typed h none = rw ((block_of program d typed h).alone, no_item d.parts none) refl

pub record Begun (program : Program) (name : List ℕ) (args : List Value) : Type 0 where
  pub there : HasRoutine program name
  pub bare : args ≡ []

pub begun : (program : Program) (d : NodeDecl) (name : List ℕ) (args : List Value) (line : ℕ) → IsTyped program → Some d ≡ slice_get program.nodes 0 → Some (Start name args line) ≡ slice_get d.parts 0 → Begun program name args
begun program d name args line typed h part =
    let p : IsTypedPart program (Start name args line) = all_at (IsTypedPart program) d.parts (Start name args line) (block_of program d typed h).typed.parts part in
    record { there = p.0; bare = p.1 }

-- the routine that is started is there
pub is_named : (program : Program) (name : List ℕ) → HasRoutine program name → None ≡ option_map (λ found. found.0) (routine_named name 0 program.routines) → ⊥
is_named program name there none = found name 0 program.routines (nothing (routine_named name 0 program.routines) none) there.0 there.1 there.2 (ap (λ (r : Routine). r.name) there.3 ∙ there.4)
  where
    nothing : (o : Option (ℕ × Routine)) → None ≡ option_map (λ found. found.0) o → o ≡ None
    nothing None h = refl
    nothing (Some p) h = cc

pub record Named (program : Program) (name : List ℕ) (k : ℕ) : Type 0 where
  pub routine : Routine
  pub named : routine_named name 0 program.routines ≡ Some (k, routine)
  pub at : slice_get program.routines k ≡ Some routine

pub named : (program : Program) (name : List ℕ) (k : ℕ) → Some k ≡ option_map (λ found. found.0) (routine_named name 0 program.routines) → Named program name k
named program name k h = by_found (routine_named name 0 program.routines) refl h
  where
    by_found : (o : Option (ℕ × Routine)) → routine_named name 0 program.routines ≡ o → Some k ≡ option_map (λ found. found.0) o → Named program name k
    by_found None e h = cc
    by_found (Some p) e h =
        let n : p.0 ≡ k = some_is _ _ (sym h) in
        let is : routine_named name 0 program.routines ≡ Some (k, p.1) = e ∙ ap (λ (m : ℕ). Some (m, p.1)) n in
        let place = named_at name 0 program.routines k p.1 is in
        let same : place.0 ≡ k = omega (arith, place.1) in
        record { routine = p.1; named = is; at = subst (λ (m : ℕ). slice_get program.routines m ≡ Some p.1) same place.2 }

-- a routine of a typed program takes no arguments
pub takes_none : (program : Program) (k : ℕ) (r : Routine) → IsTyped program → slice_get program.routines k ≡ Some r → ArgsFit [] r.params
takes_none program k r typed at =
    let t : IsTypedRoutine r = subst IsTypedRoutine (get_or_from_slice_get program.routines k r r at) (All-get_or IsTypedRoutine program.routines k r (slice_get_within program.routines k r at) typed.routines) in
    rw t.params tt

-- the process with its first frames is the one that the node starts
pub starts_with : (program : Program) (d : NodeDecl) (name : List ℕ) (args : List Value) (line k : ℕ) (frames : List Frame) → IsTyped program → Some d ≡ slice_get program.nodes 0 → Some (Start name args line) ≡ slice_get d.parts 0 →
    (n : Named program name k) → frames ≡ start k n.routine [] → StartsAs program (Some frames)
starts_with program d name args line k frames typed h part n first =
    let b = block_of program d typed h in
    let parts : d.parts ≡ Start name args line ∷ [] = one_item d.parts (Start name args line) b.typed.few part in
    rw (b.alone, parts, (begun program d name args line typed h part).bare, n.named, first) refl

pub not_over : (frames : List Frame) (k : ℕ) (r : Routine) → frames ≡ start k r [] → frames ≢ []
not_over frames k r e over = full (sym e ∙ over)
  where
    full : start k r [] ≡ [] → ⊥
    full h = cc
