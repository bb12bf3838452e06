-- The nodes whose flag is up, node by node.
use Rattle.std.proofs.Common.{◌≡◌, ℕ, zero, suc, ◌+◌, ◌-◌, ◌<◌, ◌≤◌, Bool, true, false, ◌≢◌, cond, not, ◌&&◌, ◌||◌, List, [], ◌∷◌, length, set, get_or, replicate, refl, sym, ap, ◌∙◌, arith, inl, inr}
use Rattle.std.proofs.lemmas.Bool.{cases_lt, cases_order, eq-eqb, ne_eqb}
use Rattle.std.proofs.lemmas.List.{get_or-set_same, get_or-set_other}
use Rattle.std.specs.Prelude.{nat_eq}
use Rattle.std.specs.List.{list_all}
use Rattle.std.specs.Ordering.{nat_cmp}
use Rattle.std.specs.Cmp.{nat_cmp_total, unsigned_tied}
use Rattle.std.specs.FinSet.{empty, insert, remove, contains, contains-empty, contains-insert, contains-remove, same_set, nat_cmp-IsAntisymmetric}
use Rattle.halt_all.specs.Halting.{flagged}

-- the node that is put in, and each other
has_put : (start node : ℕ) (flags : List Bool) → contains (insert (flagged (suc start) flags) start) node ≡ (nat_eq node start || contains (flagged (suc start) flags) node)
has_put start node flags = contains-insert nat_cmp_total (flagged (suc start) flags) start node ∙ ap (λ b. b || contains (flagged (suc start) flags) node) (unsigned_tied node start)

-- no node before the first
flagged_below : (start node : ℕ) (flags : List Bool) → node < start → contains (flagged start flags) node ≡ false
flagged_below start node [] l = contains-empty nat_cmp node
flagged_below start node (true ∷ flags) l =
    let other : nat_eq node start ≡ false = ne_eqb node start (omega arith) in
    has_put start node flags ∙ rw other (flagged_below (suc start) node flags (omega arith))
flagged_below start node (false ∷ flags) l = flagged_below (suc start) node flags (omega arith)

-- the flag of each other
pub flagged_at : (start k : ℕ) (flags : List Bool) → contains (flagged start flags) (start + k) ≡ get_or flags k false
flagged_at start k [] = contains-empty nat_cmp (start + k)
flagged_at start zero (true ∷ flags) = has_put start (start + zero) flags ∙ rw (eq-eqb (start + zero) start (omega arith)) refl
flagged_at start zero (false ∷ flags) = flagged_below (suc start) (start + zero) flags (omega arith)
flagged_at start (suc k) (true ∷ flags) =
    let further : start + suc k ≡ suc start + k = omega arith in
    has_put start (start + suc k) flags ∙ rw (ne_eqb (start + suc k) start (omega arith), further) (flagged_at (suc start) k flags)
flagged_at start (suc k) (false ∷ flags) =
    let further : start + suc k ≡ suc start + k = omega arith in
    rw further (flagged_at (suc start) k flags)

set_at : (start i k : ℕ) (flags : List Bool) (flag : Bool) → i < length flags →
    contains (flagged start (set flags i flag)) (start + k) ≡ cond (nat_eq (start + k) (start + i)) flag (contains (flagged start flags) (start + k))
set_at start i k flags flag l = elim (cases_order k i) [
  | inl e ↦ flagged_at start k (set flags i flag) ∙ rw (e, eq-eqb (start + i) (start + i) refl) (get_or-set_same flags i flag false l)
  | inr other ↦
      let apart : k ≢ i = λ e. elim other [ inl less ↦ omega arith | inr more ↦ omega arith ] in
      let far : nat_eq (start + k) (start + i) ≡ false = ne_eqb (start + k) (start + i) (λ e. apart (omega arith)) in
      flagged_at start k (set flags i flag) ∙ get_or-set_other flags i k flag false apart ∙ rw far (sym (flagged_at start k flags))
]

-- one flag is set, and the others stay
flagged-set : (start i node : ℕ) (flags : List Bool) (flag : Bool) → i < length flags →
    contains (flagged start (set flags i flag)) node ≡ cond (nat_eq node (start + i)) flag (contains (flagged start flags) node)
flagged-set start i node flags flag l = elim (cases_lt node start) [
  | inl below ↦
      let far : nat_eq node (start + i) ≡ false = ne_eqb node (start + i) (λ e. omega arith) in
      flagged_below start node (set flags i flag) below ∙ rw far (sym (flagged_below start node flags below))
  | inr from ↦
      let e : node ≡ start + (node - start) = omega arith in
      rw e (set_at start i (node - start) flags flag l)
]

chosen_or : (is_it has : Bool) → cond is_it true has ≡ (is_it || has)
chosen_or true has = refl
chosen_or false has = refl

chosen_and : (is_it has : Bool) → cond is_it false has ≡ (not is_it && has)
chosen_and true has = refl
chosen_and false has = refl

pub flagged_raised : (start i : ℕ) (flags : List Bool) → i < length flags → flagged start (set flags i true) ≡ insert (flagged start flags) (start + i)
flagged_raised start i flags l = same_set nat_cmp_total nat_cmp-IsAntisymmetric (flagged start (set flags i true)) (insert (flagged start flags) (start + i)) (λ q.
    flagged-set start i q flags true l ∙ chosen_or (nat_eq q (start + i)) (contains (flagged start flags) q)
    ∙ sym (contains-insert nat_cmp_total (flagged start flags) (start + i) q ∙ ap (λ b. b || contains (flagged start flags) q) (unsigned_tied q (start + i))))

pub flagged_lowered : (start i : ℕ) (flags : List Bool) → i < length flags → flagged start (set flags i false) ≡ remove (flagged start flags) (start + i)
flagged_lowered start i flags l = same_set nat_cmp_total nat_cmp-IsAntisymmetric (flagged start (set flags i false)) (remove (flagged start flags) (start + i)) (λ q.
    flagged-set start i q flags false l ∙ chosen_and (nat_eq q (start + i)) (contains (flagged start flags) q)
    ∙ sym (contains-remove nat_cmp_total (flagged start flags) (start + i) q ∙ ap (λ b. not b && contains (flagged start flags) q) (unsigned_tied q (start + i))))

pub flagged-replicate : (start n : ℕ) → flagged start (replicate n false) ≡ empty
flagged-replicate start zero = refl
flagged-replicate start (suc n) = flagged-replicate (suc start) n

-- ---- all flags are up

all_up : (flags : List Bool) (k : ℕ) → list_all (λ f. f) flags ≡ true → k < length flags → get_or flags k false ≡ true
all_up [] k all l = absurd (omega arith)
all_up (true ∷ flags) zero all l = refl
all_up (true ∷ flags) (suc k) all l = all_up flags k all (omega arith)
all_up (false ∷ flags) k all l = cc

up_all : (flags : List Bool) → ((k : ℕ) → k < length flags → get_or flags k false ≡ true) → list_all (λ f. f) flags ≡ true
up_all [] up = refl
up_all (true ∷ flags) up = up_all flags (λ k l. up (suc k) (omega arith))
up_all (false ∷ flags) up = up 0 (omega arith)

pub each_halted : (flags : List Bool) → list_all (λ f. f) flags ≡ true → (node : ℕ) → 1 ≤ node → node ≤ length flags → contains (flagged 1 flags) node ≡ true
each_halted flags all node first last =
    let e : node ≡ 1 + (node - 1) = omega arith in
    rw e (flagged_at 1 (node - 1) flags ∙ all_up flags (node - 1) all (omega arith))

pub all_are_halted : (flags : List Bool) → ((node : ℕ) → 1 ≤ node → node ≤ length flags → contains (flagged 1 flags) node ≡ true) → list_all (λ f. f) flags ≡ true
all_are_halted flags each = up_all flags (λ k l. sym (flagged_at 1 k flags) ∙ each (1 + k) (omega arith) (omega arith))
