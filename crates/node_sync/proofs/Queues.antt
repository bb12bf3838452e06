-- A queue from which a process is taken out.
use Rattle.std.proofs.Common.{◌≡◌, ℕ, Bool, true, false, not, cond, ◌||◌, List, [], ◌∷◌, length, nat_eq, refl, sym, ap, subst, ◌∙◌, arith}
use Rattle.std.specs.Prelude.{filter}
use Rattle.std.specs.Bool.{OnFalse}
use Rattle.std.specs.List.{list_any, items_where_true}
use Rattle.std.specs.List.Retain.{IsFiltered, ReturnsInTurn}
use Rattle.std.proofs.lemmas.Bool.{false≢true}

-- all but the process, in their order
abbrev pub others : ℕ → List ℕ → List ℕ
others pid queue = filter (λ other. not (nat_eq other pid)) queue

-- where the process isn't there, nothing changes
pub others-absent : (pid : ℕ) (queue : List ℕ) → list_any (λ other. nat_eq other pid) queue ≡ false → others pid queue ≡ queue
others-absent pid [] absent = refl
others-absent pid (other ∷ queue) absent = at (nat_eq other pid) (λ none. others-absent pid queue none) absent
  where
    at : (same : Bool) → (list_any (λ other. nat_eq other pid) queue ≡ false → others pid queue ≡ queue) → (same || list_any (λ other. nat_eq other pid) queue) ≡ false → cond (not same) (other ∷ others pid queue) (others pid queue) ≡ other ∷ queue
    at true more none = absurd (false≢true (sym none))
    at false more none = ap (λ rest. other ∷ rest) (more none)

-- a closure that answers by a test and stays as it was leaves those that pass
module _ {F : Type 0} (R : F → ℕ → Bool → F → Type 0) (test : ℕ → Bool) (f : F) (says : (x : ℕ) (b : Bool) (g : F) → R f x b g → (b ≡ test x) × (g ≡ f)) where
  kept_at : (b : Bool) (bs : List Bool) (x : ℕ) (xs : List ℕ) → items_where_true (b ∷ bs) (x ∷ xs) ≡ cond b (x ∷ items_where_true bs xs) (items_where_true bs xs)
  kept_at true bs x xs = refl
  kept_at false bs x xs = refl

  in_turn : (bs : List Bool) (xs : List ℕ) (g q : F) → g ≡ f → length bs ≡ length xs → ReturnsInTurn R g bs xs q → items_where_true bs xs ≡ filter test xs
  in_turn [] [] g q is len told = refl
  in_turn [] (x ∷ xs) g q is len told = absurd (omega arith)
  in_turn (b ∷ bs) [] g q is len told = absurd told
  in_turn (b ∷ bs) (x ∷ xs) g q is len told =
      let said = says x b told.0 (subst (λ h. R h x b told.0) is told.1) in
      kept_at b bs x xs
      ∙ ap (λ t. cond t (x ∷ items_where_true bs xs) (items_where_true bs xs)) said.0
      ∙ ap (λ rest. cond (test x) (x ∷ rest) rest) (in_turn bs xs told.0 q said.1 (omega arith) told.2)

  pub filter-retained : (xs ys : List ℕ) → IsFiltered R f xs ys → ys ≡ filter test xs
  filter-retained xs ys kept = kept.4 ∙ in_turn kept.0 xs f kept.1 refl kept.2 kept.3

pub OnFalse_if : {P : Type 0} (b : Bool) → (b ≡ false → P) → OnFalse b P
OnFalse_if true p = tt
OnFalse_if false p = p refl
