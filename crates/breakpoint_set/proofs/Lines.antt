-- A list of lines, as the set of them, after an edit that is known line by line.
use Rattle.std.proofs.Common.{◌≡◌, ℕ, Bool, true, false, cond, not, ◌&&◌, ◌||◌, List, refl, sym, ap, ◌∙◌}
use Rattle.std.specs.List.{list_any}
use Rattle.std.specs.Ordering.{nat_cmp, eq_by_cmp}
use Rattle.std.specs.Cmp.{nat_cmp_total}
use Rattle.std.proofs.lemmas.Cmp.{eq_by_cmp_equiv}
use Rattle.std.specs.FinSet.{from_list, insert, remove, contains, contains-from_list, contains-insert, contains-remove, same_set, nat_cmp-IsAntisymmetric}

abbrev pub among : List ℕ → ℕ → Bool
among lines line = list_any (eq_by_cmp nat_cmp line) lines

pub contains_among : (lines : List ℕ) (line : ℕ) → contains (from_list {R = nat_cmp} lines) line ≡ among lines line
contains_among = contains-from_list nat_cmp_total

chosen_or : (is_it has : Bool) → cond is_it true has ≡ (is_it || has)
chosen_or true has = refl
chosen_or false has = refl

chosen_and : (is_it has : Bool) → cond is_it false has ≡ (not is_it && has)
chosen_and true has = refl
chosen_and false has = refl

-- the same line, whichever way it is compared
either_way : (k q : ℕ) → eq_by_cmp nat_cmp k q ≡ eq_by_cmp nat_cmp q k
either_way = (eq_by_cmp_equiv nat_cmp_total).symm

pub from_list_added : (old new : List ℕ) (k : ℕ) → ((q : ℕ) → among new q ≡ cond (eq_by_cmp nat_cmp k q) true (among old q)) →
    from_list {R = nat_cmp} new ≡ insert (from_list old) k
from_list_added old new k adds = same_set nat_cmp_total nat_cmp-IsAntisymmetric (from_list new) (insert (from_list old) k) (λ q.
    contains_among new q ∙ adds q ∙ chosen_or (eq_by_cmp nat_cmp k q) (among old q) ∙ ap (λ b. b || among old q) (either_way k q)
    ∙ sym (contains-insert nat_cmp_total (from_list old) k q ∙ ap (λ b. eq_by_cmp nat_cmp q k || b) (contains_among old q)))

pub from_list_taken : (old new : List ℕ) (k : ℕ) → ((q : ℕ) → among new q ≡ cond (eq_by_cmp nat_cmp k q) false (among old q)) →
    from_list {R = nat_cmp} new ≡ remove (from_list old) k
from_list_taken old new k takes = same_set nat_cmp_total nat_cmp-IsAntisymmetric (from_list new) (remove (from_list old) k) (λ q.
    contains_among new q ∙ takes q ∙ chosen_and (eq_by_cmp nat_cmp k q) (among old q) ∙ ap (λ b. not b && among old q) (either_way k q)
    ∙ sym (contains-remove nat_cmp_total (from_list old) k q ∙ ap (λ b. not (eq_by_cmp nat_cmp q k) && b) (contains_among old q)))
