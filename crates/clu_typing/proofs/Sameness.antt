-- Keys are compared exactly, so types are the same exactly where their keys are equal.
use Rattle.std.proofs.Common.{◌≡◌, ℕ, Bool, true, false, ◌&&◌, List, refl, sym, ap, subst, nat_eq, arith}
use Rattle.std.specs.Str.{bytes_eq}
use Rattle.std.specs.Bool.{Decides, one_answer}
use Rattle.std.specs.Cmp.{IsEquivalence}
use Rattle.std.proofs.lemmas.Slice.Eq.{bytes_eq-Decides}
use Rattle.clu_typing.specs.Same.{Key, Kind, Owned, Row, Array, Fields, Tags, End, More, key_eq, key}
use Rattle.clu_typing.specs.Types.{Declarations, same}
use Rattle.clu_typing.specs.Laws.{SameLaw}

pub and_true : (a b : Bool) → (a && b) ≡ true → (a ≡ true) × (b ≡ true)
and_true true b h = (refl, h)
and_true false b h = absurd cc

pub both_true : (a b : Bool) → a ≡ true → b ≡ true → (a && b) ≡ true
both_true a b h k = rw (h, k) refl

nat_yes : (a b : ℕ) → nat_eq a b ≡ true → a ≡ b
nat_yes a b h = search arith

nat_same : (a : ℕ) → nat_eq a a ≡ true
nat_same a = search arith

name_same : (x : List ℕ) → bytes_eq x x ≡ true
name_same x = (bytes_eq-Decides x x).1 refl

key_same : (a : Key) → key_eq a a ≡ true
key_same (Kind a) = nat_same a
key_same (Owned x) = name_same x
key_same (Row a) = nat_same a
key_same (Array a) = key_same a
key_same (Fields a) = key_same a
key_same (Tags a) = key_same a
key_same End = refl
key_same (More x a xs) = both_true _ _ (name_same x) (both_true _ _ (key_same a) (key_same xs))

key_yes : (a b : Key) → key_eq a b ≡ true → a ≡ b
key_yes (Kind a) (Kind b) h = ap Kind (nat_yes a b h)
key_yes (Owned x) (Owned y) h = ap Owned ((bytes_eq-Decides x y).0 h)
key_yes (Row a) (Row b) h = ap Row (nat_yes a b h)
key_yes (Array a) (Array b) h = ap Array (key_yes a b h)
key_yes (Fields a) (Fields b) h = ap Fields (key_yes a b h)
key_yes (Tags a) (Tags b) h = ap Tags (key_yes a b h)
key_yes End End h = refl
key_yes (More x a xs) (More y b ys) h =
    let p = and_true (bytes_eq x y) _ h in
    let q = and_true (key_eq a b) _ p.1 in
    rw ((bytes_eq-Decides x y).0 p.0, key_yes a b q.0, key_yes xs ys q.1) refl
key_yes _ _ h = absurd cc

key_decides : (a b : Key) → Decides (key_eq a b) (a ≡ b)
key_decides a b = (key_yes a b, λ e. subst (λ c. key_eq a c ≡ true) e (key_same a))

-- a test of equality through f is an equivalence
equivalence : (d : Declarations) → IsEquivalence (same d)
equivalence d = record {
  refl = λ x. key_same (key d.rows x);
  symm = λ x y. one_answer _ _ (key_decides (key d.rows x) (key d.rows y)) (turned (key d.rows x) (key d.rows y));
  congr = λ x y z e. ap (λ k. key_eq k (key d.rows z)) (key_yes (key d.rows x) (key d.rows y) e);
}
  where
    turned : (a b : Key) → Decides (key_eq b a) (a ≡ b)
    turned a b = (λ h. sym (key_yes b a h), λ e. (key_decides b a).1 (sym e))

pub same_law : (d : Declarations) → SameLaw d
same_law d = record { equivalence = equivalence d; exact = λ t u. key_decides (key d.rows t) (key d.rows u) }
