-- The entries of a map under numbers, and the finite map that they make.
use Rattle.std.proofs.Common.{◌≡◌, ℕ, Bool, true, false, cond, List, [], ◌∷◌, Option, Some, None, refl, sym, ap, subst, ◌∙◌, MutBor}
use Rattle.std.specs.Prelude.{IsSome, IfSome}
use Rattle.std.specs.Option.{option_copied_mut}
use Rattle.std.specs.Cmp.{nat_cmp_total}
use Rattle.std.specs.BTreeMap as tree
use Rattle.std.specs.BTreeMap.{BTreeMap}
use Rattle.std.specs.Map.{lookup}
use Rattle.std.specs.Ordering.{nat_cmp, eq_by_cmp}
use Rattle.std.specs.FinMap as map
use Rattle.std.specs.FinMap.{find, get-from_entries, get-insert, same_map, nat_cmp-IsAntisymmetric}
use Rattle.std.proofs.lemmas.Cmp.{eq_by_cmp_equiv}
use Rattle.std.proofs.lemmas.Bool.{false≢true}
use Rattle.std.proofs.lemmas.Map.Views.{tells_apart}

module _ {X : Type 0} where
  find-lookup : (q : ℕ) (es : List (ℕ × X)) → find nat_cmp q es ≡ lookup (eq_by_cmp nat_cmp q) es
  find-lookup q [] = refl
  find-lookup q (e ∷ es) = ap (cond (eq_by_cmp nat_cmp q e.0) (Some e.1)) (find-lookup q es)

  pub get-seen : (m : BTreeMap ℕ X) (q : ℕ) → map.get (map.from_entries {R = nat_cmp} m.entries) q ≡ tree.get nat_cmp m q
  get-seen m q = get-from_entries nat_cmp_total m.entries q ∙ find-lookup q m.entries

  -- one key has this value, and each other key what it had
  pub seen-insert : (m n : BTreeMap ℕ X) (k : ℕ) (v : X) → tree.UpdatesBy nat_cmp (nat_cmp k) m n (Some v) → map.from_entries {R = nat_cmp} n.entries ≡ map.insert (map.from_entries {R = nat_cmp} m.entries) k v
  seen-insert m n k v updates =
      same_map nat_cmp_total nat_cmp-IsAntisymmetric _ _ (λ q. get-seen n q
      ∙ updates.0 q
      ∙ ap (λ b. cond b (Some v) (tree.get nat_cmp m q)) ((eq_by_cmp_equiv nat_cmp_total).symm k q)
      ∙ ap (cond (eq_by_cmp nat_cmp q k) (Some v)) (sym (get-seen m q))
      ∙ sym (get-insert nat_cmp_total (map.from_entries {R = nat_cmp} m.entries) k v q))

  -- a map into which the value that it has is put is the same
  pub insert_same : (m : map.FinMap nat_cmp X) (k : ℕ) (v : X) → map.get m k ≡ Some v → map.insert m k v ≡ m
  insert_same m k v has =
      same_map nat_cmp_total nat_cmp-IsAntisymmetric _ _ (λ q. get-insert nat_cmp_total m k v q ∙ at q (eq_by_cmp nat_cmp q k) refl)
    where
      at : (q : ℕ) (b : Bool) → eq_by_cmp nat_cmp q k ≡ b → cond b (Some v) (map.get m q) ≡ map.get m q
      at q true same = sym (ap (map.get m) (tells_apart nat_cmp-IsAntisymmetric q k same) ∙ has)
      at q false other = refl

  -- what holds of each value holds of each after one more is put, if it holds of that one
  pub IfSome-insert : (P : X → Type 0) (m : map.FinMap nat_cmp X) (k : ℕ) (v : X) → ((q : ℕ) → IfSome (map.get m q) P) → P v → (q : ℕ) → IfSome (map.get (map.insert m k v) q) P
  IfSome-insert P m k v all p q =
      subst (λ o. IfSome o P) (sym (get-insert nat_cmp_total m k v q)) (elim (eq_by_cmp nat_cmp q k) as (λ b. IfSome (cond b (Some v) (map.get m q)) P) [ true ↦ p | false ↦ all q ])

  -- a key that is found is the new one or an old one
  pub IsSome-insert : (m : map.FinMap nat_cmp X) (k : ℕ) (v : X) (P : ℕ → Type 0) → P k → ((q : ℕ) → IsSome (map.get m q) → P q) → (q : ℕ) → IsSome (map.get (map.insert m k v) q) → P q
  IsSome-insert m k v P here old q found = at (eq_by_cmp nat_cmp q k) refl (subst IsSome (get-insert nat_cmp_total m k v q) found)
    where
      at : (b : Bool) → eq_by_cmp nat_cmp q k ≡ b → IsSome (cond b (Some v) (map.get m q)) → P q
      at true same there = subst P (sym (tells_apart nat_cmp-IsAntisymmetric q k same)) here
      at false other there = old q there

  -- what is lent is what was found
  pub some_lent : (r : Option (MutBor X)) (o : Option X) → option_copied_mut r ≡ o → IsSome o → IsSome r
  some_lent None o e there = absurd (false≢true (subst IsSome (sym e) there))
  some_lent (Some x) o e there = refl
