-- The entries of a hash map under numbers, and the finite map that they make.
use Rattle.std.proofs.Common.{◌≡◌, ℕ, Bool, true, false, cond, eqb, filter, List, [], ◌∷◌, Option, Some, None, refl, sym, ap, ◌∙◌, nat_eq, arith, inl, inr}
use Rattle.std.specs.Cmp.{nat_cmp_total, nat_eq_equiv}
use Rattle.std.specs.Map.{lookup}
use Rattle.std.specs.Ordering.{nat_cmp, eq_by_cmp}
use Rattle.std.specs.FinMap as map
use Rattle.std.specs.FinMap.{find, get-from_entries, get-insert, get-remove, get-retain_keys, same_map, nat_cmp-IsAntisymmetric}
use Rattle.std.proofs.lemmas.Bool.{cases_Bool, cases_lt, eqb-true, lt-ltb, le-ltb, ne_eqb}

nat_ties : (a b : ℕ) → eq_by_cmp nat_cmp a b ≡ nat_eq a b
nat_ties a b =
    elim (cases_lt a b) [
      | inl below ↦ rw (lt-ltb a b below, ne_eqb a b (λ e. omega arith)) refl
      | inr not_below ↦ rw (le-ltb a b not_below) (of_equal (eqb a b))
    ]
  where
    of_equal : (t : Bool) → eq_by_cmp (λ (x y : ℕ). cond t Rattle.std.specs.declared.cmp.Ordering.TheVariants.Equal Rattle.std.specs.declared.cmp.Ordering.TheVariants.Greater) a b ≡ t
    of_equal true = refl
    of_equal false = refl

module _ {X : Type 0} where
  find-lookup : (q : ℕ) (es : List (ℕ × X)) → find nat_cmp q es ≡ lookup (nat_eq q) es
  find-lookup q [] = refl
  find-lookup q (e ∷ es) = ap (λ b. cond b (Some e.1) (find nat_cmp q es)) (nat_ties q e.0) ∙ ap (cond (nat_eq q e.0) (Some e.1)) (find-lookup q es)

  pub get-of_entries : (es : List (ℕ × X)) (q : ℕ) → map.get (map.from_entries {R = nat_cmp} es) q ≡ lookup (nat_eq q) es
  get-of_entries es q = get-from_entries nat_cmp_total es q ∙ find-lookup q es

  -- two maps of numbers with the same value at each are the same
  pub same_numbers : (m n : map.FinMap nat_cmp X) → ((q : ℕ) → map.get m q ≡ map.get n q) → m ≡ n
  same_numbers = same_map nat_cmp_total nat_cmp-IsAntisymmetric

  -- entries that have v at k, and else what the others have
  pub of_entries-insert : (old new : List (ℕ × X)) (k : ℕ) (v : X) → ((q : ℕ) → lookup (nat_eq q) new ≡ cond (nat_eq k q) (Some v) (lookup (nat_eq q) old)) → map.from_entries {R = nat_cmp} new ≡ map.insert (map.from_entries old) k v
  of_entries-insert old new k v updates =
      same_numbers _ _ (λ q. get-of_entries new q
      ∙ updates q
      ∙ ap (λ b. cond b (Some v) (lookup (nat_eq q) old)) (nat_eq_equiv.symm k q ∙ sym (nat_ties q k))
      ∙ ap (cond (eq_by_cmp nat_cmp q k) (Some v)) (sym (get-of_entries old q))
      ∙ sym (get-insert nat_cmp_total (map.from_entries old) k v q))

  -- entries that have nothing at k, and else what the others have
  pub of_entries-remove : (old new : List (ℕ × X)) (k : ℕ) → ((q : ℕ) → lookup (nat_eq q) new ≡ cond (nat_eq k q) None (lookup (nat_eq q) old)) → map.from_entries {R = nat_cmp} new ≡ map.remove (map.from_entries old) k
  of_entries-remove old new k updates =
      same_numbers _ _ (λ q. get-of_entries new q
      ∙ updates q
      ∙ ap (λ b. cond b None (lookup (nat_eq q) old)) (nat_eq_equiv.symm k q ∙ sym (nat_ties q k))
      ∙ ap (cond (eq_by_cmp nat_cmp q k) None) (sym (get-of_entries old q))
      ∙ sym (get-remove nat_cmp_total (map.from_entries old) k q))

  lookup-filter : (p : ℕ → Bool) (q : ℕ) (es : List (ℕ × X)) → lookup (nat_eq q) (filter (λ (e : ℕ × X). p e.0) es) ≡ cond (p q) (lookup (nat_eq q) es) None
  lookup-filter p q [] = both (p q) None
    where
      both : (b : Bool) (o : Option X) → o ≡ cond b o o
      both true o = refl
      both false o = refl
  lookup-filter p q (e ∷ es) =
      let rest = lookup-filter p q es in
      elim (cases_Bool (nat_eq q e.0)) [
        | inl same ↦ (let at = ap p (eqb-true q e.0 same) in elim (cases_Bool (p e.0)) [
          | inl kept ↦ rw (kept, at ∙ kept, same) refl
          | inr dropped ↦ rw dropped (rest ∙ ap (λ b. cond b (lookup (nat_eq q) es) None) (at ∙ dropped) ∙ sym (ap (λ b. cond b (lookup (nat_eq q) (e ∷ es)) None) (at ∙ dropped)))
        ])
        | inr other ↦ elim (cases_Bool (p e.0)) [
          | inl kept ↦ rw (kept, other) rest
          | inr dropped ↦ rw (dropped, other) rest
        ]
      ]

  pub get-retained : (m : map.FinMap nat_cmp X) (p : ℕ → Bool) (q : ℕ) → map.get (map.retain_keys m p) q ≡ cond (p q) (map.get m q) None
  get-retained m p q = get-retain_keys m p q (λ x tie. ap p (sym (nat_cmp-IsAntisymmetric q x tie)))

  pub get-inserted : (m : map.FinMap nat_cmp X) (k : ℕ) (v : X) (q : ℕ) → map.get (map.insert m k v) q ≡ cond (nat_eq q k) (Some v) (map.get m q)
  get-inserted m k v q = get-insert nat_cmp_total m k v q ∙ ap (λ b. cond b (Some v) (map.get m q)) (nat_ties q k)

  -- the entries whose number passes the test
  pub of_entries-filter : (es : List (ℕ × X)) (p : ℕ → Bool) → map.from_entries {R = nat_cmp} (filter (λ (e : ℕ × X). p e.0) es) ≡ map.retain_keys (map.from_entries es) p
  of_entries-filter es p =
      same_numbers _ _ (λ q. get-of_entries (filter (λ (e : ℕ × X). p e.0) es) q
      ∙ lookup-filter p q es
      ∙ ap (λ o. cond (p q) o None) (sym (get-of_entries es q))
      ∙ sym (get-retained (map.from_entries es) p q))
