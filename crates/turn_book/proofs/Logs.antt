-- A log that grows, and the entries and numbers in it.
use Rattle.std.proofs.Common.{◌≡◌, ◌≢◌, ◌⊎◌, ℕ, zero, suc, ◌+◌, ◌<◌, ◌≤◌, List, [], ◌∷◌, ◌++◌, length, get_or, sym, refl, ap, ◌∙◌, subst, inl, inr, ⊎_elim, cond, nat_eq, eq-eqb, ne_eqb, append_assoc, append-nil, arith}
use mathlib.Core.List.{IsPrefix}
use Rattle.std.specs.List.{All, AllPairs, Contains, filter}
use Rattle.std.proofs.lemmas.List.{map-append}
use Rattle.std.proofs.lemmas.List.Elements.{filter-append, All-map, All-contains, All-weaker, Contains-get_or, Contains-append_left, Contains-append_cases, Contains-push}
use Rattle.std.proofs.lemmas.List.Quantifiers.{all_pairs_push}
use Rattle.turn_book.specs.History.{entries, entries_of, numbers}
use Rattle.turn_book.specs.Rule.{EndedOk}

one_number : (m k : ℕ) → Contains (m ∷ []) k → m ≡ k
one_number m k has = elim has.0 as (λ i. i < 1 → get_or (m ∷ []) i k ≡ k → m ≡ k)
    [ zero ↦ (λ lt is. is) | suc i ↦ (λ lt is. absurd (omega arith)) ] has.1 has.2

module _ {A : Type 0} where
  numbers-push : (ps : List (ℕ × A)) (m : ℕ) (x : A) → numbers (ps ++ (m, x) ∷ []) ≡ numbers ps ++ m ∷ []
  numbers-push ps m x = map-append (λ (p : ℕ × A). p.0) ps ((m, x) ∷ [])

  pub numbers_old : (ps : List (ℕ × A)) (m : ℕ) (x : A) (k : ℕ) → Contains (numbers ps) k → Contains (numbers (ps ++ (m, x) ∷ [])) k
  numbers_old ps m x k has = subst (λ (ns : List ℕ). Contains ns k) (sym (numbers-push ps m x)) (Contains-append_left (numbers ps) (m ∷ []) k has)

  pub numbers_new : (ps : List (ℕ × A)) (m : ℕ) (x : A) → Contains (numbers (ps ++ (m, x) ∷ [])) m
  numbers_new ps m x = subst (λ (ns : List ℕ). Contains ns m) (sym (numbers-push ps m x)) (Contains-push (numbers ps) m)

  pub numbers_cases : (ps : List (ℕ × A)) (m : ℕ) (x : A) (k : ℕ) → Contains (numbers (ps ++ (m, x) ∷ [])) k → Contains (numbers ps) k ⊎ (m ≡ k)
  numbers_cases ps m x k has = ⊎_elim
      (λ (old : Contains (numbers ps) k). inl old)
      (λ (new : Contains (m ∷ []) k). inr (one_number m k new))
      (Contains-append_cases (numbers ps) (m ∷ []) k (subst (λ (ns : List ℕ). Contains ns k) (numbers-push ps m x) has))

  -- the number of a pair is one of the numbers
  number_of : (ps : List (ℕ × A)) (i : ℕ) (d : ℕ × A) → i < length ps → Contains (numbers ps) (get_or ps i d).0
  number_of [] i d lt = absurd (omega arith)
  number_of (p ∷ ps) zero d lt = (0, omega arith, refl)
  number_of (p ∷ ps) (suc i) d lt = let has = number_of ps i d (omega arith) in (suc has.0, omega (arith, has.1), has.2)

  -- a number that is none of the others stands apart from them
  pub once_more : (ps : List (ℕ × A)) (m : ℕ) (x : A) → (Contains (numbers ps) m → ⊥) → AllPairs (λ j k. j ≢ k) (numbers ps) → AllPairs (λ j k. j ≢ k) (numbers (ps ++ (m, x) ∷ []))
  once_more ps m x lacks once = subst (λ (ns : List ℕ). AllPairs (λ j k. j ≢ k) ns) (sym (numbers-push ps m x))
      (all_pairs_push (λ j k. j ≢ k) (numbers ps) m once (λ k d lt same. lacks (subst (λ (n : ℕ). Contains (numbers ps) n) same (Contains-get_or (numbers ps) k d lt))))

module _ {E : Type 0} where
  pub entries-push : (log : List (ℕ × E)) (m : ℕ) (e : E) → entries (log ++ (m, e) ∷ []) ≡ entries log ++ e ∷ []
  entries-push log m e = map-append (λ (p : ℕ × E). p.1) log ((m, e) ∷ [])

  entries_of-append : (k : ℕ) (log more : List (ℕ × E)) → entries_of k (log ++ more) ≡ entries_of k log ++ entries_of k more
  entries_of-append k log more = ap entries (filter-append (λ (p : ℕ × E). nat_eq p.0 k) log more) ∙ map-append (λ (p : ℕ × E). p.1) (filter (λ (p : ℕ × E). nat_eq p.0 k) log) (filter (λ (p : ℕ × E). nat_eq p.0 k) more)

  pub entries_of-push_same : (log : List (ℕ × E)) (m k : ℕ) (e : E) → m ≡ k → entries_of k (log ++ (m, e) ∷ []) ≡ entries_of k log ++ e ∷ []
  entries_of-push_same log m k e is = entries_of-append k log ((m, e) ∷ []) ∙ ap (λ b. entries_of k log ++ entries (cond b ((m, e) ∷ []) [])) (eq-eqb m k is)

  pub entries_of-push_other : (log : List (ℕ × E)) (m k : ℕ) (e : E) → m ≢ k → entries_of k (log ++ (m, e) ∷ []) ≡ entries_of k log
  entries_of-push_other log m k e isnt =
      entries_of-append k log ((m, e) ∷ []) ∙ ap (λ b. entries_of k log ++ entries (cond b ((m, e) ∷ []) [])) (ne_eqb m k isnt) ∙ append-nil (entries_of k log)

  -- a number of no pair has no entries
  pub entries_of-none : (log : List (ℕ × E)) (k : ℕ) → (Contains (numbers log) k → ⊥) → entries_of k log ≡ []
  entries_of-none [] k lacks = refl
  entries_of-none (p ∷ ps) k lacks =
      ap (λ b. entries (cond b (p ∷ filter (λ (q : ℕ × E). nat_eq q.0 k) ps) (filter (λ (q : ℕ × E). nat_eq q.0 k) ps))) (ne_eqb p.0 k (λ is. lacks (0, omega arith, is)))
      ∙ entries_of-none ps k (λ has. lacks (suc has.0, omega (arith, has.1), has.2))

  pub prefix_more : (xs ys zs : List E) → IsPrefix xs ys → IsPrefix xs (ys ++ zs)
  prefix_more xs ys zs p = (p.0 ++ zs, sym (append_assoc xs p.0 zs) ∙ ap (λ (es : List E). es ++ zs) p.1)

  pub whole_prefix : (xs ys : List E) → xs ≡ ys → IsPrefix xs ys
  whole_prefix xs ys same = ([], append-nil xs ∙ same)

  pub ended_le : (log : List (ℕ × E)) (splits : ℕ) (ended : List (ℕ × List E)) (k : ℕ) → All (EndedOk log splits) ended → Contains (numbers ended) k → (1 ≤ k) × (k ≤ splits)
  ended_le log splits ended k kept has = All-contains (λ n. (1 ≤ n) × (n ≤ splits)) (numbers ended) k
      (All-map (λ n. (1 ≤ n) × (n ≤ splits)) (λ (p : ℕ × List E). p.0) ended
      (All-weaker (EndedOk log splits) (λ p. (1 ≤ p.0) × (p.0 ≤ splits)) (λ p ok. (ok.0, ok.1)) ended kept)) has

  -- more splits
  pub ended_wider : (log : List (ℕ × E)) (splits : ℕ) (ended : List (ℕ × List E)) → All (EndedOk log splits) ended → All (EndedOk log (splits + 1)) ended
  ended_wider log splits = All-weaker (EndedOk log splits) (EndedOk log (splits + 1)) (λ p ok. (ok.0, omega (arith, ok.1), ok.2))

  -- an entry more, which is of no ended pass
  pub ended_later : (log : List (ℕ × E)) (splits m : ℕ) (e : E) (ended : List (ℕ × List E)) → (Contains (numbers ended) m → ⊥) → All (EndedOk log splits) ended → All (EndedOk (log ++ (m, e) ∷ []) splits) ended
  ended_later log splits m e ended lacks kept i d lt =
      let p = get_or ended i d in
      let ok : EndedOk log splits p = kept i d lt in
      let apart : m ≢ p.0 = λ same. lacks (subst (λ (n : ℕ). Contains (numbers ended) n) (sym same) (number_of ended i d lt)) in
      (ok.0, ok.1, ok.2 ∙ sym (entries_of-push_other log m p.0 e apart))
