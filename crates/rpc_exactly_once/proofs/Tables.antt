-- The table of one client.
use Rattle.std.proofs.Common.{◌≡◌, ℕ, ◌<◌, ◌≤◌, Bool, true, false, cond, filter, max, List, Option, Some, None, refl, sym, ap, subst, ◌∙◌, nat_eq, nat_le, arith, inl, inr}
use Rattle.std.specs.Prelude.{IsSome}
use Rattle.std.specs.FinMap as map
use Rattle.std.specs.Map.{lookup}
use Rattle.std.proofs.lemmas.Bool.{cases_Bool, cases_lt, eqb-true, eq-eqb, lt-ltb, le-ltb, le-leb, leb-true, false≢true}
use Rattle.rpc_exactly_once.specs.declared.row.Arrival.{Arrival}
use Rattle.rpc_exactly_once.specs.declared.row.Arrival.TheVariants.{Begin, Resend, Nothing}
use Rattle.rpc_exactly_once.specs.declared.row.Row.{Row}
use Rattle.rpc_exactly_once.specs.declared.row.Row.TheVariants.{Running, Done}
use Rattle.rpc_exactly_once.specs.Server.{Table, arrival, by_row, is_running, raised, row_of, with_row, IfBegin, IsPast, MayBegin, NoneBelow}
use Rattle.numbered_calls.proofs.Maps.{get-inserted, get-of_entries, get-retained, of_entries-filter, of_entries-insert, same_numbers}

abbrev pub seen : ℕ → List (ℕ × Row) → Table
seen floor es = record { floor = floor; rows = map.from_entries es }

pub row_found : (floor : ℕ) (es : List (ℕ × Row)) (t : Table) (seq : ℕ) (found : Option Row) → seen floor es ≡ t → found ≡ lookup (nat_eq seq) es → found ≡ row_of t seq
row_found floor es t seq found view e = e ∙ sym (get-of_entries es seq) ∙ ap (λ t. row_of t seq) view

-- ---- a row is put

pub with_row_is : (floor : ℕ) (old new : List (ℕ × Row)) (seq : ℕ) (row : Row) → ((q : ℕ) → lookup (nat_eq q) new ≡ cond (nat_eq seq q) (Some row) (lookup (nat_eq q) old)) → seen floor new ≡ with_row (seen floor old) seq row
with_row_is floor old new seq row updates = ap (λ m. record { floor = floor; rows = m }) (of_entries-insert old new seq row updates)

module _ (t : Table) (seq : ℕ) (row : Row) where
  row_of-with_row : (q : ℕ) (b : Bool) → nat_eq q seq ≡ b → row_of (with_row t seq row) q ≡ cond b (Some row) (row_of t q)
  row_of-with_row q b e = get-inserted t.rows seq row q ∙ ap (λ b. cond b (Some row) (row_of t q)) e

  pub none_below-with_row : t.floor ≤ seq → NoneBelow t → NoneBelow (with_row t seq row)
  none_below-with_row le above q there =
      elim (cases_Bool (nat_eq q seq)) [
        | inl same ↦ omega (arith, le, eqb-true q seq same)
        | inr other ↦ above q (subst IsSome (row_of-with_row q false other) there)
      ]

  pub past-with_row : (q : ℕ) → IsPast t q → IsPast (with_row t seq row) q
  past-with_row q (inl below) = inl below
  past-with_row q (inr there) =
      inr (elim (cases_Bool (nat_eq q seq)) [
        | inl same ↦ subst IsSome (sym (row_of-with_row q true same)) refl
        | inr other ↦ subst IsSome (sym (row_of-with_row q false other)) there
      ])

  pub past-itself : IsPast (with_row t seq row) seq
  past-itself = inr (subst IsSome (sym (row_of-with_row seq true (eq-eqb seq seq refl))) refl)

-- a call that runs isn't below the floor
pub running_above : (t : Table) (seq : ℕ) → true ≡ is_running (row_of t seq) → NoneBelow t → t.floor ≤ seq
running_above t seq runs above = above seq (there (row_of t seq) runs)
  where
    there : (row : Option Row) → true ≡ is_running row → IsSome row
    there None runs = sym runs
    there (Some row) runs = refl

-- ---- a floor is seen

module _ (t : Table) (floor : ℕ) where
  row_of-raised : (q : ℕ) (b : Bool) → nat_le (max t.floor floor) q ≡ b → row_of (raised t floor) q ≡ cond b (row_of t q) None
  row_of-raised q b e = get-retained t.rows (λ seq. nat_le (max t.floor floor) seq) q ∙ ap (λ b. cond b (row_of t q) None) e

  pub none_below-raised : NoneBelow (raised t floor)
  none_below-raised q there =
      elim (cases_Bool (nat_le (max t.floor floor) q)) [
        | inl above ↦ leb-true (max t.floor floor) q above
        | inr below ↦ absurd (false≢true (subst IsSome (row_of-raised q false below) there))
      ]

  -- what isn't below the greatest floor is kept
  row_of-kept : (q : ℕ) → max t.floor floor ≤ q → row_of (raised t floor) q ≡ row_of t q
  row_of-kept q le = row_of-raised q true (le-leb (max t.floor floor) q le)

  pub past-raised : (q : ℕ) → IsPast t q → IsPast (raised t floor) q
  past-raised q (inl below) = inl (omega (arith, below))
  past-raised q (inr there) =
      elim (cases_lt q (max t.floor floor)) [
        | inl below ↦ inl below
        | inr not_below ↦ inr (subst IsSome (sym (row_of-kept q not_below)) there)
      ]

  pub answer_below : (seq : ℕ) → seq < max t.floor floor → Nothing ≡ arrival (raised t floor) seq
  answer_below seq below = rw (lt-ltb seq (max t.floor floor) below) refl

  pub answer_above : (seq : ℕ) (row : Option Row) → floor ≤ seq → t.floor ≤ seq → row ≡ row_of t seq → by_row row ≡ arrival (raised t floor) seq
  answer_above seq row le le' e = rw (le-ltb seq (max t.floor floor) (omega (arith, le, le'))) (ap by_row (e ∙ sym (row_of-kept seq (omega (arith, le, le')))))

not_Begin : Arrival → Type 0
not_Begin Begin = ⊥
not_Begin _ = Unit

by_row-not_Begin : (row : Option Row) → IsSome row → not_Begin (by_row row)
unfolding not_Begin
by_row-not_Begin None there = false≢true there
by_row-not_Begin (Some Running) there = tt
by_row-not_Begin (Some (Done reply)) there = tt

-- a call that is past isn't begun
pub past-not_begun : (t : Table) (seq : ℕ) → IsPast t seq → ¬ (arrival t seq ≡ Begin)
unfolding not_Begin
past-not_begun t seq past e =
    elim (cases_lt seq t.floor) [
      | inl below ↦ (let nothing : arrival t seq ≡ Nothing = rw (lt-ltb seq t.floor below) refl in subst not_Begin (sym nothing ∙ e) tt)
      | inr not_below ↦ (let answer : arrival t seq ≡ by_row (row_of t seq) = rw (le-ltb seq t.floor not_below) refl in
          let there : IsSome (row_of t seq) = elim past [ inl below ↦ absurd (omega (arith, below, not_below)) | inr there ↦ there ] in
          subst not_Begin (sym answer ∙ e) (by_row-not_Begin (row_of t seq) there))
    ]

-- a body that is to begin may
pub may_begin : (t : Table) (seq : ℕ) (answer : Arrival) → answer ≡ arrival t seq → IfBegin answer (MayBegin t seq)
may_begin t seq Begin e = record {
  absent = none (row_of t seq) (λ there. past-not_begun t seq (inr there) (sym e));
  not_below = elim (cases_lt seq t.floor) [ inl below ↦ absurd (past-not_begun t seq (inl below) (sym e)) | inr not_below ↦ not_below ];
}
  where
    none : (row : Option Row) → ¬ IsSome row → row ≡ None
    none None n = refl
    none (Some row) n = absurd (n refl)
may_begin t seq (Resend reply) e = tt
may_begin t seq Nothing e = tt

pub raised_is : (floor greater : ℕ) (es kept : List (ℕ × Row)) → floor < greater → kept ≡ filter (λ (e : ℕ × Row). nat_le greater e.0) es → seen greater kept ≡ raised (seen floor es) greater
raised_is floor greater es kept lt e =
    let greatest : max floor greater ≡ greater = omega (arith, lt) in
    ap (λ m. record { floor = greater; rows = m }) (ap map.from_entries e ∙ of_entries-filter es (nat_le greater))
    ∙ ap (λ g. record { floor = g; rows = map.retain_keys (map.from_entries es) (λ seq. nat_le g seq) }) (sym greatest)

-- a floor that isn't greater drops nothing
pub raised_not : (t : Table) (floor : ℕ) → floor ≤ t.floor → NoneBelow t → t ≡ raised t floor
raised_not t floor le above =
    let greatest : max t.floor floor ≡ t.floor = omega (arith, le) in
    ap (λ m. record { floor = t.floor; rows = m }) (same_numbers t.rows (map.retain_keys t.rows (λ seq. nat_le t.floor seq)) (λ q. same q))
    ∙ ap (λ g. record { floor = g; rows = map.retain_keys t.rows (λ seq. nat_le g seq) }) (sym greatest)
  where
    none : (q : ℕ) (row : Option Row) → (IsSome row → t.floor ≤ q) → q < t.floor → row ≡ None
    none q None above below = refl
    none q (Some row) above below = absurd (omega (arith, above refl, below))

    same : (q : ℕ) → row_of t q ≡ map.get (map.retain_keys t.rows (λ seq. nat_le t.floor seq)) q
    same q =
        sym (get-retained t.rows (λ seq. nat_le t.floor seq) q ∙ elim (cases_lt q t.floor) [
          | inl below ↦ ap (cond (nat_le t.floor q) (row_of t q)) (sym (none q (row_of t q) (above q) below)) ∙ both (nat_le t.floor q) (row_of t q)
          | inr not_below ↦ ap (λ b. cond b (row_of t q) None) (le-leb t.floor q not_below)
        ])
      where
        both : (b : Bool) (row : Option Row) → cond b row row ≡ row
        both true row = refl
        both false row = refl
