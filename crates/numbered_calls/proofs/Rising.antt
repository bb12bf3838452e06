-- Entries whose numbers rise.
use Rattle.std.proofs.Common.{◌≡◌, ℕ, ◌+◌, ◌^◌, ◌<◌, ◌≤◌, Bool, true, false, cond, List, [], ◌∷◌, ◌++◌, Option, Some, None, refl, sym, ap, subst, ◌∙◌, nat_eq, arith, inl, inr, map, slice_get}
use Rattle.std.specs.Prelude.{IsSome, OnSome}
use Rattle.std.specs.Borrow.{Bor}
use Rattle.std.specs.Cmp.{nat_cmp_total}
use Rattle.std.specs.Map.{lookup, remove_entry}
use Rattle.std.specs.Ordering.{nat_cmp}
use Rattle.std.specs.FinMap as finmap
use Rattle.std.specs.FinMap.{entries-insert, len-entries, len-empty}
use Rattle.std.specs.FinMap.Entries.{put}
use Rattle.std.proofs.lemmas.Bool.{lt-ltb, eqb-true, eq-eqb, cases_Bool, false≢true}
use Rattle.std.proofs.lemmas.List.{nil_from_length}
use Rattle.std.proofs.lemmas.Option.{none-some, same_Some}
use Rattle.std.specs.Option.{option_copied, option_map, option_map_or}
use Rattle.indexmap.specs.IndexMap.{IndexMap, insert_entry}
use Rattle.indexmap.proofs.CallerLemmas.{insert_entry-new}
use Rattle.numbered_calls.specs.Calls.{Calls, AreNumbered, IsFloor, IsGiven, IsPending, call_at, with_call, without}
use Rattle.numbered_calls.specs.declared.calls.Asked.{Asked}
use Rattle.numbered_calls.specs.Numbers.{Rise}
use Rattle.numbered_calls.proofs.Maps.{get-of_entries, of_entries-insert, of_entries-remove}

module _ {X : Type 0} where
  Rise-lower : (low lower last : ℕ) (es : List (ℕ × X)) → lower ≤ low → Rise low last es → Rise lower last es
  Rise-lower low lower last [] le rise = omega arith
  Rise-lower low lower last (e ∷ es) le rise = (omega (arith, rise.0), rise.1)

  pub Rise-push : (low last : ℕ) (es : List (ℕ × X)) (v : X) → Rise low last es → Rise low (last + 1) (es ++ (last + 1, v) ∷ [])
  Rise-push low last [] v rise = (omega arith, omega arith)
  Rise-push low last (e ∷ es) v rise = (rise.0, Rise-push e.0 last es v rise.1)

  pub Rise-remove_entry : (test : ℕ → Bool) (low last : ℕ) (es : List (ℕ × X)) → Rise low last es → Rise low last (remove_entry test es)
  Rise-remove_entry test low last [] rise = rise
  Rise-remove_entry test low last (e ∷ es) rise =
      let kept : Rise low last (e ∷ remove_entry test es) = (rise.0, Rise-remove_entry test e.0 last es rise.1) in
      let gone : Rise low last es = Rise-lower e.0 low last es (omega (arith, rise.0)) rise.1 in
      elim (test e.0) as (λ b. Rise low last (cond b es (e ∷ remove_entry test es))) [ true ↦ gone | false ↦ kept ]

  -- a number that is looked up is one of those
  pub Rise-given : (low last q : ℕ) (es : List (ℕ × X)) → Rise low last es → IsSome (lookup (nat_eq q) es) → (low < q) × (q ≤ last)
  Rise-given low last q [] rise there = absurd (false≢true there)
  Rise-given low last q (e ∷ es) rise there =
      elim (cases_Bool (nat_eq q e.0)) [
        | inl same ↦ (omega (arith, rise.0, eqb-true q e.0 same), omega (arith, eqb-true q e.0 same, top e.0 last es rise.1))
        | inr other ↦ (let more = Rise-given e.0 last q es rise.1 (subst (λ b. IsSome (cond b (Some e.1) (lookup (nat_eq q) es))) other there) in (omega (arith, rise.0, more.0), more.1))
      ]
    where
      top : (low last : ℕ) (es : List (ℕ × X)) → Rise low last es → low ≤ last
      top low last [] rise = rise
      top low last (e ∷ es) rise = omega (arith, rise.0, top e.0 last es rise.1)

  pub Rise-absent : (low last q : ℕ) (es : List (ℕ × X)) → Rise low last es → last < q → lookup (nat_eq q) es ≡ None
  Rise-absent low last q es rise past = by (lookup (nat_eq q) es) (λ there. Rise-given low last q es rise there)
    where
      by : (o : Option X) → (IsSome o → (low < q) × (q ≤ last)) → o ≡ None
      by None given = refl
      by (Some x) given = absurd (omega (arith, (given refl).1))

  -- the first number is the least
  pub Rise-least : (low last q : ℕ) (e : ℕ × X) (es : List (ℕ × X)) → Rise low last (e ∷ es) → IsSome (lookup (nat_eq q) (e ∷ es)) → e.0 ≤ q
  Rise-least low last q e es rise there =
      elim (cases_Bool (nat_eq q e.0)) [
        | inl same ↦ omega (arith, eqb-true q e.0 same)
        | inr other ↦ omega (arith, (Rise-given e.0 last q es rise.1 (subst (λ b. IsSome (cond b (Some e.1) (lookup (nat_eq q) es))) other there)).0)
      ]

  -- they stand as the map gives them
  pub Rise-entries : (low last : ℕ) (es : List (ℕ × X)) → Rise low last es → finmap.entries (finmap.from_entries {R = nat_cmp} es) ≡ es
  Rise-entries low last [] rise = nil_from_length (finmap.entries (finmap.empty {R = nat_cmp})) (sym (len-entries (finmap.empty {R = nat_cmp})) ∙ len-empty nat_cmp X)
  Rise-entries low last (e ∷ es) rise =
      entries-insert nat_cmp_total (finmap.from_entries es) e.0 e.1
      ∙ ap (put nat_cmp e.0 e.1) (Rise-entries e.0 last es rise.1)
      ∙ in_front es rise.1
    where
      in_front : (es : List (ℕ × X)) → Rise e.0 last es → put nat_cmp e.0 e.1 es ≡ e ∷ es
      in_front [] rise = refl
      in_front (d ∷ es) rise = rw (lt-ltb e.0 d.0 rise.0) refl

-- ---- a client's calls

module _ {X : Type 0} where
  abbrev pub seen : ℕ → List (ℕ × Asked X) → Calls X
  seen last es = record { last = last; pending = finmap.from_entries es }

  pub are_numbered : (last : ℕ) (es : List (ℕ × Asked X)) → Rise 0 last es × (last ≤ 2 ^ 62) → AreNumbered (seen last es)
  are_numbered last es inv = record {
    given = λ seq there. (let given = Rise-given 0 last seq es inv.0 (subst IsSome (get-of_entries es seq) there) in (omega (arith, given.0), given.1));
    limit = inv.1;
  }

  -- what is found under a number was given it
  pub found_given : (calls : Calls X) (seq : ℕ) (found : Option (Bor (Asked X))) → AreNumbered calls → option_copied found ≡ finmap.get calls.pending seq → OnSome found (IsGiven calls seq)
  found_given calls seq None numbered e = tt
  found_given calls seq (Some call) numbered e = numbered.given seq (subst IsSome e refl)

  pub with_call_is : (last : ℕ) (old new : List (ℕ × Asked X)) (call : Asked X) → ((q : ℕ) → lookup (nat_eq q) new ≡ cond (nat_eq (last + 1) q) (Some call) (lookup (nat_eq q) old)) → seen (last + 1) new ≡ with_call (seen last old) call
  with_call_is last old new call updates = ap (λ m. record { last = last + 1; pending = m }) (of_entries-insert old new (last + 1) call updates)

  pub without_is : (last seq : ℕ) (old new : List (ℕ × Asked X)) → ((q : ℕ) → lookup (nat_eq q) new ≡ cond (nat_eq seq q) None (lookup (nat_eq q) old)) → seen last new ≡ without (seen last old) seq
  without_is last seq old new updates = ap (λ m. record { last = last; pending = m }) (of_entries-remove old new seq updates)

  -- the next number stands last
  pub insert_entry-next : {S : Type 0} (m : IndexMap ℕ (Asked X) S) (last : ℕ) (call : Asked X) → Rise 0 last m.entries → insert_entry nat_eq m.entries (last + 1) call ≡ m.entries ++ (last + 1, call) ∷ []
  insert_entry-next m last call rise = insert_entry-new nat_eq m (last + 1) call (Rise-absent 0 last (last + 1) m.entries rise (omega arith))

  pub entries_seen : (last : ℕ) (es : List (ℕ × Asked X)) (calls : Calls X) → Rise 0 last es → seen last es ≡ calls → finmap.entries calls.pending ≡ es
  entries_seen last es calls rise e = ap (λ (c : Calls X). finmap.entries c.pending) (sym e) ∙ Rise-entries 0 last es rise

  -- what is found at a place
  pub call_at_is : (last : ℕ) (es : List (ℕ × Asked X)) (calls : Calls X) (place : ℕ) (found : Option (ℕ × Asked X)) → Rise 0 last es → seen last es ≡ calls → found ≡ slice_get es place → option_map (λ (c : ℕ × Asked X). (c.0, c.1.to, c.1.routine)) found ≡ call_at calls place
  call_at_is last es calls place found rise is e =
      ap (option_map (λ (c : ℕ × Asked X). (c.0, c.1.to, c.1.routine))) (e ∙ ap (λ (es : List (ℕ × Asked X)). slice_get es place) (sym (entries_seen last es calls rise is)))

  pub floor_some : (last : ℕ) (es : List (ℕ × Asked X)) (n : ℕ) (v : Asked X) → Rise 0 last es × (last ≤ 2 ^ 62) → Some (n, v) ≡ slice_get es 0 → IsFloor (seen last es) n
  floor_some last [] n v inv e = absurd (none-some (n, v) (sym e))
  floor_some last (d ∷ es) n v inv e =
      let first : n ≡ d.0 = ap (λ (p : ℕ × Asked X). p.0) (same_Some (n, v) d e) in
      let entries = Rise-entries 0 last (d ∷ es) inv.0 in
      let here : IsPending (seen last (d ∷ es)) d.0 = subst IsSome (sym (get-of_entries (d ∷ es) d.0 ∙ ap (λ b. cond b (Some d.1) (lookup (nat_eq d.0) es)) (eq-eqb d.0 d.0 refl))) refl in
      subst (IsFloor (seen last (d ∷ es))) (sym first) (record {
        floor = ap (λ (ds : List (ℕ × Asked X)). option_map_or (λ (n : ℕ). n) (slice_get (map (λ (p : ℕ × Asked X). p.0) ds) 0) (last + 1)) (sym entries);
        least = λ q there. Rise-least 0 last q d es inv.0 (subst IsSome (get-of_entries (d ∷ es) q) there);
        either = inl here;
        numbered = are_numbered last (d ∷ es) inv;
      })

  pub floor_none : (last : ℕ) (es : List (ℕ × Asked X)) → Rise 0 last es × (last ≤ 2 ^ 62) → None ≡ slice_get es 0 → IsFloor (seen last es) (last + 1)
  floor_none last [] inv e =
      let entries = Rise-entries 0 last [] inv.0 in
      record {
        floor = ap (λ (ds : List (ℕ × Asked X)). option_map_or (λ (n : ℕ). n) (slice_get (map (λ (p : ℕ × Asked X). p.0) ds) 0) (last + 1)) (sym entries);
        least = λ q there. absurd (false≢true (subst IsSome (get-of_entries [] q) there));
        either = inr (refl, refl);
        numbered = are_numbered last [] inv;
      }
  floor_none last (d ∷ es) inv e = absurd (none-some d e)
