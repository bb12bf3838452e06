-- The tables of all clients.
use Rattle.std.proofs.Common.{◌≡◌, ℕ, Bool, true, false, cond, List, Option, Some, refl, sym, ap, subst, ◌∙◌, nat_eq, inl, inr}
use Rattle.std.specs.Prelude.{IsSome, IfOk, OnOk, OnErr, Result, Ok, Err}
use Rattle.std.specs.Bool.{OnFalse, OnTrue}
use Rattle.std.specs.FinMap as map
use Rattle.std.specs.FinMap.{get-empty}
use Rattle.std.specs.Map.{lookup}
use Rattle.std.specs.Option.{unwrap_or}
use Rattle.std.specs.Ordering.{nat_cmp}
use Rattle.std.proofs.lemmas.Bool.{cases_Bool, eqb-true, eq-eqb, false≢true}
use Rattle.rpc_exactly_once.specs.Server.{Server, Table, row_of, table_of, unheard, AreAboveFloors, IsPast, NoneBelow, StaysPast}
use Rattle.numbered_calls.proofs.Maps.{get-inserted, get-of_entries, of_entries-insert, same_numbers}

pub table_found : (es : List (ℕ × Table)) (client : ℕ) (found : Option Table) (now : Server) → map.from_entries es ≡ now → found ≡ lookup (nat_eq client) es → unwrap_or found unheard ≡ table_of now client
table_found es client found now view e = ap (λ o. unwrap_or o unheard) (e ∙ sym (get-of_entries es client)) ∙ ap (λ s. table_of s client) view

pub above-empty : AreAboveFloors map.empty
above-empty = record { none_below = λ client seq there. absurd (false≢true (subst IsSome (ap (λ t. row_of t seq) (ap (λ o. unwrap_or o unheard) (get-empty nat_cmp client)) ∙ get-empty nat_cmp seq) there)) }

-- a table that is written as it was leaves all as it was
pub same_again : (old new : List (ℕ × Table)) (client : ℕ) (t : Table) → Some t ≡ lookup (nat_eq client) old
    → ((q : ℕ) → lookup (nat_eq q) new ≡ cond (nat_eq client q) (Some t) (lookup (nat_eq q) old)) → map.from_entries {R = nat_cmp} new ≡ map.from_entries old
same_again old new client t found updates = same_numbers _ _ (λ q. get-of_entries new q ∙ updates q ∙ at q ∙ sym (get-of_entries old q))
  where
    at : (q : ℕ) → cond (nat_eq client q) (Some t) (lookup (nat_eq q) old) ≡ lookup (nat_eq q) old
    at q =
        elim (cases_Bool (nat_eq client q)) [
          | inl same ↦ rw same (found ∙ ap (λ n. lookup (nat_eq n) old) (eqb-true client q same))
          | inr other ↦ rw other refl
        ]

module _ (server : Server) (client : ℕ) (t : Table) where
  table_of-insert : (other : ℕ) (b : Bool) → nat_eq other client ≡ b → table_of (map.insert server client t) other ≡ cond b t (table_of server other)
  table_of-insert other b e = ap (λ o. unwrap_or o unheard) (get-inserted server client t other ∙ ap (λ b. cond b (Some t) (map.get server other)) e) ∙ by b
    where
      by : (b : Bool) → unwrap_or (cond b (Some t) (map.get server other)) unheard ≡ cond b t (table_of server other)
      by true = refl
      by false = refl

  pub table_of-itself : table_of (map.insert server client t) client ≡ t
  table_of-itself = table_of-insert client true (eq-eqb client client refl)

  -- what holds of each client's table, and of the one that is put, holds of each
  pub each-insert : (P : ℕ → Table → Type 0) → ((other : ℕ) → P other (table_of server other)) → P client t → (other : ℕ) → P other (table_of (map.insert server client t) other)
  each-insert P each put other =
      elim (cases_Bool (nat_eq other client)) [
        | inl same ↦ subst (P other) (sym (table_of-insert other true same)) (subst (λ n. P n t) (sym (eqb-true other client same)) put)
        | inr different ↦ subst (P other) (sym (table_of-insert other false different)) (each other)
      ]

  pub above-insert : AreAboveFloors server → NoneBelow t → AreAboveFloors (map.insert server client t)
  above-insert above put = record { none_below = each-insert (λ _. NoneBelow) above.none_below put }

  pub past-insert : ((q : ℕ) → IsPast (table_of server client) q → IsPast t q) → StaysPast server (map.insert server client t)
  past-insert put = each-insert (λ other new. (q : ℕ) → IsPast (table_of server other) q → IsPast new q) (λ other q past. past) put

  pub floors-insert : t.floor ≡ (table_of server client).floor → (other : ℕ) → (table_of (map.insert server client t) other).floor ≡ (table_of server other).floor
  floors-insert put = each-insert (λ other new. new.floor ≡ (table_of server other).floor) (λ other. refl) put

-- ---- a client's table is put

module _ (es after : List (ℕ × Table)) (client : ℕ) (put : Table) where
  -- the entries after it
  abbrev pub IsPut : Type 0
  IsPut = (q : ℕ) → lookup (nat_eq q) after ≡ cond (nat_eq client q) (Some put) (lookup (nat_eq q) es)

  module _ (updates : IsPut) (now : Server) (view : map.from_entries es ≡ now) where
    pub put_is : (t : Table) → put ≡ t → map.from_entries after ≡ map.insert now client t
    put_is t e = of_entries-insert es after client put updates ∙ ap (λ s. map.insert s client put) view ∙ ap (map.insert now client) e

    pub put_again : (was : Table) → Some was ≡ lookup (nat_eq client) es → put ≡ was → map.from_entries after ≡ now
    put_again was found e = same_again es after client was found (subst (λ t. (q : ℕ) → lookup (nat_eq q) after ≡ cond (nat_eq client q) (Some t) (lookup (nat_eq q) es)) e updates) ∙ view

    pub put_above : AreAboveFloors (map.from_entries es) → NoneBelow put → AreAboveFloors (map.from_entries after)
    put_above above none = subst AreAboveFloors (sym (of_entries-insert es after client put updates)) (above-insert (map.from_entries es) client put above none)

-- ---- what follows from the answer of a call that puts the client's table, or leaves all as it was

module _ {E : Type 0} (old new put : Server) where
  pub kept_by : {A : Type 0} (r : Result A E) (P : Server → Type 0) → OnOk r (new ≡ put) → OnErr r (new ≡ old) → P put → P old → P new
  kept_by (Ok x) P ok err after before = subst P (sym ok) after
  kept_by (Err e) P ok err after before = subst P (sym err) before

  -- the same where what was answered says whether it was put
  pub kept_by_bool : (r : Result Bool E) (P : Server → Type 0) → IfOk r (λ b. OnTrue b (new ≡ put)) → IfOk r (λ b. OnFalse b (new ≡ old)) → OnErr r (new ≡ old) → P put → P old → P new
  kept_by_bool (Ok true) P ok unchanged err after before = subst P (sym ok) after
  kept_by_bool (Ok false) P ok unchanged err after before = subst P (sym unchanged) before
  kept_by_bool (Err e) P ok unchanged err after before = subst P (sym err) before

pub on_true : (b : Bool) (P Q : Type 0) → (P → Q) → OnTrue b P → OnTrue b Q
on_true true P Q f on = f on
on_true false P Q f on = tt

pub on_false : (b : Bool) (P Q : Type 0) → (P → Q) → OnFalse b P → OnFalse b Q
on_false true P Q f on = tt
on_false false P Q f on = f on

module _ {A E : Type 0} where
  pub on_ok : (r : Result A E) (P Q : Type 0) → (P → Q) → OnOk r P → OnOk r Q
  on_ok (Ok x) P Q f ok = f ok
  on_ok (Err e) P Q f ok = tt

  pub on_err : (r : Result A E) (P Q : Type 0) → (P → Q) → OnErr r P → OnErr r Q
  on_err (Ok x) P Q f err = tt
  on_err (Err e) P Q f err = f err

  pub if_ok : (r : Result A E) (P Q : A → Type 0) → ((x : A) → P x → Q x) → IfOk r P → IfOk r Q
  if_ok (Ok x) P Q f ok = f x ok
  if_ok (Err e) P Q f ok = tt

  pub if_ok_on : (r : Result A E) (P R : A → Type 0) (Q : Type 0) → ((x : A) → P x → Q → R x) → IfOk r P → OnOk r Q → IfOk r R
  if_ok_on (Ok x) P R Q f ok on = f x ok on
  if_ok_on (Err e) P R Q f ok on = tt
