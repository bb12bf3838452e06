-- A client's pending calls, and what becomes of them.
use Rattle.std.specs.Prelude.{◌≡◌, ◌↔◌, ℕ, ◌+◌, ◌≤◌, ◌^◌, ◌⊎◌, Bool, Option, Result, refl, IsSome, IfSome, IfOk, OnOk, OnErr, IsErrOf}
use Rattle.std.specs.Bool.{OnFalse}
use Rattle.std.specs.Coded.{Coded, code_by, coded×, coded_ℕ}
use Rattle.std.specs.FinMap as map
use Rattle.std.specs.Option.{option_map, option_map_or}
use Rattle.std.specs.List.{slice_get}
use Rattle.std.specs.Ordering.{nat_cmp}
use Rattle.numbered_calls.specs.declared.calls.Asked.{Asked}
use Rattle.numbered_calls.specs.declared.fault.StartFault.{StartFault}
use Rattle.numbered_calls.specs.declared.fault.StartFault.TheVariants.{Full}

-- the last number that was given, or 0, and the calls that are pending, by number
pub record Calls (X : Type 0) : Type 0 where
  pub last : ℕ
  pub pending : map.FinMap nat_cmp (Asked X)

module _ {X : Type 0} (code : Coded X) where
  -- a call is stored as its fields, in a row
  abbrev pub asked_code : Coded (Asked X)
  asked_code =
      code_by (ℕ × (ℕ × X)) (coded× coded_ℕ (coded× coded_ℕ code))
      (λ c. (c.to, (c.routine, c.args))) (λ p. record { to = p.0; routine = p.1.0; args = p.1.1 }) (λ _. refl)

  -- and the calls as the pair of theirs
  abbrev pub calls_code : Coded (Calls X)
  calls_code =
      code_by (ℕ × map.FinMap nat_cmp (Asked X)) (coded× coded_ℕ (map.code coded_ℕ asked_code)) (λ c. (c.last, c.pending)) (λ p. record { last = p.0; pending = p.1 }) (λ _. refl)

module _ {X : Type 0} where
  -- no call was made
  abbrev pub none_yet : Calls X
  none_yet = record { last = 0; pending = map.empty }

  -- one more call, under the next number
  abbrev pub with_call : Calls X → Asked X → Calls X
  with_call calls call = record { last = calls.last + 1; pending = map.insert calls.pending (calls.last + 1) call }

  -- the call is pending no more
  abbrev pub without : Calls X → ℕ → Calls X
  without calls seq = record { last = calls.last; pending = map.remove calls.pending seq }

  abbrev pub IsPending : Calls X → ℕ → Type 0
  IsPending calls seq = IsSome (map.get calls.pending seq)

  -- the first pending number, or the next number where no call is pending
  abbrev pub floor_of : Calls X → ℕ
  floor_of calls = option_map_or (λ seq. seq) (slice_get (map.keys calls.pending) 0) (calls.last + 1)

  -- number, server and routine of the pending call at this place by number, from 0
  abbrev pub call_at : Calls X → ℕ → Option (ℕ × ℕ × ℕ)
  call_at calls place = option_map (λ c. (c.0, c.1.to, c.1.routine)) (slice_get (map.entries calls.pending) place)

  -- the number was given to a call
  abbrev pub IsGiven : Calls X → ℕ → Type 0
  IsGiven calls seq = (1 ≤ seq) × (seq ≤ calls.last)

  -- each pending number was given, and is from 1 to 2 ^ 62
  pub record AreNumbered (calls : Calls X) : Type 0 where
    pub given : (seq : ℕ) → IsPending calls seq → IsGiven calls seq
    pub limit : calls.last ≤ 2 ^ 62

  -- a call gets the next number, and is pending under it; `Full` comes exactly after number 2 ^ 62, and after a fault all is as before
  pub record Starts (old new : Calls X) (call : Asked X) (result : Result ℕ StartFault) : Type 0 where
    pub number : IfOk result (λ seq. seq ≡ old.last + 1)
    pub ok : OnOk result (new ≡ with_call old call)
    pub pending : IfOk result (IsPending new)
    pub full : IsErrOf result Full ↔ (old.last ≡ 2 ^ 62)
    pub err : OnErr result (new ≡ old)
    pub numbered : AreNumbered new

  -- the call is pending no more; false exactly where it wasn't, and then all is as before
  pub record Ends (old new : Calls X) (seq : ℕ) (result : Bool) : Type 0 where
    pub pending : result ≡ map.contains_key old.pending seq
    pub ended : new ≡ without old seq
    pub unchanged : OnFalse result (new ≡ old)
    pub numbered : AreNumbered new

  -- the number is the least that is pending, or the next where no call is
  pub record IsFloor (calls : Calls X) (n : ℕ) : Type 0 where
    pub floor : n ≡ floor_of calls
    pub least : (seq : ℕ) → IsPending calls seq → n ≤ seq
    pub either : IsPending calls n ⊎ ((calls.pending ≡ map.empty) × (n ≡ calls.last + 1))
    pub numbered : AreNumbered calls

  -- the pending call at place k, which was given its number
  pub record IsAt (calls : Calls X) (k : ℕ) (result : Option (ℕ × ℕ × ℕ)) : Type 0 where
    pub place : result ≡ call_at calls k
    pub pending : IfSome result (λ c. IsPending calls c.0)
    pub given : IfSome result (λ c. IsGiven calls c.0)
    pub numbered : AreNumbered calls
