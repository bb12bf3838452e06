-- The parts of a packet: what is read of each is what is written of it.
use Rattle.std.proofs.Common.{◌≡◌, ℕ, zero, suc, ◌+◌, ◌^◌, ◌<◌, ◌≤◌, Bool, true, false, cond, ltb, ◌||◌, List, [], ◌∷◌, ◌++◌, length, get_or, take, drop, Option, Some, None, refl, sym, ap, subst, ◌∙◌, append_assoc, arith, inl, inr}
use Rattle.std.specs.Prelude.{IfSome}
use Rattle.std.specs.Int.{Width, w16, w64, byte_len, from_be_bytes, to_be_bytes}
use Rattle.std.proofs.lemmas.Bool.{cases_lt, ltb-false, le-ltb, or_parts, or_from}
use Rattle.std.proofs.lemmas.List.{take_at, drop_at, take-append-drop, length-append, length-take, get_or-drop, get_or-take, get_or_past}
use Rattle.std.proofs.lemmas.Option.{same_Some}
use Rattle.std.proofs.lemmas.Nat.{be_bytes_2, be_bytes_8, from_be_bytes-to_be_bytes_2, from_be_bytes-to_be_bytes_8}
use Rattle.world_types.specs.declared.effects.Outcome.{Outcome}
use Rattle.world_types.specs.declared.effects.Outcome.TheVariants.{Value, Raised}
use Rattle.packet_wire.specs.declared.reading.Head.{Head}
use Rattle.packet_wire.specs.declared.reading.Request.{Request}
use Rattle.packet_wire.specs.Spelling.{piece, optional, name, outcome, head, request, IsNode, IsPiece, IsName, IsOutcome, IsHead}
use Rattle.packet_wire.specs.Reading.{◌>>=◌, number_at, bytes_at, node_at, piece_at, name_at, optional_at, outcome_at, head_at, request_at}

-- each item is a byte
abbrev pub IsBytes : List ℕ → Type 0
IsBytes bytes = (i : ℕ) → get_or bytes i 0 < 256

IsBytes-drop : (n : ℕ) (bytes : List ℕ) → IsBytes bytes → IsBytes (drop n bytes)
IsBytes-drop n bytes fits i = rw get_or-drop (fits (n + i))

IsBytes-take : (n : ℕ) (bytes : List ℕ) → IsBytes bytes → IsBytes (take n bytes)
IsBytes-take n bytes fits i =
    elim (cases_lt i n) [
      | inl inside ↦ rw (get_or-take n bytes i 0 inside) (fits i)
      | inr past ↦ rw (get_or_past (take n bytes) i 0 (omega (arith, length-take n bytes))) (omega arith)
    ]

IsBytes-behind : (front rest bytes : List ℕ) → bytes ≡ front ++ rest → IsBytes bytes → IsBytes rest
IsBytes-behind front rest bytes e fits = subst IsBytes (drop_at front rest (length front) refl) (IsBytes-drop (length front) (front ++ rest) (subst IsBytes e fits))

pub IsBytes-tail : (b : ℕ) (bytes : List ℕ) → IsBytes (b ∷ bytes) → IsBytes bytes
IsBytes-tail b bytes fits i = fits (suc i)

-- A part: how it is read from the front, how it is written, and which values are written so.
pub record IsPart {X : Type 0} (read_at : List ℕ → Option (X × List ℕ)) (written : X → List ℕ) (Is : X → Type 0) : Type 0 where
  -- what is read stands in front
  pub taken : (bytes : List ℕ) (x : X) (rest : List ℕ) → IsBytes bytes → read_at bytes ≡ Some (x, rest) → (bytes ≡ written x ++ rest) × Is x
  -- what is written is read, whatever follows
  pub again : (x : X) (rest : List ℕ) → Is x → read_at (written x ++ rest) ≡ Some (x, rest)

-- ---- steps, one part behind the other

some_bound : {A B : Type 0} (o : Option A) (next : A → Option B) (y : B) → (o >>= next) ≡ Some y → (x : A) × (o ≡ Some x) × (next x ≡ Some y)
some_bound (Some x) next y e = (x, refl, e)
some_bound None next y e = absurd cc

-- what comes behind a test that refuses
pub passed : {A : Type 0} (refused : Bool) (o : Option A) (y : A) → cond refused None o ≡ Some y → (refused ≡ false) × (o ≡ Some y)
passed true o y e = absurd cc
passed false o y e = (refl, e)

-- a part was read, and y was made of it and of the bytes behind it
pub record Step {X Y : Type 0} (written : X → List ℕ) (Is : X → Type 0) (next : X × List ℕ → Option Y) (bytes : List ℕ) (y : Y) : Type 0 where
  pub value : X
  pub rest : List ℕ
  pub parts : bytes ≡ written value ++ rest
  pub is : Is value
  pub fits : IsBytes rest
  pub goes_on : next (value, rest) ≡ Some y

module _ {X Y : Type 0} {read_at : List ℕ → Option (X × List ℕ)} {written : X → List ℕ} {Is : X → Type 0} (part : IsPart read_at written Is) where
  pub step : (next : X × List ℕ → Option Y) (bytes : List ℕ) (y : Y) → IsBytes bytes → (read_at bytes >>= next) ≡ Some y → Step written Is next bytes y
  step next bytes y fits e =
      let b = some_bound (read_at bytes) next y e in
      let t = part.taken bytes b.0.0 b.0.1 fits b.1 in
      record { value = b.0.0; rest = b.0.1; parts = t.0; is = t.1; fits = IsBytes-behind (written b.0.0) b.0.1 bytes t.0 fits; goes_on = b.2 }

  pub step_again : (next : X × List ℕ → Option Y) (x : X) (rest : List ℕ) → Is x → (read_at (written x ++ rest) >>= next) ≡ next (x, rest)
  step_again next x rest is = ap (λ o. o >>= next) (part.again x rest is)

-- ---- numbers

-- the width holds the numbers below the limit
record IsWide (w : Width) (limit : ℕ) : Type 0 where
  len : (n : ℕ) → length (to_be_bytes w n) ≡ byte_len w
  back : (bytes : List ℕ) → length bytes ≡ byte_len w → IsBytes bytes → to_be_bytes w (from_be_bytes w bytes) ≡ bytes
  again : (n : ℕ) → n < limit → from_be_bytes w (to_be_bytes w n) ≡ n
  below : (bytes : List ℕ) → IsBytes bytes → from_be_bytes w bytes < limit

wide16 : IsWide w16 (2 ^ 16)
wide16 = record {
  len = λ n. refl;
  back = λ bytes len fits. be_bytes_2 bytes _ len fits refl;
  again = λ n below. from_be_bytes-to_be_bytes_2 n below;
  below = λ bytes fits. omega (arith, fits 0, fits 1);
}

wide64 : IsWide w64 (2 ^ 64)
wide64 = record {
  len = λ n. refl;
  back = λ bytes len fits. be_bytes_8 bytes _ len fits refl;
  again = λ n below. from_be_bytes-to_be_bytes_8 n below;
  below = λ bytes fits. omega (arith, fits 0, fits 1, fits 2, fits 3, fits 4, fits 5, fits 6, fits 7);
}

number_part : (w : Width) (limit : ℕ) → IsWide w limit → IsPart (number_at w) (to_be_bytes w) (λ n. n < limit)
number_part w limit wide = record { taken = taken; again = again }
  where
    taken : (bytes : List ℕ) (n : ℕ) (rest : List ℕ) → IsBytes bytes → number_at w bytes ≡ Some (n, rest) → (bytes ≡ to_be_bytes w n ++ rest) × (n < limit)
    taken bytes n rest fits e =
        let front = take (byte_len w) bytes in
        let p = passed (ltb (length bytes) (byte_len w)) (Some (from_be_bytes w front, drop (byte_len w) bytes)) (n, rest) e in
        let long : byte_len w ≤ length bytes = ltb-false _ _ p.0 in
        let whole : to_be_bytes w (from_be_bytes w front) ≡ front = wide.back front (omega (arith, length-take (byte_len w) bytes)) (IsBytes-take (byte_len w) bytes fits) in
        let parts : bytes ≡ to_be_bytes w (from_be_bytes w front) ++ drop (byte_len w) bytes = rw whole (sym (take-append-drop (byte_len w) bytes)) in
        subst (λ (x : ℕ × List ℕ). (bytes ≡ to_be_bytes w x.0 ++ x.1) × (x.0 < limit)) (same_Some _ _ p.1) (parts, wide.below front (IsBytes-take (byte_len w) bytes fits))

    again : (n : ℕ) (rest : List ℕ) → n < limit → number_at w (to_be_bytes w n ++ rest) ≡ Some (n, rest)
    again n rest below =
        let len = wide.len n in
        let long : ltb (length (to_be_bytes w n ++ rest)) (byte_len w) ≡ false = le-ltb _ _ (omega (arith, length-append (to_be_bytes w n) rest)) in
        rw (long, take_at (to_be_bytes w n) rest (byte_len w) len, drop_at (to_be_bytes w n) rest (byte_len w) len, wide.again n below) refl

pub number16 : IsPart (number_at w16) (to_be_bytes w16) (λ n. n < 2 ^ 16)
number16 = number_part w16 (2 ^ 16) wide16

pub number64 : IsPart (number_at w64) (to_be_bytes w64) (λ n. n < 2 ^ 64)
number64 = number_part w64 (2 ^ 64) wide64

node_part : IsPart node_at (λ n. n ∷ []) IsNode
unfolding node_at
node_part = record { taken = taken; again = again }
  where
    taken : (bytes : List ℕ) (n : ℕ) (rest : List ℕ) → IsBytes bytes → node_at bytes ≡ Some (n, rest) → (bytes ≡ n ∷ rest) × IsNode n
    taken [] n rest fits e = absurd cc
    taken (m ∷ bytes) n rest fits e =
        let p = passed (ltb m 1 || ltb 8 m) (Some (m, bytes)) (n, rest) e in
        let inside = or_parts _ _ p.0 in
        subst (λ (x : ℕ × List ℕ). (m ∷ bytes ≡ x.0 ∷ x.1) × IsNode x.0) (same_Some _ _ p.1) (refl, (ltb-false m 1 inside.0, ltb-false 8 m inside.1))

    again : (n : ℕ) (rest : List ℕ) → IsNode n → node_at (n ∷ rest) ≡ Some (n, rest)
    again n rest is = rw (or_from (ltb n 1) (ltb 8 n) (le-ltb n 1 is.0) (le-ltb 8 n is.1)) refl

-- ---- pieces of bytes

bytes_part : (n : ℕ) → IsPart (bytes_at n) (λ x. x) (λ x. length x ≡ n)
bytes_part n = record { taken = taken; again = again }
  where
    taken : (bytes x rest : List ℕ) → IsBytes bytes → bytes_at n bytes ≡ Some (x, rest) → (bytes ≡ x ++ rest) × (length x ≡ n)
    taken bytes x rest fits e =
        let p = passed (ltb (length bytes) n) (Some (take n bytes, drop n bytes)) (x, rest) e in
        let long : n ≤ length bytes = ltb-false _ _ p.0 in
        subst (λ (y : List ℕ × List ℕ). (bytes ≡ y.0 ++ y.1) × (length y.0 ≡ n)) (same_Some _ _ p.1) (sym (take-append-drop n bytes), omega (arith, length-take n bytes))

    again : (x rest : List ℕ) → length x ≡ n → bytes_at n (x ++ rest) ≡ Some (x, rest)
    again x rest len =
        let long : ltb (length (x ++ rest)) n ≡ false = le-ltb _ _ (omega (arith, length-append x rest)) in
        rw (long, take_at x rest n len, drop_at x rest n len) refl

pub piece_part : IsPart piece_at piece IsPiece
unfolding piece_at
piece_part = record { taken = taken; again = again }
  where
    taken : (bytes x rest : List ℕ) → IsBytes bytes → piece_at bytes ≡ Some (x, rest) → (bytes ≡ piece x ++ rest) × IsPiece x
    taken bytes x rest fits e =
        let s = step number16 (λ n. cond (ltb 16384 n.0) None (bytes_at n.0 n.1)) bytes (x, rest) fits e in
        let p = passed (ltb 16384 s.value) (bytes_at s.value s.rest) (x, rest) s.goes_on in
        let t = (bytes_part s.value).taken s.rest x rest s.fits p.1 in
        let short : s.value ≤ 16384 = ltb-false _ _ p.0 in
        let parts : bytes ≡ to_be_bytes w16 s.value ++ (x ++ rest) = s.parts ∙ ap (λ r. to_be_bytes w16 s.value ++ r) t.0 in
        (parts ∙ ap (λ n. to_be_bytes w16 n ++ (x ++ rest)) (sym t.1) ∙ sym (append_assoc (to_be_bytes w16 (length x)) x rest), omega (arith, t.1))

    again : (x rest : List ℕ) → IsPiece x → piece_at (piece x ++ rest) ≡ Some (x, rest)
    again x rest short =
        ap piece_at (append_assoc (to_be_bytes w16 (length x)) x rest)
        ∙ step_again number16 (λ n. cond (ltb 16384 n.0) None (bytes_at n.0 n.1)) (length x) (x ++ rest) (omega arith)
        ∙ rw (le-ltb 16384 (length x) short) ((bytes_part (length x)).again x rest refl)

name_part : IsPart name_at name IsName
unfolding name_at
name_part = record { taken = taken; again = again }
  where
    taken : (bytes x rest : List ℕ) → IsBytes bytes → name_at bytes ≡ Some (x, rest) → (bytes ≡ name x ++ rest) × IsName x
    taken [] x rest fits e = absurd cc
    taken (n ∷ bytes) x rest fits e =
        let p = passed (ltb n 1 || ltb 64 n) (bytes_at n bytes) (x, rest) e in
        let inside = or_parts _ _ p.0 in
        let t = (bytes_part n).taken bytes x rest (IsBytes-tail n bytes fits) p.1 in
        let least : 1 ≤ n = ltb-false n 1 inside.0 in
        let most : n ≤ 64 = ltb-false 64 n inside.1 in
        (ap (λ r. n ∷ r) t.0 ∙ ap (λ k. k ∷ (x ++ rest)) (sym t.1), (omega (arith, t.1), omega (arith, t.1)))

    again : (x rest : List ℕ) → IsName x → name_at (name x ++ rest) ≡ Some (x, rest)
    again x rest is = rw (or_from (ltb (length x) 1) (ltb 64 (length x)) (le-ltb (length x) 1 is.0) (le-ltb 64 (length x) is.1)) ((bytes_part (length x)).again x rest refl)

optional_part : IsPart optional_at optional (λ o. IfSome o IsPiece)
unfolding optional_at
optional_part = record { taken = taken; again = again }
  where
    taken : (bytes : List ℕ) (o : Option (List ℕ)) (rest : List ℕ) → IsBytes bytes → optional_at bytes ≡ Some (o, rest) → (bytes ≡ optional o ++ rest) × IfSome o IsPiece
    taken [] o rest fits e = absurd cc
    taken (zero ∷ bytes) o rest fits e = subst (λ (x : Option (List ℕ) × List ℕ). (0 ∷ bytes ≡ optional x.0 ++ x.1) × IfSome x.0 IsPiece) (same_Some (None, bytes) (o, rest) e) (refl, tt)
    taken (suc zero ∷ bytes) o rest fits e =
        let s = step piece_part (λ v. Some (Some v.0, v.1)) bytes (o, rest) (IsBytes-tail 1 bytes fits) e in
        subst (λ (x : Option (List ℕ) × List ℕ). (1 ∷ bytes ≡ optional x.0 ++ x.1) × IfSome x.0 IsPiece) (same_Some (Some s.value, s.rest) (o, rest) s.goes_on) (ap (λ r. 1 ∷ r) s.parts, s.is)
    taken (suc (suc n) ∷ bytes) o rest fits e = absurd cc

    again : (o : Option (List ℕ)) (rest : List ℕ) → IfSome o IsPiece → optional_at (optional o ++ rest) ≡ Some (o, rest)
    again None rest is = refl
    again (Some x) rest is = step_again piece_part (λ v. Some (Some v.0, v.1)) x rest is

pub outcome_part : IsPart outcome_at outcome IsOutcome
unfolding outcome_at
outcome_part = record { taken = taken; again = again }
  where
    raised : List ℕ × List ℕ → Option (Outcome × List ℕ)
    raised called = optional_at called.1 >>= λ value. Some (Raised called.0 value.0, value.1)

    taken : (bytes : List ℕ) (o : Outcome) (rest : List ℕ) → IsBytes bytes → outcome_at bytes ≡ Some (o, rest) → (bytes ≡ outcome o ++ rest) × IsOutcome o
    taken [] o rest fits e = absurd cc
    taken (zero ∷ bytes) o rest fits e =
        let s = step piece_part (λ v. Some (Value v.0, v.1)) bytes (o, rest) (IsBytes-tail 0 bytes fits) e in
        subst (λ (x : Outcome × List ℕ). (0 ∷ bytes ≡ outcome x.0 ++ x.1) × IsOutcome x.0) (same_Some (Value s.value, s.rest) (o, rest) s.goes_on) (ap (λ r. 0 ∷ r) s.parts, s.is)
    taken (suc zero ∷ bytes) o rest fits e =
        let s = step name_part raised bytes (o, rest) (IsBytes-tail 1 bytes fits) e in
        let t = step optional_part (λ value. Some (Raised s.value value.0, value.1)) s.rest (o, rest) s.fits s.goes_on in
        let parts : bytes ≡ (name s.value ++ optional t.value) ++ t.rest = s.parts ∙ ap (λ r. name s.value ++ r) t.parts ∙ sym (append_assoc (name s.value) (optional t.value) t.rest) in
        subst (λ (x : Outcome × List ℕ). (1 ∷ bytes ≡ outcome x.0 ++ x.1) × IsOutcome x.0) (same_Some (Raised s.value t.value, t.rest) (o, rest) t.goes_on) (ap (λ r. 1 ∷ r) parts, (s.is, t.is))
    taken (suc (suc n) ∷ bytes) o rest fits e = absurd cc

    again : (o : Outcome) (rest : List ℕ) → IsOutcome o → outcome_at (outcome o ++ rest) ≡ Some (o, rest)
    again (Value x) rest is = step_again piece_part (λ v. Some (Value v.0, v.1)) x rest is
    again (Raised called value) rest is =
        ap (λ r. outcome_at (1 ∷ r)) (append_assoc (name called) (optional value) rest)
        ∙ step_again name_part raised called (optional value ++ rest) is.0
        ∙ step_again optional_part (λ v. Some (Raised called v.0, v.1)) value rest is.1

-- ---- the head, and what a call asks for

-- a head that is written
abbrev pub IsWritten : Head → Type 0
IsWritten h = IsHead h.from h.to h.seq × (h.seq < 2 ^ 64)

pub head_part : IsPart head_at (λ h. head h.from h.to h.seq) IsWritten
unfolding head_at
head_part = record { taken = taken; again = again }
  where
    last : ℕ → ℕ → ℕ × List ℕ → Option (Head × List ℕ)
    last from to seq = cond (ltb seq.0 1) None (Some (record { from = from; to = to; seq = seq.0 }, seq.1))

    second : ℕ → ℕ × List ℕ → Option (Head × List ℕ)
    second from to = number_at w64 to.1 >>= last from to.0

    first : ℕ × List ℕ → Option (Head × List ℕ)
    first from = node_at from.1 >>= second from.0

    taken : (bytes : List ℕ) (h : Head) (rest : List ℕ) → IsBytes bytes → head_at bytes ≡ Some (h, rest) → (bytes ≡ head h.from h.to h.seq ++ rest) × IsWritten h
    taken bytes h rest fits e =
        let a = step node_part first bytes (h, rest) fits e in
        let b = step node_part (second a.value) a.rest (h, rest) a.fits a.goes_on in
        let c = step number64 (last a.value b.value) b.rest (h, rest) b.fits b.goes_on in
        let made : Head × List ℕ = (record { from = a.value; to = b.value; seq = c.value }, c.rest) in
        let p = passed (ltb c.value 1) (Some made) (h, rest) c.goes_on in
        let parts : bytes ≡ a.value ∷ b.value ∷ (to_be_bytes w64 c.value ++ c.rest) = a.parts ∙ ap (λ r. a.value ∷ r) b.parts ∙ ap (λ r. a.value ∷ b.value ∷ r) c.parts in
        subst (λ (x : Head × List ℕ). (bytes ≡ head x.0.from x.0.to x.0.seq ++ x.1) × IsWritten x.0) (same_Some made (h, rest) p.1) (parts, (record { sender = a.is; receiver = b.is; number = ltb-false c.value 1 p.0 }, c.is))

    again : (h : Head) (rest : List ℕ) → IsWritten h → head_at (head h.from h.to h.seq ++ rest) ≡ Some (h, rest)
    again h rest is =
        step_again node_part first h.from (h.to ∷ (to_be_bytes w64 h.seq ++ rest)) is.0.sender
        ∙ step_again node_part (second h.from) h.to (to_be_bytes w64 h.seq ++ rest) is.0.receiver
        ∙ step_again number64 (last h.from h.to) h.seq rest is.1
        ∙ rw (le-ltb h.seq 1 is.0.number) refl

-- what a call asks for, as it is written
abbrev pub IsAsked : Request → Type 0
IsAsked r = (r.routine < 2 ^ 16) × IsPiece r.args

pub request_part : IsPart request_at (λ r. request r.routine r.args) IsAsked
unfolding request_at
request_part = record { taken = taken; again = again }
  where
    last : ℕ → List ℕ × List ℕ → Option (Request × List ℕ)
    last routine args = Some (record { routine = routine; args = args.0 }, args.1)

    first : ℕ × List ℕ → Option (Request × List ℕ)
    first routine = piece_at routine.1 >>= last routine.0

    taken : (bytes : List ℕ) (r : Request) (rest : List ℕ) → IsBytes bytes → request_at bytes ≡ Some (r, rest) → (bytes ≡ request r.routine r.args ++ rest) × IsAsked r
    taken bytes r rest fits e =
        let a = step number16 first bytes (r, rest) fits e in
        let b = step piece_part (last a.value) a.rest (r, rest) a.fits a.goes_on in
        let made : Request × List ℕ = (record { routine = a.value; args = b.value }, b.rest) in
        let parts : bytes ≡ (to_be_bytes w16 a.value ++ piece b.value) ++ b.rest = a.parts ∙ ap (λ x. to_be_bytes w16 a.value ++ x) b.parts ∙ sym (append_assoc (to_be_bytes w16 a.value) (piece b.value) b.rest) in
        subst (λ (x : Request × List ℕ). (bytes ≡ request x.0.routine x.0.args ++ x.1) × IsAsked x.0) (same_Some made (r, rest) b.goes_on) (parts, (a.is, b.is))

    again : (r : Request) (rest : List ℕ) → IsAsked r → request_at (request r.routine r.args ++ rest) ≡ Some (r, rest)
    again r rest is =
        ap request_at (append_assoc (to_be_bytes w16 r.routine) (piece r.args) rest)
        ∙ step_again number16 first r.routine (piece r.args ++ rest) is.0
        ∙ step_again piece_part (last r.routine) r.args rest is.1
