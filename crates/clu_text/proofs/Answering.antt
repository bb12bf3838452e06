-- What `tokens` answers.
use Rattle.std.proofs.Common.{◌≡◌, ℕ, ◌≤◌, ◌<◌, false, List, length, refl, sym, ap, subst, inl, inr, arith}
use Rattle.std.specs.Prelude.{◌⊎◌, Result, Ok, Err, IfOk, OnOk, IsErrAnd, IsOkUnless, All, slice_index}
use Rattle.clu_text.specs.declared.token.Token.{Token}
use Rattle.clu_text.specs.declared.fault.TextFault.{TextFault}
use Rattle.clu_text.specs.declared.fault.TextFault.TheVariants.{BadByte, Wide, Memory}
use Rattle.clu_text.specs.Tokens.{is_blank, Fills, IsInRange, HasTokens, NothingBegins, IsBadByte, IsWide, HasNoFault}
use Rattle.clu_text.specs.Front.{FaultAt}
use Rattle.clu_text.proofs.Filling.{no_fault, one_bad, one_wide, bad_or_wide, wide_before, bad_before}

-- what a fault tells of the text
abbrev pub Tells : List ℕ → TextFault → Type 0
Tells text (BadByte p) = IsBadByte text p
Tells text (Wide p) = IsWide text p
Tells text Memory = Unit {0}

-- what an answer tells of it
abbrev pub Answer : {V : Type 0} → (V → List Token) → List ℕ → Result V TextFault → Type 0
Answer items text (Ok v) = HasTokens text (items v)
Answer items text (Err e) = Tells text e

-- ---- answers

pub answer-err : {V : Type 0} (items : V → List Token) (text : List ℕ) (r : Result V TextFault) (e : TextFault) → IsErrAnd r (λ x. x ≡ e) → Tells text e → Answer items text r
answer-err items text (Ok v) e is h = absurd is
answer-err items text (Err x) e is h = subst (Tells text) (sym is) h

-- the fault at a place that was reached
pub tells_at : (text : List ℕ) (at : ℕ) (found : List Token) (e : TextFault) → at < length text → (slice_index text at ≡ 37 → ⊥) → is_blank (slice_index text at) ≡ false →
    Fills text 0 found at → All (IsInRange text) found → FaultAt text at e → Tells text e
tells_at text at found (BadByte p) lt no_comment no_blank f narrow h =
    let nothing : NothingBegins text at = record { within = lt; no_blank = λ b. absurd cc; no_comment = no_comment; no_token = h.1 } in
    let bad : IsBadByte text at = record {
      first = record { before = found; filled = f; nothing = nothing };
      before = λ q w. wide_before text at q found w.before narrow w.wide f w.filled;
    } in
    subst (IsBadByte text) (sym h.0) bad
tells_at text at found (Wide p) lt no_comment no_blank f narrow h =
    let wide : IsWide text at = record {
      first = record { before = found; filled = f; in_range = narrow; wide = h.1 };
      before = λ q b. bad_before text at q found b.before b.nothing f b.filled;
    } in
    subst (IsWide text) (sym h.0) wide
tells_at text at found Memory lt no_comment no_blank f narrow h = absurd h

-- ---- the clauses

pub ok : {V : Type 0} (items : V → List Token) (text : List ℕ) (r : Result V TextFault) → Answer items text r → IfOk r (λ v. HasTokens text (items v))
ok items text (Ok v) h = h
ok items text (Err e) h = tt

pub ok_only : {V : Type 0} (items : V → List Token) (text : List ℕ) (r : Result V TextFault) → Answer items text r → OnOk r (HasNoFault text)
ok_only items text (Ok v) h = no_fault text (items v) h
ok_only items text (Err e) h = tt

pub ok_where : {V : Type 0} (items : V → List Token) (text : List ℕ) (r : Result V TextFault) → Answer items text r → HasNoFault text → IsOkUnless r Memory
ok_where items text (Ok v) h none = tt
ok_where items text (Err (BadByte p)) h none = absurd (none.no_bad_byte p h.first)
ok_where items text (Err (Wide p)) h none = absurd (none.no_wide p h.first)
ok_where items text (Err Memory) h none = refl

pub bad_only : {V : Type 0} (items : V → List Token) (text : List ℕ) (r : Result V TextFault) → Answer items text r → (p : ℕ) → r ≡ Err (BadByte p) → IsBadByte text p
bad_only items text r h p e = subst (Answer items text) e h

pub bad_where : {V : Type 0} (items : V → List Token) (text : List ℕ) (r : Result V TextFault) → Answer items text r → (p : ℕ) → IsBadByte text p → IsErrAnd r (λ e. (e ≡ BadByte p) ⊎ (e ≡ Memory))
bad_where items text (Ok v) h p bad = absurd (let none = no_fault text (items v) h in none.no_bad_byte p bad.first)
bad_where items text (Err (BadByte q)) h p bad = inl (ap BadByte (one_bad text q p h.first bad.first))
bad_where items text (Err (Wide q)) h p bad = absurd (bad_or_wide text p q bad h)
bad_where items text (Err Memory) h p bad = inr refl

pub wide_only : {V : Type 0} (items : V → List Token) (text : List ℕ) (r : Result V TextFault) → Answer items text r → (p : ℕ) → r ≡ Err (Wide p) → IsWide text p
wide_only items text r h p e = subst (Answer items text) e h

pub wide_where : {V : Type 0} (items : V → List Token) (text : List ℕ) (r : Result V TextFault) → Answer items text r → (p : ℕ) → IsWide text p → IsErrAnd r (λ e. (e ≡ Wide p) ⊎ (e ≡ Memory))
wide_where items text (Ok v) h p wide = absurd (let none = no_fault text (items v) h in none.no_wide p wide.first)
wide_where items text (Err (BadByte q)) h p wide = absurd (bad_or_wide text q p h wide)
wide_where items text (Err (Wide q)) h p wide = inl (ap Wide (one_wide text q p h.first wide.first))
wide_where items text (Err Memory) h p wide = inr refl

-- the tokens, where the end was reached
pub whole : (text : List ℕ) (at : ℕ) (found : List Token) → length text ≤ at → at ≤ length text → Fills text 0 found at → All (IsInRange text) found → HasTokens text found
whole text at found past within f narrow =
    let same : at ≡ length text = omega arith in
    record { filled = subst (Fills text 0 found) same f; in_range = narrow }
