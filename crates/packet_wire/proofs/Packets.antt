-- Packets: what is read is what is written, and the laws of their spelling.
use Rattle.std.proofs.Common.{◌≡◌, ℕ, ◌^◌, ◌<◌, Bool, true, false, cond, ltb, eqb, ◌||◌, ◌⊎◌, List, [], ◌∷◌, ◌++◌, length, Option, Some, None, Result, Ok, Err, refl, sym, ap, subst, ◌∙◌, append_assoc, inl, inr}
use Rattle.std.specs.Prelude.{IfOk, IsErrOf}
use Rattle.std.specs.Int.{w64, to_be_bytes}
use Rattle.std.proofs.lemmas.Bool.{ltb-false, le-ltb, eqb-true, or_parts, or_from}
use Rattle.std.proofs.lemmas.List.{append-nil, nil_from_length}
use Rattle.std.proofs.lemmas.Option.{same_Some, cond_some, none-some}
use Rattle.world_types.specs.declared.effects.Outcome.{Outcome}
use Rattle.packet_wire.specs.declared.packet.Packet.{Packet}
use Rattle.packet_wire.specs.declared.packet.Packet.TheVariants.{Call, Reply, MaybeCall, MaybeReply}
use Rattle.packet_wire.specs.declared.reading.Head.{Head}
use Rattle.packet_wire.specs.declared.reading.Request.{Request}
use Rattle.packet_wire.specs.declared.fault.WireFault.{WireFault}
use Rattle.packet_wire.specs.declared.fault.WireFault.TheVariants as faults
use Rattle.packet_wire.specs.Spelling.{head, request, spelling, IsHead, IsWithin, HasWidths, Spells}
use Rattle.packet_wire.specs.Reading.{◌>>=◌, Gives, number_at, head_at, request_at, call_at, reply_at, maybe_call_at, maybe_reply_at, packet_at, whole}
use Rattle.packet_wire.proofs.Parts.{IsBytes, IsBytes-tail, IsPart, step, step_again, passed, number64, outcome_part, head_part, request_part}

-- a packet that has a spelling
abbrev IsCarried : Packet → Type 0
IsCarried p = IsWithin p × HasWidths p

-- what was read behind the kind is written so
abbrev IsTaken : ℕ → List ℕ → Packet × List ℕ → Type 0
IsTaken kind bytes x = (kind ∷ bytes ≡ spelling x.0 ++ x.1) × IsCarried x.0

pub two_parts : (bytes a b after rest : List ℕ) → bytes ≡ a ++ after → after ≡ b ++ rest → bytes ≡ (a ++ b) ++ rest
two_parts bytes a b after rest p q = p ∙ ap (λ r. a ++ r) q ∙ sym (append_assoc a b rest)

-- ---- calls

-- what is made of a call's parts: of its request last, of its floor and what follows, and of its head and all that follows
abbrev of_request : Head → ℕ → Request × List ℕ → Option (Packet × List ℕ)
of_request h floor r = Some (Call h.from h.to h.seq floor r.0.routine r.0.args, r.1)

abbrev of_floor : Head → ℕ × List ℕ → Option (Packet × List ℕ)
of_floor h floor = cond (ltb floor.0 1 || ltb h.seq floor.0) None (request_at floor.1 >>= of_request h floor.0)

abbrev of_head : Head × List ℕ → Option (Packet × List ℕ)
of_head h = number_at w64 h.1 >>= of_floor h.0

call_part : (bytes : List ℕ) (p : Packet) (rest : List ℕ) → IsBytes bytes → call_at bytes ≡ Some (p, rest) → IsTaken 1 bytes (p, rest)
unfolding call_at
call_part bytes p rest fits e =
    let a = step head_part of_head bytes (p, rest) fits e in
    let b = step number64 (of_floor a.value) a.rest (p, rest) a.fits a.goes_on in
    let t = passed (ltb b.value 1 || ltb a.value.seq b.value) (request_at b.rest >>= of_request a.value b.value) (p, rest) b.goes_on in
    let c = step request_part (of_request a.value b.value) b.rest (p, rest) b.fits t.1 in
    let inside = or_parts _ _ t.0 in
    let h = head a.value.from a.value.to a.value.seq in
    let asked = request c.value.routine c.value.args in
    let parts : bytes ≡ (h ++ to_be_bytes w64 b.value ++ asked) ++ c.rest = two_parts bytes (h ++ to_be_bytes w64 b.value) asked b.rest c.rest (two_parts bytes h (to_be_bytes w64 b.value) a.rest b.rest a.parts b.parts) c.parts in
    let made : Packet × List ℕ = (Call a.value.from a.value.to a.value.seq b.value c.value.routine c.value.args, c.rest) in
    let within : IsWithin made.0 = (a.is.0, ltb-false b.value 1 inside.0, ltb-false a.value.seq b.value inside.1, c.is.1) in
    subst (IsTaken 1 bytes) (same_Some made (p, rest) c.goes_on) (ap (λ r. 1 ∷ r) parts, (within, (a.is.1, b.is, c.is.0)))

call_again : (from to seq floor routine : ℕ) (args rest : List ℕ) → IsCarried (Call from to seq floor routine args) → call_at ((head from to seq ++ to_be_bytes w64 floor ++ request routine args) ++ rest) ≡ Some (Call from to seq floor routine args, rest)
unfolding call_at
call_again from to seq floor routine args rest is =
    let h : Head = record { from = from; to = to; seq = seq } in
    let asked = request routine args in
    let regrouped : (head from to seq ++ to_be_bytes w64 floor ++ asked) ++ rest ≡ head from to seq ++ (to_be_bytes w64 floor ++ (asked ++ rest)) = append_assoc (head from to seq ++ to_be_bytes w64 floor) asked rest ∙ append_assoc (head from to seq) (to_be_bytes w64 floor) (asked ++ rest) in
    ap call_at regrouped
    ∙ step_again head_part of_head h (to_be_bytes w64 floor ++ (asked ++ rest)) (is.0.0, is.1.0)
    ∙ step_again number64 (of_floor h) floor (asked ++ rest) is.1.1
    ∙ ap (λ b. cond b None (request_at (asked ++ rest) >>= of_request h floor)) (or_from (ltb floor 1) (ltb seq floor) (le-ltb floor 1 is.0.1) (le-ltb seq floor is.0.2))
    ∙ step_again request_part (of_request h floor) (record { routine = routine; args = args }) rest (is.1.2, is.0.3)

-- ---- the kinds with a head and one part behind it

-- of a part behind the head, with how the packet is made of both
module _ {X : Type 0} {read_at : List ℕ → Option (X × List ℕ)} {written : X → List ℕ} {Is : X → Type 0} (part : IsPart read_at written Is) (kind : ℕ) (make : Head → X → Packet)
    (spelled : (h : Head) (x : X) → spelling (make h x) ≡ kind ∷ (head h.from h.to h.seq ++ written x)) where
  behind : Head → X × List ℕ → Option (Packet × List ℕ)
  behind h x = Some (make h x.0, x.1)

  abbrev after_head : List ℕ → Option (Packet × List ℕ)
  after_head bytes = head_at bytes >>= λ h. read_at h.1 >>= λ x. Some (make h.0 x.0, x.1)

  after_head_taken : ((h : Head) (x : X) → IsHead h.from h.to h.seq → h.seq < 2 ^ 64 → Is x → IsCarried (make h x)) → (bytes : List ℕ) (p : Packet) (rest : List ℕ) → IsBytes bytes → after_head bytes ≡ Some (p, rest) → IsTaken kind bytes (p, rest)
  after_head_taken carried bytes p rest fits e =
      let a = step head_part (λ h. read_at h.1 >>= λ x. Some (make h.0 x.0, x.1)) bytes (p, rest) fits e in
      let b = step part (λ x. Some (make a.value x.0, x.1)) a.rest (p, rest) a.fits a.goes_on in
      let parts : bytes ≡ (head a.value.from a.value.to a.value.seq ++ written b.value) ++ b.rest = two_parts bytes (head a.value.from a.value.to a.value.seq) (written b.value) a.rest b.rest a.parts b.parts in
      let made : Packet × List ℕ = (make a.value b.value, b.rest) in
      subst (IsTaken kind bytes) (same_Some made (p, rest) b.goes_on) (ap (λ r. kind ∷ r) parts ∙ ap (λ r. r ++ b.rest) (sym (spelled a.value b.value)), carried a.value b.value a.is.0 a.is.1 b.is)

  after_head_again : (h : Head) (x : X) (rest : List ℕ) → IsHead h.from h.to h.seq → h.seq < 2 ^ 64 → Is x → after_head ((head h.from h.to h.seq ++ written x) ++ rest) ≡ Some (make h x, rest)
  after_head_again h x rest is below there =
      ap after_head (append_assoc (head h.from h.to h.seq) (written x) rest)
      ∙ step_again head_part (λ h. read_at h.1 >>= λ x. Some (make h.0 x.0, x.1)) h (written x ++ rest) (is, below)
      ∙ step_again part (λ x. Some (make h x.0, x.1)) x rest there

abbrev reply_of : Head → Outcome → Packet
reply_of h ended = Reply h.from h.to h.seq ended

abbrev maybe_call_of : Head → Request → Packet
maybe_call_of h r = MaybeCall h.from h.to h.seq r.routine r.args

abbrev maybe_reply_of : Head → Outcome → Packet
maybe_reply_of h ended = MaybeReply h.from h.to h.seq ended

-- ---- any packet

chosen : {A : Type 0} (test : Bool) (x y z : A) → cond test x y ≡ z → ((test ≡ true) × (x ≡ z)) ⊎ ((test ≡ false) × (y ≡ z))
chosen true x y z e = inl (refl, e)
chosen false x y z e = inr (refl, e)

packet_taken : (bytes : List ℕ) (p : Packet) (rest : List ℕ) → IsBytes bytes → packet_at bytes ≡ Some (p, rest) → (bytes ≡ spelling p ++ rest) × IsCarried p
unfolding packet_at reply_at maybe_call_at maybe_reply_at
packet_taken [] p rest fits e = absurd cc
packet_taken (kind ∷ bytes) p rest fits e =
    elim (chosen (eqb kind 1) (call_at bytes) _ (Some (p, rest)) e) [
      | inl c ↦ of_kind 1 c.0 (call_part bytes p rest tail c.1)
      | inr e ↦ elim (chosen (eqb kind 2) (reply_at bytes) _ (Some (p, rest)) e.1) [
        | inl c ↦ of_kind 2 c.0 (after_head_taken outcome_part 2 reply_of (λ h x. refl) (λ h x is below there. ((is, there), below)) bytes p rest tail c.1)
        | inr e ↦ elim (chosen (eqb kind 3) (maybe_call_at bytes) _ (Some (p, rest)) e.1) [
          | inl c ↦ of_kind 3 c.0 (after_head_taken request_part 3 maybe_call_of (λ h x. refl) (λ h x is below there. ((is, there.1), (below, there.0))) bytes p rest tail c.1)
          | inr e ↦ elim (chosen (eqb kind 4) (maybe_reply_at bytes) None (Some (p, rest)) e.1) [
            | inl c ↦ of_kind 4 c.0 (after_head_taken outcome_part 4 maybe_reply_of (λ h x. refl) (λ h x is below there. ((is, there), below)) bytes p rest tail c.1)
            | inr e ↦ absurd (none-some (p, rest) e.1)
          ]
        ]
      ]
    ]
  where
    tail : IsBytes bytes
    tail = IsBytes-tail kind bytes fits

    of_kind : (k : ℕ) → eqb kind k ≡ true → IsTaken k bytes (p, rest) → IsTaken kind bytes (p, rest)
    of_kind k same taken = subst (λ (n : ℕ). IsTaken n bytes (p, rest)) (sym (eqb-true kind k same)) taken

packet_again : (p : Packet) (rest : List ℕ) → IsCarried p → packet_at (spelling p ++ rest) ≡ Some (p, rest)
unfolding packet_at reply_at maybe_call_at maybe_reply_at
packet_again (Call from to seq floor routine args) rest is = call_again from to seq floor routine args rest is
packet_again (Reply from to seq ended) rest is = after_head_again outcome_part 2 reply_of (λ h x. refl) (record { from = from; to = to; seq = seq }) ended rest is.0.0 is.1 is.0.1
packet_again (MaybeCall from to seq routine args) rest is = after_head_again request_part 3 maybe_call_of (λ h x. refl) (record { from = from; to = to; seq = seq }) (record { routine = routine; args = args }) rest is.0.0 is.1.0 (is.1.1, is.0.1)
packet_again (MaybeReply from to seq ended) rest is = after_head_again outcome_part 4 maybe_reply_of (λ h x. refl) (record { from = from; to = to; seq = seq }) ended rest is.0.0 is.1 is.0.1

-- ---- all of the bytes

abbrev all_read : Packet × List ℕ → Option Packet
all_read x = cond (eqb (length x.1) 0) (Some x.0) None

packet_part : IsPart packet_at spelling IsCarried
packet_part = record { taken = packet_taken; again = packet_again }

whole_taken : (bytes : List ℕ) (p : Packet) → IsBytes bytes → whole bytes ≡ Some p → Spells bytes p
unfolding whole
whole_taken bytes p fits e =
    let s = step packet_part all_read bytes p fits e in
    let t = cond_some (eqb (length s.rest) 0) s.value p s.goes_on in
    let nothing : s.rest ≡ [] = nil_from_length s.rest (eqb-true _ _ t.0) in
    let parts : bytes ≡ spelling s.value = s.parts ∙ ap (λ r. spelling s.value ++ r) nothing ∙ append-nil (spelling s.value) in
    subst (Spells bytes) t.1 (record { within = s.is.0; widths = s.is.1; spelled = parts })

pub whole_again : (bytes : List ℕ) (p : Packet) → Spells bytes p → whole bytes ≡ Some p
unfolding whole
whole_again bytes p s =
    ap whole (s.spelled ∙ sym (append-nil (spelling p))) ∙ step_again packet_part all_read p [] (s.within, s.widths)

-- ---- what `read` says

pub is_spelled : (bytes : List ℕ) (r : Result Packet WireFault) → IsBytes bytes → Gives (λ p. p) r (whole bytes) → IfOk r (λ p. Spells bytes p)
is_spelled bytes (Ok p) fits given = whole_taken bytes p fits given
is_spelled bytes (Err e) fits given = tt

pub is_only : (bytes : List ℕ) (r : Result Packet WireFault) → Gives (λ p. p) r (whole bytes) → (p : Packet) → Spells bytes p → IfOk r (λ q. q ≡ p)
is_only bytes (Ok q) given p s = same_Some q p (sym given ∙ whole_again bytes p s)
is_only bytes (Err e) given p s = tt

pub is_bad : (bytes : List ℕ) (r : Result Packet WireFault) → Gives (λ p. p) r (whole bytes) → IsErrOf r faults.Bad → (p : Packet) → ¬ (Spells bytes p)
is_bad bytes r given bad p s =
    let none : whole bytes ≡ None = subst (λ (x : Result Packet WireFault). Gives (λ p. p) x (whole bytes)) bad given in
    let both : Some p ≡ None = sym (whole_again bytes p s) ∙ none in
    cc

-- ---- the laws

pub same_packet : (bytes : List ℕ) (p q : Packet) → Spells bytes p → Spells bytes q → p ≡ q
same_packet bytes p q s t = same_Some p q (sym (whole_again bytes p s) ∙ whole_again bytes q t)

pub same_spelling : (a b : List ℕ) (p : Packet) → Spells a p → Spells b p → a ≡ b
same_spelling a b p s t = s.spelled ∙ sym t.spelled

-- a spelling that begins another is all of it
pub no_more : (a rest : List ℕ) (p q : Packet) → Spells a p → Spells (a ++ rest) q → rest ≡ []
no_more a rest p q s t =
    let first : packet_at (a ++ rest) ≡ Some (p, rest) = ap (λ x. packet_at (x ++ rest)) s.spelled ∙ packet_again p rest (s.within, s.widths) in
    let second : packet_at (a ++ rest) ≡ Some (q, []) = ap packet_at (t.spelled ∙ sym (append-nil (spelling q))) ∙ packet_again q [] (t.within, t.widths) in
    ap (λ (x : Packet × List ℕ). x.1) (same_Some (p, rest) (q, []) (sym first ∙ second))

-- ---- writing

pub regrouped : (out a b c x y z : List ℕ) → x ≡ out ++ a → y ≡ x ++ b → z ≡ y ++ c → z ≡ out ++ (a ++ b ++ c)
regrouped out a b c x y z p q r = r ∙ ap (λ u. u ++ c) (q ∙ ap (λ v. v ++ b) p) ∙ simp append_assoc
