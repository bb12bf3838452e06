-- The tokens from one place of a text to another.
use Rattle.std.proofs.Common.{◌≡◌, ℕ, ◌+◌, ◌≤◌, ◌<◌, true, List, [], ◌∷◌, ◌++◌, length, refl, sym, ap, ◌∙◌, subst, arith}
use Rattle.std.specs.Prelude.{All, slice_index}
use Rattle.std.proofs.lemmas.List.{append-nil}
use Rattle.std.proofs.lemmas.List.Elements.{All-nil, All-cons, All-head, All-tail}
use Rattle.clu_text.specs.declared.token.Token.{Token}
use Rattle.clu_text.specs.Tokens.{is_blank, IsComment, IsTokenAt, Fills, here, blank, comment, token, IsInRange, HasTokens, NothingBegins, BeginsWide, IsFirstBad, IsFirstWide, IsBadByte, IsWide, HasNoFault, IsSpelled, AreInOrder}
use Rattle.clu_text.proofs.Bytes.{Starts, starts-no_blank}
use Rattle.clu_text.proofs.Places.{token-some, token-starts, one_token_at, one_comment}

-- ---- one step more

pub fills-append : (text : List ℕ) (at m to : ℕ) (ts us : List Token) → Fills text at ts m → Fills text m us to → Fills text at (ts ++ us) to
fills-append text at _ to _ us here g = g
fills-append text at m to ts us (blank lt b f) g = blank lt b (fills-append text (at + 1) m to ts us f g)
fills-append text at m to ts us (comment {behind = behind} c f) g = comment c (fills-append text behind m to ts us f g)
fills-append text at m to _ us (token {t = t} {ts = ts} e h f) g = token e h (fills-append text t.to m to ts us f g)

-- nothing stands behind these
more_none : (text : List ℕ) (at m to : ℕ) (ts : List Token) → Fills text at ts m → Fills text m [] to → Fills text at ts to
more_none text at m to ts f g = subst (λ us. Fills text at us to) (append-nil ts) (fills-append text at m to ts [] f g)

pub fills-blank : (text : List ℕ) (m : ℕ) (ts : List Token) → m < length text → is_blank (slice_index text m) ≡ true → Fills text 0 ts m → Fills text 0 ts (m + 1)
fills-blank text m ts lt b f = more_none text 0 m (m + 1) ts f (blank lt b here)

pub fills-comment : (text : List ℕ) (m to : ℕ) (ts : List Token) → IsComment text m to → Fills text 0 ts m → Fills text 0 ts to
fills-comment text m to ts c f = more_none text 0 m to ts f (comment c here)

pub fills-token : (text : List ℕ) (m : ℕ) (ts : List Token) (t : Token) → t.from ≡ m → IsTokenAt text t → Fills text 0 ts m → Fills text 0 (ts ++ t ∷ []) t.to
fills-token text m ts t e h f = fills-append text 0 m t.to ts (t ∷ []) f (token e h here)

-- ---- what excludes what

blank_or_comment : (b : ℕ) → is_blank b ≡ true → b ≡ 37 → ⊥
blank_or_comment b h e = let no = ap is_blank e in absurd cc

at_blank : (text : List ℕ) (at : ℕ) (t : Token) → t.from ≡ at → IsTokenAt text t → is_blank (slice_index text at) ≡ true → ⊥
at_blank text at t e h b = starts-no_blank (slice_index text at) (subst (λ x. Starts (slice_index text x)) e (token-starts text t h)) b

at_comment : (text : List ℕ) (at : ℕ) (t : Token) → t.from ≡ at → IsTokenAt text t → slice_index text at ≡ 37 → ⊥
at_comment text at t e h b = let s = token-starts text t h in s.no_comment (ap (slice_index text) e ∙ b)

-- ---- two ways from one place meet

-- One goes on where the other ends.
data Meets (text : List ℕ) (ts us : List Token) (p q : ℕ) : Type 0 where
  first : (vs : List Token) → us ≡ ts ++ vs → Fills text p vs q → Meets text ts us p q
  second : (vs : List Token) → ts ≡ us ++ vs → Fills text q vs p → Meets text ts us p q

meets-cons : (text : List ℕ) (t : Token) (ts us : List Token) (p q : ℕ) → Meets text ts us p q → Meets text (t ∷ ts) (t ∷ us) p q
meets-cons text t ts us p q (first vs e f) = first vs (ap (λ (x : List Token). t ∷ x) e) f
meets-cons text t ts us p q (second vs e f) = second vs (ap (λ (x : List Token). t ∷ x) e) f

meet : (text : List ℕ) (at p q : ℕ) (ts us : List Token) → Fills text at ts p → Fills text at us q → Meets text ts us p q
meet text at _ q _ us here g = first us refl g
meet text at p _ ts _ (blank lt b f) here = second ts refl (blank lt b f)
meet text at p q ts us (blank lt b f) (blank lt' b' g) = meet text (at + 1) p q ts us f g
meet text at p q ts us (blank lt b f) (comment c g) = absurd (blank_or_comment (slice_index text at) b c.begins)
meet text at p q ts _ (blank lt b f) (token {t = u} e h g) = absurd (at_blank text at u e h b)
meet text at p _ ts _ (comment c f) here = second ts refl (comment c f)
meet text at p q ts us (comment c f) (blank lt b g) = absurd (blank_or_comment (slice_index text at) b c.begins)
meet text at p q ts us (comment {behind = m} c f) (comment {behind = n} d g) =
    meet text m p q ts us f (subst (λ x. Fills text x us q) (sym (one_comment text at m n c d)) g)
meet text at p q ts _ (comment c f) (token {t = u} e h g) = absurd (at_comment text at u e h c.begins)
meet text at p _ _ _ (token {t = t} {ts = ts} e h f) here = second (t ∷ ts) refl (token e h f)
meet text at p q _ us (token {t = t} e h f) (blank lt b g) = absurd (at_blank text at t e h b)
meet text at p q _ us (token {t = t} e h f) (comment c g) = absurd (at_comment text at t e h c.begins)
meet text at p q _ _ (token {t = t} {ts = ts} e h f) (token {t = u} {ts = us} i k g) =
    let same = one_token_at text t u (e ∙ sym i) h k in
    let on = meet text t.to p q ts us f (subst (λ (x : Token). Fills text x.to us q) (sym same) g) in
    subst (λ (x : Token). Meets text (t ∷ ts) (x ∷ us) p q) same (meets-cons text t ts us p q on)

-- ---- where it stops

-- nothing goes on from this place
abbrev Stops : List ℕ → ℕ → Type 0
Stops text p = (vs : List Token) (q : ℕ) → Fills text p vs q → (p ≡ q) × (vs ≡ [])

nothing-stops : (text : List ℕ) (p : ℕ) → NothingBegins text p → Stops text p
nothing-stops text p n _ _ here = (refl, refl)
nothing-stops text p n vs q (blank lt b f) = absurd (n.no_blank b)
nothing-stops text p n vs q (comment c f) = absurd (n.no_comment c.begins)
nothing-stops text p n _ q (token {t = t} e h f) = absurd (n.no_token t e h)

end-stops : (text : List ℕ) (p : ℕ) → length text ≤ p → Stops text p
end-stops text p le _ _ here = (refl, refl)
end-stops text p le vs q (blank lt b f) = absurd (omega arith)
end-stops text p le vs q (comment c f) = absurd (let some = c.some in let within = c.within in omega arith)
end-stops text p le _ q (token {t = t} e h f) = absurd (let some = token-some text t h in omega (arith, some.1))

-- two ways that stop are the same
one_stop : (text : List ℕ) (p q : ℕ) (ts us : List Token) → Stops text p → Stops text q → Fills text 0 ts p → Fills text 0 us q → (p ≡ q) × (us ≡ ts)
one_stop text p q ts us s r f g = by_meet (meet text 0 p q ts us f g)
  where
    by_meet : Meets text ts us p q → (p ≡ q) × (us ≡ ts)
    by_meet (first vs e f) = let same = s vs q f in (same.0, e ∙ (ap (λ (x : List Token). ts ++ x) same.1 ∙ append-nil ts))
    by_meet (second vs e f) = let same = r vs p f in (sym same.0, sym (e ∙ (ap (λ (x : List Token). us ++ x) same.1 ∙ append-nil us)))

-- ---- at a too wide int

too_wide : (text : List ℕ) (t : Token) (w : BeginsWide text t.from) → IsTokenAt text t → IsInRange text t → ⊥
too_wide text t w h narrow =
    let same = one_token_at text w.token t w.begins w.is h in
    let below : IsInRange text w.token = subst (IsInRange text) (sym same) narrow in
    let high = w.wide in
    omega (arith, below w.int)

-- one doesn't go on past it by tokens in range
wide-stops : (text : List ℕ) (p q : ℕ) (vs : List Token) → BeginsWide text p → All (IsInRange text) vs → Fills text p vs q → (p ≡ q) × (vs ≡ [])
wide-stops text p _ _ w narrow here = (refl, refl)
wide-stops text p q vs w narrow (blank lt b f) = absurd (at_blank text p w.token w.begins w.is b)
wide-stops text p q vs w narrow (comment c f) = absurd (at_comment text p w.token w.begins w.is c.begins)
wide-stops text p q _ w narrow (token {t = t} {ts = ts} e h f) =
    absurd (too_wide text t (subst (BeginsWide text) (sym e) w) h (All-head (IsInRange text) t ts narrow))

wide-within : (text : List ℕ) (p : ℕ) → BeginsWide text p → p < length text
wide-within text p w = let some = token-some text w.token w.is in let begins = w.begins in omega (arith, some.1)

-- something begins there
wide_or_nothing : (text : List ℕ) (p q : ℕ) → p ≡ q → BeginsWide text p → NothingBegins text q → ⊥
wide_or_nothing text p q e w n = n.no_token w.token (w.begins ∙ e) w.is

-- the later ones of tokens in range
All-behind : (P : Token → Type 0) (ts us vs : List Token) → us ≡ ts ++ vs → All P us → All P vs
All-behind P [] us vs e h = subst (All P) e h
All-behind P (t ∷ ts) us vs e h = All-behind P ts (ts ++ vs) vs refl (All-tail P t (ts ++ vs) (subst (All P) e h))

-- ---- order

pub fills-forward : (text : List ℕ) (at to : ℕ) (ts : List Token) → Fills text at ts to → at ≤ to
fills-forward text at _ _ here = omega arith
fills-forward text at to ts (blank lt b f) = let ih = fills-forward text (at + 1) to ts f in omega arith
fills-forward text at to ts (comment {behind = m} c f) = let ih = fills-forward text m to ts f in let some = c.some in omega arith
fills-forward text at to _ (token {t = t} {ts = ts} e h f) = let ih = fills-forward text t.to to ts f in let some = token-some text t h in omega (arith, some.0)

-- a too wide int that is reached by tokens in range is met first
pub wide_before : (text : List ℕ) (p q : ℕ) (ts us : List Token) → All (IsInRange text) ts → BeginsWide text q → Fills text 0 ts p → Fills text 0 us q → p ≤ q
wide_before text p q ts us narrow w f g = by_meet (meet text 0 p q ts us f g)
  where
    by_meet : Meets text ts us p q → p ≤ q
    by_meet (first vs e f) = fills-forward text p q vs f
    by_meet (second vs e f) = let same = wide-stops text q p vs w (All-behind (IsInRange text) us ts vs e narrow) f in omega (arith, same.0)

-- nothing stops before a place that is reached
pub bad_before : (text : List ℕ) (p q : ℕ) (ts us : List Token) → NothingBegins text q → Fills text 0 ts p → Fills text 0 us q → p ≤ q
bad_before text p q ts us n f g = by_meet (meet text 0 p q ts us f g)
  where
    by_meet : Meets text ts us p q → p ≤ q
    by_meet (first vs e f) = fills-forward text p q vs f
    by_meet (second vs e f) = let same = nothing-stops text q n vs p f in omega (arith, same.0)

-- ---- laws

pub one_token_list : (text : List ℕ) (ts us : List Token) → HasTokens text ts → HasTokens text us → ts ≡ us
one_token_list text ts us h k =
    let end = end-stops text (length text) (omega arith) in
    let same = one_stop text (length text) (length text) ts us end end h.filled k.filled in
    sym same.1

pub no_fault : (text : List ℕ) (ts : List Token) → HasTokens text ts → HasNoFault text
no_fault text ts h = record {
  no_bad_byte = λ p bad.
      let end = end-stops text (length text) (omega arith) in
      let nothing = bad.nothing in
      let same = one_stop text (length text) p ts bad.before end (nothing-stops text p nothing) h.filled bad.filled in
      omega (arith, same.0, nothing.within);
  no_wide = λ p wide.
      let reach = wide_before text (length text) p ts wide.before h.in_range wide.wide h.filled wide.filled in
      omega (arith, wide-within text p wide.wide);
}

pub one_bad : (text : List ℕ) (p q : ℕ) → IsFirstBad text p → IsFirstBad text q → p ≡ q
one_bad text p q a b = (one_stop text p q a.before b.before (nothing-stops text p a.nothing) (nothing-stops text q b.nothing) a.filled b.filled).0

pub one_wide : (text : List ℕ) (p q : ℕ) → IsFirstWide text p → IsFirstWide text q → p ≡ q
one_wide text p q a b =
    let up = wide_before text p q a.before b.before a.in_range b.wide a.filled b.filled in
    let down = wide_before text q p b.before a.before b.in_range a.wide b.filled a.filled in
    omega arith

pub bad_or_wide : (text : List ℕ) (p q : ℕ) → IsBadByte text p → IsWide text q → ⊥
bad_or_wide text p q a b =
    let up = a.before q b.first in
    let down = b.before p a.first in
    let wide = b.first in
    let bad = a.first in
    wide_or_nothing text q p (omega arith) wide.wide bad.nothing

spelled_all : (text : List ℕ) (at to : ℕ) (ts : List Token) → Fills text at ts to → All (IsInRange text) ts → All (IsSpelled text) ts
spelled_all text at _ _ here narrow = All-nil (IsSpelled text)
spelled_all text at to ts (blank lt b f) narrow = spelled_all text (at + 1) to ts f narrow
spelled_all text at to ts (comment {behind = m} c f) narrow = spelled_all text m to ts f narrow
spelled_all text at to _ (token {t = t} {ts = ts} e h f) narrow =
    let some = token-some text t h in
    All-cons (IsSpelled text) t ts
    (record { some = some.0; within = h.within; spelled = h.spelled; in_range = All-head (IsInRange text) t ts narrow; line = h.line })
    (spelled_all text t.to to ts f (All-tail (IsInRange text) t ts narrow))

pub all_spelled : (text : List ℕ) (ts : List Token) → HasTokens text ts → All (IsSpelled text) ts
all_spelled text ts h = spelled_all text 0 (length text) ts h.filled h.in_range

order-from : (at low : ℕ) (ts : List Token) → low ≤ at → AreInOrder at ts → AreInOrder low ts
order-from at low [] le h = tt
order-from at low (t ∷ ts) le h = (omega (arith, h.0), h.1)

order_fills : (text : List ℕ) (at to : ℕ) (ts : List Token) → Fills text at ts to → AreInOrder at ts
order_fills text at _ _ here = tt
order_fills text at to ts (blank lt b f) = order-from (at + 1) at ts (omega arith) (order_fills text (at + 1) to ts f)
order_fills text at to ts (comment {behind = m} c f) = order-from m at ts (let some = c.some in omega arith) (order_fills text m to ts f)
order_fills text at to _ (token {t = t} {ts = ts} e h f) = (omega arith, order_fills text t.to to ts f)

pub in_order : (text : List ℕ) (ts : List Token) → HasTokens text ts → AreInOrder 0 ts
in_order text ts h = order_fills text 0 (length text) ts h.filled
