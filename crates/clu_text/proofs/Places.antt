-- Tokens, comments and blanks at their places in a text.
use Rattle.std.proofs.Common.{◌≡◌, ◌≢◌, ℕ, zero, suc, ◌+◌, ◌-◌, ◌≤◌, ◌<◌, ◌^◌, Bool, List, [], ◌∷◌, length, refl, sym, ap, ◌∙◌, subst, get_or, take, drop, inl, inr, arith}
use Rattle.std.specs.Prelude.{◌==◌, not, slice_index, slice_range}
use Rattle.std.specs.List.{prefix_len}
use Rattle.std.proofs.lemmas.Bool.{eqb-true, eqb-false, eq-eqb, ne_eqb, not-true, not-false, not_from_false, cases_lt}
use Rattle.std.proofs.lemmas.List.{length-take, length-drop, length-take-le, get_or-take, get_or-drop}
use Rattle.std.proofs.lemmas.List.Sums.{prefix_len-le-length, prefix_len_passes, prefix_len_stops, prefix_len-drop_yes, count_by_more_yes, count_by_more_no}
use Rattle.std.proofs.lemmas.List.Elements.{All-get_or}
use Rattle.clu_text.specs.declared.token.Token.{Token}
use Rattle.clu_text.specs.declared.token.TokenKind.{TokenKind}
use Rattle.clu_text.specs.declared.token.TokenKind.TheVariants as kind
use Rattle.clu_text.specs.Spelling.{IsInt, int_value, IsSpelling, IsToken, a_word, an_int, a_char, a_string, a_symbol}
use Rattle.clu_text.specs.Tokens.{line_at, spelling_of, IsComment, IsTokenAt, BeginsWide}
use Rattle.clu_text.specs.Front.{IsFront}
use Rattle.clu_text.proofs.Fronts.{token-spells, spelling-some}
use Rattle.clu_text.proofs.Bytes.{one_front, Starts, spelling-starts, token-one_line}

-- ---- a token at its place

-- the bytes of a token are some, and begin inside the text
pub token-some : (text : List ℕ) (t : Token) → IsTokenAt text t → (t.from < t.to) × (t.from < length text)
token-some text t h =
    let some = spelling-some (spelling_of text t) (token-spells t.kind (spelling_of text t) h.spelled) in
    let size = length-take (t.to - t.from) (drop t.from text) in
    let left = length-drop t.from text in
    (omega arith, omega arith)

pub token_from_front : (text : List ℕ) (at n line : ℕ) (k : TokenKind) → at ≤ length text → line ≡ line_at text at → IsFront (drop at text) k n →
    IsTokenAt text (record { kind = k; from = at; to = at + n; line = line })
token_from_front text at n line k le is f =
    let left = length-drop at text in
    let same : n ≡ (at + n) - at = omega arith in
    record {
      within = omega (arith, f.within);
      spelled = subst (λ m. IsToken k (take m (drop at text))) same f.spelled;
      longest = λ to up s. let most = f.longest (to - at) (omega arith) s in omega arith;
      line = is;
    }

pub front_from_token : (text : List ℕ) (t : Token) → IsTokenAt text t → IsFront (drop t.from text) t.kind (t.to - t.from)
front_from_token text t h =
    let left = length-drop t.from text in
    let some = token-some text t h in
    record {
      within = omega (arith, h.within);
      spelled = h.spelled;
      longest = λ n le s.
          let same : n ≡ (t.from + n) - t.from = omega arith in
          let most = h.longest (t.from + n) (omega (arith, some.1)) (subst (λ m. IsSpelling (take m (drop t.from text))) same s) in
          omega arith;
    }

make : TokenKind → ℕ → ℕ → ℕ → Token
make k from to line = record { kind = k; from = from; to = to; line = line }

same_token : (t u : Token) → t.kind ≡ u.kind → t.from ≡ u.from → t.to ≡ u.to → t.line ≡ u.line → t ≡ u
unfolding make
same_token t u a b c d =
    ap (λ (x : TokenKind). make x t.from t.to t.line) a ∙ (ap (λ (x : ℕ). make u.kind x t.to t.line) b ∙
    (ap (λ (x : ℕ). make u.kind u.from x t.line) c ∙ ap (λ (x : ℕ). make u.kind u.from u.to x) d))

-- One token stands at a place.
pub one_token_at : (text : List ℕ) (t u : Token) → t.from ≡ u.from → IsTokenAt text t → IsTokenAt text u → t ≡ u
one_token_at text t u e h g =
    let other : IsFront (drop t.from text) u.kind (u.to - u.from) = subst (λ at. IsFront (drop at text) u.kind (u.to - u.from)) (sym e) (front_from_token text u g) in
    let same = one_front (drop t.from text) t.kind u.kind (t.to - t.from) (u.to - u.from) (front_from_token text t h) other in
    let some = token-some text t h in
    let more = token-some text u g in
    same_token t u same.0 e (omega (arith, same.1, some.0, more.0)) (h.line ∙ (ap (line_at text) e ∙ sym g.line))

-- a byte of a token
token_byte : (text : List ℕ) (t : Token) (i : ℕ) → i < t.to - t.from → get_or (spelling_of text t) i 0 ≡ slice_index text (t.from + i)
token_byte text t i lt = get_or-take (t.to - t.from) (drop t.from text) i 0 lt ∙ get_or-drop t.from text i 0

first_starts : (w : List ℕ) → IsSpelling w → Starts (get_or w 0 0)
first_starts [] h = absurd (let some = spelling-some [] h in omega arith)
first_starts (b ∷ v) h = spelling-starts b v h

pub token-starts : (text : List ℕ) (t : Token) → IsTokenAt text t → Starts (slice_index text t.from)
token-starts text t h =
    let some = token-some text t h in
    let first = token_byte text t 0 (omega (arith, some.0)) in
    let same : t.from + 0 ≡ t.from = omega arith in
    subst Starts (first ∙ ap (slice_index text) same) (first_starts (spelling_of text t) (token-spells t.kind (spelling_of text t) h.spelled))

-- ---- lines

pub line-end : (text : List ℕ) (at : ℕ) → at < length text → slice_index text at ≡ 10 → line_at text (at + 1) ≡ line_at text at + 1
line-end text at lt e = let more = count_by_more_yes (λ b. b == 10) text at 0 lt (eq-eqb _ 10 e) in omega arith

pub line-same : (text : List ℕ) (at : ℕ) → at < length text → slice_index text at ≢ 10 → line_at text (at + 1) ≡ line_at text at
line-same text at lt e = let more = count_by_more_no (λ b. b == 10) text at 0 lt (ne_eqb _ 10 e) in omega arith

pub line-along : (text : List ℕ) (from n : ℕ) → from + n ≤ length text → ((k : ℕ) → from ≤ k → k < from + n → slice_index text k ≢ 10) → line_at text (from + n) ≡ line_at text from
line-along text from zero le h = let same : from + 0 ≡ from = omega arith in ap (line_at text) same
line-along text from (suc n) le h =
    let ih = line-along text from n (omega arith) (λ k low high. h k low (omega arith)) in
    let last = line-same text (from + n) (omega arith) (h (from + n) (omega arith) (omega arith)) in
    let next : from + suc n ≡ from + n + 1 = omega arith in
    ap (line_at text) next ∙ (last ∙ ih)

-- behind a token the line is the same
pub line-token : (text : List ℕ) (t : Token) → IsTokenAt text t → line_at text t.to ≡ line_at text t.from
line-token text t h =
    let some = token-some text t h in
    let whole : t.from + (t.to - t.from) ≡ t.to = omega (arith, some.0) in
    let size = length-take-le (t.to - t.from) (drop t.from text) (omega (arith, length-drop t.from text, h.within)) in
    sym (ap (line_at text) whole) ∙ line-along text t.from (t.to - t.from) (omega (arith, h.within))
    (λ k low high e.
    let i : ℕ = k - t.from in
    let is : t.from + i ≡ k = omega arith in
    let byte = token_byte text t i (omega arith) ∙ ap (slice_index text) is in
    All-get_or (λ x. x ≢ 10) (spelling_of text t) i 0 (omega arith) (token-one_line t.kind (spelling_of text t) h.spelled) (byte ∙ e))

-- behind a comment too
pub line-comment : (text : List ℕ) (from to : ℕ) → IsComment text from to → line_at text to ≡ line_at text from
line-comment text from to c =
    let whole : from + (to - from) ≡ to = omega (arith, c.some) in
    sym (ap (line_at text) whole) ∙ line-along text from (to - from) (omega (arith, c.within)) (λ k low high. c.one_line k low (omega arith))

-- ---- comments

pub comment-found : (text : List ℕ) (at n : ℕ) → at < length text → slice_index text at ≡ 37 → n ≡ prefix_len (λ b. not (b == 10)) (drop at text) → IsComment text at (at + n)
comment-found text at n lt e is =
    let p : ℕ → Bool = λ b. not (b == 10) in
    let first = prefix_len-drop_yes p text at 0 lt (not_from_false _ (ne_eqb _ 10 (λ x. omega arith))) in
    let reach = prefix_len-le-length p (drop at text) in
    let left = length-drop at text in
    record {
      some = omega arith;
      within = omega arith;
      begins = e;
      one_line = λ k low high x.
          let i : ℕ = k - at in
          let place : at + i ≡ k = omega arith in
          let passes = prefix_len_passes p (drop at text) i 0 (omega arith) in
          let byte = get_or-drop at text i 0 ∙ (ap (slice_index text) place ∙ x) in
          eqb-false _ 10 (not-true _ passes) byte;
      ends = elim (cases_lt n (length (drop at text))) [
        | inl h ↦
            let stops = prefix_len_stops p (drop at text) 0 (omega arith) in
            let at_end = eqb-true _ 10 (not-false _ stops) in
            inr (sym (get_or-drop at text n 0) ∙ (ap (λ m. get_or (drop at text) m 0) is ∙ at_end))
        | inr h ↦ inl (omega arith)
      ];
    }

-- the end of a comment: where it doesn't stop, another doesn't stop before
comment-reach : (text : List ℕ) (from to other : ℕ) → IsComment text from to → IsComment text from other → other ≤ to
comment-reach text from to other c d =
    elim (cases_lt to other) [
      | inr h ↦ h
      | inl h ↦ elim c.ends [
        | inl e ↦ absurd (let within = d.within in omega arith)
        | inr e ↦ absurd (d.one_line to (omega (arith, c.some)) h e)
      ]
    ]

pub one_comment : (text : List ℕ) (from to other : ℕ) → IsComment text from to → IsComment text from other → to ≡ other
one_comment text from to other c d = let up = comment-reach text from to other c d in let down = comment-reach text from other to d c in omega arith

-- how far a comment goes
pub comment-within : (text : List ℕ) (at n : ℕ) → at < length text → n ≡ prefix_len (λ b. not (b == 10)) (drop at text) → at + n ≤ length text
comment-within text at n lt is =
    let reach = prefix_len-le-length (λ b. not (b == 10)) (drop at text) in
    let left = length-drop at text in
    omega arith

-- ---- the answers at a place

-- no token, where none is at the front
pub none_at : (text bytes : List ℕ) (at : ℕ) → bytes ≡ drop at text → ((k : TokenKind) (n : ℕ) → IsFront bytes k n → ⊥) → (t : Token) → t.from ≡ at → IsTokenAt text t → ⊥
none_at text bytes at is none t e h =
    none t.kind (t.to - t.from) (subst (λ w. IsFront w t.kind (t.to - t.from)) (ap (λ x. drop x text) e ∙ sym is) (front_from_token text t h))

pub token_at : (text bytes : List ℕ) (at n line : ℕ) (k : TokenKind) → bytes ≡ drop at text → at < length text → line ≡ line_at text at → IsFront bytes k n →
    IsTokenAt text (record { kind = k; from = at; to = at + n; line = line })
token_at text bytes at n line k is lt same f = token_from_front text at n line k (omega arith) same (subst (λ w. IsFront w k n) is f)

-- its bytes
pub spelled_at : (text bytes spelled : List ℕ) (at n : ℕ) → bytes ≡ drop at text → spelled ≡ take n bytes → spelled ≡ slice_range text at (at + n)
spelled_at text bytes spelled at n is e =
    let same : n ≡ (at + n) - at = omega arith in
    e ∙ (ap (take n) is ∙ ap (λ m. take m (drop at text)) same)

int_bytes : (k : TokenKind) (w : List ℕ) → k ≡ kind.Int → IsToken k w → IsInt w
int_bytes _ w e (a_word p q) = absurd cc
int_bytes _ w e (an_int p) = p
int_bytes _ _ e (a_char p) = absurd cc
int_bytes _ _ e (a_string p q) = absurd cc
int_bytes _ w e (a_symbol p) = absurd cc

pub int_at : (bytes spelled : List ℕ) (n : ℕ) (k : TokenKind) → k ≡ kind.Int → spelled ≡ take n bytes → IsFront bytes k n → IsInt spelled
int_at bytes spelled n k int e f = subst IsInt (sym e) (int_bytes k (take n bytes) int f.spelled)

pub wide_at : (text bytes spelled : List ℕ) (at n line : ℕ) (k : TokenKind) → bytes ≡ drop at text → spelled ≡ take n bytes → at < length text → line ≡ line_at text at → IsFront bytes k n → k ≡ kind.Int → 2 ^ 63 ≤ int_value spelled →
    BeginsWide text at
wide_at text bytes spelled at n line k is e lt same f int wide = record {
  token = record { kind = k; from = at; to = at + n; line = line };
  begins = refl;
  is = token_at text bytes at n line k is lt same f;
  int = int;
  wide = subst (λ w. 2 ^ 63 ≤ int_value w) (spelled_at text bytes spelled at n is e) wide;
}
