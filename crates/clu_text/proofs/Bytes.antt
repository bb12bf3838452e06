-- What a token's bytes tell of it.
use Rattle.std.proofs.Common.{◌≡◌, ◌≢◌, ℕ, ◌≤◌, Bool, true, false, List, [], ◌∷◌, refl, sym, ap, ◌∙◌, inl, inr, take, arith}
use Rattle.std.specs.Prelude.{◌&&◌, ◌||◌, ◌==◌, not, nat_le, IsTrue, All, if◌then◌else◌}
use Rattle.std.specs.List.{list_all}
use Rattle.std.proofs.lemmas.Bool.{eqb-true, eqb-false, ne_eqb, leb-true, or_cases, and_parts, not-true, cond-true, cond-false}
use Rattle.std.proofs.lemmas.List.Sums.{AllPass-from_list_all}
use Rattle.std.proofs.lemmas.List.Elements.{All-contains, All-cons, All-nil, All-weaker}
use Rattle.clu_text.specs.declared.token.TokenKind.{TokenKind}
use Rattle.clu_text.specs.declared.token.TokenKind.TheVariants as kind
use Rattle.byte_classes.specs.Classes.{is_lower, is_digit, is_word_byte}
use Rattle.clu_text.specs.Spelling.{escaped, HasParts, closed, plain, escape, symbols, IsSymbol, IsSpelling, word, int, char, string, symbol, IsToken, a_word, an_int, a_char, a_string, a_symbol}
use Rattle.clu_text.specs.Tokens.{is_blank}
use Rattle.clu_text.specs.Front.{IsFront}
use Rattle.clu_text.proofs.Fronts.{symbol_first, digit_isnt_lower, first_digit, token-spells, spelling-some}

-- ---- bytes

lower_low : (b : ℕ) → is_lower b ≡ true → 97 ≤ b
lower_low b h = leb-true 97 b (and_parts (nat_le 97 b) (nat_le b 122) h).0

digit_low : (b : ℕ) → is_digit b ≡ true → (48 ≤ b) × (b ≤ 57)
digit_low b h = let p = and_parts (nat_le 48 b) (nat_le b 57) h in (leb-true 48 b p.0, leb-true b 57 p.1)

word_byte_low : (b : ℕ) → is_word_byte b ≡ true → 48 ≤ b
word_byte_low b h =
    elim (or_cases (is_lower b || is_digit b) (b == 95) h) [
      | inl p ↦ elim (or_cases (is_lower b) (is_digit b) p) [
        | inl q ↦ omega (arith, lower_low b q)
        | inr q ↦ (digit_low b q).0
      ]
      | inr p ↦ omega (arith, eqb-true b 95 p)
    ]

-- ---- the kind

kind_of : List ℕ → TokenKind
kind_of [] = kind.Word
kind_of (b ∷ v) = if is_lower b then kind.Word else (if is_digit b then kind.Int else (if b == 39 then kind.Char else (if b == 34 then kind.Str else kind.Symbol)))

token-kind : (k : TokenKind) (w : List ℕ) → IsToken k w → k ≡ kind_of w
unfolding kind_of
token-kind _ [] (a_word p q) = absurd p
token-kind _ (b ∷ v) (a_word p q) = sym (cond-true _ _ _ p.0)
token-kind _ [] (an_int p) = absurd (let some = p.0 in omega arith)
token-kind _ (b ∷ v) (an_int p) = let digit = first_digit b v p in sym (cond-false _ _ _ (digit_isnt_lower b digit) ∙ cond-true _ _ _ digit)
token-kind _ _ (a_char p) = refl
token-kind _ _ (a_string p q) = refl
token-kind k [] (a_symbol p) = absurd (let some = spelling-some [] (symbol p) in omega arith)
token-kind _ (b ∷ v) (a_symbol p) =
    let o = symbol_first b v p in
    sym (cond-false _ _ _ o.no_word ∙ (cond-false _ _ _ o.no_int ∙ (cond-false _ _ _ (ne_eqb b 39 o.no_char) ∙ cond-false _ _ _ (ne_eqb b 34 o.no_string))))

-- One token stands at the front.
pub one_front : (bytes : List ℕ) (k l : TokenKind) (n m : ℕ) → IsFront bytes k n → IsFront bytes l m → (k ≡ l) × (n ≡ m)
one_front bytes k l n m f g =
    let up = g.longest n f.within (token-spells k (take n bytes) f.spelled) in
    let down = f.longest m g.within (token-spells l (take m bytes) g.spelled) in
    let same : n ≡ m = omega arith in
    (token-kind k (take n bytes) f.spelled ∙ (ap (λ x. kind_of (take x bytes)) same ∙ sym (token-kind l (take m bytes) g.spelled)), same)

-- ---- the first byte

-- neither a blank nor `%`
pub record Starts (b : ℕ) : Type 0 where
  pub no_tab : b ≢ 9
  pub no_end : b ≢ 10
  pub no_return : b ≢ 13
  pub no_space : b ≢ 32
  pub no_comment : b ≢ 37

starts_above : (b : ℕ) → 38 ≤ b → Starts b
starts_above b h = record { no_tab = λ e. omega arith; no_end = λ e. omega arith; no_return = λ e. omega arith; no_space = λ e. omega arith; no_comment = λ e. omega arith }

starts_by : (b : ℕ) → not (is_blank b) ≡ true → not (b == 37) ≡ true → Starts b
starts_by b h k =
    let blank = not-true (is_blank b) h in
    record {
      no_tab = λ e. let no = ap is_blank e in absurd cc;
      no_end = λ e. let no = ap is_blank e in absurd cc;
      no_return = λ e. let no = ap is_blank e in absurd cc;
      no_space = λ e. let no = ap is_blank e in absurd cc;
      no_comment = eqb-false b 37 (not-true _ k);
    }

symbol_starts : List ℕ → Bool
symbol_starts [] = false
symbol_starts (b ∷ v) = not (is_blank b) && not (b == 37)

symbol-starts : (b : ℕ) (v : List ℕ) → IsSymbol (b ∷ v) → Starts b
unfolding symbol_starts
symbol-starts b v h =
    let p = and_parts _ _ (All-contains (λ w. symbol_starts w ≡ true) symbols (b ∷ v) (AllPass-from_list_all symbol_starts symbols refl) h) in
    starts_by b p.0 p.1

pub spelling-starts : (b : ℕ) (v : List ℕ) → IsSpelling (b ∷ v) → Starts b
spelling-starts b v (word p) = starts_above b (omega (arith, lower_low b p.0))
spelling-starts b v (int p) = let low = digit_low b (first_digit b v p) in starts_above b (omega (arith, low.0))
spelling-starts _ _ (char p) = starts_above 39 (omega arith)
spelling-starts _ _ (string p) = record { no_tab = λ e. omega arith; no_end = λ e. omega arith; no_return = λ e. omega arith; no_space = λ e. omega arith; no_comment = λ e. omega arith }
spelling-starts b v (symbol p) = symbol-starts b v p

pub starts-no_blank : (b : ℕ) → Starts b → is_blank b ≡ true → ⊥
starts-no_blank b s h =
    elim (or_cases (b == 9 || b == 10 || b == 13) (b == 32) h) [
      | inr p ↦ s.no_space (eqb-true b 32 p)
      | inl k ↦ elim (or_cases (b == 9 || b == 10) (b == 13) k) [
        | inr p ↦ s.no_return (eqb-true b 13 p)
        | inl l ↦ elim (or_cases (b == 9) (b == 10) l) [
          | inl p ↦ s.no_tab (eqb-true b 9 p)
          | inr p ↦ s.no_end (eqb-true b 10 p)
        ]
      ]
    ]

-- ---- one line

-- no byte of these ends a line
abbrev pub OneLine : List ℕ → Type 0
OneLine w = All (λ x. x ≢ 10) w

one_line-cons : (b : ℕ) (w : List ℕ) → b ≢ 10 → OneLine w → OneLine (b ∷ w)
one_line-cons b w h k = All-cons (λ x. x ≢ 10) b w h k

parts-one_line : (quote : ℕ) (w content : List ℕ) → quote ≢ 10 → HasParts quote w content → OneLine w
parts-one_line quote _ _ q closed = one_line-cons quote [] q (All-nil (λ x. x ≢ 10))
parts-one_line quote _ _ q (plain {b = b} {bytes = bytes} {content = content} r s t h) =
    let low = leb-true 32 b (and_parts (nat_le 32 b) (nat_le b 126) r).0 in
    one_line-cons b bytes (λ e. omega arith) (parts-one_line quote bytes content q h)
parts-one_line quote _ _ q (escape {b = b} {bytes = bytes} {content = content} e h) =
    one_line-cons 92 (b ∷ bytes) (λ same. omega arith) (one_line-cons b bytes (λ same. let no = ap escaped same in absurd cc) (parts-one_line quote bytes content q h))

symbol-one_line : (w : List ℕ) → IsSymbol w → OneLine w
symbol-one_line w h =
    let passes = All-contains (λ v. list_all (λ x. not (x == 10)) v ≡ true) symbols w (AllPass-from_list_all (list_all (λ x. not (x == 10))) symbols refl) h in
    All-weaker (λ x. not (x == 10) ≡ true) (λ x. x ≢ 10) (λ x p. eqb-false x 10 (not-true (x == 10) p)) w (AllPass-from_list_all (λ x. not (x == 10)) w passes)

pub token-one_line : (k : TokenKind) (w : List ℕ) → IsToken k w → OneLine w
token-one_line _ [] (a_word p q) = absurd p
token-one_line _ (b ∷ v) (a_word p q) =
    one_line-cons b v (λ e. omega (arith, lower_low b p.0)) (All-weaker (λ x. IsTrue (is_word_byte x)) (λ x. x ≢ 10) (λ x h e. omega (arith, word_byte_low x h)) v p.1)
token-one_line _ w (an_int p) = All-weaker (λ x. IsTrue (is_digit x)) (λ x. x ≢ 10) (λ x h e. let low = digit_low x h in omega (arith, low.0)) w p.1
token-one_line _ _ (a_char {c = c} {bytes = bytes} p) = one_line-cons 39 bytes (λ e. omega arith) (parts-one_line 39 bytes (c ∷ []) (λ e. omega arith) p)
token-one_line _ _ (a_string {bytes = bytes} {content = content} p q) = one_line-cons 34 bytes (λ e. omega arith) (parts-one_line 34 bytes content (λ e. omega arith) p)
token-one_line _ w (a_symbol p) = symbol-one_line w p
