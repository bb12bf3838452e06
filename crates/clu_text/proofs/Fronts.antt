-- The token at the front of the bytes.
use Rattle.std.proofs.Common.{◌≡◌, ℕ, zero, suc, ◌+◌, ◌≤◌, ◌<◌, Bool, true, false, List, [], ◌∷◌, length, refl, sym, ap, ◌∙◌, subst, get_or, take, arith}
use Rattle.std.specs.Prelude.{◌==◌, nat_le, IsTrue, All}
use Rattle.std.specs.List.{prefix_len}
use Rattle.std.proofs.lemmas.Bool.{leb-true, lt-leb, or_left, and_parts, and_left, cond-true}
use Rattle.std.proofs.lemmas.List.{length-take, get_or-take, length-take-le}
use Rattle.std.proofs.lemmas.List.Sums.{prefix_len-le-length, prefix_len_passes}
use Rattle.std.proofs.lemmas.List.Elements.{All-cons, All-head, All-tail}
use Rattle.clu_text.specs.declared.token.TokenKind.{TokenKind}
use Rattle.clu_text.specs.declared.token.TokenKind.TheVariants as kind
use Rattle.clu_text.specs.declared.quoted.Quoted.{Quoted}
use Rattle.byte_classes.specs.Classes.{is_lower, is_digit, is_word_byte}
use Rattle.clu_text.specs.Spelling.{IsWord, IsInt, HasParts, IsSymbol, IsSpelling, word, int, char, string, symbol, IsToken, a_word, an_int, a_char, a_string, a_symbol}
use Rattle.clu_text.specs.Front.{BeginsOther, Closes, IsFront, symbol_len}
use Rattle.clu_text.proofs.Parts.{one_close}
use Rattle.clu_text.proofs.Symbols.{Shape, one, two, shape, symbol_len-is, symbol_len-within, symbol_len-covers}

-- ---- by the first byte

pub symbol_first : (b : ℕ) (v : List ℕ) → IsSymbol (b ∷ v) → BeginsOther b
symbol_first b v h = by_shape b v (shape (b ∷ v) h)
  where
    by_shape : (b : ℕ) (v : List ℕ) → Shape (b ∷ v) → BeginsOther b
    by_shape b _ (one p h) = p
    by_shape b _ (two p h) = p

pub digit_isnt_lower : (b : ℕ) → is_digit b ≡ true → is_lower b ≡ false
digit_isnt_lower b h = and_left (nat_le 97 b) (nat_le b 122) (lt-leb 97 b (omega (arith, leb-true b 57 (and_parts (nat_le 48 b) (nat_le b 57) h).1)))

pub first_digit : (b : ℕ) (v : List ℕ) → IsInt (b ∷ v) → is_digit b ≡ true
first_digit b v h = h.1 0 b (omega arith)

spelled-lower : (b : ℕ) (v : List ℕ) → is_lower b ≡ true → IsSpelling (b ∷ v) → IsWord (b ∷ v)
spelled-lower b v h (word p) = p
spelled-lower b v h (int p) = let other = digit_isnt_lower b (first_digit b v p) in absurd cc
spelled-lower _ _ h (char p) = absurd cc
spelled-lower _ _ h (string p) = absurd cc
spelled-lower b v h (symbol p) = let other = symbol_first b v p in let no = other.no_word in absurd cc

spelled-digit : (b : ℕ) (v : List ℕ) → is_digit b ≡ true → IsSpelling (b ∷ v) → IsInt (b ∷ v)
spelled-digit b v h (word p) = let other = digit_isnt_lower b h in let lower = p.0 in absurd cc
spelled-digit b v h (int p) = p
spelled-digit _ _ h (char p) = absurd cc
spelled-digit _ _ h (string p) = absurd cc
spelled-digit b v h (symbol p) = let other = symbol_first b v p in let no = other.no_int in absurd cc

spelled-char : (b : ℕ) (v : List ℕ) → b ≡ 39 → IsSpelling (b ∷ v) → (c : ℕ) × HasParts 39 v (c ∷ [])
spelled-char b v h (word p) = let lower = p.0 in let no = ap is_lower h in absurd cc
spelled-char b v h (int p) = let digit = first_digit b v p in let no = ap is_digit h in absurd cc
spelled-char _ _ h (char {c = c} p) = (c, p)
spelled-char _ _ h (string p) = absurd (omega arith)
spelled-char b v h (symbol p) = let other = symbol_first b v p in absurd (other.no_char h)

spelled-string : (b : ℕ) (v : List ℕ) → b ≡ 34 → IsSpelling (b ∷ v) → (content : List ℕ) × HasParts 34 v content
spelled-string b v h (word p) = let lower = p.0 in let no = ap is_lower h in absurd cc
spelled-string b v h (int p) = let digit = first_digit b v p in let no = ap is_digit h in absurd cc
spelled-string _ _ h (char p) = absurd (omega arith)
spelled-string _ _ h (string {content = content} p) = (content, p)
spelled-string b v h (symbol p) = let other = symbol_first b v p in absurd (other.no_string h)

spelled-other : (b : ℕ) (v : List ℕ) → BeginsOther b → IsSpelling (b ∷ v) → IsSymbol (b ∷ v)
spelled-other b v h (word p) = let lower = p.0 in let no = h.no_word in absurd cc
spelled-other b v h (int p) = let digit = first_digit b v p in let no = h.no_int in absurd cc
spelled-other _ _ h (char p) = absurd (h.no_char refl)
spelled-other _ _ h (string p) = absurd (h.no_string refl)
spelled-other b v h (symbol p) = p

-- a token is a spelling
pub token-spells : (k : TokenKind) (w : List ℕ) → IsToken k w → IsSpelling w
token-spells _ w (a_word p q) = word p
token-spells _ w (an_int p) = int p
token-spells _ _ (a_char p) = char p
token-spells _ _ (a_string p q) = string p
token-spells _ w (a_symbol p) = symbol p

-- no spelling is empty
pub spelling-some : (w : List ℕ) → IsSpelling w → 0 < length w
spelling-some (b ∷ w) h = omega arith
spelling-some [] (word h) = absurd h
spelling-some [] (int h) = h.0
spelling-some [] (symbol h) = absurd (no_empty (shape [] h))
  where
    no_empty : Shape [] → ⊥
    no_empty h = elim h [ ]

-- ---- runs of bytes

run_reaches : (p : ℕ → Bool) (n : ℕ) (bytes : List ℕ) → n ≤ length bytes → All (λ x. IsTrue (p x)) (take n bytes) → n ≤ prefix_len p bytes
run_reaches p zero bytes le h = omega arith
run_reaches p (suc n) [] le h = absurd (omega arith)
run_reaches p (suc n) (b ∷ bytes) le h =
    let here = cond-true (p b) (1 + prefix_len p bytes) 0 (All-head (λ x. IsTrue (p x)) b (take n bytes) h) in
    let ih = run_reaches p n bytes (omega arith) (All-tail (λ x. IsTrue (p x)) b (take n bytes) h) in
    omega arith

run_passes : (p : ℕ → Bool) (bytes : List ℕ) → All (λ x. IsTrue (p x)) (take (prefix_len p bytes) bytes)
run_passes p bytes k d lt =
    let n = prefix_len p bytes in
    let within_run : k < n = omega (arith, length-take n bytes) in
    subst (λ x. IsTrue (p x)) (sym (get_or-take n bytes k d within_run)) (prefix_len_passes p bytes k d within_run)

-- a run that begins with a byte of it
run-cons : (p : ℕ → Bool) (b : ℕ) (bytes : List ℕ) → p b ≡ true → prefix_len p (b ∷ bytes) ≡ suc (prefix_len p bytes)
run-cons p b bytes h = let e = cond-true (p b) (1 + prefix_len p bytes) 0 h in omega arith

-- ---- words

lower_is_word : (b : ℕ) → is_lower b ≡ true → is_word_byte b ≡ true
lower_is_word b h = or_left _ (b == 95) (or_left _ (is_digit b) h)

word_spells : (b : ℕ) (bytes : List ℕ) → is_lower b ≡ true → IsWord (take (prefix_len is_word_byte (b ∷ bytes)) (b ∷ bytes))
word_spells b bytes h = rw (run-cons is_word_byte b bytes (lower_is_word b h)) (h, run_passes is_word_byte bytes)

word_reaches : (b : ℕ) (bytes : List ℕ) → is_lower b ≡ true → (n : ℕ) → n ≤ length (b ∷ bytes) → IsSpelling (take n (b ∷ bytes)) → n ≤ prefix_len is_word_byte (b ∷ bytes)
word_reaches b bytes h zero le s = omega arith
word_reaches b bytes h (suc n) le s =
    let w = spelled-lower b (take n bytes) h s in
    run_reaches is_word_byte (suc n) (b ∷ bytes) le (All-cons (λ x. IsTrue (is_word_byte x)) b (take n bytes) (lower_is_word b h) w.1)

pub front-word : (bytes : List ℕ) (n : ℕ) → is_lower (get_or bytes 0 0) ≡ true → n ≡ prefix_len is_word_byte bytes → n ≤ 64 → IsFront bytes kind.Word n
front-word [] n h e short = absurd cc
front-word (b ∷ bytes) n h e short =
    let reach = prefix_len-le-length is_word_byte (b ∷ bytes) in
    record {
      within = omega arith;
      spelled = a_word (subst (λ m. IsWord (take m (b ∷ bytes))) (sym e) (word_spells b bytes h)) (omega (arith, length-take n (b ∷ bytes)));
      longest = λ m le s. let most = word_reaches b bytes h m le s in omega arith;
    }

-- a token that begins with a letter is short
short_word : (k : TokenKind) (b : ℕ) (v : List ℕ) → is_lower b ≡ true → IsToken k (b ∷ v) → suc (length v) ≤ 64
short_word _ b v h (a_word p q) = q
short_word _ b v h (an_int p) = let other = digit_isnt_lower b (first_digit b v p) in absurd cc
short_word _ _ _ h (a_char p) = absurd cc
short_word _ _ _ h (a_string p q) = absurd cc
short_word _ b v h (a_symbol p) = let other = symbol_first b v p in let no = other.no_word in absurd cc

pub no_front-word : (bytes : List ℕ) (n : ℕ) → is_lower (get_or bytes 0 0) ≡ true → n ≡ prefix_len is_word_byte bytes → 64 < n → (k : TokenKind) (m : ℕ) → IsFront bytes k m → ⊥
no_front-word [] n h e long k m f = absurd cc
no_front-word (b ∷ bytes) n h e long k zero f =
    let some = spelling-some [] (token-spells k [] f.spelled) in omega arith
no_front-word (b ∷ bytes) n h e long k (suc m) f =
    let reach = prefix_len-le-length is_word_byte (b ∷ bytes) in
    let longest = f.longest (prefix_len is_word_byte (b ∷ bytes)) reach (word (word_spells b bytes h)) in
    let short = short_word k b (take m bytes) h f.spelled in
    let within : suc m ≤ suc (length bytes) = f.within in
    let size = length-take m bytes in
    omega arith

-- ---- ints

int_spells : (b : ℕ) (bytes : List ℕ) → is_digit b ≡ true → IsInt (take (prefix_len is_digit (b ∷ bytes)) (b ∷ bytes))
int_spells b bytes h =
    rw (run-cons is_digit b bytes h) (omega arith, All-cons (λ x. IsTrue (is_digit x)) b (take (prefix_len is_digit bytes) bytes) h (run_passes is_digit bytes))

int_reaches : (b : ℕ) (bytes : List ℕ) → is_digit b ≡ true → (n : ℕ) → n ≤ length (b ∷ bytes) → IsSpelling (take n (b ∷ bytes)) → n ≤ prefix_len is_digit (b ∷ bytes)
int_reaches b bytes h zero le s = omega arith
int_reaches b bytes h (suc n) le s = run_reaches is_digit (suc n) (b ∷ bytes) le (spelled-digit b (take n bytes) h s).1

pub front-int : (bytes : List ℕ) (n : ℕ) → is_digit (get_or bytes 0 0) ≡ true → n ≡ prefix_len is_digit bytes → IsFront bytes kind.Int n
front-int [] n h e = absurd cc
front-int (b ∷ bytes) n h e =
    let reach = prefix_len-le-length is_digit (b ∷ bytes) in
    record {
      within = omega arith;
      spelled = an_int (subst (λ m. IsInt (take m (b ∷ bytes))) (sym e) (int_spells b bytes h));
      longest = λ m le s. let most = int_reaches b bytes h m le s in omega arith;
    }

-- ---- chars

single_content : (content : List ℕ) → length content ≡ 1 → (c : ℕ) × (content ≡ c ∷ [])
single_content [] h = absurd (omega arith)
single_content (c ∷ []) h = (c, refl)
single_content (c ∷ d ∷ content) h = absurd (omega arith)

char_reaches : (bytes : List ℕ) (len : ℕ) (content : List ℕ) → len ≤ length bytes → HasParts 39 (take len bytes) content →
    (n : ℕ) → n ≤ length (39 ∷ bytes) → IsSpelling (take n (39 ∷ bytes)) → n ≤ len + 1
char_reaches bytes len content within h zero le s = omega arith
char_reaches bytes len content within h (suc n) le s =
    let other = spelled-char 39 (take n bytes) refl s in
    let same = one_close 39 bytes len n content (other.0 ∷ []) (λ e. omega arith) within (omega arith) h other.1 in
    omega (arith, same.0)

pub front-char : (bytes : List ℕ) (q : Quoted) → Closes 39 bytes q → q.parts ≡ 1 → IsFront (39 ∷ bytes) kind.Char (q.len + 1)
front-char bytes q h e =
    let c = single_content h.content (h.size ∙ e) in
    let next : q.len + 1 ≡ suc q.len = omega arith in
    record {
      within = omega (arith, h.within);
      spelled = subst (λ n. IsToken kind.Char (take n (39 ∷ bytes))) (sym next) (a_char (subst (HasParts 39 (take q.len bytes)) c.1 h.has));
      longest = char_reaches bytes q.len h.content h.within h.has;
    }

-- what a token that begins with `'` is
pub token-char : (bytes : List ℕ) (k : TokenKind) (n : ℕ) → IsFront (39 ∷ bytes) k n → (m : ℕ) × (c : ℕ) × (m ≤ length bytes) × HasParts 39 (take m bytes) (c ∷ [])
token-char bytes k zero f = absurd (let some = spelling-some [] (token-spells k [] f.spelled) in omega arith)
token-char bytes k (suc n) f =
    let c = spelled-char 39 (take n bytes) refl (token-spells k _ f.spelled) in
    let within : suc n ≤ suc (length bytes) = f.within in
    (n, c.0, omega arith, c.1)

pub no_parts-char : (bytes : List ℕ) → ((n : ℕ) (content : List ℕ) → HasParts 39 (take n bytes) content → ⊥) → (k : TokenKind) (n : ℕ) → IsFront (39 ∷ bytes) k n → ⊥
no_parts-char bytes none k n f = let t = token-char bytes k n f in none t.0 (t.1 ∷ []) t.3

pub no_front-char : (bytes : List ℕ) (q : Quoted) → Closes 39 bytes q → (q.parts ≡ 1 → ⊥) → (k : TokenKind) (n : ℕ) → IsFront (39 ∷ bytes) k n → ⊥
no_front-char bytes q h ne k n f =
    let t = token-char bytes k n f in
    let same = one_close 39 bytes q.len t.0 h.content (t.1 ∷ []) (λ e. omega arith) h.within t.2 h.has t.3 in
    ne (omega (arith, same.1, h.size))

-- ---- strings

string_reaches : (bytes : List ℕ) (len : ℕ) (content : List ℕ) → len ≤ length bytes → HasParts 34 (take len bytes) content →
    (n : ℕ) → n ≤ length (34 ∷ bytes) → IsSpelling (take n (34 ∷ bytes)) → n ≤ len + 1
string_reaches bytes len content within h zero le s = omega arith
string_reaches bytes len content within h (suc n) le s =
    let other = spelled-string 34 (take n bytes) refl s in
    let same = one_close 34 bytes len n content other.0 (λ e. omega arith) within (omega arith) h other.1 in
    omega (arith, same.0)

pub front-string : (bytes : List ℕ) (q : Quoted) → Closes 34 bytes q → q.parts ≤ 1024 → IsFront (34 ∷ bytes) kind.Str (q.len + 1)
front-string bytes q h e =
    let next : q.len + 1 ≡ suc q.len = omega arith in
    record {
      within = omega (arith, h.within);
      spelled = subst (λ n. IsToken kind.Str (take n (34 ∷ bytes))) (sym next) (a_string h.has (omega (arith, h.size)));
      longest = string_reaches bytes q.len h.content h.within h.has;
    }

-- a token that begins with `"` is short
short_string : (k : TokenKind) (v : List ℕ) → IsToken k (34 ∷ v) → (content : List ℕ) × HasParts 34 v content × (length content ≤ 1024)
short_string _ v (a_word p q) = let lower = p.0 in absurd cc
short_string _ v (an_int p) = let digit = first_digit 34 v p in absurd cc
short_string _ v (a_string {content = content} p q) = (content, p, q)
short_string _ v (a_symbol p) = let other = symbol_first 34 v p in absurd (other.no_string refl)

pub token-string : (bytes : List ℕ) (k : TokenKind) (n : ℕ) → IsFront (34 ∷ bytes) k n → (m : ℕ) × (content : List ℕ) × (m ≤ length bytes) × HasParts 34 (take m bytes) content × (length content ≤ 1024)
token-string bytes k zero f = absurd (let some = spelling-some [] (token-spells k [] f.spelled) in omega arith)
token-string bytes k (suc n) f =
    let s = short_string k (take n bytes) f.spelled in
    let within : suc n ≤ suc (length bytes) = f.within in
    (n, s.0, omega arith, s.1, s.2)

pub no_parts-string : (bytes : List ℕ) → ((n : ℕ) (content : List ℕ) → HasParts 34 (take n bytes) content → ⊥) → (k : TokenKind) (n : ℕ) → IsFront (34 ∷ bytes) k n → ⊥
no_parts-string bytes none k n f = let t = token-string bytes k n f in none t.0 t.1 t.3

pub no_front-string : (bytes : List ℕ) (q : Quoted) → Closes 34 bytes q → 1024 < q.parts → (k : TokenKind) (n : ℕ) → IsFront (34 ∷ bytes) k n → ⊥
no_front-string bytes q h long k n f =
    let t = token-string bytes k n f in
    let same = one_close 34 bytes q.len t.0 h.content t.1 (λ e. omega arith) h.within t.2 h.has t.3 in
    omega (arith, same.1, h.size, t.4)

-- ---- symbols

symbol_reaches : (bytes : List ℕ) → BeginsOther (get_or bytes 0 0) → (n : ℕ) → n ≤ length bytes → IsSpelling (take n bytes) → n ≤ symbol_len bytes
symbol_reaches bytes h zero le s = omega arith
symbol_reaches [] h (suc n) le s = absurd (omega arith)
symbol_reaches (b ∷ bytes) h (suc n) le s = symbol_len-covers (suc n) (b ∷ bytes) le (spelled-other b (take n bytes) h s)

pub front-symbol : (bytes : List ℕ) (n : ℕ) → BeginsOther (get_or bytes 0 0) → n ≡ symbol_len bytes → (n ≡ 0 → ⊥) → IsFront bytes kind.Symbol n
front-symbol bytes n h e some =
    let reach = symbol_len-within bytes in
    record {
      within = omega arith;
      spelled = a_symbol (subst (λ m. IsSymbol (take m bytes)) (sym e) (symbol_len-is bytes (omega arith)));
      longest = λ m le s. let most = symbol_reaches bytes h m le s in omega arith;
    }

pub no_front-symbol : (bytes : List ℕ) (n : ℕ) → BeginsOther (get_or bytes 0 0) → n ≡ symbol_len bytes → n ≡ 0 → (k : TokenKind) (m : ℕ) → IsFront bytes k m → ⊥
no_front-symbol bytes n h e none k m f =
    let s = token-spells k (take m bytes) f.spelled in
    let most = symbol_reaches bytes h m f.within s in
    let some = spelling-some (take m bytes) s in
    let size = length-take-le m bytes f.within in
    omega arith

-- ---- no bytes

pub no_front-nil : (bytes : List ℕ) → length bytes < 1 → (k : TokenKind) (n : ℕ) → IsFront bytes k n → ⊥
no_front-nil bytes h k n f =
    let some = spelling-some (take n bytes) (token-spells k (take n bytes) f.spelled) in
    let size = length-take-le n bytes f.within in
    let within = f.within in
    omega arith
