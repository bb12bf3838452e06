-- How tokens are spelled.
use Rattle.std.specs.Prelude.{ℕ, ◌+◌, ◌-◌, ◌*◌, ◌<◌, ◌≤◌, ◌≡◌, ◌≢◌, Bool, ◌&&◌, ◌||◌, ◌==◌, nat_le, List, [], ◌∷◌, length, Option, Some, None, codes, IsTrue, fold, All, Contains, if◌then◌else◌}
use Rattle.byte_classes.specs.Classes.{within, is_lower, is_digit, is_word_byte}
use Rattle.clu_text.specs.declared.token.TokenKind.{TokenKind}
use Rattle.clu_text.specs.declared.token.TokenKind.TheVariants as kind

-- a lower-case letter, and what may follow in a word
abbrev pub IsWord : List ℕ → Type 0
IsWord [] = ⊥
IsWord (b ∷ bytes) = IsTrue (is_lower b) × All (λ x. IsTrue (is_word_byte x)) bytes

-- one or more digits
abbrev pub IsInt : List ℕ → Type 0
IsInt bytes = (0 < length bytes) × All (λ x. IsTrue (is_digit x)) bytes

-- the number that digits spell
abbrev pub int_value : List ℕ → ℕ
int_value = fold (λ n b. 10 * n + (b - 48)) 0

-- what a byte behind `\` stands for: `\n` for 10, `\t` for 9, and `\\`, `\'` and `\"` for what stands behind the `\`
abbrev pub escaped : ℕ → Option ℕ
escaped b = if b == 110 then Some 10 else (if b == 116 then Some 9 else (if b == 92 || b == 39 || b == 34 then Some b else None))

-- The bytes behind a quote, part by part up to the quote that closes them, with the content that they stand for: one byte for each part.
pub data HasParts : ℕ → List ℕ → List ℕ → Type 0 where
  closed : {quote : ℕ} → HasParts quote (quote ∷ []) []
  plain : {quote b : ℕ} {bytes content : List ℕ} → IsTrue (within 32 126 b) → b ≢ 92 → b ≢ quote →
      HasParts quote bytes content → HasParts quote (b ∷ bytes) (b ∷ content)
  escape : {quote b c : ℕ} {bytes content : List ℕ} → escaped b ≡ Some c →
      HasParts quote bytes content → HasParts quote (92 ∷ b ∷ bytes) (c ∷ content)

-- the symbols
abbrev pub symbols : List (List ℕ)
symbols =
    codes ":=" ∷ codes "$" ∷ codes "(" ∷ codes ")" ∷ codes "[" ∷ codes "]" ∷ codes "{" ∷ codes "}" ∷ codes "," ∷ codes "." ∷
    codes ":" ∷ codes "=" ∷ codes "~=" ∷ codes "<" ∷ codes "<=" ∷ codes ">" ∷ codes ">=" ∷ codes "+" ∷ codes "-" ∷ codes "*" ∷
    codes "/" ∷ codes "//" ∷ codes "||" ∷ codes "&" ∷ codes "|" ∷ codes "~" ∷ []

abbrev pub IsSymbol : List ℕ → Type 0
IsSymbol w = Contains symbols w

-- Spelled as a token, of whatever length.
pub data IsSpelling : List ℕ → Type 0 where
  word : {w : List ℕ} → IsWord w → IsSpelling w
  int : {w : List ℕ} → IsInt w → IsSpelling w
  char : {c : ℕ} {bytes : List ℕ} → HasParts 39 bytes (c ∷ []) → IsSpelling (39 ∷ bytes)
  string : {bytes content : List ℕ} → HasParts 34 bytes content → IsSpelling (34 ∷ bytes)
  symbol : {w : List ℕ} → IsSymbol w → IsSpelling w

-- The bytes are a token of this kind: a word has at most 64 bytes, and a string at most 1,024 parts.
pub data IsToken : TokenKind → List ℕ → Type 0 where
  a_word : {w : List ℕ} → IsWord w → length w ≤ 64 → IsToken kind.Word w
  an_int : {w : List ℕ} → IsInt w → IsToken kind.Int w
  a_char : {c : ℕ} {bytes : List ℕ} → HasParts 39 bytes (c ∷ []) → IsToken kind.Char (39 ∷ bytes)
  a_string : {bytes content : List ℕ} → HasParts 34 bytes content → length content ≤ 1024 → IsToken kind.Str (34 ∷ bytes)
  a_symbol : {w : List ℕ} → IsSymbol w → IsToken kind.Symbol w
