-- What stands at the front of the bytes, and what the private functions answer.
use Rattle.std.specs.Prelude.{ℕ, ◌≤◌, ◌≡◌, ◌≢◌, Bool, ◌||◌, ◌==◌, List, [], ◌∷◌, length, take, Option, Some, None, Result, Ok, Err, codes, if◌then◌else◌, false}
use Rattle.std.specs.List.{list_any}
use Rattle.clu_text.specs.declared.fault.TextFault.{TextFault}
use Rattle.clu_text.specs.declared.fault.TextFault.TheVariants as fault
use Rattle.clu_text.specs.declared.front.Spelling.{Spelling}
use Rattle.clu_text.specs.declared.token.Token.{Token}
use Rattle.clu_text.specs.declared.token.TokenKind.{TokenKind}
use Rattle.clu_text.specs.declared.quoted.Quoted.{Quoted}
use Rattle.byte_classes.specs.Classes.{is_lower, is_digit}
use Rattle.clu_text.specs.Spelling.{HasParts, IsSpelling, IsToken}
use Rattle.clu_text.specs.Tokens.{IsTokenAt, IsInRange, BeginsWide}

-- the symbols of one byte
abbrev pub is_single : ℕ → Bool
is_single b = list_any (λ x. x == b) (codes "$()[]{},.:=<>+-*/&|~")

-- the symbols of two bytes
abbrev pub is_pair : ℕ → ℕ → Bool
is_pair first second =
    if second == 61 then (first == 58 || first == 126 || first == 60 || first == 62) else
    (if second == 47 || second == 124 then first == second else false)

-- the length of the longest symbol at the front, or 0
unfoldable pub symbol_len : List ℕ → ℕ
symbol_len [] = 0
symbol_len (a ∷ []) = if is_single a then 1 else 0
symbol_len (a ∷ b ∷ bytes) = if is_pair a b then 2 else (if is_single a then 1 else 0)

-- neither a lower-case letter nor a digit nor a quote
pub record BeginsOther (b : ℕ) : Type 0 where
  pub no_word : is_lower b ≡ false
  pub no_int : is_digit b ≡ false
  pub no_char : b ≢ 39
  pub no_string : b ≢ 34

-- The bytes begin with so many parts and the quote that closes them.
pub record Closes (quote : ℕ) (bytes : List ℕ) (q : Quoted) : Type 0 where
  pub content : List ℕ
  pub has : HasParts quote (take q.len bytes) content
  pub size : length content ≡ q.parts
  pub within : q.len ≤ length bytes

-- what is found behind a quote
abbrev pub QuotedAnswer : ℕ → List ℕ → Option Quoted → Type 0
QuotedAnswer quote bytes None = (n : ℕ) (content : List ℕ) → HasParts quote (take n bytes) content → ⊥
QuotedAnswer quote bytes (Some q) = Closes quote bytes q

-- The longest spelling at the front of the bytes has this length, and is a token of this kind.
pub record IsFront (bytes : List ℕ) (k : TokenKind) (len : ℕ) : Type 0 where
  pub within : len ≤ length bytes
  pub spelled : IsToken k (take len bytes)
  pub longest : (n : ℕ) → n ≤ length bytes → IsSpelling (take n bytes) → n ≤ len

-- what is found at the front
abbrev pub FrontAnswer : List ℕ → Option Spelling → Type 0
FrontAnswer bytes None = (k : TokenKind) (n : ℕ) → IsFront bytes k n → ⊥
FrontAnswer bytes (Some s) = IsFront bytes s.kind s.len

-- what a fault at a place tells
abbrev pub FaultAt : List ℕ → ℕ → TextFault → Type 0
FaultAt text at (fault.BadByte place) = (place ≡ at) × ((t : Token) → t.from ≡ at → IsTokenAt text t → ⊥)
FaultAt text at (fault.Wide place) = (place ≡ at) × BeginsWide text at
FaultAt text at fault.Memory = ⊥

-- what is found at a place
abbrev pub TokenAnswer : List ℕ → ℕ → Result Token TextFault → Type 0
TokenAnswer text at (Ok t) = (t.from ≡ at) × IsTokenAt text t × IsInRange text t
TokenAnswer text at (Err e) = FaultAt text at e
