-- What tokens a text has, and where it has none. Places count from 0, lines from 1.
use Rattle.std.specs.Prelude.{ℕ, ◌+◌, ◌^◌, ◌<◌, ◌≤◌, ◌≡◌, ◌≢◌, ◌⊎◌, Bool, ◌||◌, ◌==◌, List, [], ◌∷◌, length, take, IsTrue, All, slice_index, slice_range, count_by}
use Rattle.clu_text.specs.declared.token.Token.{Token}
use Rattle.clu_text.specs.declared.token.TokenKind.TheVariants as kind
use Rattle.clu_text.specs.Spelling.{IsSpelling, IsToken, int_value}

-- a tab, the end of a line, a carriage return or a space
abbrev pub is_blank : ℕ → Bool
is_blank b = b == 9 || b == 10 || b == 13 || b == 32

-- the line of a place: one more than the ends of lines before it
abbrev pub line_at : List ℕ → ℕ → ℕ
line_at text at = 1 + count_by (λ b. b == 10) (take at text)

-- The bytes of a token
abbrev pub spelling_of : List ℕ → Token → List ℕ
spelling_of text t = slice_range text t.from t.to

-- A comment: from `%` to before the next end of a line, or to the end of the text.
pub record IsComment (text : List ℕ) (from to : ℕ) : Type 0 where
  pub some : from < to
  pub within : to ≤ length text
  pub begins : slice_index text from ≡ 37
  pub one_line : (k : ℕ) → from ≤ k → k < to → slice_index text k ≢ 10
  pub ends : (to ≡ length text) ⊎ (slice_index text to ≡ 10)

-- The token stands in the text, and is the longest spelling at its place.
pub record IsTokenAt (text : List ℕ) (t : Token) : Type 0 where
  pub within : t.to ≤ length text
  pub spelled : IsToken t.kind (spelling_of text t)
  pub longest : (to : ℕ) → to ≤ length text → IsSpelling (slice_range text t.from to) → to ≤ t.to
  pub line : t.line ≡ line_at text t.from

-- From one place to another the text has these tokens, with blanks and comments between them.
pub data Fills (text : List ℕ) : ℕ → List Token → ℕ → Type 0 where
  here : {at : ℕ} → Fills text at [] at
  blank : {at to : ℕ} {ts : List Token} → at < length text → IsTrue (is_blank (slice_index text at)) → Fills text (at + 1) ts to → Fills text at ts to
  comment : {at behind to : ℕ} {ts : List Token} → IsComment text at behind → Fills text behind ts to → Fills text at ts to
  token : {at to : ℕ} {t : Token} {ts : List Token} → t.from ≡ at → IsTokenAt text t → Fills text t.to ts to → Fills text at (t ∷ ts) to

-- an int has a value of at most 2^63-1
abbrev pub IsInRange : List ℕ → Token → Type 0
IsInRange text t = t.kind ≡ kind.Int → int_value (spelling_of text t) < 2 ^ 63

-- The tokens of a text.
pub record HasTokens (text : List ℕ) (tokens : List Token) : Type 0 where
  pub filled : Fills text 0 tokens (length text)
  pub in_range : All (IsInRange text) tokens

-- A place in the text where no blank, no comment and no token begins.
pub record NothingBegins (text : List ℕ) (at : ℕ) : Type 0 where
  pub within : at < length text
  pub no_blank : IsTrue (is_blank (slice_index text at)) → ⊥
  pub no_comment : slice_index text at ≢ 37
  pub no_token : (t : Token) → t.from ≡ at → IsTokenAt text t → ⊥

-- The place of an int above 2^63-1.
pub record BeginsWide (text : List ℕ) (at : ℕ) : Type 0 where
  pub token : Token
  pub begins : token.from ≡ at
  pub is : IsTokenAt text token
  pub int : token.kind ≡ kind.Int
  pub wide : 2 ^ 63 ≤ int_value (spelling_of text token)

-- The first place where no token begins. The tokens before it may be too wide.
pub record IsFirstBad (text : List ℕ) (place : ℕ) : Type 0 where
  pub before : List Token
  pub filled : Fills text 0 before place
  pub nothing : NothingBegins text place

-- The place of the first int above 2^63-1.
pub record IsFirstWide (text : List ℕ) (place : ℕ) : Type 0 where
  pub before : List Token
  pub filled : Fills text 0 before place
  pub in_range : All (IsInRange text) before
  pub wide : BeginsWide text place

-- The text has a place where no token begins, and no too wide int before it.
pub record IsBadByte (text : List ℕ) (place : ℕ) : Type 0 where
  pub first : IsFirstBad text place
  pub before : (other : ℕ) → IsFirstWide text other → place ≤ other

-- The text has a too wide int, and no place before it where no token begins.
pub record IsWide (text : List ℕ) (place : ℕ) : Type 0 where
  pub first : IsFirstWide text place
  pub before : (other : ℕ) → IsFirstBad text other → place ≤ other

-- The text has neither.
pub record HasNoFault (text : List ℕ) : Type 0 where
  pub no_bad_byte : (place : ℕ) → IsFirstBad text place → ⊥
  pub no_wide : (place : ℕ) → IsFirstWide text place → ⊥

-- What is so of each token of a text: its slice isn't empty, is spelled as its kind says, and is on its line.
pub record IsSpelled (text : List ℕ) (t : Token) : Type 0 where
  pub some : t.from < t.to
  pub within : t.to ≤ length text
  pub spelled : IsToken t.kind (spelling_of text t)
  pub in_range : IsInRange text t
  pub line : t.line ≡ line_at text t.from

-- from this place on, each token begins where the one before it ends, or behind that
abbrev pub AreInOrder : ℕ → List Token → Type 0
AreInOrder at [] = Unit {0}
AreInOrder at (t ∷ ts) = (at ≤ t.from) × AreInOrder t.to ts
