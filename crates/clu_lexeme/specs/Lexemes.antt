-- What tokens are to the grammar.
use Rattle.std.specs.Prelude.{ℕ, ◌≡◌, ◌≢◌, List, [], ◌∷◌, Some, pos}
use Rattle.clu_tree.specs.Lexical.{symbol_of, word_of}
use Rattle.clu_tree.specs.declared.lexeme.Key.{Key}
use Rattle.clu_tree.specs.declared.lexeme.Lexeme.{Lexeme}
use Rattle.clu_tree.specs.declared.lexeme.Lexeme.TheVariants as lexeme
use Rattle.clu_text.specs.declared.token.Token.{Token}
use Rattle.clu_text.specs.declared.token.TokenKind.{TokenKind}
use Rattle.clu_text.specs.declared.token.TokenKind.TheVariants as kind
use Rattle.clu_text.specs.Spelling.{HasParts, int_value}
use Rattle.clu_text.specs.Tokens.{spelling_of}

-- What a token of this kind and spelling is, on its line.
pub data Denotes (line : ℕ) : TokenKind → List ℕ → Lexeme → Type 0 where
  name : {w : List ℕ} → ((k : Key) → word_of k ≢ Some w) → Denotes line kind.Word w (lexeme.Name w line)
  reserved : {w : List ℕ} {k : Key} → word_of k ≡ Some w → Denotes line kind.Word w (lexeme.Key k line)
  int : {w : List ℕ} → Denotes line kind.Int w (lexeme.Int (pos (int_value w)) line)
  char : {c : ℕ} {bytes : List ℕ} → HasParts 39 bytes (c ∷ []) → Denotes line kind.Char (39 ∷ bytes) (lexeme.Char c line)
  string : {bytes content : List ℕ} → HasParts 34 bytes content → Denotes line kind.Str (34 ∷ bytes) (lexeme.Str content line)
  symbol : {w : List ℕ} {k : Key} → symbol_of k ≡ Some w → Denotes line kind.Symbol w (lexeme.Key k line)

-- The tokens of a text, each as what it is.
pub data AreLexemes (text : List ℕ) : List Token → List Lexeme → Type 0 where
  none : AreLexemes text [] []
  more : {t : Token} {ts : List Token} {x : Lexeme} {xs : List Lexeme} → Denotes t.line t.kind (spelling_of text t) x → AreLexemes text ts xs → AreLexemes text (t ∷ ts) (x ∷ xs)
