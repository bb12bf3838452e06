-- A token is one thing to the grammar.
use Rattle.std.proofs.Common.{◌≡◌, ℕ, List, [], ◌∷◌, Some, refl, sym, ap, ◌∙◌, subst, arith}
use Rattle.clu_tree.specs.Lexical.{symbol_of, word_of}
use Rattle.clu_tree.specs.declared.lexeme.Key.{Key}
use Rattle.clu_tree.specs.declared.lexeme.Lexeme.{Lexeme}
use Rattle.clu_tree.specs.declared.lexeme.Lexeme.TheVariants as lexeme
use Rattle.clu_text.specs.declared.token.Token.{Token}
use Rattle.clu_text.specs.declared.token.TokenKind.{TokenKind}
use Rattle.clu_text.specs.declared.token.TokenKind.TheVariants as kind
use Rattle.clu_text.specs.Spelling.{HasParts}
use Rattle.clu_text.specs.Tokens.{spelling_of}
use Rattle.clu_lexeme.specs.Lexemes.{Denotes, AreLexemes, name, reserved, int, char, string, symbol, none, more}
use Rattle.clu_lexeme.proofs.Contents.{one_content}
use Rattle.clu_lexeme.proofs.Keys.{word_of-found, symbol_of-found}

one_word : (j k : Key) (w : List ℕ) → word_of j ≡ Some w → word_of k ≡ Some w → j ≡ k
one_word j k w a b = let f = word_of-found j w a in let g = word_of-found k w b in cc

one_symbol : (j k : Key) (w : List ℕ) → symbol_of j ≡ Some w → symbol_of k ≡ Some w → j ≡ k
one_symbol j k w a b = let f = symbol_of-found j w a in let g = symbol_of-found k w b in cc

word_way : (line : ℕ) (w : List ℕ) (x y : Lexeme) → Denotes line kind.Word w x → Denotes line kind.Word w y → x ≡ y
word_way line w _ _ (name h) (name k) = refl
word_way line w _ _ (name h) (reserved {k = k} e) = absurd (h k e)
word_way line w _ _ (reserved {k = k} e) (name h) = absurd (h k e)
word_way line w _ _ (reserved {k = j} e) (reserved {k = k} f) = ap (λ x. lexeme.Key x line) (one_word j k w e f)

int_way : (line : ℕ) (w : List ℕ) (x y : Lexeme) → Denotes line kind.Int w x → Denotes line kind.Int w y → x ≡ y
int_way line w _ _ int int = refl

symbol_way : (line : ℕ) (w : List ℕ) (x y : Lexeme) → Denotes line kind.Symbol w x → Denotes line kind.Symbol w y → x ≡ y
symbol_way line w _ _ (symbol {k = j} e) (symbol {k = k} f) = ap (λ x. lexeme.Key x line) (one_symbol j k w e f)

char_of : (line : ℕ) (w : List ℕ) (x : Lexeme) → Denotes line kind.Char w x → (c : ℕ) × (bytes : List ℕ) × (w ≡ 39 ∷ bytes) × HasParts 39 bytes (c ∷ []) × (x ≡ lexeme.Char c line)
char_of line _ _ (char {c = c} {bytes = bytes} h) = (c, bytes, refl, h, refl)

char_way : (line : ℕ) (w : List ℕ) (x y : Lexeme) → Denotes line kind.Char w x → Denotes line kind.Char w y → x ≡ y
char_way line _ _ y (char {c = c} {bytes = bytes} h) d =
    let e = char_of line (39 ∷ bytes) y d in
    let same : e.1 ≡ bytes = cc in
    let one = one_content 39 bytes (c ∷ []) (e.0 ∷ []) (λ q. absurd (omega (arith, q))) h (subst (λ (b : List ℕ). HasParts 39 b (e.0 ∷ [])) same e.3) in
    let first : c ≡ e.0 = cc in
    ap (λ x. lexeme.Char x line) first ∙ sym e.4

string_of : (line : ℕ) (w : List ℕ) (x : Lexeme) → Denotes line kind.Str w x → (bytes content : List ℕ) × (w ≡ 34 ∷ bytes) × HasParts 34 bytes content × (x ≡ lexeme.Str content line)
string_of line _ _ (string {bytes = bytes} {content = content} h) = (bytes, content, refl, h, refl)

string_way : (line : ℕ) (w : List ℕ) (x y : Lexeme) → Denotes line kind.Str w x → Denotes line kind.Str w y → x ≡ y
string_way line _ _ y (string {bytes = bytes} {content = content} h) d =
    let e = string_of line (34 ∷ bytes) y d in
    let same : e.0 ≡ bytes = cc in
    let one = one_content 34 bytes content e.1 (λ q. absurd (omega (arith, q))) h (subst (λ (b : List ℕ). HasParts 34 b e.1) same e.3) in
    ap (λ (x : List ℕ). lexeme.Str x line) one ∙ sym e.4

one_way : (line : ℕ) (k : TokenKind) (w : List ℕ) (x y : Lexeme) → Denotes line k w x → Denotes line k w y → x ≡ y
one_way line kind.Word w x y a b = word_way line w x y a b
one_way line kind.Int w x y a b = int_way line w x y a b
one_way line kind.Char w x y a b = char_way line w x y a b
one_way line kind.Str w x y a b = string_way line w x y a b
one_way line kind.Symbol w x y a b = symbol_way line w x y a b

others : (text : List ℕ) (t : Token) (ts : List Token) (ys : List Lexeme) → AreLexemes text (t ∷ ts) ys →
    (y : Lexeme) × (zs : List Lexeme) × Denotes t.line t.kind (spelling_of text t) y × AreLexemes text ts zs × (ys ≡ y ∷ zs)
others text t ts _ (more {x = x} {xs = xs} d a) = (x, xs, d, a, refl)

nothing : (text : List ℕ) (ys : List Lexeme) → AreLexemes text [] ys → ys ≡ []
nothing text _ none = refl

-- a text's tokens are one list of lexemes
pub one_list : (text : List ℕ) (ts : List Token) (xs ys : List Lexeme) → AreLexemes text ts xs → AreLexemes text ts ys → xs ≡ ys
one_list text _ _ ys none b = sym (nothing text ys b)
one_list text _ _ ys (more {t = t} {ts = ts} {x = x} {xs = xs} d a) b =
    let o = others text t ts ys b in
    let rest = one_list text ts xs o.1 a o.3 in
    let first = one_way t.line t.kind (spelling_of text t) x o.0 d o.2 in
    ap (λ z. z ∷ xs) first ∙ (ap (λ (z : List Lexeme). o.0 ∷ z) rest ∙ sym o.4)
