-- What quoted bytes stand for.
use Rattle.std.proofs.Common.{◌≡◌, ℕ, ◌-◌, List, [], ◌∷◌, ◌++◌, length, take, drop, Some, refl, sym, ap, ◌∙◌, subst, append_assoc, arith}
use Rattle.std.specs.Prelude.{◌≢◌, IsSome, is_some}
use Rattle.std.specs.Prelude.{slice_index_or}
use Rattle.std.proofs.lemmas.List.{append-nil, take_all}
use Rattle.clu_tree.specs.declared.lexeme.Lexeme.TheVariants as lexeme
use Rattle.clu_lexeme.specs.Lexemes.{Denotes, char, string}
use Rattle.clu_lexeme.specs.Parts.{IsFirstPart}
use Rattle.clu_text.specs.declared.token.TokenKind.TheVariants as kind
use Rattle.clu_text.specs.Spelling.{HasParts, closed, plain, escape, escaped, IsToken, IsSymbol, a_char, a_string, a_symbol}

-- Some content was found, and the bytes that are left have the rest.
abbrev pub Left : ℕ → List ℕ → List ℕ → List ℕ → Type 0
Left quote bytes found left = (content rest : List ℕ) × HasParts quote bytes content × HasParts quote left rest × (content ≡ found ++ rest)

-- ---- the first part

part_plain : (quote : ℕ) (w content : List ℕ) (b : ℕ) (bytes : List ℕ) → w ≡ b ∷ bytes → b ≢ quote → b ≢ 92 → HasParts quote w content → (rest : List ℕ) × HasParts quote bytes rest × (content ≡ b ∷ rest)
part_plain quote _ content b bytes e apart other closed = let front : quote ≡ b = cc in absurd (apart (sym front))
part_plain quote _ _ b bytes e apart other (plain {b = c} {bytes = more} {content = rest} _ _ _ h) =
    let front : c ≡ b = cc in
    let back : more ≡ bytes = cc in
    (rest, subst (λ (x : List ℕ). HasParts quote x rest) back h, ap (λ x. x ∷ rest) front)
part_plain quote _ content b bytes e apart other (escape _ h) = let front : 92 ≡ b = cc in absurd (other (sym front))

pub begins_plain : (quote : ℕ) (w : List ℕ) (b : ℕ) (bytes : List ℕ) → w ≡ b ∷ bytes → b ≢ quote → b ≢ 92 → IsFirstPart quote w b bytes
begins_plain quote w b bytes e apart other = record {
  shorter = let size = ap length e in omega arith;
  part = λ content h. part_plain quote w content b bytes e apart other h;
}

part_escape : (quote : ℕ) (w content : List ℕ) (b : ℕ) (bytes : List ℕ) → w ≡ 92 ∷ b ∷ bytes → quote ≢ 92 → HasParts quote w content →
    (c : ℕ) × (rest : List ℕ) × (escaped b ≡ Some c) × HasParts quote bytes rest × (content ≡ c ∷ rest)
part_escape quote _ content b bytes e q closed = let front : quote ≡ 92 = cc in absurd (q front)
part_escape quote _ _ b bytes e q (plain {b = c} _ other _ h) = let front : c ≡ 92 = cc in absurd (other front)
part_escape quote _ _ b bytes e q (escape {b = d} {c = c} {bytes = more} {content = rest} s h) =
    let front : d ≡ b = cc in
    let back : more ≡ bytes = cc in
    (c, rest, subst (λ x. escaped x ≡ Some c) front s, subst (λ (x : List ℕ). HasParts quote x rest) back h, refl)

pub begins_escape : (quote : ℕ) (w : List ℕ) (b c : ℕ) (bytes : List ℕ) → w ≡ 92 ∷ b ∷ bytes → quote ≢ 92 → escaped b ≡ Some c → IsFirstPart quote w c bytes
begins_escape quote w b c bytes e q found = record {
  shorter = let size = ap length e in omega arith;
  part = λ content h.
      let s = part_escape quote w content b bytes e q h in
      let same : s.0 ≡ c = cc in
      (s.1, s.3, s.4 ∙ ap (λ x. x ∷ s.1) same);
}

-- ---- part by part

only_closed : (quote : ℕ) (w rest : List ℕ) → w ≡ quote ∷ [] → quote ≢ 92 → HasParts quote w rest → rest ≡ []
only_closed quote _ rest e q closed = refl
only_closed quote _ rest e q (plain {b = b} _ _ apart h) = let front : b ≡ quote = cc in absurd (apart front)
only_closed quote _ rest e q (escape _ h) = let front : 92 ≡ quote = cc in absurd (q (sym front))

-- bytes have one content
pub one_content : (quote : ℕ) (w a b : List ℕ) → quote ≢ 92 → HasParts quote w a → HasParts quote w b → a ≡ b
one_content quote _ _ b q closed k = sym (only_closed quote (quote ∷ []) b refl q k)
one_content quote _ _ b q (plain {b = x} {bytes = bytes} {content = a} _ other apart h) k =
    let s = part_plain quote (x ∷ bytes) b x bytes refl apart other k in
    ap (λ (z : List ℕ). x ∷ z) (one_content quote bytes a s.0 q h s.1) ∙ sym s.2
one_content quote _ _ b q (escape {b = x} {c = c} {bytes = bytes} {content = a} e h) k =
    let s = part_escape quote (92 ∷ x ∷ bytes) b x bytes refl q k in
    let same : c ≡ s.0 = cc in
    ap (λ (z : List ℕ). c ∷ z) (one_content quote bytes a s.1 q h s.3) ∙ (ap (λ z. z ∷ s.1) same ∙ sym s.4)

pub left_none : (quote : ℕ) (all found left : List ℕ) → quote ≢ 92 → HasParts quote left [] → Left quote all found left → HasParts quote all found
left_none quote all found left q done l =
    let e = one_content quote left l.1 [] q l.3 done in
    subst (HasParts quote all) (l.4 ∙ (ap (λ (x : List ℕ). found ++ x) e ∙ append-nil found)) l.2

-- ---- tokens by kind

pub symbol_token : (w : List ℕ) → IsToken kind.Symbol w → IsSymbol w
symbol_token w (a_symbol h) = h

-- the bytes behind a quote
behind_quote : (b : ℕ) (bytes : List ℕ) → take (length (b ∷ bytes) - 1) (drop 1 (b ∷ bytes)) ≡ bytes
behind_quote b bytes = let n : length (b ∷ bytes) - 1 ≡ length bytes = omega arith in ap (λ k. take k bytes) n ∙ take_all (length bytes) bytes (omega arith)

-- the parts of a char are one
pub one_part : (w parts : List ℕ) → IsToken kind.Char w → HasParts 39 (take (length w - 1) (drop 1 w)) parts → (c : ℕ) × (parts ≡ c ∷ [])
one_part _ parts (a_char {c = c} {bytes = bytes} h) k =
    (c, one_content 39 bytes parts (c ∷ []) (λ e. absurd (omega (arith, e))) (subst (λ x. HasParts 39 x parts) (behind_quote 39 bytes) k) h)

pub char_denotes : (line : ℕ) (w parts : List ℕ) → IsToken kind.Char w → HasParts 39 (take (length w - 1) (drop 1 w)) parts → Denotes line kind.Char w (lexeme.Char (slice_index_or parts 0 0) line)
char_denotes line _ parts (a_char {c = c} {bytes = bytes} h) k =
    let one = one_content 39 bytes parts (c ∷ []) (λ e. absurd (omega (arith, e))) (subst (λ x. HasParts 39 x parts) (behind_quote 39 bytes) k) h in
    subst (λ x. Denotes line kind.Char (39 ∷ bytes) (lexeme.Char (slice_index_or x 0 0) line)) (sym one) (char h)

pub string_denotes : (line : ℕ) (w parts : List ℕ) → IsToken kind.Str w → HasParts 34 (take (length w - 1) (drop 1 w)) parts → Denotes line kind.Str w (lexeme.Str parts line)
string_denotes line _ parts (a_string {bytes = bytes} h _) k = string (subst (λ x. HasParts 34 x parts) (behind_quote 34 bytes) k)
