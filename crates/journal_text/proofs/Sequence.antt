-- Lines one after the other, as a loop reads them.
use Rattle.std.proofs.Common.{◌≡◌, ◌≢◌, ℕ, ◌+◌, ◌≤◌, List, [], ◌∷◌, ◌++◌, length, All, refl, sym, ap, subst, ◌∙◌, append_assoc, arith, inl, inr, ◌⊎◌}
use Rattle.std.specs.Prelude.{Result, Ok, Err, IfOk, MatchResult}
use Rattle.std.specs.Global.{Vec}
use Rattle.std.specs.List.{flat_map}
use Rattle.std.proofs.lemmas.List.{append-nil, length-append}
use Rattle.std.proofs.lemmas.List.Concat.{flat_map-cons}
use Rattle.std.proofs.lemmas.Grind.{flat_map-append}
use Rattle.std.proofs.lemmas.List.Elements.{All-nil, All-head, All-tail, All-push}
use Rattle.world_types.specs.declared.event.Told.{Told}
use Rattle.journal_text.specs.declared.fault.JournalFault.{JournalFault}
use Rattle.journal_text.specs.declared.fault.JournalFault.TheVariants.{BadLine, Memory}
use Rattle.journal_text.specs.Spelling.{spelled}
use Rattle.journal_text.specs.Grammar.{InGrammar, BeginsWithNoLine, most_lines, IsJournal, IsFirstBad}
use Rattle.journal_text.proofs.Lines.{unambiguous, length-behind}

-- the bytes are these lines, at most as many as a journal may have, and a rest
pub record IsReadSoFar (bytes : List ℕ) (lines : List Told) (rest : List ℕ) : Type 0 where
  pub few : length lines ≤ most_lines
  pub each : All InGrammar lines
  pub parts : bytes ≡ flat_map spelled lines ++ rest

-- ---- there is one way to read

-- the longer lines go on behind the shorter ones
record Continues (short long : List Told) (x y : List ℕ) : Type 0 where
  more : List Told
  lines : long ≡ short ++ more
  rest : x ≡ flat_map spelled more ++ y
  each : All InGrammar more

Continues-cons : (told : Told) (short long : List Told) (x y : List ℕ) → Continues short long x y → Continues (told ∷ short) (told ∷ long) x y
Continues-cons told short long x y c = record { more = c.more; lines = ap (λ (ts : List Told). told ∷ ts) c.lines; rest = c.rest; each = c.each }

one_continues : (a b : List Told) (x y : List ℕ) → All InGrammar a → All InGrammar b → flat_map spelled a ++ x ≡ flat_map spelled b ++ y
    → Continues a b x y ⊎ Continues b a y x
one_continues [] b x y each_a each_b e = inl (record { more = b; lines = refl; rest = e; each = each_b })
one_continues (told ∷ a) [] x y each_a each_b e = inr (record { more = told ∷ a; lines = refl; rest = sym e; each = each_a })
one_continues (told ∷ a) (other ∷ b) x y each_a each_b e =
    let split_a : flat_map spelled (told ∷ a) ++ x ≡ spelled told ++ (flat_map spelled a ++ x) = ap (λ (front : List ℕ). front ++ x) (flat_map-cons spelled told a) ∙ append_assoc (spelled told) (flat_map spelled a) x in
    let split_b : flat_map spelled (other ∷ b) ++ y ≡ spelled other ++ (flat_map spelled b ++ y) = ap (λ (front : List ℕ). front ++ y) (flat_map-cons spelled other b) ∙ append_assoc (spelled other) (flat_map spelled b) y in
    let same = unambiguous told other (flat_map spelled a ++ x) (flat_map spelled b ++ y) (All-head InGrammar told a each_a) (All-head InGrammar other b each_b) (sym split_a ∙ e ∙ split_b) in
    let P : Told → Type 0 = λ t. Continues (told ∷ a) (t ∷ b) x y ⊎ Continues (t ∷ b) (told ∷ a) y x in
    subst P same.0 (elim (one_continues a b x y (All-tail InGrammar told a each_a) (All-tail InGrammar other b each_b) same.1) [
      | inl c ↦ inl (Continues-cons told a b x y c)
      | inr c ↦ inr (Continues-cons told b a y x c)
    ])

-- what goes on behind the lines before a bad one isn't lines
no_more : (bytes : List ℕ) (k : ℕ) (bad : IsFirstBad bytes k) (more : List Told) (y : List ℕ) → bad.rest ≡ flat_map spelled more ++ y → All InGrammar more
    → length (bad.before ++ more) ≤ most_lines → more ≡ []
no_more bytes k bad [] y e each few = refl
no_more bytes k bad (told ∷ more) y e each few = absurd (elim bad.bad [
  | inl full ↦ omega (arith, length-append bad.before (told ∷ more))
  | inr no_line ↦ no_line told (flat_map spelled more ++ y) (All-head InGrammar told more each)
      (e ∙ ap (λ (front : List ℕ). front ++ y) (flat_map-cons spelled told more) ∙ append_assoc (spelled told) (flat_map spelled more) y)
])

-- what is nothing begins with no line and has no rest
nothing_continues : (more : List Told) (rest : List ℕ) → [] ≡ flat_map spelled more ++ rest → (more ≡ []) × (rest ≡ [])
nothing_continues [] rest e = (refl, sym e)
nothing_continues (told ∷ more) rest e =
    absurd (omega (arith, length-behind told (flat_map spelled more ++ rest) [] (e ∙ ap (λ (front : List ℕ). front ++ rest) (flat_map-cons spelled told more) ∙ append_assoc (spelled told) (flat_map spelled more) rest)))

-- a journal has no bad line
journal_or_bad : (bytes : List ℕ) (lines : List Told) (k : ℕ) → IsJournal bytes lines → IsFirstBad bytes k → ⊥
journal_or_bad bytes lines k good bad =
    let e : flat_map spelled lines ++ [] ≡ flat_map spelled bad.before ++ bad.rest = append-nil (flat_map spelled lines) ∙ sym good.whole ∙ bad.parts in
    elim (one_continues lines bad.before [] bad.rest good.each bad.each e) [
      | inl c ↦ bad.there (nothing_continues c.more bad.rest c.rest).1
      | inr c ↦
          let none = no_more bytes k bad c.more [] c.rest c.each (omega (arith, good.few, ap length c.lines)) in
          bad.there (c.rest ∙ ap (λ (more : List Told). flat_map spelled more ++ []) none)
    ]

-- bytes are one journal at most
one_journal : (bytes : List ℕ) (a b : List Told) → IsJournal bytes a → IsJournal bytes b → a ≡ b
one_journal bytes a b good other =
    let e : flat_map spelled a ++ [] ≡ flat_map spelled b ++ [] = append-nil (flat_map spelled a) ∙ sym good.whole ∙ other.whole ∙ sym (append-nil (flat_map spelled b)) in
    elim (one_continues a b [] [] good.each other.each e) [
      | inl c ↦ sym (c.lines ∙ ap (λ (more : List Told). a ++ more) (nothing_continues c.more [] c.rest).0 ∙ append-nil a)
      | inr c ↦ c.lines ∙ ap (λ (more : List Told). b ++ more) (nothing_continues c.more [] c.rest).0 ∙ append-nil b
    ]

one_bad : (bytes : List ℕ) (j k : ℕ) → IsFirstBad bytes j → IsFirstBad bytes k → j ≡ k
one_bad bytes j k a b =
    elim (one_continues a.before b.before a.rest b.rest a.each b.each (sym a.parts ∙ b.parts)) [
      | inl c ↦
          let none = no_more bytes j a c.more b.rest c.rest c.each (omega (arith, b.few, ap length c.lines)) in
          let same : length b.before ≡ length a.before = ap length c.lines ∙ ap (λ (more : List Told). length (a.before ++ more)) none ∙ ap length (append-nil a.before) in
          omega (arith, a.place, b.place)
      | inr c ↦
          let none = no_more bytes k b c.more a.rest c.rest c.each (omega (arith, a.few, ap length c.lines)) in
          let same : length a.before ≡ length b.before = ap length c.lines ∙ ap (λ (more : List Told). length (b.before ++ more)) none ∙ ap length (append-nil b.before) in
          omega (arith, a.place, b.place)
    ]

pub bad_is_found : (bytes : List ℕ) (r : Result (Vec Told) JournalFault) → IfOk r (λ lines. IsJournal bytes lines.items) → ((k : ℕ) → r ≡ Err (BadLine k) → IsFirstBad bytes k)
    → (number : ℕ) → IsFirstBad bytes number → (r ≡ Err (BadLine number)) ⊎ (r ≡ Err Memory)
bad_is_found bytes (Ok lines) read bad number first = absurd (journal_or_bad bytes lines.items number read first)
bad_is_found bytes (Err (BadLine k)) read bad number first = inl (ap (λ (n : ℕ). Err (BadLine n)) (one_bad bytes k number (bad k refl) first))
bad_is_found bytes (Err Memory) read bad number first = inr refl

pub journal_is_read : (bytes : List ℕ) (r : Result (Vec Told) JournalFault) → IfOk r (λ lines. IsJournal bytes lines.items) → ((k : ℕ) → r ≡ Err (BadLine k) → IsFirstBad bytes k)
    → (lines : List Told) → IsJournal bytes lines → MatchResult r (λ read. read.items ≡ lines) (λ fault. fault ≡ Memory)
journal_is_read bytes (Ok read) good bad lines journal = one_journal bytes read.items lines good journal
journal_is_read bytes (Err (BadLine k)) good bad lines journal = absurd (journal_or_bad bytes lines k journal (bad k refl))
journal_is_read bytes (Err Memory) good bad lines journal = refl

-- what is written is a journal of the lines
pub is_written : {F : Type 0} (lines : List Told) (r : Result (Vec ℕ) F) → IfOk r (λ bytes. bytes.items ≡ flat_map spelled lines) → length lines ≤ most_lines → All InGrammar lines
    → IfOk r (λ bytes. IsJournal bytes.items lines)
is_written lines (Ok bytes) written few each = record { few = few; each = each; whole = written }
is_written lines (Err fault) written few each = tt

-- what is written is a journal of no other lines
pub only_journal : {F : Type 0} (lines : List Told) (r : Result (Vec ℕ) F) → IfOk r (λ bytes. bytes.items ≡ flat_map spelled lines) → length lines ≤ most_lines → All InGrammar lines
    → IfOk r (λ bytes. (others : List Told) → IsJournal bytes.items others → others ≡ lines)
only_journal lines (Ok bytes) written few each = λ others journal. one_journal bytes.items others lines journal (record { few = few; each = each; whole = written })
only_journal lines (Err fault) written few each = tt
