-- The parts of a line: what is read of each is what is spelled of it.
use Rattle.std.proofs.Common.{◌-◌, ◌≡◌, ℕ, ◌^◌, ◌<◌, ◌≤◌, false, cond, List, [], ◌∷◌, ◌++◌, Option, Some, None, refl, sym, ap, ◌∙◌, append_assoc, arith, inl, inr, ◌⊎◌}
use Rattle.std.specs.Prelude.{◌==◌}
use Rattle.std.specs.Fmt.{decimal}
use Rattle.std.proofs.lemmas.Bool.{eqb-false, ne_eqb}
use Rattle.journal_text.specs.declared.word.Word.{Word}
use Rattle.journal_text.specs.declared.word.Word.TheVariants as word
use Rattle.journal_text.specs.declared.word.TheConstants.{WORDS}
use Rattle.journal_text.specs.Spelling.{spaced}
use Rattle.journal_text.specs.Grammar.{IsNode, IsNumber, IsSerial, IsStepCount, IsLine}
use Rattle.journal_text.specs.Reading.{◌>>=◌, text_at, number_at, word_number_at, positive_at, word_text, word_or, first_word, word_at}
use Rattle.journal_text.proofs.Fields.{bind_some, chosen, some_has, none_is, text_takes, number_takes, number_again}

-- what may stand behind a word: a space, or the end of the line
abbrev pub IsBehind : List ℕ → Type 0
IsBehind [] = ⊥
IsBehind (b ∷ rest) = (b ≡ 32) ⊎ (b ≡ 10)

pub behind-spaced : (words : List (List ℕ)) (rest : List ℕ) → IsBehind rest → IsBehind (spaced words ++ rest)
behind-spaced [] rest behind = behind
behind-spaced (word ∷ words) rest behind = inl refl

-- A part of a line: how it is read from the front, its words, and which values have them.
pub record IsPart {X : Type 0} (read_at : List ℕ → Option (X × List ℕ)) (words : X → List (List ℕ)) (Is : X → Type 0) : Type 0 where
  -- what is read stands in front
  pub taken : (bytes : List ℕ) (x : X × List ℕ) → read_at bytes ≡ Some x → (bytes ≡ spaced (words x.0) ++ x.1) × Is x.0
  -- what is spelled is read
  pub again : (x : X) (rest : List ℕ) → Is x → IsBehind rest → read_at (spaced (words x) ++ rest) ≡ Some (x, rest)

-- ---- one part behind the other

-- a part was read, and y was made of it and of the bytes behind it
pub record Step {X Y : Type 0} (words : X → List (List ℕ)) (Is : X → Type 0) (next : X × List ℕ → Option Y) (bytes : List ℕ) (y : Y) : Type 0 where
  pub value : X
  pub rest : List ℕ
  pub parts : bytes ≡ spaced (words value) ++ rest
  pub is : Is value
  pub goes_on : next (value, rest) ≡ Some y

module _ {X Y : Type 0} {read_at : List ℕ → Option (X × List ℕ)} {words : X → List (List ℕ)} {Is : X → Type 0} (part : IsPart read_at words Is) where
  pub step : (next : X × List ℕ → Option Y) (bytes : List ℕ) (y : Y) → (read_at bytes >>= next) ≡ Some y → Step words Is next bytes y
  step next bytes y e =
      let b = bind_some (read_at bytes) next y e in
      let t = part.taken bytes b.0 b.1 in
      record { value = b.0.0; rest = b.0.1; parts = t.0; is = t.1; goes_on = b.2 }

  pub step_again : (next : X × List ℕ → Option Y) (x : X) (rest : List ℕ) → Is x → IsBehind rest → (read_at (spaced (words x) ++ rest) >>= next) ≡ next (x, rest)
  step_again next x rest is behind = ap (λ o. o >>= next) (part.again x rest is behind)

pub spaced-append : (a b : List (List ℕ)) → spaced (a ++ b) ≡ spaced a ++ spaced b
spaced-append [] b = refl
spaced-append (word ∷ a) b = ap (λ (t : List ℕ). 32 ∷ (word ++ t)) (spaced-append a b) ∙ ap (λ (t : List ℕ). 32 ∷ t) (sym (append_assoc word (spaced a) (spaced b)))

pub spaced-then : (a b : List (List ℕ)) (rest : List ℕ) → spaced (a ++ b) ++ rest ≡ spaced a ++ (spaced b ++ rest)
spaced-then a b rest = ap (λ (t : List ℕ). t ++ rest) (spaced-append a b) ∙ append_assoc (spaced a) (spaced b) rest

pub two_parts : (bytes : List ℕ) (a b : List (List ℕ)) (after rest : List ℕ) → bytes ≡ spaced a ++ after → after ≡ spaced b ++ rest → bytes ≡ spaced (a ++ b) ++ rest
two_parts bytes a b after rest p q = p ∙ ap (λ (t : List ℕ). spaced a ++ t) q ∙ sym (spaced-then a b rest)

-- with the same values said otherwise
pub same_values : {X : Type 0} {read_at : List ℕ → Option (X × List ℕ)} {words : X → List (List ℕ)} {Is Is' : X → Type 0} → IsPart read_at words Is → ((x : X) → Is x → Is' x) → ((x : X) → Is' x → Is x) → IsPart read_at words Is'
same_values part there back = record {
  taken = λ bytes x e. let t = part.taken bytes x e in (t.0, there x.0 t.1);
  again = λ x rest is behind. part.again x rest (back x is) behind;
}

-- ---- what is made of parts

-- The words of what was read: those in front, and those with which the bytes begin.
pub record IsTaken {X : Type 0} (words : X → List (List ℕ)) (Is : X → Type 0) (front : List (List ℕ)) (bytes : List ℕ) (x : X × List ℕ) : Type 0 where
  pub more : List (List ℕ)
  pub first : words x.0 ≡ front ++ more
  pub parts : bytes ≡ spaced more ++ x.1
  pub is : Is x.0

-- what is made of a part, and of two
abbrev pub made : {A X : Type 0} → (A → X) → A × List ℕ → Option (X × List ℕ)
made make a = Some (make a.0, a.1)

abbrev pub made_of_two : {A B X : Type 0} → (List ℕ → Option (B × List ℕ)) → (A → B → X) → A × List ℕ → Option (X × List ℕ)
made_of_two read_b make a = read_b a.1 >>= made (make a.0)

module _ {X : Type 0} (words : X → List (List ℕ)) (Is : X → Type 0) (front : List (List ℕ)) where
  pub joined : (bytes after : List ℕ) (x : X × List ℕ) → bytes ≡ spaced front ++ after → IsTaken words Is front after x → (bytes ≡ spaced (words x.0) ++ x.1) × Is x.0
  joined bytes after x e t = (two_parts bytes front t.more after x.1 e t.parts ∙ ap (λ (ws : List (List ℕ)). spaced ws ++ x.1) (sym t.first), t.is)

  -- of no part
  pub alone_taken : (whole : X) → words whole ≡ front ++ [] → Is whole → (bytes : List ℕ) (x : X × List ℕ) → Some (whole, bytes) ≡ Some x → IsTaken words Is front bytes x
  alone_taken whole first is bytes x e = some_has (IsTaken words Is front bytes) (whole, bytes) x e (record { more = []; first = first; parts = refl; is = is })

  -- of one part
  pub one_taken : {A : Type 0} {read_at : List ℕ → Option (A × List ℕ)} {words_a : A → List (List ℕ)} {IsA : A → Type 0} → IsPart read_at words_a IsA → (make : A → X)
      → ((a : A) → IsA a → (words (make a) ≡ front ++ words_a a) × Is (make a)) → (bytes : List ℕ) (x : X × List ℕ) → (read_at bytes >>= made make) ≡ Some x → IsTaken words Is front bytes x
  one_taken {words_a = words_a} part make fits bytes x e =
      let a = step part (made make) bytes x e in
      let f = fits a.value a.is in
      some_has (IsTaken words Is front bytes) (make a.value, a.rest) x a.goes_on (record { more = words_a a.value; first = f.0; parts = a.parts; is = f.1 })

  -- of two parts
  pub two_taken : {A B : Type 0} {read_a : List ℕ → Option (A × List ℕ)} {words_a : A → List (List ℕ)} {IsA : A → Type 0} {read_b : List ℕ → Option (B × List ℕ)} {words_b : B → List (List ℕ)} {IsB : B → Type 0}
      → IsPart read_a words_a IsA → IsPart read_b words_b IsB → (make : A → B → X)
      → ((a : A) (b : B) → IsA a → IsB b → (words (make a b) ≡ front ++ (words_a a ++ words_b b)) × Is (make a b))
      → (bytes : List ℕ) (x : X × List ℕ) → (read_a bytes >>= made_of_two read_b make) ≡ Some x → IsTaken words Is front bytes x
  two_taken {words_a = words_a} {read_b = read_b} {words_b = words_b} part_a part_b make fits bytes x e =
      let a = step part_a (made_of_two read_b make) bytes x e in
      let b = step part_b (made (make a.value)) a.rest x a.goes_on in
      let f = fits a.value b.value a.is b.is in
      some_has (IsTaken words Is front bytes) (make a.value b.value, b.rest) x b.goes_on
      (record { more = words_a a.value ++ words_b b.value; first = f.0; parts = two_parts bytes (words_a a.value) (words_b b.value) a.rest b.rest a.parts b.parts; is = f.1 })

pub one_again : {A X : Type 0} {read_at : List ℕ → Option (A × List ℕ)} {words_a : A → List (List ℕ)} {IsA : A → Type 0} → IsPart read_at words_a IsA → (make : A → X)
    → (a : A) (rest : List ℕ) → IsA a → IsBehind rest → (read_at (spaced (words_a a) ++ rest) >>= made make) ≡ Some (make a, rest)
one_again part make a rest is behind = step_again part (made make) a rest is behind

pub two_again : {A B X : Type 0} {read_a : List ℕ → Option (A × List ℕ)} {words_a : A → List (List ℕ)} {IsA : A → Type 0} {read_b : List ℕ → Option (B × List ℕ)} {words_b : B → List (List ℕ)} {IsB : B → Type 0}
    → IsPart read_a words_a IsA → IsPart read_b words_b IsB → (make : A → B → X)
    → (a : A) (b : B) (rest : List ℕ) → IsA a → IsB b → IsBehind rest → (read_a (spaced (words_a a ++ words_b b) ++ rest) >>= made_of_two read_b make) ≡ Some (make a b, rest)
two_again {read_a = read_a} {words_a = words_a} {read_b = read_b} {words_b = words_b} part_a part_b make a b rest is_a is_b behind =
    ap (λ (t : List ℕ). read_a t >>= made_of_two read_b make) (spaced-then (words_a a) (words_b b) rest)
    ∙ step_again part_a (made_of_two read_b make) a (spaced (words_b b) ++ rest) is_a (behind-spaced (words_b b) rest behind)
    ∙ step_again part_b (made (make a)) b rest is_b behind

-- ---- numbers

abbrev pub one_word : ℕ → List (List ℕ)
one_word n = decimal n ∷ []

-- one word
pub one_spaced : (word rest : List ℕ) → spaced (word ∷ []) ++ rest ≡ 32 ∷ (word ++ rest)
one_spaced word rest = ap (λ (t : List ℕ). 32 ∷ t) (append_assoc word [] rest)

pub number_part : (largest : ℕ) → 9 ≤ largest → largest < 2 ^ 64 → IsPart (word_number_at largest) one_word (λ n. n ≤ largest)
unfolding word_number_at text_at
number_part largest low limit = record { taken = taken; again = again }
  where
    taken : (bytes : List ℕ) (x : ℕ × List ℕ) → word_number_at largest bytes ≡ Some x → (bytes ≡ spaced (one_word x.0) ++ x.1) × (x.0 ≤ largest)
    taken bytes x e =
        let a = bind_some (text_at (32 ∷ []) bytes) (number_at largest) x e in
        let number = number_takes largest a.0 x low limit a.2 in
        (text_takes (32 ∷ []) bytes a.0 a.1 ∙ ap (λ (after : List ℕ). 32 ∷ after) number.parts ∙ sym (one_spaced (decimal x.0) x.1), number.small)

    again : (n : ℕ) (rest : List ℕ) → n ≤ largest → IsBehind rest → word_number_at largest (spaced (one_word n) ++ rest) ≡ Some (n, rest)
    again n [] small behind = absurd behind
    again n (b ∷ rest) small (inl space) = ap (word_number_at largest) (one_spaced (decimal n) (b ∷ rest)) ∙ rw space (number_again largest n 32 rest small (omega (arith, small, limit)) refl)
    again n (b ∷ rest) small (inr end) = ap (word_number_at largest) (one_spaced (decimal n) (b ∷ rest)) ∙ rw end (number_again largest n 10 rest small (omega (arith, small, limit)) refl)

pub positive_part : (largest : ℕ) → 9 ≤ largest → largest < 2 ^ 64 → IsPart (positive_at largest) one_word (λ n. (0 < n) × (n ≤ largest))
unfolding positive_at
positive_part largest low limit = record { taken = taken; again = again }
  where
    next : ℕ × List ℕ → Option (ℕ × List ℕ)
    next n = cond (n.0 == 0) None (Some n)

    taken : (bytes : List ℕ) (x : ℕ × List ℕ) → positive_at largest bytes ≡ Some x → (bytes ≡ spaced (one_word x.0) ++ x.1) × ((0 < x.0) × (x.0 ≤ largest))
    taken bytes x e =
        let a = step (number_part largest low limit) next bytes x e in
        elim (chosen (a.value == 0) None (Some (a.value, a.rest)) (Some x) a.goes_on) [
          | inl w ↦ none_is x w.1
          | inr w ↦
              let other = eqb-false a.value 0 w.0 in
              some_has (λ (y : ℕ × List ℕ). (bytes ≡ spaced (one_word y.0) ++ y.1) × ((0 < y.0) × (y.0 ≤ largest))) (a.value, a.rest) x w.1 (a.parts, (omega arith, a.is))
        ]

    again : (n : ℕ) (rest : List ℕ) → (0 < n) × (n ≤ largest) → IsBehind rest → positive_at largest (spaced (one_word n) ++ rest) ≡ Some (n, rest)
    again n rest is behind =
        let other : (n == 0) ≡ false = ne_eqb n 0 (λ zero. omega (arith, is.0, zero)) in
        step_again (number_part largest low limit) next n rest is.1 behind ∙ rw other refl

-- ---- words that stand for themselves

abbrev pub itself : Word → List (List ℕ)
itself w = word_text w ∷ []

-- a word with what is behind it, or what the others give
word_or-taken : (w : Word) (bytes : List ℕ) (behind : Option (List ℕ)) (others : Option (Word × List ℕ)) (x : Word × List ℕ) → text_at (word_text w) bytes ≡ behind
    → (others ≡ Some x → bytes ≡ word_text x.0 ++ x.1) → word_or w behind others ≡ Some x → bytes ≡ word_text x.0 ++ x.1
word_or-taken w bytes (Some rest) others x is next e = some_has (λ (y : Word × List ℕ). bytes ≡ word_text y.0 ++ y.1) (w, rest) x e (text_takes (word_text w) bytes rest is)
word_or-taken w bytes None others x is next e = next e

first_word-taken : (words : List Word) (bytes : List ℕ) (x : Word × List ℕ) → first_word words bytes ≡ Some x → bytes ≡ word_text x.0 ++ x.1
first_word-taken [] bytes x e = none_is x e
first_word-taken (w ∷ words) bytes x e = word_or-taken w bytes (text_at (word_text w) bytes) (first_word words bytes) x refl (first_word-taken words bytes x) e

-- what stands behind a word goes on with none that it begins
word-again : (w : Word) (b : ℕ) (rest : List ℕ) → (b == 97) ≡ false → first_word WORDS (word_text w ++ (b ∷ rest)) ≡ Some (w, b ∷ rest)
unfolding text_at
word-again word.Turn b rest other = refl
word-again word.Packet b rest other = refl
word-again word.Tick b rest other = refl
word-again word.Stop b rest other = refl
word-again word.HaltAll b rest other = refl
word-again word.Halt b rest other = rw other refl
word-again word.ResumeAll b rest other = refl
word-again word.Resume b rest other = rw other refl
word-again word.Ask b rest other = refl
word-again word.Answer b rest other = refl
word-again word.Set b rest other = refl
word-again word.Clear b rest other = refl
word-again word.Say b rest other = refl
word-again word.Quit b rest other = refl
word-again word.Ps b rest other = refl
word-again word.Where b rest other = refl
word-again word.Caller b rest other = refl
word-again word.Vars b rest other = refl
word-again word.Print b rest other = refl
word-again word.Calls b rest other = refl
word-again word.Time b rest other = refl
word-again word.Once b rest other = refl
word-again word.Maybe b rest other = refl
word-again word.Unknown b rest other = refl
word-again word.Node b rest other = refl
word-again word.Changes b rest other = refl

-- a space or a line's end is no letter
not_a : (b : ℕ) → (b ≡ 32) ⊎ (b ≡ 10) → (b == 97) ≡ false
not_a b (inl space) = rw space refl
not_a b (inr end) = rw end refl

pub word_part : IsPart word_at itself (λ w. Unit {0})
unfolding word_at text_at
word_part = record { taken = taken; again = again }
  where
    taken : (bytes : List ℕ) (x : Word × List ℕ) → word_at bytes ≡ Some x → (bytes ≡ spaced (itself x.0) ++ x.1) × Unit {0}
    taken bytes x e =
        let a = bind_some (text_at (32 ∷ []) bytes) (first_word WORDS) x e in
        (text_takes (32 ∷ []) bytes a.0 a.1 ∙ ap (λ (after : List ℕ). 32 ∷ after) (first_word-taken WORDS a.0 x a.2) ∙ sym (one_spaced (word_text x.0) x.1), tt)

    again : (w : Word) (rest : List ℕ) → Unit {0} → IsBehind rest → word_at (spaced (itself w) ++ rest) ≡ Some (w, rest)
    again w [] is behind = absurd behind
    again w (b ∷ rest) is behind = ap word_at (one_spaced (word_text w) (b ∷ rest)) ∙ word-again w b rest (not_a b behind)

-- ---- numbers of the grammar

pub node_part : IsPart (word_number_at (2 ^ 32 - 1)) one_word IsNode
node_part = same_values (number_part (2 ^ 32 - 1) (omega arith) (omega arith)) (λ n small. omega (arith, small)) (λ n small. omega (arith, small))

pub long_part : IsPart (word_number_at (2 ^ 62 - 1)) one_word IsNumber
long_part = same_values (number_part (2 ^ 62 - 1) (omega arith) (omega arith)) (λ n small. omega (arith, small)) (λ n small. omega (arith, small))

pub serial_part : IsPart (word_number_at (2 ^ 62)) one_word IsSerial
serial_part = number_part (2 ^ 62) (omega arith) (omega arith)

pub steps_part : IsPart (positive_at 64) one_word IsStepCount
steps_part = positive_part 64 (omega arith) (omega arith)

pub line_part : IsPart (positive_at 1048576) one_word IsLine
line_part = positive_part 1048576 (omega arith) (omega arith)
