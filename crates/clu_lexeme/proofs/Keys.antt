-- Keys are found by their spellings, and those alone.
use Rattle.std.proofs.Common.{◌≡◌, ℕ, true, List, [], ◌∷◌, Option, Some, None, refl, sym, ap, ◌∙◌, subst, zero, suc, inl, inr, arith}
use Rattle.std.specs.Prelude.{◌≢◌, Contains}
use Rattle.std.proofs.lemmas.Bool.{cases_Bool, cond-true, cond-false}
use Rattle.std.proofs.lemmas.Slice.Eq.{bytes_eq-Decides}
use Rattle.clu_tree.specs.declared.lexeme.Key.{Key}
use Rattle.clu_tree.specs.declared.lexeme.Key.TheVariants as key
use Rattle.clu_tree.specs.Lexical.{symbol_of, word_of}
use Rattle.clu_text.specs.Spelling.{symbols, IsSymbol}
use Rattle.clu_lexeme.specs.Table.{first_key, is_spelled, word_key, symbol_key}
use Rattle.clu_lexeme.specs.declared.table.TheConstants.{RESERVED, SYMBOLS}

spelled : (o : Option (List ℕ)) (w : List ℕ) → is_spelled o w ≡ true → o ≡ Some w
spelled None w h = absurd cc
spelled (Some v) w h = ap Some (sym ((bytes_eq-Decides w v).0 h))

first_key-finds : (spelling : Key → Option (List ℕ)) (ks : List Key) (w : List ℕ) (k : Key) → first_key spelling ks w ≡ Some k → spelling k ≡ Some w
first_key-finds spelling [] w k h = absurd cc
first_key-finds spelling (j ∷ ks) w k h =
    elim (cases_Bool (is_spelled (spelling j) w)) [
      | inl e ↦ let here : Some j ≡ Some k = sym (cond-true _ (Some j) (first_key spelling ks w) e) ∙ h in
          let same : j ≡ k = cc in
          subst (λ (x : Key). spelling x ≡ Some w) same (spelled (spelling j) w e)
      | inr e ↦ first_key-finds spelling ks w k (sym (cond-false _ (Some j) (first_key spelling ks w) e) ∙ h)
    ]

-- what is found is spelled so
pub word_key-finds : (w : List ℕ) (k : Key) → word_key w ≡ Some k → word_of k ≡ Some w
unfolding word_key
word_key-finds w k h = first_key-finds word_of RESERVED w k h

pub symbol_key-finds : (w : List ℕ) (k : Key) → symbol_key w ≡ Some k → symbol_of k ≡ Some w
unfolding symbol_key
symbol_key-finds w k h = first_key-finds symbol_of SYMBOLS w k h

-- the key of a reserved word is found by its spelling
abbrev pub IsFound : (List ℕ → Option Key) → Key → Option (List ℕ) → Type 0
IsFound find k None = Unit {0}
IsFound find k (Some w) = find w ≡ Some k

word-found : (k : Key) → IsFound word_key k (word_of k)
unfolding word_key
word-found key.Array = refl
word-found key.At = refl
word-found key.Begin = refl
word-found key.Bool = refl
word-found key.Cand = refl
word-found key.Char = refl
word-found key.Cluster = refl
word-found key.Cor = refl
word-found key.Cvt = refl
word-found key.Do = refl
word-found key.Down = refl
word-found key.Else = refl
word-found key.Elseif = refl
word-found key.End = refl
word-found key.Except = refl
word-found key.Export = refl
word-found key.False = refl
word-found key.For = refl
word-found key.Fork = refl
word-found key.If = refl
word-found key.In = refl
word-found key.Int = refl
word-found key.Is = refl
word-found key.Lock = refl
word-found key.Maybe = refl
word-found key.Nil = refl
word-found key.Node = refl
word-found key.Nodevar = refl
word-found key.Now = refl
word-found key.Null = refl
word-found key.Once = refl
word-found key.Oneof = refl
word-found key.Others = refl
word-found key.Proc = refl
word-found key.PutLine = refl
word-found key.Record = refl
word-found key.Region = refl
word-found key.Rep = refl
word-found key.Resignal = refl
word-found key.Return = refl
word-found key.Returns = refl
word-found key.Semaphore = refl
word-found key.Signal = refl
word-found key.Signals = refl
word-found key.Sleep = refl
word-found key.Start = refl
word-found key.String = refl
word-found key.Tag = refl
word-found key.Tagcase = refl
word-found key.Then = refl
word-found key.True = refl
word-found key.Up = refl
word-found key.When = refl
word-found key.While = refl
word-found key.Within = refl
word-found _ = tt

pub word_of-found : (k : Key) (w : List ℕ) → word_of k ≡ Some w → word_key w ≡ Some k
word_of-found k w e = subst (IsFound word_key k) e (word-found k)

pub no_word : (w : List ℕ) → word_key w ≡ None → (k : Key) → word_of k ≢ Some w
no_word w h k e = let found = word_of-found k w e in cc

symbol-found : (k : Key) → IsFound symbol_key k (symbol_of k)
unfolding symbol_key
symbol-found key.Becomes = refl
symbol-found key.Dollar = refl
symbol-found key.LParen = refl
symbol-found key.RParen = refl
symbol-found key.LBracket = refl
symbol-found key.RBracket = refl
symbol-found key.LBrace = refl
symbol-found key.RBrace = refl
symbol-found key.Comma = refl
symbol-found key.Dot = refl
symbol-found key.Colon = refl
symbol-found key.Equals = refl
symbol-found key.Differs = refl
symbol-found key.Less = refl
symbol-found key.AtMost = refl
symbol-found key.More = refl
symbol-found key.AtLeast = refl
symbol-found key.Plus = refl
symbol-found key.Minus = refl
symbol-found key.Star = refl
symbol-found key.Slash = refl
symbol-found key.Slashes = refl
symbol-found key.Bars = refl
symbol-found key.Ampersand = refl
symbol-found key.Bar = refl
symbol-found key.Tilde = refl
symbol-found _ = tt

pub symbol_of-found : (k : Key) (w : List ℕ) → symbol_of k ≡ Some w → symbol_key w ≡ Some k
symbol_of-found k w e = subst (IsFound symbol_key k) e (symbol-found k)

-- each of some spellings is found
abbrev AreFound : List (List ℕ) → Type 0
AreFound [] = Unit {0}
AreFound (w ∷ ws) = (symbol_key w ≢ None) × AreFound ws

symbols_found : AreFound symbols
unfolding symbol_key
symbols_found = (λ h. cc, (λ h. cc, (λ h. cc, (λ h. cc, (λ h. cc, (λ h. cc, (λ h. cc, (λ h. cc, (λ h. cc, (λ h. cc, (λ h. cc, (λ h. cc, (λ h. cc, (λ h. cc, (λ h. cc, (λ h. cc, (λ h. cc, (λ h. cc, (λ h. cc, (λ h. cc, (λ h. cc, (λ h. cc, (λ h. cc, (λ h. cc, (λ h. cc, (λ h. cc, tt))))))))))))))))))))))))))

found_among : (ws : List (List ℕ)) → AreFound ws → (w : List ℕ) → Contains ws w → symbol_key w ≢ None
found_among [] a w (k, lt, e) = absurd (omega arith)
found_among (v ∷ ws) a w (zero, lt, e) = subst (λ (x : List ℕ). symbol_key x ≢ None) e a.0
found_among (v ∷ ws) a w (suc k, lt, e) = found_among ws a.1 w (k, omega arith, e)

-- each symbol is some key's
pub symbol_is_found : (w : List ℕ) → IsSymbol w → symbol_key w ≢ None
symbol_is_found w h = found_among symbols symbols_found w h
