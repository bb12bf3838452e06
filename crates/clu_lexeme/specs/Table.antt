-- Looking up a key by its spelling.
use Rattle.std.specs.Prelude.{ℕ, Bool, false, List, [], ◌∷◌, Option, Some, None, if◌then◌else◌, bytes_eq}
use Rattle.clu_tree.specs.declared.lexeme.Key.{Key}
use Rattle.clu_tree.specs.Lexical.{symbol_of, word_of}
use Rattle.clu_lexeme.specs.declared.table.TheConstants.{RESERVED, SYMBOLS}

-- the spelling is this one
abbrev pub is_spelled : Option (List ℕ) → List ℕ → Bool
is_spelled None w = false
is_spelled (Some v) w = bytes_eq w v

-- the first of the keys that is spelled so, by a table of spellings
abbrev pub first_key : (Key → Option (List ℕ)) → List Key → List ℕ → Option Key
first_key spelling [] w = None
first_key spelling (k ∷ ks) w = if is_spelled (spelling k) w then Some k else first_key spelling ks w

-- the key of a reserved word
unfoldable pub word_key : List ℕ → Option Key
word_key w = first_key word_of RESERVED w

-- the key of a symbol
unfoldable pub symbol_key : List ℕ → Option Key
symbol_key w = first_key symbol_of SYMBOLS w
