-- Which bytes are letters, digits and parts of words.
use Rattle.std.specs.Prelude.{ℕ, Bool, ◌&&◌, ◌||◌, ◌==◌, nat_le}

-- the bytes from low to high
abbrev pub within : ℕ → ℕ → ℕ → Bool
within low high b = nat_le low b && nat_le b high

-- `a` to `z`
abbrev pub is_lower : ℕ → Bool
is_lower b = within 97 122 b

-- `0` to `9`
abbrev pub is_digit : ℕ → Bool
is_digit b = within 48 57 b

-- what may follow in a word or a name: a lower-case letter, a digit or `_`
abbrev pub is_word_byte : ℕ → Bool
is_word_byte b = is_lower b || is_digit b || b == 95
