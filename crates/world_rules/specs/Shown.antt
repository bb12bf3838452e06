-- How bytes are shown in a line.
use Rattle.std.specs.Prelude.{ℕ, ◌+◌, ◌/◌, ◌%◌, not, ◌&&◌, if◌then◌else◌, ◌==◌, nat_le, nat_lt, List, [], ◌∷◌, ◌++◌, flat_map, codes, decimal}

-- the lower-case digit of a number below 16
abbrev pub hexadecimal : ℕ → ℕ
hexadecimal d = if nat_lt d 10 then 48 + d else 87 + d

-- the bytes 32 to 126 but the backslash stand for themselves, every other one is a backslash and two digits
abbrev pub shown_byte : ℕ → List ℕ
shown_byte b =
    if nat_le 32 b && (nat_le b 126 && not (b == 92)) then b ∷ [] else 92 ∷ hexadecimal (b / 16) ∷ hexadecimal (b % 16) ∷ []

abbrev pub shown : List ℕ → List ℕ
shown = flat_map shown_byte

-- the line that a node prints for a text, without its end
abbrev pub line_text : ℕ → List ℕ → List ℕ
line_text node text = decimal node ++ codes ": " ++ shown text
