-- How many copies of a packet arrive.
use Rattle.std.specs.Prelude.{ℕ, ◌/◌, ◌%◌, nat_lt, if◌then◌else◌}

-- none where the word's last three decimal digits are below the loss, else two where the three before them are below the repetition, else one
abbrev pub fate_of : ℕ → ℕ → ℕ → ℕ
fate_of word loss repeat = if nat_lt (word % 1000) loss then 0 else (if nat_lt (word / 1000 % 1000) repeat then 2 else 1)
