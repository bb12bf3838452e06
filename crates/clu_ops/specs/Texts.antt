-- The operations on strings. Positions count from 1.
use Rattle.std.specs.Prelude.{ℕ, suc, ℤ, pos, negsuc, nat_le, if◌then◌else◌, List, length, take, drop, Option, Some, None, slice_get, codes}
use Rattle.clu_ops.specs.declared.op_end.OpEnd.{OpEnd}
use Rattle.clu_ops.specs.Ends.{character, text, signal, failure}

-- the string t, where it has at most 1,024 bytes
abbrev pub limited : List ℕ → OpEnd
limited t = if nat_le (length t) 1024 then text t else failure (codes "string limit")

abbrev pub char_or_bounds : Option ℕ → OpEnd
char_or_bounds None = signal (codes "bounds")
char_or_bounds (Some c) = character c

-- the char at a position
abbrev pub fetched : List ℕ → ℤ → OpEnd
fetched t (pos (suc before)) = char_or_bounds (slice_get t before)
fetched t _ = signal (codes "bounds")

-- from a position on, which may be the end, at most so many bytes
abbrev pub part_from : List ℕ → ℤ → ℕ → OpEnd
part_from t (pos (suc before)) count =
    if nat_le before (length t) then text (take count (drop before t)) else signal (codes "bounds")
part_from t _ count = signal (codes "bounds")

abbrev pub part : List ℕ → ℤ → ℤ → OpEnd
part t at (pos count) = part_from t at count
part t at (negsuc _) = signal (codes "negative_size")
