-- A shelf in memory as its callers see it.
use Rattle.std.specs.Prelude.{ℕ, ◌+◌, ◌-◌, ◌^◌, nat_lt, if◌then◌else◌, List, Option, Some, None, Vec, String, string_bytes, map, option_map}
use Rattle.std.specs.declared.alloc.Global.{Global}
use Rattle.outside_edge.specs.Shelf.{ShelfTold}

-- what it tells, and how many of its loads have failed
pub record ShelfSeen : Type 0 where
  pub told : Option ShelfTold
  pub faults : ℕ

-- the files as pairs of texts
abbrev pub files_of : List (String Global × Vec ℕ Global) → List (List ℕ × List ℕ)
files_of files = map (λ f. (string_bytes f.0, f.1.items)) files

-- these files and failing numbers, told for as long as the loads are counted
abbrev pub shelf_told : List (List ℕ × List ℕ) → Option ℕ → List ℕ → Option ShelfTold
shelf_told files calls failing = option_map (λ n. record { files = files; calls = n; failing = failing }) calls

-- what is told after one load more: the same with that load counted, up to the greatest u64
abbrev pub one_load_more : Option ShelfTold → Option ShelfTold
one_load_more None = None
one_load_more (Some before) = if nat_lt before.calls (2 ^ 64 - 1) then Some (record before { calls = before.calls + 1 }) else None
