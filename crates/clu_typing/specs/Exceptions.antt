-- What may be raised at a place. Handlers and `resignal`s around a statement are its guards: one list, the innermost first, in which
-- a handler of several names is a guard for each.
use Rattle.std.specs.Prelude.{ℕ, Bool, true, ◌&&◌, if◌then◌else◌, List, [], ◌∷◌, map, codes, Option, Some, None}
use Rattle.std.specs.Str.{bytes_eq}
use Rattle.clu_tree.specs.declared.shape.Shape.{Shape}
use Rattle.clu_tree.specs.declared.shape.Shape.TheVariants as shape
use Rattle.clu_typing.specs.Names.{lookup}
use Rattle.clu_typing.specs.Types.{Declarations, Signature, same_option}

-- What a guard wants of the value of an exception that it takes: anything, or exactly a value of this type, or exactly none.
pub data Wants : Type 0 where
  Anything : Wants
  Exactly : Option Shape → Wants

-- A guard: the name of the exceptions that it takes, or none where it takes all, and what it wants of them.
pub record Guard : Type 0 where
  pub name : Option (List ℕ)
  pub wants : Wants

-- the guard of this name takes an exception of the name n
abbrev pub takes : List ℕ → Option (List ℕ) → Bool
takes n None = true
takes n (Some x) = bytes_eq n x

-- the guard wants a value of the type t, or none
abbrev pub is_wanted : Declarations → Option Shape → Wants → Bool
is_wanted d t Anything = true
is_wanted d t (Exactly u) = same_option d t u

-- The exception n with a value of the type t, or without one, may be raised here: the innermost guard that takes it wants this value.
-- Where no guard takes it, it leaves the routine, and may be raised.
abbrev pub accepts : Declarations → List Guard → List ℕ → Option Shape → Bool
accepts d [] n t = true
accepts d (c ∷ cs) n t = if takes n c.name then is_wanted d t c.wants else accepts d cs n t

abbrev pub failure : List ℕ
failure = codes "failure"

-- `failure` may be raised here: it always has a string
abbrev pub accepts_failure : Declarations → List Guard → Bool
accepts_failure d cs = accepts d cs failure (Some shape.Str)

-- each of these may be raised here
abbrev pub accepts_listed : Declarations → List Guard → List (List ℕ × Option Shape) → Bool
accepts_listed d cs [] = true
accepts_listed d cs (l ∷ ls) = accepts d cs l.0 l.1 && accepts_listed d cs ls

-- what is listed may be raised here, and `failure`
abbrev pub accepts_all : Declarations → List Guard → List (List ℕ × Option Shape) → Bool
accepts_all d cs ls = accepts_listed d cs ls && accepts_failure d cs

-- exceptions without a value
abbrev pub without_values : List (List ℕ) → List (List ℕ × Option Shape)
without_values ns = map (λ n. (n, None)) ns

-- what value goes with the name where a routine of this signature signals it: that of its list, and a string with `failure`
abbrev pub signalled : Signature → List ℕ → Option (Option Shape)
signalled s n = if bytes_eq n failure then Some (Some shape.Str) else lookup n s.signals

-- ---- guards

-- a guard that takes this name
abbrev pub guard_on : Wants → List ℕ → Guard
guard_on w n = record { name = Some n; wants = w }

-- `others` takes all, whatever the value
abbrev pub guard_on_all : Guard
guard_on_all = record { name = None; wants = Anything }
