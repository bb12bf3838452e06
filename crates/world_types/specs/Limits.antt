-- Time limits, and the order in which they expire.
use Rattle.std.specs.Prelude.{◌≡◌, ℕ, Bool, false, ◌==◌, if◌then◌else◌, List, [], ◌∷◌}
use Rattle.std.specs.Ordering.{nat_cmp, ordering_then, is_lt}
use Rattle.std.specs.declared.cmp.Ordering.{Ordering}
use Rattle.std.specs.declared.cmp.Ordering.TheVariants.{Less}
use Rattle.world_types.specs.declared.effects.Owner.{Owner}
use Rattle.world_types.specs.declared.effects.Owner.TheVariants.{Process, Once, Maybe}

-- a limit: its time, and the process or call that it belongs to
abbrev pub Limit : Type 0
Limit = ℕ × Owner

-- processes come first, then once-calls, then maybe-calls
abbrev pub kind_of : Owner → ℕ
kind_of (Process n) = 0
kind_of (Once n) = 1
kind_of (Maybe n) = 2

-- the number of a process or a call among those of its kind
abbrev pub number_of : Owner → ℕ
number_of (Process n) = n
number_of (Once n) = n
number_of (Maybe n) = n

-- whether two owners are one
abbrev pub same_owner : Owner → Owner → Bool
same_owner (Process m) (Process n) = m == n
same_owner (Once m) (Once n) = m == n
same_owner (Maybe m) (Maybe n) = m == n
same_owner _ _ = false

-- the order in which limits expire: by time, then by the kind of owner, then by the owner's number
abbrev pub expiry_order : Limit → Limit → Ordering
expiry_order a b = ordering_then (nat_cmp a.0 b.0) (ordering_then (nat_cmp (kind_of a.1) (kind_of b.1)) (nat_cmp (number_of a.1) (number_of b.1)))

abbrev pub ExpiresBefore : Limit → Limit → Type 0
ExpiresBefore a b = expiry_order a b ≡ Less

-- the limits with one more, which stands behind all that expire before it
abbrev pub among : Limit → List Limit → List Limit
among new [] = new ∷ []
among new (l ∷ limits) = if is_lt (expiry_order l new) then l ∷ among new limits else new ∷ l ∷ limits

-- the limits in the order in which they expire
abbrev pub in_order : List Limit → List Limit
in_order [] = []
in_order (l ∷ limits) = among l (in_order limits)
