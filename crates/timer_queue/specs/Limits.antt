-- What a queue of time limits keeps, and what its calls change.
use Rattle.std.specs.Prelude.{◌≡◌, ℕ, List, ◌∷◌, ◌++◌, not, map, Option, if◌then◌else◌}
use Rattle.std.specs.List.{filter, find, IsDistinct}
use Rattle.std.specs.List.Sorted.{IsStrictlySortedBy}
use Rattle.std.specs.Option.{option_map}
use Rattle.std.specs.Ordering.{is_lt}
use Rattle.world_types.specs.declared.effects.Owner.{Owner}
pub use Rattle.world_types.specs.Limits.{Limit, kind_of, number_of, same_owner, expiry_order, ExpiresBefore}

-- the limits stand in the order in which they expire, and no owner has two
pub record IsQueue (limits : List Limit) : Type 0 where
  pub ordered : IsStrictlySortedBy expiry_order limits
  pub distinct : IsDistinct same_owner (map (λ l. l.1) limits)

-- the time at which an owner's limit expires, if it has one
abbrev pub limit_of : List Limit → Owner → Option ℕ
limit_of limits owner = option_map (λ l. l.0) (find (λ l. same_owner owner l.1) limits)

-- one owner's limit is the one given, or there is none, and all other owners have the limits that they had
abbrev pub ChangesOnly : List Limit → List Limit → Owner → Option ℕ → Type 0
ChangesOnly old new owner limit = (other : Owner) → limit_of new other ≡ (if same_owner owner other then limit else limit_of old other)

-- the limits with one more, which stands after all that expire before it and before all that expire after it
abbrev pub with_limit : List Limit → Limit → List Limit
with_limit limits new = filter (λ l. is_lt (expiry_order l new)) limits ++ new ∷ filter (λ l. is_lt (expiry_order new l)) limits

-- the limits of all other owners
abbrev pub without : List Limit → Owner → List Limit
without limits owner = filter (λ l. not (same_owner owner l.1)) limits
