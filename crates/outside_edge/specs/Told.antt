-- What an object of the outside tells of itself, before and after a call.
use Rattle.std.specs.Prelude.{Option, Some, None}

-- Where the object tells something after the call, it told something before it, and the two are related by this step.
-- What has ceased to tell doesn't begin again.
abbrev pub Tells : {M : Type 0} → Option M → Option M → (M → M → Type 0) → Type 0
Tells old None step = Unit {0}
Tells None (Some after) step = ⊥
Tells (Some before) (Some after) step = step before after
