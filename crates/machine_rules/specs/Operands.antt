-- The operands of a step: values of its frame, the last one first, each of the kind that the step takes.
use Rattle.std.specs.Prelude.{ℕ, ℤ, Bool, if◌then◌else◌, nat_le, List, [], ◌∷◌, length, take, drop, reverse, Option, Some, None, slice_get}
use Rattle.clu_tree.specs.declared.value.Addr.{Addr}
use Rattle.clu_tree.specs.declared.value.Value.{Value}
use Rattle.clu_tree.specs.declared.value.Value.TheVariants as value
use Rattle.clu_tree.specs.declared.program.Routine.{Routine}
use Rattle.obj_region.specs.declared.object.Obj.{Obj}
use Rattle.obj_region.specs.declared.object.Obj.TheVariants as obj
use Rattle.obj_region.specs.Store.{is_array}
use Rattle.machine_rules.specs.World.{World, Next}

-- ---- how many

-- the last value, with those before it
abbrev pub taking : List Value → (Value → List Value → Option Next) → Option Next
taking [] go = None
taking (v ∷ values) go = go v values

-- the last two values in their order, with those before them
abbrev pub taking2 : List Value → (Value → Value → List Value → Option Next) → Option Next
taking2 (b ∷ a ∷ values) go = go a b values
taking2 _ go = None

-- the last three values in their order, with those before them
abbrev pub taking3 : List Value → (Value → Value → Value → List Value → Option Next) → Option Next
taking3 (c ∷ b ∷ a ∷ values) go = go a b c values
taking3 _ go = None

-- the last n values in their order, with those before them
abbrev pub taking_last : ℕ → List Value → (List Value → List Value → Option Next) → Option Next
taking_last n values go = if nat_le n (length values) then go (reverse (take n values)) (drop n values) else None

-- the arguments of this routine, with the values before them
abbrev pub taking_args : Option Routine → List Value → (Routine → List Value → List Value → Option Next) → Option Next
taking_args None values go = None
taking_args (Some r) values go = taking_last (length r.params) values (go r)

-- ---- of which kind

abbrev pub on_int : Value → (ℤ → Option Next) → Option Next
on_int (value.Int n) go = go n
on_int _ go = None

abbrev pub on_bool : Value → (Bool → Option Next) → Option Next
on_bool (value.Bool b) go = go b
on_bool _ go = None

abbrev pub on_str : Value → (List ℕ → Option Next) → Option Next
on_str (value.Str text) go = go text
on_str _ go = None

abbrev pub on_ref : Value → (Addr → Option Next) → Option Next
on_ref (value.Ref a) go = go a
on_ref _ go = None

-- the address of an array
abbrev pub on_array : World → Value → (ℕ → Option Next) → Option Next
on_array w v go = on_ref v (λ a. if is_array (slice_get w.store a.0) then go a.0 else None)

-- the tag and the value of a oneof
abbrev pub one_at : Option Obj → (ℕ → Value → Option Next) → Option Next
one_at (Some (obj.One tag v)) go = go tag v
one_at _ go = None

abbrev pub on_oneof : World → Value → (ℕ → Value → Option Next) → Option Next
on_oneof w v go = on_ref v (λ a. one_at (slice_get w.store a.0) go)
