-- What a program gets at the machine's own limits, computed.
use Rattle.std.proofs.Common.{◌≡◌, ℕ, ◌^◌, pos, negsuc, true, false, List, [], ◌∷◌, length, codes, Option, Some, refl}
use Rattle.std.specs.Prelude.{◌+◌, ◌-◌}
use Rattle.clu_tree.specs.declared.value.Value.{Value}
use Rattle.clu_tree.specs.declared.value.Value.TheVariants as value
use Rattle.clu_tree.specs.declared.op.Op.{Op}
use Rattle.clu_tree.specs.declared.op.Op.TheVariants as op
use Rattle.clu_tree.specs.declared.program.Routine.{Routine}
use Rattle.obj_region.specs.declared.object.Obj.{Obj}
use Rattle.obj_region.specs.declared.object.Obj.TheVariants as obj
use Rattle.obj_region.specs.Store.{has_room}
use Rattle.machine_rules.specs.declared.item.Item.{Item}
use Rattle.machine_rules.specs.declared.item.Item.TheVariants as i
use Rattle.machine_rules.specs.declared.frame.Frame.{Frame}
use Rattle.machine_rules.specs.declared.act.Act.{Act}
use Rattle.machine_rules.specs.declared.act.Act.TheVariants as act
use Rattle.machine_rules.specs.Exceptions.{failure, fails}
use Rattle.machine_rules.specs.Operations.{makes}
use Rattle.machine_rules.specs.Row.{World, Next, bare_world, enters, row}

abbrev world : World
world = bare_world (record { equates = []; node_vars = []; routines = []; clusters = []; nodes = [] }) 0

abbrev frame : List Item → List Value → Frame
frame work values = record { routine = 0; line = 2; vars = []; work = work; values = values }

-- the process dies of failure with this text
abbrev dies : World → List ℕ → Option Next
dies w text = Some (record { left = []; act = act.Died (failure text); store = w.store; frames = [] })

-- this operation on these values, the last first, in a frame without handlers
abbrev applied : World → Op → List Value → Option Next
applied w o values = row w (frame (i.Apply o ∷ i.Fall ∷ []) values ∷ [])

-- a process has at most 1,000 frames
frame_limit : (w : World) (f : Frame) (fs : List Frame) (work : List Item) (k : ℕ) (r : Routine) (args values : List Value) → length fs ≡ 999 →
    enters w f fs work k r args values ≡ fails w (codes "frame limit") f fs work
frame_limit w f fs work k r args values full = rw full refl

-- a store without room takes no object
store_limit : (w : World) (f : Frame) (fs : List Frame) (work : List Item) (values : List Value) (does : Act) (o : Obj) → has_room w.store o ≡ false →
    makes w f fs work values does o ≡ fails w (codes "store limit") f fs work
store_limit w f fs work values does o full = rw full refl

-- `array[int]$create(-2^62)`: high would be one less
array_range : applied world op.ArrCreate (value.Int (negsuc (2 ^ 62 - 1)) ∷ []) ≡ dies world (codes "array range")
array_range = refl

-- low goes no lower, whether or not there is room
abbrev lowest : World
lowest = record world { store = obj.Arr (negsuc (2 ^ 62 - 1)) (value.Nil ∷ []) ∷ [] }

addl_range : applied lowest op.ArrAddl (value.Nil ∷ value.Ref (record { 0 = 0 }) ∷ []) ≡ dies lowest (codes "array range")
addl_range = refl

-- and the last element stays, since high would be one less
remh_range : applied lowest op.ArrRemh (value.Ref (record { 0 = 0 }) ∷ []) ≡ dies lowest (codes "array range")
remh_range = refl

semaphore_range : applied world op.SemCreate (value.Int (negsuc 0) ∷ []) ≡ dies world (codes "semaphore range")
semaphore_range = refl

semaphore_above : applied world op.SemCreate (value.Int (pos (2 ^ 62 + 1)) ∷ []) ≡ dies world (codes "semaphore range")
semaphore_above = refl

semaphore_most : applied world op.SemCreate (value.Int (pos (2 ^ 62)) ∷ []) ≡
    Some (record { left = []; act = act.MakeSync (record { 0 = 0 }) (2 ^ 62); store = obj.Sem ∷ []; frames = frame (i.Fall ∷ []) (value.Ref (record { 0 = 0 }) ∷ []) ∷ [] })
semaphore_most = refl

-- an exception that nothing takes
zero_divide : applied world op.IntDiv (value.Int (pos 0) ∷ value.Int (pos 1) ∷ []) ≡ dies world (codes "unhandled exception: zero_divide")
zero_divide = refl

-- two arrays are equal where they are one
same_array : applied world op.ArrEqual (value.Ref (record { 0 = 1 }) ∷ value.Ref (record { 0 = 1 }) ∷ []) ≡
    Some (record { left = []; act = act.Went; store = []; frames = frame (i.Fall ∷ []) (value.Bool true ∷ []) ∷ [] })
same_array = refl
