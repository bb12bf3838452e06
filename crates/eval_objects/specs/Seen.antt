-- What code says of a step that uses objects: the store as it is seen, and what the step gives.
use Rattle.std.specs.Prelude.{◌≡◌, ◌≢◌, ℕ, ◌^◌, ℤ, pos, negsuc, nat_le, if◌then◌else◌, codes, List, Option, Some, None, IsSome}
use Rattle.clu_tree.specs.declared.op.Op.{Op}
use Rattle.clu_tree.specs.declared.value.Addr.{Addr}
use Rattle.clu_tree.specs.declared.value.Value.{Value}
use Rattle.clu_ops.specs.Ops.{end_of}
use Rattle.obj_region.specs.Answers.{StoreSeen}
use Rattle.obj_region.specs.Store.{Store}
use Rattle.obj_region.specs.declared.object.Obj.TheVariants as obj
use Rattle.obj_region.specs.declared.fault.RegionFault.{RegionFault}
use Rattle.obj_region.specs.declared.fault.RegionFault.TheVariants as fault
use Rattle.machine_rules.specs.declared.item.Item.{Item}
use Rattle.machine_rules.specs.declared.frame.Frame.{Frame}
use Rattle.machine_rules.specs.declared.act.Act.{Act}
use Rattle.machine_rules.specs.declared.act.Act.TheVariants as act
use Rattle.machine_rules.specs.World.{World, Next}
use Rattle.machine_rules.specs.Exceptions.{fails}
use Rattle.machine_rules.specs.Operands.{taking_last}
use Rattle.machine_rules.specs.Operations.{ended, makes, new_addr, operands_of, refused}

-- the store holds the world's objects, and those below the world's bound may not change
abbrev pub IsSeenAs : World → StoreSeen → Type 0
IsSeenAs w seen = (w.store ≡ seen.objects) × (w.bound ≡ seen.bound)

-- a step gives these locks back, has this act, and leaves these objects and these frames
abbrev pub took : List Addr → Act → Store → List Frame → Option Next
took left does store frames = Some (record { left = left; act = does; store = store; frames = frames })

-- there is a row for a store's refusal, but where memory ran out
abbrev pub IsAnswered : World → Frame → List Frame → List Item → RegionFault → Type 0
IsAnswered w f fs work refusal = refusal ≢ fault.Memory → IsSome (refused w f fs work refusal)

-- the row of an operation on values
abbrev pub value_row : World → Op → Frame → List Frame → List Item → Option Next
value_row w o f fs work = taking_last (operands_of o) f.values (λ args values. ended w f fs work values (end_of o args))

-- the count of a semaphore, where it may be this one
abbrev pub count_in : ℤ → Option ℕ
count_in (negsuc n) = None
count_in (pos n) = if nat_le n (2 ^ 62) then Some n else None

-- a semaphore with this count is made, if it has one
abbrev pub makes_counted : World → Frame → List Frame → List Item → List Value → Option ℕ → Option Next
makes_counted w f fs work values None = fails w (codes "semaphore range") f fs work
makes_counted w f fs work values (Some n) = makes w f fs work values (act.MakeSync (new_addr w) n) obj.Sem
