use Rattle.std.proofs.Common.{rules, refl}
use Rattle.pilgrim_top.proofs.script.apply.Goals as goal

pub returns-in-Ok-put-clause-applies : goal.returns-in-Ok-put-clause-applies
returns-in-Ok-put-clause-applies g c =
    (record { entry = c.in-Ok.entry; adds = c.in-Ok.ensures; longer = search rules }, rw (c.as_slice.ensures.value, c.in-Ok-written.ensures) at c.in-Ok-put.ensures.told.ok)

pub returns-in-Err-Failed-clause-applies : goal.returns-in-Err-Failed-clause-applies
returns-in-Err-Failed-clause-applies g c =
    (record { entry = c.in-Ok.entry; adds = c.in-Ok.ensures; longer = search rules }, rw (c.as_slice.ensures.value, c.in-Ok-written.ensures) at ((rw c.in-Err-Failed.field-0-is at c.in-Err-Failed.ensures.told).failed refl))
