use Rattle.std.proofs.Common.{[], Err, refl}
use Rattle.pilgrim_top.specs.declared.stop.Stop.TheVariants.{Memory}
use Rattle.pilgrim_top.specs.Top.{unread}
use Rattle.pilgrim_top.proofs.system.status_of_command.Goals as goal

pub returns-in-Err : goal.returns-in-Err
returns-in-Err g c = ([], [], Err Memory, refl, unread refl refl (record { tells = tt }) refl)
