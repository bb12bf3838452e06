use Rattle.pilgrim_top.proofs.Replays.{faulted, load_cause, room_cause}
use Rattle.pilgrim_top.proofs.top.top_still.Goals as goal

pub returns-clause-fault : goal.returns-clause-fault
returns-clause-fault g c = λ four. faulted c.args.usage.now _ _ _ _ _ _ _ _ _ c.run-end.result _ c.run-end.ensures.does c.run-end.ensures.counts c.status_of.ensures four

pub returns-clause-load_cause : goal.returns-clause-load_cause
returns-clause-load_cause g c = λ rose. load_cause c.args.usage.now _ _ _ _ _ _ _ _ _ c.run-end.result c.run-end.ensures.does c.run-end.ensures.counts rose

pub returns-clause-room_cause : goal.returns-clause-room_cause
returns-clause-room_cause g c = λ rose. room_cause c.puts_in_a_row.ensures c.following_laws.ensures c.args.usage.now _ _ _ _ _ _ _ _ _ c.run-end.result c.run-end.ensures.does c.run-end.ensures.counts rose
