use Rattle.std.proofs.Common.{refl}
use Rattle.pilgrim_top.proofs.Replays.{counts_puts, shows}
use Rattle.pilgrim_top.proofs.top.run.Goals as goal

pub returns-in-Replay-clause-does : goal.returns-in-Replay-clause-does
returns-in-Replay-clause-does g c = rw c.in-Replay.is (rw (c.as_str.ensures.value, c.as_str-in-Replay.ensures.value) at c.replay.ensures.replays)

pub returns-in_default : goal.returns-in_default
returns-in_default g c = record {
  counts = counts_puts _ _ _ c.say.result c.say.ensures.counts;
  does = shows c.args.usage.now _ _ _ _ _ c.say.result c.in_default.not-Replay (record { unread = refl; noted = c.requires; says = c.say.ensures.says });
}
