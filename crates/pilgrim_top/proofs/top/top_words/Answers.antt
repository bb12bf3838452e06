use Rattle.std.proofs.Common.{Err, inl, inr, refl, arith}
use Rattle.pilgrim_top.specs.declared.stop.Stop.TheVariants.{Memory}
use Rattle.pilgrim_top.specs.Top.{asked, unread}
use Rattle.pilgrim_top.proofs.Replays.{usage_cause}
use Rattle.pilgrim_top.proofs.top.top_words.Goals as goal

pub returns-in-Ok-clause-does : goal.returns-in-Ok-clause-does
returns-in-Ok-clause-does g c =
    let run = c.top_still.ensures.does in
    (run.0, run.1, asked c.in-Ok.usage c.in-Ok.ensures.ok run.2)

pub returns-in-Ok-clause-load_cause : goal.returns-in-Ok-clause-load_cause
returns-in-Ok-clause-load_cause g c = λ rose. (c.in-Ok.usage, c.in-Ok.ensures.ok, c.top_still.ensures.load_cause rose)

pub returns-in-Ok-clause-room_cause : goal.returns-in-Ok-clause-room_cause
returns-in-Ok-clause-room_cause g c = λ rose. inl (c.in-Ok.usage, c.in-Ok.ensures.ok, c.top_still.ensures.room_cause rose)

pub returns-in-Err-Usage-clause-load_cause : goal.returns-in-Err-Usage-clause-load_cause
returns-in-Err-Usage-clause-load_cause g c = λ rose. absurd (omega (arith, rose))

pub returns-in-Err-Usage-clause-room_cause : goal.returns-in-Err-Usage-clause-room_cause
returns-in-Err-Usage-clause-room_cause g c = λ rose. inr ((rw c.in-Err-Usage.field-0-is at c.in-Err-Usage.ensures.usage) refl, usage_cause c.puts_in_a_row.ensures _ _ _ _ _ c.show_usage-end.result c.show_usage-end.ensures.says c.show_usage-end.ensures.counts c.new-journal.ensures.items rose)

pub returns-in-Err-Memory-clause-does : goal.returns-in-Err-Memory-clause-does
returns-in-Err-Memory-clause-does g c = (Err Memory, refl, unread refl c.new-journal.ensures.items (c.puts_in_a_row.ensures.nothing (g.K.Sink.told c.args.sink.now)) refl)

pub returns-in-Err-Memory-clause-load_cause : goal.returns-in-Err-Memory-clause-load_cause
returns-in-Err-Memory-clause-load_cause g c = λ rose. absurd (omega (arith, rose))

pub returns-in-Err-Memory-clause-room_cause : goal.returns-in-Err-Memory-clause-room_cause
returns-in-Err-Memory-clause-room_cause g c = λ rose. absurd (omega (arith, rose))
