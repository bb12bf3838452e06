use Rattle.pilgrim_top.proofs.script.refuse.Goals as goal

pub returns-in_default-clause-says : goal.returns-in_default-clause-says
returns-in_default-clause-says g c = c.puts_in_a_row.ensures.nothing (g.K.Sink.told c.args.sink.now)

pub returns-clause-says : goal.returns-clause-says
returns-clause-says g c = rw (c.as_bytes.ensures.value, c.in-Ok.ensures.ok) at c.say.ensures.says
