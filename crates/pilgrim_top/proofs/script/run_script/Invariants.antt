use Rattle.std.proofs.Common.{◌≡◌, false, length}
use Rattle.outside_edge.specs.Sink.{Wrote}
use Rattle.world_rules.specs.Legal.{tolds}
use Rattle.world_rules.specs.Transcript.{transcript}
use Rattle.pilgrim_top.specs.Script.{Applied}
use Rattle.pilgrim_top.proofs.script.run_script.Given as goal

abbrev pub invariant-loop-rest : goal.invariant-loop-rest
invariant-loop-rest g l = record {
  applied : Applied l.program l.script l.journal.items l.rest l.count;
  wrote : Wrote (g.K.Sink.told l.fn.sink) (g.K.Sink.told l.sink) (transcript l.journal.items);
  faults : g.K.Sink.faults l.sink ≡ g.K.Sink.faults l.fn.sink;
  world : l.world ≡ record { program = l.program; list = tolds l.journal.items; spent = false };
}

abbrev pub decreases-loop-rest : goal.decreases-loop-rest
decreases-loop-rest g l = length l.rest
