-- A text that is cut short where the room ends.
use Rattle.std.proofs.Common.{◌≡◌, ◌<◌, ℕ, List, length, take, drop, Some, Err, sym, arith}
use Rattle.std.proofs.lemmas.List.{take-append-drop, length-take-le}
use Rattle.outside_edge.specs.Sink.{SinkTold, Exceeds, CutShort, Puts}
use Rattle.outside_edge.specs.MemSink.{Fills}
use Rattle.outside_edge.specs.declared.sink.PutFault.TheVariants.{Failed}

-- what the room was for is a beginning of a text that is longer
pub CutShort-Fills : (before after : SinkTold) (text : List ℕ) → Fills text before after → Exceeds before.room (length text) → CutShort (Some before) (Some after) text
CutShort-Fills before after text fills more =
    let longer : fills.room < length text = rw fills.had at more in
    record {
      tells = record {
        part = take fills.room text;
        rest = drop fills.room text;
        whole = sym (take-append-drop fills.room text);
        taken = fills.taken;
        room = rw (fills.had, fills.none_left) (omega (arith, length-take-le fills.room text (omega arith)));
        more = more;
      };
    }

-- a put that fills the room of a sink, which is too small, fails as a put does
pub Puts-Fills : {T : Type 0} (before after : SinkTold) (text : List ℕ) (room : ℕ) → Fills text before after → before.room ≡ Some room → room < length text → Puts {T = T} (Some before) (Some after) text (Err Failed)
Puts-Fills before after text room fills had longer =
    let more : Exceeds before.room (length text) = rw had longer in
    record {
      ok = tt;
      failed = λ _. CutShort-Fills before after text fills more;
      memory = λ other. cc;
    }
