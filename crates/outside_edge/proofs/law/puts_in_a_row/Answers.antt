use Rattle.outside_edge.proofs.Writing.{Began-append, CutShort-append, CutShort-exceeds, Wrote-append, Wrote-nothing}
use Rattle.outside_edge.proofs.law.puts_in_a_row.Goals as goal

pub returns : goal.returns
returns c = record { nothing = Wrote-nothing; whole = Wrote-append; cut = CutShort-append; began = Began-append; lacks = CutShort-exceeds }
