use Rattle.std.proofs.Common.{◌≡◌, length, eqb, sym, ◌∙◌}
use Rattle.std.proofs.lemmas.Bool.{eqb-true, eq-eqb}
use Rattle.lossy_net.proofs.Places.{none_left, none_stands}
use Rattle.lossy_net.proofs.net.Net.is_empty.Goals as goal

pub returns : goal.returns
returns c =
    let tests : c.is_empty.result ≡ eqb (length c.self.inside.copies.items) 0 = rw c.self.inside.copies.ok.0 at c.is_empty.ensures in
    rw (← c.self.view_is) (
      λ is. none_left c.self.inside.copies.items (eqb-true _ 0 (sym tests ∙ is)),
      λ none. tests ∙ eq-eqb _ 0 (none_stands c.self.inside.copies.items c.self.invariant.some_left none),
    )
