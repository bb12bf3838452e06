use Rattle.std.proofs.Common.{rules, ◌∷◌, sym, ap, ◌∙◌, subst}
use Rattle.turn_book.specs.History.{IsMadeOf}
use Rattle.turn_book.proofs.Seats.{value_of-Some}
use Rattle.turn_book.proofs.Closing.{closes, taken_some, taken_value}
use Rattle.turn_book.proofs.book.Book.close.Goals as goal

pub unwrap-state-requires : goal.unwrap-state-requires
unwrap-state-requires g c =
    taken_some g.J.Kept.history g.J.Kept.label _ _ _ _ _ (closes g.J.Kept.history g.J.Kept.label _ _ _ c.pass.inside.seat.me.0 _ _ c.pass.invariant.0 (search rules) c.close_with-closed.ensures.values.2) c.take.ensures.value

pub returns : goal.returns
returns g c =
    let pass = c.pass in
    let end = closes g.J.Kept.history g.J.Kept.label _ _ _ pass.inside.seat.me.0 _ _ pass.invariant.0 (search rules) c.close_with-closed.ensures.values.2 in
    let told = taken_value g.J.Kept.history g.J.Kept.label _ _ pass.inside.seat.me.0 _ _ _ end c.take.ensures.value c.unwrap-state.ensures in
    record {
      history = subst (λ p. IsMadeOf (g.J.Kept.history c.unwrap-state.result) ((p.number, p.mine) ∷ p.ended)) pass.view_is told.0;
      label = sym (value_of-Some pass.inside.seat.me.0.label pass.inside.labelled _ told.1) ∙ ap (λ p. p.label) pass.view_is;
    }
