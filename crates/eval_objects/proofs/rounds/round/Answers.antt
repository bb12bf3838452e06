use Rattle.std.proofs.Common.{◌≡◌, ◌∷◌, ◌∙◌, rules}
use Rattle.machine_rules.specs.declared.item.Item.TheVariants as i
use Rattle.eval_objects.proofs.Rows.{same_round}
use Rattle.eval_objects.proofs.rounds.round.Goals as goal

pub returns : goal.returns
returns c =
    let e : c.push.new.self ≡ i.Each c.args.name c.args.shape c.args.body c.args.at c.args.next ∷ c.args.frame.work =
    same_round _ _ _ _ _ _ _ _ _ _ _ c.in_ok-name_again.ensures c.in_ok-shape_again.ensures (c.in_ok-body_again.ensures ∙ c.as_slice.ensures) c.in_ok-push.ensures.ok (search rules) in
    rw (← e) c.begins.ensures
