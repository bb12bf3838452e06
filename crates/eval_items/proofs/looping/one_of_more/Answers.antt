use Rattle.std.proofs.Common.{◌≡◌, ◌∷◌, ◌+ℤ◌, pos, rules}
use Rattle.machine_rules.specs.declared.item.Item.TheVariants as item
use Rattle.eval_items.proofs.Rounds.{same_round}
use Rattle.eval_frames.proofs.Rows.{through}
use Rattle.eval_items.proofs.looping.one_of_more.Goals as goal

pub returns : goal.returns
returns c =
    let e : c.put_next.new.work ≡ item.Next c.args.name c.args.shape c.args.body (c.args.n +ℤ pos 1) c.args.last ∷ c.args.frame.work =
    same_round _ _ _ _ _ _ _ _ _ _ _ _ (search rules) (search rules) c.as_slice.ensures c.in_ok-put_next.ensures (search rules) (search rules) in
    through _ _ _ _ c.begins.ensures (λ w. rw (← e) (search rules))
