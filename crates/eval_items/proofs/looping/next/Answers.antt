use Rattle.std.proofs.Common.{◌≡◌, true, false, int_lt, refl, rules}
use Rattle.eval_frames.proofs.Rows.{through}
use Rattle.eval_items.proofs.looping.next.Goals as goal

pub returns-then-is_over : goal.returns-then-is_over
returns-then-is_over c =
    let over : int_lt c.args.last c.args.n ≡ true = search rules in
    through _ _ _ _ c.goes.ensures (λ w. rw over refl)

pub returns-then-is_more : goal.returns-then-is_more
returns-then-is_more c =
    let over : int_lt c.args.last c.args.n ≡ false = search rules in
    let more : int_lt c.args.n c.args.last ≡ true = search rules in
    through _ _ _ _ c.one_of_more.ensures (λ w. rw (over, more) (search rules))

pub returns : goal.returns
returns c =
    let over : int_lt c.args.last c.args.n ≡ false = search rules in
    let more : int_lt c.args.n c.args.last ≡ false = search rules in
    through _ _ _ _ c.begins.ensures (λ w. rw (over, more) (search rules))
