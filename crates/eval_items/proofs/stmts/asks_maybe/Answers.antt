use Rattle.std.proofs.Common.{◌≡◌, [], ◌∷◌, ◌++◌}
use Rattle.std.proofs.lemmas.List.{append_assoc}
use Rattle.eval_items.proofs.stmts.asks_maybe.Goals as goal

pub asks_once-requires : goal.asks_once-requires
asks_once-requires g c =
    let e : c.push.new.self ++ c.args.within ∷ [] ≡ c.args.args ++ c.args.to ∷ c.args.within ∷ [] = rw c.in_ok-push.ensures.ok (append_assoc c.args.args (c.args.to ∷ []) (c.args.within ∷ [])) in
    rw e c.requires

pub returns : goal.returns
returns g c =
    let e : c.push.new.self ++ c.args.within ∷ [] ≡ c.args.args ++ c.args.to ∷ c.args.within ∷ [] = rw c.in_ok-push.ensures.ok (append_assoc c.args.args (c.args.to ∷ []) (c.args.within ∷ [])) in
    rw (← e) c.asks_once.ensures
