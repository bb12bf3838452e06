use Rattle.std.proofs.Common.{◌≡◌, [], ◌∷◌, arith, rules}
use Rattle.pilgrim_top.proofs.Items.{three_items}
use Rattle.pilgrim_top.proofs.usage.usage_of.Goals as goal

pub returns-in-Ok-clone-clause-ok : goal.returns-in-Ok-clone-clause-ok
returns-in-Ok-clone-clause-ok c =
    let words : c.args.words.now ≡ c.first-item.result ∷ c.file-item.result ∷ c.script-item.result ∷ [] = three_items _ _ _ _ (omega arith) c.first-item.is c.file-item.is c.script-item.is in
    rw words (search rules)
