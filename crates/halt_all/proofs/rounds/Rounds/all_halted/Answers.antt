use Rattle.std.proofs.Common.{◌≡◌, rules, tests, sym, ◌∙◌}
use Rattle.std.specs.List.{list_all}
use Rattle.std.proofs.lemmas.Iterator.{YieldsList-from_slice}
use Rattle.std.proofs.lemmas.Iterator.Search.{all_from_yields_List}
use Rattle.halt_all.proofs.Flags.{each_halted, all_are_halted}
use Rattle.halt_all.proofs.rounds.Rounds.all_halted.Goals as goal

pub returns : goal.returns
returns c =
    let all : c.all.result ≡ list_all (λ flag. flag) c.self.inside.halted.items =
    all_from_yields_List (λ flag. flag) _ _ c.all.result c.all.ensures.ran (YieldsList-from_slice c.self.inside.halted.items cc) (λ x b q k. search (rules, tests)) in
    rw (← c.self.view_is) (λ is. each_halted c.self.inside.halted.items (sym all ∙ is), λ each. all ∙ all_are_halted c.self.inside.halted.items each)
