use Rattle.std.proofs.Common.{◌≡◌, ℕ, ◌∙◌, ap, nat_le, rules, subst, sym}
use Rattle.indexmap.proofs.CallerLemmas.{filter-RetainsPairs}
use Rattle.rpc_exactly_once.specs.declared.row.Row.{Row}
use Rattle.rpc_exactly_once.specs.Server.{raised, NoneBelow}
use Rattle.rpc_exactly_once.proofs.Tables.{none_below-raised, raised_is, raised_not, seen}
use Rattle.rpc_exactly_once.proofs.table.Table.raise.Goals as goal

raised_now : (c : goal.After-retain) → seen c.args.floor c.retain.new.self.entries ≡ raised (seen c.self.inside.floor c.self.inside.rows.entries) c.args.floor
raised_now c =
    raised_is c.self.inside.floor c.args.floor _ _ c.if-self-floor.true (filter-RetainsPairs _ (λ (e : ℕ × Row). nat_le c.args.floor e.0) _ (λ k v b w g call. search rules) _ _ c.retain.ensures.filtered)

pub invariant_of-self : goal.invariant_of-self
invariant_of-self c = subst NoneBelow (sym (raised_now c)) (none_below-raised _ c.args.floor)

pub returns-then-self-floor-clause-raised : goal.returns-then-self-floor-clause-raised
returns-then-self-floor-clause-raised c = raised_now c ∙ ap (λ t. raised t c.args.floor) c.self.view_is

pub returns-then-self-floor-clause-above : goal.returns-then-self-floor-clause-above
returns-then-self-floor-clause-above c = invariant_of-self c

pub returns-else-self-floor-clause-raised : goal.returns-else-self-floor-clause-raised
returns-else-self-floor-clause-raised c = subst (λ t. t ≡ raised t c.args.floor) c.self.view_is (raised_not _ c.args.floor c.if-self-floor.false c.self.invariant)
