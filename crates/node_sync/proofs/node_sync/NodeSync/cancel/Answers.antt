-- One semaphore changes, as its own call says.
use Rattle.std.proofs.Common.{◌≡◌, Some, sym, ap, subst, ◌∙◌}
use Rattle.std.specs.FinMap as map
use Rattle.std.specs.Option.{option_copied_mut}
use Rattle.node_sync.specs.Objects.{AreInOrder, with_semaphore}
use Rattle.node_sync.proofs.Maps.{some_lent}
use Rattle.node_sync.proofs.Kept.{seen, has_semaphore, semaphore_is, with_semaphore_is, AreInOrder-with_semaphore, with_semaphore_same, OnFalse_then, no_lock}
use Rattle.node_sync.proofs.node_sync.NodeSync.cancel.Goals as goal
use Rattle.node_sync.proofs.node_sync.NodeSync.cancel.Goals.{After-self-1}

has : (c : After-self-1) → map.get c.args.self.now.semaphores c.args.at.0 ≡ Some c.unwrap-semaphore.result.now
has c = semaphore_is c.args.self.now c.self.inside.locks c.self.inside.semaphores c.args.at.0 c.unwrap-semaphore.result.now c.self.view_is (sym c.get_mut.ensures.value ∙ ap option_copied_mut c.unwrap-semaphore.ensures)

changed : (c : After-self-1) → seen c.self.inside.locks (c.get_mut.follows.lender c.cancel.new.self) ≡ with_semaphore c.args.self.now c.args.at.0 c.cancel.new.self
changed c =
    let there = has_semaphore c.args.self.now c.self.inside.locks c.self.inside.semaphores c.args.at.0 c.self.view_is c.requires in
    with_semaphore_is c.args.self.now c.self.inside.locks c.self.inside.semaphores (c.get_mut.follows.lender c.cancel.new.self) c.args.at.0 c.cancel.new.self c.self.view_is ((c.get_mut.follows.holds c.cancel.new.self).3 there)

in_order : (c : After-self-1) → AreInOrder (seen c.self.inside.locks (c.get_mut.follows.lender c.cancel.new.self))
in_order c =
    let order = subst AreInOrder c.self.view_is c.self.invariant in
    subst AreInOrder (sym (changed c)) (AreInOrder-with_semaphore c.args.self.now c.args.at.0 c.cancel.new.self order (no_lock c.args.self.now c.args.at.0 order c.requires) c.cancel.ensures.semaphore)

pub unwrap-semaphore-requires : goal.unwrap-semaphore-requires
unwrap-semaphore-requires c = some_lent c.get_mut.result _ c.get_mut.ensures.value (has_semaphore c.args.self.now c.self.inside.locks c.self.inside.semaphores c.args.at.0 c.self.view_is c.requires)

pub invariant_of-self : goal.invariant_of-self
invariant_of-self c = in_order c

pub returns-clause-waited : goal.returns-clause-waited
returns-clause-waited c = rw (has c) c.cancel.ensures.waited

pub returns-clause-cancelled : goal.returns-clause-cancelled
returns-clause-cancelled c = rw (has c) (changed c ∙ ap (with_semaphore c.args.self.now c.args.at.0) c.cancel.ensures.cancelled)

pub returns-clause-unchanged : goal.returns-clause-unchanged
returns-clause-unchanged c = OnFalse_then c.cancel.result (λ e. changed c ∙ ap (with_semaphore c.args.self.now c.args.at.0) e ∙ with_semaphore_same c.args.self.now c.args.at.0 c.unwrap-semaphore.result.now (has c)) c.cancel.ensures.unchanged

pub returns-clause-in_order : goal.returns-clause-in_order
returns-clause-in_order c = in_order c
