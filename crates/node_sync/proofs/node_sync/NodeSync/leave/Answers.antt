-- One lock changes, as its own call says.
use Rattle.std.proofs.Common.{◌≡◌, Some, sym, ap, subst, ◌∙◌}
use Rattle.std.specs.FinMap as map
use Rattle.std.specs.Option.{option_copied_mut}
use Rattle.node_sync.specs.Objects.{AreInOrder, with_lock}
use Rattle.node_sync.proofs.Maps.{some_lent}
use Rattle.node_sync.proofs.Kept.{seen, has_lock, lock_is, with_lock_is, AreInOrder-with_lock, IsHeld-from_holder}
use Rattle.node_sync.proofs.node_sync.NodeSync.leave.Goals as goal
use Rattle.node_sync.proofs.node_sync.NodeSync.leave.Goals.{After-self-1}

has : (c : After-self-1) → map.get c.args.self.now.locks c.args.at.0 ≡ Some c.unwrap-held.result.now
has c = lock_is c.args.self.now c.self.inside.locks c.self.inside.semaphores c.args.at.0 c.unwrap-held.result.now c.self.view_is (sym c.get_mut.ensures.value ∙ ap option_copied_mut c.unwrap-held.ensures)

changed : (c : After-self-1) → seen (c.get_mut.follows.lender c.leave.new.self) c.self.inside.semaphores ≡ with_lock c.args.self.now c.args.at.0 c.leave.new.self
changed c =
    let there = has_lock c.args.self.now c.self.inside.locks c.self.inside.semaphores c.args.at.0 c.self.view_is c.requires.made in
    with_lock_is c.args.self.now c.self.inside.locks (c.get_mut.follows.lender c.leave.new.self) c.self.inside.semaphores c.args.at.0 c.leave.new.self c.self.view_is ((c.get_mut.follows.holds c.leave.new.self).3 there)

in_order : (c : After-self-1) → AreInOrder (seen (c.get_mut.follows.lender c.leave.new.self) c.self.inside.semaphores)
in_order c =
    let order = subst AreInOrder c.self.view_is c.self.invariant in
    subst AreInOrder (sym (changed c)) (AreInOrder-with_lock c.args.self.now c.args.at.0 c.leave.new.self order (order.apart c.args.at.0 c.requires.made) c.leave.ensures.lock)

pub unwrap-held-requires : goal.unwrap-held-requires
unwrap-held-requires c = some_lent c.get_mut.result _ c.get_mut.ensures.value (has_lock c.args.self.now c.self.inside.locks c.self.inside.semaphores c.args.at.0 c.self.view_is c.requires.made)

pub invariant_of-self : goal.invariant_of-self
invariant_of-self c = in_order c

pub leave-requires : goal.leave-requires
leave-requires c = IsHeld-from_holder c.unwrap-held.result.now c.args.pid (rw (lock_is c.args.self.now c.self.inside.locks c.self.inside.semaphores c.args.at.0 c.unwrap-held.result.now c.self.view_is (sym c.get_mut.ensures.value ∙ ap option_copied_mut c.unwrap-held.ensures)) at c.requires.holds)

pub returns-clause-next : goal.returns-clause-next
returns-clause-next c = rw (has c) c.leave.ensures.next

pub returns-clause-none : goal.returns-clause-none
returns-clause-none c = rw (has c) c.leave.ensures.none

pub returns-clause-left : goal.returns-clause-left
returns-clause-left c = rw (has c) (changed c ∙ ap (with_lock c.args.self.now c.args.at.0) c.leave.ensures.left)

pub returns-clause-in_order : goal.returns-clause-in_order
returns-clause-in_order c = in_order c
