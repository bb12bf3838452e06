-- One lock changes, as its own call says.
use Rattle.std.proofs.Common.{◌≡◌, Some, sym, ap, subst, ◌∙◌}
use Rattle.std.specs.FinMap as map
use Rattle.std.specs.Option.{option_copied_mut}
use Rattle.node_sync.specs.Objects.{AreInOrder, with_lock}
use Rattle.node_sync.proofs.Maps.{some_lent}
use Rattle.node_sync.proofs.Kept.{seen, has_lock, lock_is, with_lock_is, AreInOrder-with_lock, with_lock_same, IfOk_then, OnErr_then}
use Rattle.node_sync.proofs.node_sync.NodeSync.enter.Goals as goal
use Rattle.node_sync.proofs.node_sync.NodeSync.enter.Goals.{After-self-1}

has : (c : After-self-1) → map.get c.args.self.now.locks c.args.at.0 ≡ Some c.unwrap-lock.result.now
has c = lock_is c.args.self.now c.self.inside.locks c.self.inside.semaphores c.args.at.0 c.unwrap-lock.result.now c.self.view_is (sym c.get_mut.ensures.value ∙ ap option_copied_mut c.unwrap-lock.ensures)

changed : (c : After-self-1) → seen (c.get_mut.follows.lender c.enter.new.self) c.self.inside.semaphores ≡ with_lock c.args.self.now c.args.at.0 c.enter.new.self
changed c =
    let there = has_lock c.args.self.now c.self.inside.locks c.self.inside.semaphores c.args.at.0 c.self.view_is c.requires.made in
    with_lock_is c.args.self.now c.self.inside.locks (c.get_mut.follows.lender c.enter.new.self) c.self.inside.semaphores c.args.at.0 c.enter.new.self c.self.view_is ((c.get_mut.follows.holds c.enter.new.self).3 there)

in_order : (c : After-self-1) → AreInOrder (seen (c.get_mut.follows.lender c.enter.new.self) c.self.inside.semaphores)
in_order c =
    let order = subst AreInOrder c.self.view_is c.self.invariant in
    subst AreInOrder (sym (changed c)) (AreInOrder-with_lock c.args.self.now c.args.at.0 c.enter.new.self order (order.apart c.args.at.0 c.requires.made) c.enter.ensures.lock)

pub unwrap-lock-requires : goal.unwrap-lock-requires
unwrap-lock-requires c = some_lent c.get_mut.result _ c.get_mut.ensures.value (has_lock c.args.self.now c.self.inside.locks c.self.inside.semaphores c.args.at.0 c.self.view_is c.requires.made)

pub invariant_of-self : goal.invariant_of-self
invariant_of-self c = in_order c

pub returns-clause-taken : goal.returns-clause-taken
returns-clause-taken c = rw (has c) c.enter.ensures.taken

pub returns-clause-held : goal.returns-clause-held
returns-clause-held c = rw (has c) c.enter.ensures.held

pub returns-clause-ok : goal.returns-clause-ok
returns-clause-ok c = rw (has c) (IfOk_then c.enter.result (λ end e. changed c ∙ ap (with_lock c.args.self.now c.args.at.0) e) c.enter.ensures.ok)

pub returns-clause-err : goal.returns-clause-err
returns-clause-err c = OnErr_then c.enter.result (λ e. changed c ∙ ap (with_lock c.args.self.now c.args.at.0) e ∙ with_lock_same c.args.self.now c.args.at.0 c.unwrap-lock.result.now (has c)) c.enter.ensures.err

pub returns-clause-in_order : goal.returns-clause-in_order
returns-clause-in_order c = in_order c
