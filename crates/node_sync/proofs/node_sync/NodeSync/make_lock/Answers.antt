-- One more lock is there.
use Rattle.std.proofs.Common.{◌≡◌, sym, ap, subst, ◌∙◌}
use Rattle.node_sync.specs.Objects.{AreInOrder, with_lock}
use Rattle.node_sync.specs.Locks.{IsLock, free}
use Rattle.node_sync.proofs.Kept.{seen, with_lock_is, AreInOrder-with_lock}
use Rattle.node_sync.proofs.node_sync.NodeSync.make_lock.Goals as goal
use Rattle.node_sync.proofs.node_sync.NodeSync.make_lock.Goals.{In_ok-insert}

changed : (c : In_ok-insert) → seen c.insert.new.self c.self.inside.semaphores ≡ with_lock c.args.self.now c.args.at.0 free
changed c =
    with_lock_is c.args.self.now c.self.inside.locks c.insert.new.self c.self.inside.semaphores c.args.at.0 c.new.result c.self.view_is c.in_ok-insert.ensures.updates
    ∙ ap (with_lock c.args.self.now c.args.at.0) c.new.ensures.free

in_order : (c : In_ok-insert) → AreInOrder (seen c.insert.new.self c.self.inside.semaphores)
in_order c = subst AreInOrder (sym (changed c)) (AreInOrder-with_lock c.args.self.now c.args.at.0 free (subst AreInOrder c.self.view_is c.self.invariant) c.requires.1 (subst IsLock c.new.ensures.free c.new.ensures.lock))

pub invariant_of-self-2 : goal.invariant_of-self-2
invariant_of-self-2 c = in_order (goal.at.invariant_of-self-2 c).In_ok-insert

pub returns-clause-ok : goal.returns-clause-ok
returns-clause-ok c = changed (goal.at.returns-clause-ok c).In_ok-insert

pub returns-clause-in_order : goal.returns-clause-in_order
returns-clause-in_order c = in_order (goal.at.returns-clause-in_order c).In_ok-insert
