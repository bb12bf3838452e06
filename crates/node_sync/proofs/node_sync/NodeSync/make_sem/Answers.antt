-- One more semaphore is there.
use Rattle.std.proofs.Common.{◌≡◌, sym, ap, subst, ◌∙◌}
use Rattle.node_sync.specs.Objects.{AreInOrder, with_semaphore}
use Rattle.node_sync.specs.Semaphores.{IsSemaphore, counting}
use Rattle.node_sync.proofs.Kept.{seen, with_semaphore_is, AreInOrder-with_semaphore}
use Rattle.node_sync.proofs.node_sync.NodeSync.make_sem.Goals as goal
use Rattle.node_sync.proofs.node_sync.NodeSync.make_sem.Goals.{In_ok-insert}

changed : (c : In_ok-insert) → seen c.self.inside.locks c.insert.new.self ≡ with_semaphore c.args.self.now c.args.at.0 (counting c.args.count)
changed c =
    with_semaphore_is c.args.self.now c.self.inside.locks c.self.inside.semaphores c.insert.new.self c.args.at.0 c.new.result c.self.view_is c.in_ok-insert.ensures.updates
    ∙ ap (with_semaphore c.args.self.now c.args.at.0) c.new.ensures.counting

in_order : (c : In_ok-insert) → AreInOrder (seen c.self.inside.locks c.insert.new.self)
in_order c = subst AreInOrder (sym (changed c)) (AreInOrder-with_semaphore c.args.self.now c.args.at.0 (counting c.args.count) (subst AreInOrder c.self.view_is c.self.invariant) c.requires.unmade.0 (subst IsSemaphore c.new.ensures.counting c.new.ensures.semaphore))

pub invariant_of-self-2 : goal.invariant_of-self-2
invariant_of-self-2 c = in_order (goal.at.invariant_of-self-2 c).In_ok-insert

pub returns-clause-ok : goal.returns-clause-ok
returns-clause-ok c = changed (goal.at.returns-clause-ok c).In_ok-insert

pub returns-clause-in_order : goal.returns-clause-in_order
returns-clause-in_order c = in_order (goal.at.returns-clause-in_order c).In_ok-insert
