-- The new limit goes where the search ended.
use Rattle.std.proofs.Common.{subst}
use Rattle.timer_queue.specs.Limits.{IsQueue}
use Rattle.timer_queue.proofs.Edits.{insert_is, ChangesOnly-insert, IsQueue-insert}
use Rattle.timer_queue.proofs.queue.TimerQueue.add.Goals as goal
use Rattle.timer_queue.proofs.queue.TimerQueue.add.Goals.{In_ok-insert}

in_order : (c : In_ok-insert) → IsQueue c.insert.new.self.items
in_order c =
    let at = c.place_for-place.ensures in
    rw (c.in_ok-insert.ensures.items, c.self.view_is) (IsQueue-insert c.args.self.now (c.args.limit, c.args.owner) _ at.place at.before at.behind c.requires (subst IsQueue c.self.view_is c.self.invariant))

pub invariant_of-self-2 : goal.invariant_of-self-2
invariant_of-self-2 c = in_order c

pub returns-clause-ok : goal.returns-clause-ok
returns-clause-ok c =
    let at = c.place_for-place.ensures in
    rw (c.in_ok-insert.ensures.items, c.self.view_is) (insert_is c.args.self.now (c.args.limit, c.args.owner) _ at.place at.before at.behind c.requires)

pub returns-clause-limits : goal.returns-clause-limits
returns-clause-limits c =
    let at = c.place_for-place.ensures in
    rw (c.in_ok-insert.ensures.items, c.self.view_is) (ChangesOnly-insert c.args.self.now (c.args.limit, c.args.owner) _ at.place at.before at.behind c.requires)

pub returns-clause-queue : goal.returns-clause-queue
returns-clause-queue c = in_order c
