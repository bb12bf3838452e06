-- The owner's limit stands at the place that was found.
use Rattle.std.proofs.Common.{◌≡◌, None, refl, sym, subst}
use Rattle.timer_queue.specs.Limits.{ChangesOnly, IsQueue, limit_of, without}
use Rattle.timer_queue.proofs.Edits.{limit_of-at, limit_of-none, remove_is, without_absent, ChangesOnly-without, IsQueue-without}
use Rattle.timer_queue.proofs.queue.TimerQueue.remove.Goals as goal
use Rattle.timer_queue.proofs.queue.TimerQueue.remove.Goals.{After-remove, In-None}

rest : (c : After-remove) → c.remove.new.self.items ≡ without c.args.self.now c.args.owner
rest c = rw (c.remove.ensures.items, c.self.view_is) (remove_is c.args.self.now c.args.owner (subst IsQueue c.self.view_is c.self.invariant) _ (sym c.in-Some.ensures))

in_order : (c : After-remove) → IsQueue c.remove.new.self.items
in_order c = rw (rest c) (IsQueue-without c.args.self.now c.args.owner (subst IsQueue c.self.view_is c.self.invariant))

absent : (c : In-None) → limit_of c.args.self.now c.args.owner ≡ None
absent c = limit_of-none c.args.self.now c.args.owner (sym c.in-None.ensures)

pub invariant_of-self : goal.invariant_of-self
invariant_of-self c = in_order c

pub returns-in-Some-clause-found : goal.returns-in-Some-clause-found
returns-in-Some-clause-found c = sym (limit_of-at c.args.self.now c.args.owner _ (sym c.in-Some.ensures))

pub returns-in-Some-clause-rest : goal.returns-in-Some-clause-rest
returns-in-Some-clause-rest c = rest c

pub returns-in-Some-clause-limits : goal.returns-in-Some-clause-limits
returns-in-Some-clause-limits c = rw (rest c) (ChangesOnly-without c.args.self.now c.args.owner (subst IsQueue c.self.view_is c.self.invariant))

pub returns-in-Some-clause-queue : goal.returns-in-Some-clause-queue
returns-in-Some-clause-queue c = in_order c

pub returns-in-None-clause-found : goal.returns-in-None-clause-found
returns-in-None-clause-found c = rw (absent c) refl

pub returns-in-None-clause-rest : goal.returns-in-None-clause-rest
returns-in-None-clause-rest c = sym (without_absent c.args.self.now c.args.owner (subst IsQueue c.self.view_is c.self.invariant) (absent c))

pub returns-in-None-clause-limits : goal.returns-in-None-clause-limits
returns-in-None-clause-limits c =
    let queue = subst IsQueue c.self.view_is c.self.invariant in
    subst (λ q. ChangesOnly c.args.self.now q c.args.owner None) (without_absent c.args.self.now c.args.owner queue (absent c)) (ChangesOnly-without c.args.self.now c.args.owner queue)
