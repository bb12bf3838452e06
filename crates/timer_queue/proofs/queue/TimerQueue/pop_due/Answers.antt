-- The first limit is due before all others.
use Rattle.std.proofs.Common.{◌≡◌, ◌∷◌, None, refl, sym, subst}
use Rattle.timer_queue.specs.Limits.{IsQueue, ChangesOnly}
use Rattle.timer_queue.proofs.Edits.{IsQueue-tail, ChangesOnly-first, first_split, first_before, none_due}
use Rattle.timer_queue.proofs.queue.TimerQueue.pop_due.Goals as goal
use Rattle.timer_queue.proofs.queue.TimerQueue.pop_due.Goals.{After-remove}

split : (c : After-remove) → c.args.self.now ≡ c.in_ok-first.first ∷ c.remove.new.self.items
split c = rw (c.remove.ensures.items, c.self.view_is) (first_split c.args.self.now c.in_ok-first.first c.in_ok-first.ensures.first)

whole : (c : After-remove) → IsQueue (c.in_ok-first.first ∷ c.remove.new.self.items)
whole c = subst IsQueue (split c) c.in_ok-first.ensures.queue

in_order : (c : After-remove) → IsQueue c.remove.new.self.items
in_order c = IsQueue-tail _ _ (whole c)

pub returns-then-t-first-clause-none : goal.returns-then-t-first-clause-none
returns-then-t-first-clause-none c = (λ _. none_due c.args.self.now c.in_ok-first.first c.args.t c.in_ok-first.ensures.first c.in_ok-first.ensures.queue c.if-t-first.true, λ _. refl)

pub invariant_of-self : goal.invariant_of-self
invariant_of-self c = in_order c

pub returns-clause-least : goal.returns-clause-least
returns-clause-least c = first_before c.in_ok-first.first c.remove.new.self.items (whole c)

pub returns-clause-limits : goal.returns-clause-limits
returns-clause-limits c = subst (λ q. ChangesOnly q c.remove.new.self.items c.in_ok-first.first.1 None) (sym (split c)) (ChangesOnly-first c.in_ok-first.first c.remove.new.self.items (whole c))

pub returns-clause-queue : goal.returns-clause-queue
returns-clause-queue c = in_order c
