use Rattle.std.proofs.Common.{◌+◌, subst}
use Rattle.numbered_calls.specs.Calls.{IsFloor}
use Rattle.numbered_calls.proofs.Rising.{floor_some, floor_none}
use Rattle.numbered_calls.proofs.calls.NumberedCalls.floor.Goals as goal

pub returns-in-Some : goal.returns-in-Some
returns-in-Some g c = subst (λ calls. IsFloor calls c.in-Some.seq.now) c.self.view_is (floor_some c.self.inside.last c.self.inside.pending.entries _ _ c.self.invariant c.in-Some.ensures.entry)

pub returns-in-None : goal.returns-in-None
returns-in-None g c = subst (λ calls. IsFloor calls (c.self.inside.last + 1)) c.self.view_is (floor_none c.self.inside.last c.self.inside.pending.entries c.self.invariant c.in-None.ensures.entry)
