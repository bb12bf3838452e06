-- The search by number ends at the process, or at no process.
use Rattle.std.proofs.Common.{◌≡◌, Some, IfSome, is_some, slice_get, rules}
use Rattle.std.proofs.lemmas.List.Sorted.{answers_always}
use Rattle.process_table.specs.Processes.{numbers, status_of}
use Rattle.process_table.proofs.Places.{searched}
use Rattle.process_table.proofs.table.ProcessTable.place_of.Goals as goal
use Rattle.process_table.proofs.table.ProcessTable.place_of.Goals.{After-ok}

found : (c : After-ok) → (is_some c.ok.result ≡ is_some (status_of c.args.self.now c.args.pid)) × IfSome c.ok.result (λ place. slice_get (numbers c.args.self.now) place ≡ Some c.args.pid)
found c =
    let facts = c.binary_search_by_key.ensures in
    let by_number = facts.position (λ process. process.0) (answers_always _ _ _ (λ f a r g called. search rules)) in
    rw (c.ok.ensures.value, ← c.self.view_is, ← c.deref.ensures.value) (searched c.deref.result.now (rw c.deref.ensures.value c.self.invariant.rising) c.args.pid c.binary_search_by_key.result facts.bound by_number)

pub returns-clause-live : goal.returns-clause-live
returns-clause-live c = (found c).0

pub returns-clause-place : goal.returns-clause-place
returns-clause-place c = (found c).1
