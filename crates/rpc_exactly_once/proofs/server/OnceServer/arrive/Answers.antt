use Rattle.std.proofs.Common.{◌≡◌, ℕ, ◌∙◌, cond, nat_eq, ap, refl, sym, subst, None, Some, IfOk}
use Rattle.std.specs.Prelude.{IsSome}
use Rattle.std.specs.FinMap as map
use Rattle.indexmap.specs.IndexMap.{get}
use Rattle.rpc_exactly_once.specs.declared.row.Arrival.{Arrival}
use Rattle.rpc_exactly_once.specs.Server.{Server, arrival, raised, table_of, IfBegin, MayBegin, StaysPast}
use Rattle.rpc_exactly_once.proofs.Servers.{IsPut, if_ok, if_ok_on, kept_by, on_err, on_ok, past-insert, put_above, put_again, put_is, table_found, table_of-itself}
use Rattle.rpc_exactly_once.proofs.Tables.{may_begin, past-not_begun, past-raised}
use Rattle.rpc_exactly_once.proofs.server.OnceServer.arrive.Goals as goal

-- ---- the client was heard from

writes : (c : goal.After-self-in-Some-1) → IsPut c.self.inside.tables.entries (c.get_mut.follows.lender c.arrive.new.self).entries c.args.client c.arrive.new.self
writes c = ((c.get_mut.follows.holds c.arrive.new.self).3 (subst IsSome c.in-Some.ensures.value refl)).0

table : (c : goal.After-self-in-Some-1) → c.in-Some.table.now ≡ table_of c.args.self.now c.args.client
table c = table_found _ c.args.client (Some c.in-Some.table.now) c.args.self.now c.self.view_is c.in-Some.ensures.value

pub invariant_of-self : goal.invariant_of-self
invariant_of-self c = put_above _ _ c.args.client _ (writes c) c.args.self.now c.self.view_is c.self.invariant c.arrive.ensures.above

pub returns-in-Some-clause-answer : goal.returns-in-Some-clause-answer
returns-in-Some-clause-answer c = subst (λ t. IfOk c.arrive.result (λ answer. answer ≡ arrival (raised t c.args.floor) c.args.seq)) (table c) c.arrive.ensures.answer

pub returns-in-Some-clause-ok : goal.returns-in-Some-clause-ok
returns-in-Some-clause-ok c = on_ok c.arrive.result _ _ (λ e. put_is _ _ c.args.client _ (writes c) c.args.self.now c.self.view_is _ (e ∙ ap (λ t. raised t c.args.floor) (table c))) c.arrive.ensures.ok

pub returns-in-Some-clause-err : goal.returns-in-Some-clause-err
returns-in-Some-clause-err c = on_err c.arrive.result _ _ (λ e. put_again _ _ c.args.client _ (writes c) c.args.self.now c.self.view_is c.in-Some.table.now c.in-Some.ensures.value e) c.arrive.ensures.err

pub returns-in-Some-clause-above : goal.returns-in-Some-clause-above
returns-in-Some-clause-above c = invariant_of-self c

-- the client's table is as the call's floor leaves it
begins : (now after : Server) (client seq floor : ℕ) (answer : Arrival) → answer ≡ arrival (raised (table_of now client) floor) seq → after ≡ map.insert now client (raised (table_of now client) floor) → IfBegin answer (MayBegin (table_of after client) seq)
begins now after client seq floor answer e ok =
    let t = raised (table_of now client) floor in
    subst (λ t. IfBegin answer (MayBegin t seq)) (sym (ap (λ s. table_of s client) ok ∙ table_of-itself now client t)) (may_begin t seq answer e)

pub returns-in-Some-clause-begin : goal.returns-in-Some-clause-begin
returns-in-Some-clause-begin c = if_ok_on c.arrive.result _ _ _ (λ answer. begins c.args.self.now _ c.args.client c.args.seq c.args.floor answer) (returns-in-Some-clause-answer c) (returns-in-Some-clause-ok c)

pub returns-in-Some-clause-once : goal.returns-in-Some-clause-once
returns-in-Some-clause-once c past =
    let t = table_of c.args.self.now c.args.client in
    if_ok c.arrive.result _ _ (λ answer e begin. past-not_begun (raised t c.args.floor) c.args.seq (past-raised t c.args.floor c.args.seq past) (sym e ∙ begin)) (returns-in-Some-clause-answer c)

pub returns-in-Some-clause-past : goal.returns-in-Some-clause-past
returns-in-Some-clause-past c =
    let t = table_of c.args.self.now c.args.client in
    kept_by c.args.self.now _ _ c.arrive.result (StaysPast c.args.self.now) (returns-in-Some-clause-ok c) (returns-in-Some-clause-err c) (past-insert c.args.self.now c.args.client (raised t c.args.floor) (past-raised t c.args.floor)) (λ client seq past. past)

-- ---- it was never heard from

puts : (c : goal.Joined-branch-3) → IsPut c.self.inside.tables.entries c.insert.new.self.entries c.args.client c.arrive-in-None.new.self
puts c =
    subst (λ m. (q : ℕ) → get nat_eq c.insert.new.self q ≡ cond (nat_eq c.args.client q) (Some c.arrive-in-None.new.self) (get nat_eq m q)) c.get_mut.follows.holds-at-none c.in_ok-insert-in-None.ensures.updates.0

fresh : (c : goal.Joined-branch-3) → c.new-table.result ≡ table_of c.args.self.now c.args.client
fresh c = c.new-table.ensures.unheard ∙ table_found _ c.args.client None c.args.self.now c.self.view_is c.in-None.ensures.value

pub invariant_of-self-in-None : goal.invariant_of-self-in-None
invariant_of-self-in-None c = put_above _ _ c.args.client _ (puts c) c.args.self.now c.self.view_is c.self.invariant c.in_ok-answer-in-None.ensures.above

pub returns-in_ok-insert-in-None-clause-answer : goal.returns-in_ok-insert-in-None-clause-answer
returns-in_ok-insert-in-None-clause-answer c = c.in_ok-answer-in-None.ensures.answer ∙ ap (λ t. arrival (raised t c.args.floor) c.args.seq) (fresh c)

pub returns-in_ok-insert-in-None-clause-ok : goal.returns-in_ok-insert-in-None-clause-ok
returns-in_ok-insert-in-None-clause-ok c = put_is _ _ c.args.client _ (puts c) c.args.self.now c.self.view_is _ (c.in_ok-answer-in-None.ensures.ok ∙ ap (λ t. raised t c.args.floor) (fresh c))

pub returns-in_ok-insert-in-None-clause-above : goal.returns-in_ok-insert-in-None-clause-above
returns-in_ok-insert-in-None-clause-above c = invariant_of-self-in-None c

pub returns-in_ok-insert-in-None-clause-begin : goal.returns-in_ok-insert-in-None-clause-begin
returns-in_ok-insert-in-None-clause-begin c = begins c.args.self.now _ c.args.client c.args.seq c.args.floor _ (returns-in_ok-insert-in-None-clause-answer c) (returns-in_ok-insert-in-None-clause-ok c)

pub returns-in_ok-insert-in-None-clause-once : goal.returns-in_ok-insert-in-None-clause-once
returns-in_ok-insert-in-None-clause-once c past begin =
    let t = table_of c.args.self.now c.args.client in
    past-not_begun (raised t c.args.floor) c.args.seq (past-raised t c.args.floor c.args.seq past) (sym (returns-in_ok-insert-in-None-clause-answer c) ∙ begin)

pub returns-in_ok-insert-in-None-clause-past : goal.returns-in_ok-insert-in-None-clause-past
returns-in_ok-insert-in-None-clause-past c =
    let t = table_of c.args.self.now c.args.client in
    subst (StaysPast c.args.self.now) (sym (returns-in_ok-insert-in-None-clause-ok c)) (past-insert c.args.self.now c.args.client (raised t c.args.floor) (past-raised t c.args.floor))
