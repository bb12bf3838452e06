use Rattle.std.proofs.Common.{◌≡◌, ℕ, ◌≤◌, ◌∙◌, cond, nat_eq, ap, refl, sym, subst, None, Some}
use Rattle.std.specs.Prelude.{IsSome}
use Rattle.std.specs.FinMap.{get-empty}
use Rattle.std.specs.Ordering.{nat_cmp}
use Rattle.indexmap.specs.IndexMap.{get}
use Rattle.rpc_exactly_once.specs.declared.row.Row.TheVariants.{Running}
use Rattle.rpc_exactly_once.specs.Server.{Table, row_of, table_of, with_row, IsPast, StaysPast}
use Rattle.rpc_exactly_once.proofs.Servers.{IsPut, kept_by, on_err, on_ok, past-insert, put_above, put_again, put_is, table_found, table_of-itself}
use Rattle.rpc_exactly_once.proofs.Tables.{past-itself, past-with_row}
use Rattle.rpc_exactly_once.proofs.server.OnceServer.begun.Goals as goal

-- ---- the client was heard from

pub begun-requires-clause-absent : goal.begun-requires-clause-absent
begun-requires-clause-absent c = subst (λ t. row_of t c.args.seq ≡ None) (sym (table_found _ c.args.client (Some c.in-Some.table.now) c.args.self.now c.self.view_is c.in-Some.ensures.value)) c.requires.absent

pub begun-requires-clause-not_below : goal.begun-requires-clause-not_below
begun-requires-clause-not_below c = subst (λ (t : Table). t.floor ≤ c.args.seq) (sym (table_found _ c.args.client (Some c.in-Some.table.now) c.args.self.now c.self.view_is c.in-Some.ensures.value)) c.requires.not_below

writes : (c : goal.After-self-in-Some-1) → IsPut c.self.inside.tables.entries (c.get_mut.follows.lender c.begun.new.self).entries c.args.client c.begun.new.self
writes c = ((c.get_mut.follows.holds c.begun.new.self).3 (subst IsSome c.in-Some.ensures.value refl)).0

table : (c : goal.After-self-in-Some-1) → c.in-Some.table.now ≡ table_of c.args.self.now c.args.client
table c = table_found _ c.args.client (Some c.in-Some.table.now) c.args.self.now c.self.view_is c.in-Some.ensures.value

pub invariant_of-self : goal.invariant_of-self
invariant_of-self c = put_above _ _ c.args.client _ (writes c) c.args.self.now c.self.view_is c.self.invariant c.begun.ensures.above

pub returns-in-Some-clause-ok : goal.returns-in-Some-clause-ok
returns-in-Some-clause-ok c = on_ok c.begun.result _ _ (λ e. put_is _ _ c.args.client _ (writes c) c.args.self.now c.self.view_is _ (e ∙ ap (λ t. with_row t c.args.seq Running) (table c))) c.begun.ensures.ok

pub returns-in-Some-clause-err : goal.returns-in-Some-clause-err
returns-in-Some-clause-err c = on_err c.begun.result _ _ (λ e. put_again _ _ c.args.client _ (writes c) c.args.self.now c.self.view_is c.in-Some.table.now c.in-Some.ensures.value e) c.begun.ensures.err

pub returns-in-Some-clause-above : goal.returns-in-Some-clause-above
returns-in-Some-clause-above c = invariant_of-self c

pub returns-in-Some-clause-begun : goal.returns-in-Some-clause-begun
returns-in-Some-clause-begun c =
    let t = table_of c.args.self.now c.args.client in
    let itself = sym (table_of-itself c.args.self.now c.args.client (with_row t c.args.seq Running)) in
    on_ok c.begun.result _ _ (λ e. subst (λ s. IsPast (table_of s c.args.client) c.args.seq) (sym e) (subst (λ t. IsPast t c.args.seq) itself (past-itself t c.args.seq Running))) (returns-in-Some-clause-ok c)

pub returns-in-Some-clause-past : goal.returns-in-Some-clause-past
returns-in-Some-clause-past c =
    let t = table_of c.args.self.now c.args.client in
    kept_by c.args.self.now _ _ c.begun.result (StaysPast c.args.self.now) (returns-in-Some-clause-ok c) (returns-in-Some-clause-err c) (past-insert c.args.self.now c.args.client (with_row t c.args.seq Running) (past-with_row t c.args.seq Running)) (λ client seq past. past)

-- ---- it was never heard from

pub begun-requires-in-None-clause-absent : goal.begun-requires-in-None-clause-absent
begun-requires-in-None-clause-absent c = ap (λ t. row_of t c.args.seq) c.new-table.ensures.unheard ∙ get-empty nat_cmp c.args.seq

puts : (c : goal.Joined-branch-3) → IsPut c.self.inside.tables.entries c.insert.new.self.entries c.args.client c.begun-in-None.new.self
puts c =
    subst (λ m. (q : ℕ) → get nat_eq c.insert.new.self q ≡ cond (nat_eq c.args.client q) (Some c.begun-in-None.new.self) (get nat_eq m q)) c.get_mut.follows.holds-at-none c.in_ok-insert-in-None.ensures.updates.0

fresh : (c : goal.Joined-branch-3) → c.new-table.result ≡ table_of c.args.self.now c.args.client
fresh c = c.new-table.ensures.unheard ∙ table_found _ c.args.client None c.args.self.now c.self.view_is c.in-None.ensures.value

pub invariant_of-self-in-None : goal.invariant_of-self-in-None
invariant_of-self-in-None c = put_above _ _ c.args.client _ (puts c) c.args.self.now c.self.view_is c.self.invariant c.in_ok-begun-in-None.ensures.above

pub returns-in_ok-insert-in-None-clause-ok : goal.returns-in_ok-insert-in-None-clause-ok
returns-in_ok-insert-in-None-clause-ok c = put_is _ _ c.args.client _ (puts c) c.args.self.now c.self.view_is _ (c.in_ok-begun-in-None.ensures.ok ∙ ap (λ t. with_row t c.args.seq Running) (fresh c))

pub returns-in_ok-insert-in-None-clause-above : goal.returns-in_ok-insert-in-None-clause-above
returns-in_ok-insert-in-None-clause-above c = invariant_of-self-in-None c

pub returns-in_ok-insert-in-None-clause-begun : goal.returns-in_ok-insert-in-None-clause-begun
returns-in_ok-insert-in-None-clause-begun c =
    let t = table_of c.args.self.now c.args.client in
    let itself = sym (table_of-itself c.args.self.now c.args.client (with_row t c.args.seq Running)) in
    subst (λ s. IsPast (table_of s c.args.client) c.args.seq) (sym (returns-in_ok-insert-in-None-clause-ok c)) (subst (λ t. IsPast t c.args.seq) itself (past-itself t c.args.seq Running))

pub returns-in_ok-insert-in-None-clause-past : goal.returns-in_ok-insert-in-None-clause-past
returns-in_ok-insert-in-None-clause-past c =
    let t = table_of c.args.self.now c.args.client in
    subst (StaysPast c.args.self.now) (sym (returns-in_ok-insert-in-None-clause-ok c)) (past-insert c.args.self.now c.args.client (with_row t c.args.seq Running) (past-with_row t c.args.seq Running))
