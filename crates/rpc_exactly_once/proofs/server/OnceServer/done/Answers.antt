use Rattle.std.proofs.Common.{◌≡◌, ℕ, ◌∙◌, ap, refl, sym, subst, None, Some, IfOk}
use Rattle.std.specs.Prelude.{IsSome}
use Rattle.std.specs.FinMap as map
use Rattle.std.specs.FinMap.{get-empty}
use Rattle.std.specs.Ordering.{nat_cmp}
use Rattle.rpc_exactly_once.specs.declared.row.Row.TheVariants.{Done}
use Rattle.rpc_exactly_once.specs.Server.{is_running, row_of, table_of, with_row, StaysPast}
use Rattle.rpc_exactly_once.proofs.Servers.{IsPut, floors-insert, if_ok, kept_by_bool, on_err, on_false, on_true, past-insert, put_above, put_again, put_is, table_found}
use Rattle.rpc_exactly_once.proofs.Tables.{past-with_row}
use Rattle.rpc_exactly_once.proofs.server.OnceServer.done.Goals as goal

pub returns-in_default-clause-running : goal.returns-in_default-clause-running
returns-in_default-clause-running c =
    sym (ap is_running (get-empty nat_cmp c.args.seq))
    ∙ ap (λ t. is_running (row_of t c.args.seq)) (table_found _ c.args.client None c.args.self.now c.self.view_is c.in_default.ensures.value)

writes : (c : goal.After-self-2-1) → IsPut c.self.inside.tables.entries (c.get_mut.follows.lender c.done.new.self).entries c.args.client c.done.new.self
writes c = ((c.get_mut.follows.holds c.done.new.self).3 (subst IsSome c.in-Some.ensures.value refl)).0

table : (c : goal.After-self-2-1) → c.in-Some.table.now ≡ table_of c.args.self.now c.args.client
table c = table_found _ c.args.client (Some c.in-Some.table.now) c.args.self.now c.self.view_is c.in-Some.ensures.value

again : (c : goal.After-self-2-1) → c.done.new.self ≡ c.in-Some.table.now → map.from_entries (c.get_mut.follows.lender c.done.new.self).entries ≡ c.args.self.now
again c e = put_again _ _ c.args.client _ (writes c) c.args.self.now c.self.view_is c.in-Some.table.now c.in-Some.ensures.value e

pub invariant_of-self-2 : goal.invariant_of-self-2
invariant_of-self-2 c = put_above _ _ c.args.client _ (writes c) c.args.self.now c.self.view_is c.self.invariant c.done.ensures.above

pub returns-clause-running : goal.returns-clause-running
returns-clause-running c = subst (λ t. IfOk c.done.result (λ ended. ended ≡ is_running (row_of t c.args.seq))) (table c) c.done.ensures.running

pub returns-clause-ok : goal.returns-clause-ok
returns-clause-ok c =
    if_ok c.done.result _ _ (λ ended. on_true ended _ _ (λ e. put_is _ _ c.args.client _ (writes c) c.args.self.now c.self.view_is _ (e ∙ ap (λ t. with_row t c.args.seq (Done c.args.reply)) (table c)))) c.done.ensures.ok

pub returns-clause-unchanged : goal.returns-clause-unchanged
returns-clause-unchanged c = if_ok c.done.result _ _ (λ ended. on_false ended _ _ (again c)) c.done.ensures.unchanged

pub returns-clause-err : goal.returns-clause-err
returns-clause-err c = on_err c.done.result _ _ (again c) c.done.ensures.err

pub returns-clause-above : goal.returns-clause-above
returns-clause-above c = invariant_of-self-2 c

pub returns-clause-floors : goal.returns-clause-floors
returns-clause-floors c =
    let t = table_of c.args.self.now c.args.client in
    kept_by_bool c.args.self.now _ _ c.done.result (λ s. (other : ℕ) → (table_of s other).floor ≡ (table_of c.args.self.now other).floor)
    (returns-clause-ok c) (returns-clause-unchanged c) (returns-clause-err c) (floors-insert c.args.self.now c.args.client (with_row t c.args.seq (Done c.args.reply)) refl) (λ other. refl)

pub returns-clause-past : goal.returns-clause-past
returns-clause-past c =
    let t = table_of c.args.self.now c.args.client in
    kept_by_bool c.args.self.now _ _ c.done.result (StaysPast c.args.self.now)
    (returns-clause-ok c) (returns-clause-unchanged c) (returns-clause-err c) (past-insert c.args.self.now c.args.client (with_row t c.args.seq (Done c.args.reply)) (past-with_row t c.args.seq (Done c.args.reply))) (λ client seq past. past)
