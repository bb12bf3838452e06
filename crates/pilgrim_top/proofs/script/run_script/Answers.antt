use Rattle.std.proofs.Common.{◌≢◌, ◌≤◌, ◌<◌, ℕ, refl, sym, ◌∙◌, arith}
use Rattle.pilgrim_top.specs.Script.{beyond, not_yet, outside}
use Rattle.pilgrim_top.proofs.Scripts.{Line, applied_none, ends_at, ends_early, ends_refused, goes_on, not_empty, refused_line}
use Rattle.pilgrim_top.proofs.script.run_script.Goals as goal

few_of : (count : ℕ) → count ≤ 1000000 → count ≢ 1000000 → count < 1000000
few_of count l ne = omega (arith, l, ne)

pub returns-in_default-clause-runs : goal.returns-in_default-clause-runs
returns-in_default-clause-runs g c =
    ends_early c.args.program.now c.args.script.now c.args.script.now c.args.journal.now.items 0 _ _ (applied_none c.args.program.now c.args.script.now c.args.journal.now.items c.requires.empty)
    (rw c.requires.empty (c.puts_in_a_row.ensures.nothing (g.K.Sink.told c.args.sink.now)))

pub returns-then-count-eq-MOST_LINES-clause-runs : goal.returns-then-count-eq-MOST_LINES-clause-runs
returns-then-count-eq-MOST_LINES-clause-runs g c =
    let i = c.loop-rest.invariant in
    ends_refused c.puts_in_a_row.ensures _ _ _ _ _ _ _ _ _ i.applied i.wrote (beyond (not_empty _ _ c.is_empty.ensures c.loop-rest-test.true) c.if-count-eq-MOST_LINES.true) c.refuse.ensures.says

pub returns-in-Err-Bad-clause-runs : goal.returns-in-Err-Bad-clause-runs
returns-in-Err-Bad-clause-runs g c =
    let i = c.loop-rest.invariant in
    ends_refused c.puts_in_a_row.ensures _ _ _ _ _ _ _ _ _ i.applied i.wrote (outside (not_empty _ _ c.is_empty.ensures c.loop-rest-test.true) ((rw c.in-Err-Bad.field-0-is at c.in-Err-Bad.ensures.bad) refl)) c.refuse-in-Err-Bad.ensures.says

pub returns-then-not-can_run-clause-runs : goal.returns-then-not-can_run-clause-runs
returns-then-not-can_run-clause-runs g c =
    let i = c.loop-rest.invariant in
    ends_refused c.puts_in_a_row.ensures _ _ _ _ _ _ _ _ _ i.applied i.wrote (not_yet _ _ c.in-Ok-first_line.ensures.grammar c.in-Ok-first_line.ensures.parts (sym c.can_run.ensures ∙ c.if-not-can_run.true)) c.refuse-then-not-can_run.ensures.says

pub returns-in-Ok-false-clause-runs : goal.returns-in-Ok-false-clause-runs
returns-in-Ok-false-clause-runs g c =
    let i = c.loop-rest.invariant in
    let line : Line c.args.program.now c.args.script.now c.loop-rest.rest.now c.in-Ok-first_line.line.rest.now c.loop-rest.count c.loop-rest.journal.items c.in-Ok-first_line.line.told c.loop-rest.world =
    record { applied = i.applied; parts = c.in-Ok-first_line.ensures.parts; grammar = c.in-Ok-first_line.ensures.grammar; can = sym c.can_run.ensures ∙ c.if-not-can_run.false; few = few_of _ i.applied.few c.if-count-eq-MOST_LINES.false; is = i.world } in
    let applies = rw c.in-Ok-false.field-0-test at c.in-Ok-false.ensures.applies in
    rw (applies.2) (ends_refused c.puts_in_a_row.ensures _ _ _ _ _ _ _ _ _ i.applied i.wrote (refused_line _ _ _ _ _ _ _ _ _ applies.0 line applies.1) (rw (applies.3) at c.refuse-in-Ok-false.ensures.says))

pub returns-in-Err-clause-runs : goal.returns-in-Err-clause-runs
returns-in-Err-clause-runs g c =
    let i = c.loop-rest.invariant in
    let line : Line c.args.program.now c.args.script.now c.loop-rest.rest.now c.in-Ok-first_line.line.rest.now c.loop-rest.count c.loop-rest.journal.items c.in-Ok-first_line.line.told c.loop-rest.world =
    record { applied = i.applied; parts = c.in-Ok-first_line.ensures.parts; grammar = c.in-Ok-first_line.ensures.grammar; can = sym c.can_run.ensures ∙ c.if-not-can_run.false; few = few_of _ i.applied.few c.if-count-eq-MOST_LINES.false; is = i.world } in
    ends_at c.puts_in_a_row.ensures _ (c.following_laws.ensures _) _ _ _ _ _ _ _ _ _ _ _ _ c.in-Err.stop line i.wrote c.in-Err.ensures.applies

pub loop-rest-preserved : goal.loop-rest-preserved
loop-rest-preserved g c =
    let i = c.loop-rest.invariant in
    let line : Line c.args.program.now c.args.script.now c.loop-rest.rest.now c.in-Ok-first_line.line.rest.now c.loop-rest.count c.loop-rest.journal.items c.in-Ok-first_line.line.told c.loop-rest.world =
    record { applied = i.applied; parts = c.in-Ok-first_line.ensures.parts; grammar = c.in-Ok-first_line.ensures.grammar; can = sym c.can_run.ensures ∙ c.if-not-can_run.false; few = few_of _ i.applied.few c.if-count-eq-MOST_LINES.false; is = i.world } in
    let applies = rw c.in-Ok-true.field-0-test at c.in-Ok-true.ensures.applies in
    let on = goes_on c.puts_in_a_row.ensures _ (c.following_laws.ensures _) _ _ _ _ _ _ _ _ _ _ _ _ line i.wrote applies in
    record { applied = on.applied; wrote = on.wrote; faults = c.in-Ok-true.ensures.counts ∙ i.faults; world = on.world }
