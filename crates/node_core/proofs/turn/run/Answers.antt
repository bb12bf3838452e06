use Rattle.std.proofs.Common.{sym, ◌∙◌, arith}
use Rattle.node_core.proofs.Acts.{fits_noted, goes_on, is_over, on_fits, sleeps, took_more}
use Rattle.node_core.proofs.turn.run.Goals as goal

pub note-requires-clause-noted : goal.note-requires-clause-noted
note-requires-clause-noted c =
    fits_noted c.in_ok-act.field-0.act c.step.new.process
    (on_fits c.args.program.now c.requires.typed c.args.time c.loop-steps.process c.loop-steps.invariant.fits c.step.new.process c.in_ok-act.field-0.left c.in_ok-act.field-0.act c.in_ok-act.ensures.row)

pub returns-in-Asleep : goal.returns-in-Asleep
returns-in-Asleep c =
    sleeps c.args.program.now c.args.number c.args.time c.loop-steps.steps c.args.most c.in-Asleep.until c.args.process c.step.new.process c.in_ok-act.field-0.act c.note.new.effects
    (record {
      took = took_more c.args.program.now c.requires.typed c.args.number c.args.time c.loop-steps.steps c.args.process c.loop-steps.process c.loop-steps.invariant.fits c.step.new.process c.in_ok-act.field-0.left c.in_ok-act.field-0.act c.loop-steps.effects c.note.new.effects
          c.loop-steps.invariant.taken c.in_ok-act.ensures.row c.in_ok-note.ensures.effects;
      act = on_fits c.args.program.now c.requires.typed c.args.time c.loop-steps.process c.loop-steps.invariant.fits c.step.new.process c.in_ok-act.field-0.left c.in_ok-act.field-0.act c.in_ok-act.ensures.row;
      fits = c.in_ok-act.ensures.fits;
    })
    (sym c.in-Asleep.is ∙ c.in_ok-note.ensures.after) c.loop-steps-test.true

pub returns-in-Over : goal.returns-in-Over
returns-in-Over c =
    is_over c.args.program.now c.args.number c.args.time c.loop-steps.steps c.args.most c.args.process c.step.new.process c.in_ok-act.field-0.act c.note.new.effects
    (record {
      took = took_more c.args.program.now c.requires.typed c.args.number c.args.time c.loop-steps.steps c.args.process c.loop-steps.process c.loop-steps.invariant.fits c.step.new.process c.in_ok-act.field-0.left c.in_ok-act.field-0.act c.loop-steps.effects c.note.new.effects
          c.loop-steps.invariant.taken c.in_ok-act.ensures.row c.in_ok-note.ensures.effects;
      act = on_fits c.args.program.now c.requires.typed c.args.time c.loop-steps.process c.loop-steps.invariant.fits c.step.new.process c.in_ok-act.field-0.left c.in_ok-act.field-0.act c.in_ok-act.ensures.row;
      fits = c.in_ok-act.ensures.fits;
    })
    (sym c.in-Over.is ∙ c.in_ok-note.ensures.after) c.loop-steps-test.true

pub loop-steps-preserved : goal.loop-steps-preserved
loop-steps-preserved c =
    let on = goes_on c.args.program.now c.args.number c.args.time c.loop-steps.steps c.args.process c.step.new.process c.in_ok-act.field-0.act c.note.new.effects
    (record {
      took = took_more c.args.program.now c.requires.typed c.args.number c.args.time c.loop-steps.steps c.args.process c.loop-steps.process c.loop-steps.invariant.fits c.step.new.process c.in_ok-act.field-0.left c.in_ok-act.field-0.act c.loop-steps.effects c.note.new.effects
          c.loop-steps.invariant.taken c.in_ok-act.ensures.row c.in_ok-note.ensures.effects;
      act = on_fits c.args.program.now c.requires.typed c.args.time c.loop-steps.process c.loop-steps.invariant.fits c.step.new.process c.in_ok-act.field-0.left c.in_ok-act.field-0.act c.in_ok-act.ensures.row;
      fits = c.in_ok-act.ensures.fits;
    })
    (sym c.in-Ready.is ∙ c.in_ok-note.ensures.after) in
    record {
      taken = on.0;
      within = omega arith;
      fits = c.in_ok-act.ensures.fits;
      goes_on = on.1;
      none = c.in_ok-act.ensures.none;
    }
