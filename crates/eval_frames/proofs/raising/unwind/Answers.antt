use Rattle.std.proofs.Common.{◌≡◌, [], ◌∷◌, ◌++◌, List, sym, ◌∙◌, ap, refl}
use Rattle.std.proofs.lemmas.Result.{IfOk-weaker}
use Rattle.machine_rules.specs.declared.frame.Frame.{Frame}
use Rattle.machine_rules.specs.Exceptions.{Lands, landing, unwind}
use Rattle.eval_frames.proofs.Unwinding.{handles, passes}
use Rattle.eval_frames.proofs.raising.unwind.Goals as goal

pub returns-in-Handles : goal.returns-in-Handles
returns-in-Handles g c =
    let before = c.loop-frame in
    let lands : landing before.sig.name c.in-Some.frame.work ≡ Lands c.in-Handles.variable c.in-Handles.body c.in_ok-by.field-0.gone c.land.new.work = rw c.in-Handles.is at c.in_ok-by.ensures.landing in
    let here = handles g.w before.left c.in_ok-by.field-0.gone before.sig c.in-Some.frame c.pop.new.self c.in-Handles.variable c.in-Handles.body c.land.new.work lands in
    IfOk-weaker c.handle.result _ _ (λ end h. sym before.invariant ∙ ap (λ (fs : List Frame). unwind g.w before.left before.sig fs) c.in-Some.ensures ∙ here ∙ rw (← c.in_ok-append.ensures) (h g.w)) c.handle.ensures

pub loop-frame-preserved : goal.loop-frame-preserved
loop-frame-preserved g c =
    let before = c.loop-frame in
    let here = passes g.w before.left c.in_ok-by.field-0.gone before.sig c.in-Some.frame c.pop.new.self c.in_ok-by.field-0.by c.land.new.work c.in_ok-by.ensures.landing c.in_ok-by.ensures.locks c.in_default-by.not-Handles in
    rw (c.in_ok-append-2.ensures, c.in_ok-append.ensures, c.in_ok-leaves.ensures, c.in_ok-sig.ensures) (sym here ∙ rw c.in-Some.ensures at before.invariant)
