use Rattle.std.proofs.Common.{◌≡◌, true, false, None, Some, List, slice_set, ap, sym, ◌∙◌}
use Rattle.clu_tree.specs.declared.shape.Shape.{Shape}
use Rattle.machine_rules.specs.declared.frame.Var.{Var}
use Rattle.eval_frames.specs.Places.{IsMissing}
use Rattle.eval_frames.proofs.Names.{assign-missing, assign-at}
use Rattle.eval_frames.proofs.vars.assign.Goals as goal

pub unreachable-requires : goal.unreachable-requires
unreachable-requires c =
    let m : IsMissing c.args.name c.args.vars.now = rw (← c.as_slice.ensures) c.in-None.ensures.place in
    let none = assign-missing c.args.name c.args.value c.args.vars.now m in
    let same : false ≡ true = rw none at c.requires in
    cc

pub returns : goal.returns
returns c =
    let first = assign-at c.args.name c.args.value c.args.vars.now c.as_slice-in-Some.result.now c.in-Some.i c.index-as_slice-i.result (rw c.as_slice.ensures at c.in-Some.ensures.place) c.as_slice-in-Some.ensures in
    let with_shape : Shape → List Var = λ t. slice_set c.args.vars.now c.in-Some.i (record { name = c.args.name; shape = t; value = Some c.args.value }) in
    first ∙ ap Some (sym (c.set.ensures ∙ ap with_shape c.in_ok-shape-in-Some.ensures))
