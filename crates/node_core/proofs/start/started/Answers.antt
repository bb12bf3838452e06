use Rattle.std.proofs.Common.{◌≡◌, [], Some, refl, sym, ap, ◌∙◌}
use Rattle.std.specs.Prelude.{slice_get}
use Rattle.clu_tree.specs.declared.program.NodePart.TheVariants.{Start}
use Rattle.node_core.proofs.Starts.{begun, is_named, named, not_over, starts_none, starts_with, takes_none}
use Rattle.node_core.proofs.start.started.Goals as goal

pub unreachable-requires-in_default-place_of : goal.unreachable-requires-in_default-place_of
unreachable-requires-in_default-place_of c =
    let part : Some (Start c.in-Some-Start.name c.in-Some-Start.field-0-1 c.in-Some-Start.field-0-2) ≡ slice_get c.in-Some.block.now.parts 0 = ap Some (sym c.in-Some-Start.field-0-is) ∙ c.in-Some-Start.ensures.value in
    is_named c.args.program.now c.in-Some-Start.name (begun _ _ _ _ _ c.requires c.in-Some.ensures.value part).there
    (rw c.as_slice.ensures at c.in_default-place_of.ensures)

pub new-requires-in-Some-Start : goal.new-requires-in-Some-Start
new-requires-in-Some-Start c =
    let n = named c.args.program.now c.in-Some-Start.name c.in-Some-place_of.place (rw c.as_slice.ensures at c.in-Some-place_of.ensures) in
    rw n.at refl

pub returns-in-None : goal.returns-in-None
returns-in-None c = (starts_none c.args.program.now c.in-Some.block.now c.requires c.in-Some.ensures.value c.in-None.ensures.value, tt)

pub returns-in_ok-process-in-Some-Start : goal.returns-in_ok-process-in-Some-Start
returns-in_ok-process-in-Some-Start c =
    let part : Some (Start c.in-Some-Start.name c.in-Some-Start.field-0-1 c.in-Some-Start.field-0-2) ≡ slice_get c.in-Some.block.now.parts 0 = ap Some (sym c.in-Some-Start.field-0-is) ∙ c.in-Some-Start.ensures.value in
    let n = named c.args.program.now c.in-Some-Start.name c.in-Some-place_of.place (rw c.as_slice.ensures at c.in-Some-place_of.ensures) in
    let first = rw c.new.ensures.items at c.in_ok-process-in-Some-Start.ensures n.routine n.at in (
      starts_with c.args.program.now c.in-Some.block.now c.in-Some-Start.name c.in-Some-Start.field-0-1 c.in-Some-Start.field-0-2 c.in-Some-place_of.place c.in_ok-process-in-Some-Start.process c.requires c.in-Some.ensures.value part n first,
      (rw first ((c.never_stuck.ensures c.args.program.now c.requires).starts c.in-Some-place_of.place n.routine [] n.at (takes_none c.args.program.now c.in-Some-place_of.place n.routine c.requires n.at)), not_over c.in_ok-process-in-Some-Start.process c.in-Some-place_of.place n.routine first),
    )
