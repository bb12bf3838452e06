use Rattle.std.proofs.Common.{◌≡◌, sym, ◌∙◌, pos, ◌+ℤ◌, true, if◌then◌else◌, Some, None, slice_get, rules}
use Rattle.obj_region.specs.Store.{array_at, in_bounds, is_array, item_at}
use Rattle.eval_frames.proofs.Rows.{here}
use Rattle.eval_objects.proofs.Rows.{each_is, each_over}
use Rattle.eval_objects.proofs.rounds.each.Goals as goal

pub returns-in_default : goal.returns-in_default
returns-in_default g c =
    let h : is_array (slice_get g.w.store c.args.at.0) ≡ true = search rules in
    let i : c.index_after.result ≡ (if in_bounds (array_at g.w.store c.args.at.0) c.args.index then Some (c.args.index +ℤ pos 1) else None) = search rules in
    here g.w _ _ _ _ c.goes.ensures (each_over g.w c.args.frame c.args.frames.now c.args.frame.work c.args.name c.args.shape c.args.body c.args.at c.args.index h (λ next e. c.in_default.not-Some next (i ∙ e)))

pub returns-in-Ok : goal.returns-in-Ok
returns-in-Ok g c =
    let h : is_array (slice_get g.w.store c.args.at.0) ≡ true = search rules in
    let i : c.index_after.result ≡ (if in_bounds (array_at g.w.store c.args.at.0) c.args.index then Some (c.args.index +ℤ pos 1) else None) = search rules in
    let o : item_at (array_at g.w.store c.args.at.0) c.args.index ≡ Some c.in-Ok.value = search rules in
    here g.w _ _ _ _ c.round.ensures (each_is g.w c.args.frame c.args.frames.now c.args.frame.work c.args.name c.args.shape c.args.body c.args.at c.args.index c.in-Some.next _ c.in-Ok.value h (sym c.in-Some.is ∙ i) o (search rules))
