-- What holds of a row in every world, and rows that are another one.
use Rattle.std.proofs.Common.{◌≡◌, List, Option, Some, IfOk, Result, Ok, Err, ◌∙◌}
use Rattle.std.specs.declared.alloc.AllocError.{AllocError}
use Rattle.obj_region.specs.Store.{Store}
use Rattle.machine_rules.specs.declared.frame.Frame.{Frame}
use Rattle.machine_rules.specs.declared.act.StepEnd.{StepEnd}
use Rattle.machine_rules.specs.World.{World, Next, gives}

-- a row is another one in this world, and that one is known in every world
pub here : (w : World) (r : Result StepEnd AllocError) (x : World → Option Next) (after : List Frame) (row : Option Next) → IfOk r (λ end. (v : World) → x v ≡ gives v end.left end.act after) → row ≡ x w → IfOk r (λ end. row ≡ gives w end.left end.act after)
here w (Ok end) x after row h e = e ∙ h w
here w (Err error) x after row h e = tt

-- a row is another one in every world, so what holds of that one holds of it
pub through : (r : Result StepEnd AllocError) (x row : World → Option Next) (after : List Frame) → IfOk r (λ end. (w : World) → x w ≡ gives w end.left end.act after) → ((w : World) → row w ≡ x w) → IfOk r (λ end. (w : World) → row w ≡ gives w end.left end.act after)
through (Ok end) x row after h e = λ w. e w ∙ h w
through (Err error) x row after h e = tt

-- a row is another one, which leaves these objects and these frames
pub by_row : (store : Store) (r : Result StepEnd AllocError) (x : Option Next) (after : List Frame) (row : Option Next) → IfOk r (λ end. x ≡ Some (record { left = end.left; act = end.act; store = store; frames = after })) → row ≡ x → IfOk r (λ end. row ≡ Some (record { left = end.left; act = end.act; store = store; frames = after }))
by_row store (Ok end) x after row h e = e ∙ h
by_row store (Err error) x after row h e = tt
