-- Lemmas on one frame of an unwinding.
use Rattle.std.proofs.Common.{◌≡◌, List, [], ◌∷◌, ◌++◌, map, Option, refl, sym, ◌∙◌, ap, append_assoc}
use Rattle.clu_tree.specs.declared.value.Addr.{Addr}
use Rattle.clu_tree.specs.declared.value.Sig.{Sig}
use Rattle.clu_tree.specs.declared.shape.Named.{Named}
use Rattle.clu_tree.specs.declared.tree.Stmt.{Stmt}
use Rattle.machine_rules.specs.declared.item.Item.{Item}
use Rattle.machine_rules.specs.declared.item.Item.TheVariants.{Exec}
use Rattle.machine_rules.specs.declared.frame.Frame.{Frame}
use Rattle.machine_rules.specs.World.{World}
use Rattle.machine_rules.specs.Frames.{leaves}
use Rattle.machine_rules.specs.Exceptions.{Lands, caught, handled, landing, leaving, unwind}
use Rattle.eval_frames.specs.Landings.{found}
use Rattle.eval_frames.specs.Takes.{seen}
use Rattle.eval_frames.specs.declared.landing.Taken.{Taken}
use Rattle.eval_frames.specs.declared.landing.Taken.TheVariants as code

-- a frame handles it
pub handles : (w : World) (left gone : List Addr) (s : Sig) (f : Frame) (fs : List Frame) (x : Option Named) (body : List Stmt) (work : List Item) →
    landing s.name f.work ≡ Lands x body gone work → unwind w left s (f ∷ fs) ≡ handled w (left ++ gone) f fs (map Exec body ++ work) (caught x s.value f.vars)
handles w left gone s f fs x body work e = rw e refl

-- a frame doesn't handle it
pub passes : (w : World) (left gone : List Addr) (s : Sig) (f : Frame) (fs : List Frame) (by : Taken) (work : List Item) → landing s.name f.work ≡ found (seen by) gone work →
    leaves f.work ≡ gone ++ leaves work → ((x : Option Named) (body : List Stmt) → by ≡ code.Handles x body → ⊥) →
    unwind w left s (f ∷ fs) ≡ unwind w ((left ++ gone) ++ leaves work) (leaving (found (seen by) [] []) s) fs
passes w left gone s f fs code.Lets work e locks not = rw (e, locks, append_assoc) refl
passes w left gone s f fs (code.Handles x body) work e locks not = absurd (not x body refl)
passes w left gone s f fs code.Passes work e locks not = rw (e, locks, append_assoc) refl
