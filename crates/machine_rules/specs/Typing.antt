-- When the values, the work and the frames of a process of a typed program are typed.
use Rattle.std.specs.Prelude.{◌≡◌, ◌≢◌, ℕ, List, [], ◌∷◌, ◌++◌, Option, Some, None, slice_get}
use Rattle.clu_tree.specs.Typed.{ExprHas, IsTypedStmt, LiteralHas}
use Rattle.clu_tree.specs.declared.value.Value.{Value}
use Rattle.clu_tree.specs.declared.shape.Shape.{Shape}
use Rattle.clu_tree.specs.declared.shape.Shape.TheVariants as shape
use Rattle.clu_tree.specs.declared.shape.Named.{Named, out-Named}
use Rattle.clu_tree.specs.declared.program.Routine.{Routine}
use Rattle.clu_tree.specs.declared.program.Program.{Program}
use Rattle.machine_rules.specs.declared.item.Item.{Item}
use Rattle.machine_rules.specs.declared.item.Item.TheVariants as i
use Rattle.machine_rules.specs.declared.frame.Frame.{Frame}
use Rattle.machine_rules.specs.declared.act.Act.{Act}
use Rattle.machine_rules.specs.declared.act.Act.TheVariants as act
use Rattle.machine_rules.specs.Row.{World, Next, start, row}

-- the value has the type; there are no objects yet
abbrev pub HasShape : Value → Shape → Type 0
HasShape v t = LiteralHas v t

-- the values have these types, one each
abbrev pub ValuesHave : List Value → List Shape → Type 0
ValuesHave [] [] = Unit {0}
ValuesHave [] (t ∷ ts) = ⊥
ValuesHave (v ∷ vs) [] = ⊥
ValuesHave (v ∷ vs) (t ∷ ts) = HasShape v t × ValuesHave vs ts

-- the arguments have the types of the parameters, one each
abbrev pub ArgsFit : List Value → List Named → Type 0
ArgsFit [] [] = Unit {0}
ArgsFit [] (x ∷ xs) = ⊥
ArgsFit (v ∷ vs) [] = ⊥
ArgsFit (v ∷ vs) (x ∷ xs) = HasShape v (out-Named x).shape × ArgsFit vs xs

-- the type of what a call gives
abbrev pub result_of : Option Shape → Shape
result_of None = shape.Null
result_of (Some t) = t

-- the item is typed where the frame's values have these types, and what comes behind it is typed with the types that
-- it leaves; the items that are not named are in no process yet
abbrev pub ItemFits : List Shape → Item → (List Shape → Type 0) → Type 0
ItemFits ts (i.Eval e) Rest = (t : Shape) × ExprHas e t × Rest (t ∷ ts)
ItemFits ts i.Fall Rest = Unit {0}
ItemFits ts (i.Exec s) Rest = (ts ≡ []) × IsTypedStmt s × Rest []
ItemFits ts i.Print Rest = (us : List Shape) × (ts ≡ shape.Str ∷ us) × Rest us
ItemFits ts i.Nap Rest = (us : List Shape) × (ts ≡ shape.Int ∷ us) × Rest us
ItemFits ts _ Rest = ⊥

-- the work is typed where the frame's values have these types
abbrev pub WorkFits : List Shape → List Item → Type 0
WorkFits ts [] = ⊥
WorkFits ts (item ∷ work) = ItemFits ts item (λ us. WorkFits us work)

-- What a frame keeps: its values are typed, and so is its work once values of the given types are on top of them.
pub record FrameFits (given : List Shape) (f : Frame) : Type 0 where
  pub shapes : List Shape
  pub values : ValuesHave f.values shapes
  pub work : WorkFits (given ++ shapes) f.work

-- the frames that wait for a call of r
abbrev pub BelowFit : Program → Routine → List Frame → Type 0
BelowFit p r [] = Unit {0}
BelowFit p r (f ∷ fs) =
    (q : Routine) × (slice_get p.routines f.routine ≡ Some q) × FrameFits (result_of r.result ∷ []) f × BelowFit p q fs

-- the frames of a process are typed; one that is over has none
abbrev pub FramesFit : Program → List Frame → Type 0
FramesFit p [] = Unit {0}
FramesFit p (f ∷ fs) = (r : Routine) × (slice_get p.routines f.routine ≡ Some r) × FrameFits [] f × BelowFit p r fs

-- the act is one of this part of the language, and the process is over exactly where it ended
abbrev pub ActFits : Act → List Frame → Type 0
ActFits act.Went frames = frames ≢ []
ActFits (act.Put text) frames = frames ≢ []
ActFits (act.Sleep ms) frames = frames ≢ []
ActFits (act.Ended v) frames = frames ≡ []
ActFits _ frames = ⊥

-- There is a row, the frames that it leaves are typed, its act fits them, and the objects stay as they are.
pub record IsSound (w : World) (p : Program) (row : Option Next) : Type 0 where
  pub next : Next
  pub is : row ≡ Some next
  pub store : next.store ≡ w.store
  pub typed : FramesFit p next.frames
  pub act : ActFits next.act next.frames

-- Each process begins typed; while it is typed and not over it has a row, and what the row leaves is typed.
pub record IsNeverStuck (p : Program) : Type 0 where
  pub starts : (k : ℕ) (r : Routine) (args : List Value) → slice_get p.routines k ≡ Some r → ArgsFit args r.params → FramesFit p (start k r args)
  pub goes_on : (w : World) (f : Frame) (fs : List Frame) → w.program ≡ p → FramesFit p (f ∷ fs) → IsSound w p (row w (f ∷ fs))
