-- Runs of steps: the world after each, and what is told by all.
use Rattle.std.specs.Prelude.{ℕ, zero, suc, List, [], ◌∷◌, ◌++◌, Option, Some, None, slice_set}
use Rattle.clu_tree.specs.declared.value.Addr.{Addr}
use Rattle.clu_tree.specs.declared.value.Value.{Value}
use Rattle.machine_rules.specs.declared.frame.Frame.{Frame}
use Rattle.machine_rules.specs.declared.act.Act.{Act}
use Rattle.machine_rules.specs.declared.act.Act.TheVariants as act
use Rattle.machine_rules.specs.Row.{World, Next, row}

-- What a run leaves: the world, the frames, the acts but for going on, and the locks given back.
pub record Ran : Type 0 where
  pub world : World
  pub frames : List Frame
  pub acts : List Act
  pub left : List Addr

-- the node's variables after an act
abbrev pub vars_after : Act → List (Option Value) → List (Option Value)
vars_after (act.SetVar k v) vars = slice_set vars k (Some v)
vars_after _ vars = vars

-- the world after a step
abbrev pub after : Next → World → World
after next w = record w { store = next.store; vars = vars_after next.act w.vars }

abbrev pub told : Act → List Act → List Act
told act.Went acts = acts
told does acts = does ∷ acts

-- one step, and then this
abbrev pub first : Next → Ran → Ran
first next ran = record { world = ran.world; frames = ran.frames; acts = told next.act ran.acts; left = next.left ++ ran.left }

abbrev pub begun : Next → Option Ran → Option Ran
begun next None = None
begun next (Some ran) = Some (first next ran)

abbrev pub stepping : Option Next → (Next → Option Ran) → Option Ran
stepping None go = None
stepping (Some next) go = begun next (go next)

-- exactly n steps
abbrev pub run : ℕ → World → List Frame → Option Ran
run zero w frames = Some (record { world = w; frames = frames; acts = []; left = [] })
run (suc n) w frames = stepping (row w frames) (λ next. run n (after next w) next.frames)
