-- The runs of the tests' programs: so many steps, and what the node answers between two of them.
use Rattle.std.specs.Prelude.{ℕ, ◌-◌, List, [], ◌∷◌, Option, Some, None, slice_get}
use Rattle.clu_tree.specs.declared.value.Value.{Value}
use Rattle.clu_tree.specs.declared.value.Sig.{Sig}
use Rattle.clu_tree.specs.declared.program.Routine.{Routine}
use Rattle.clu_tree.specs.declared.program.Program.{Program}
use Rattle.obj_region.specs.Answers.{region_seen}
use Rattle.obj_region.specs.Store.{Store}
use Rattle.machine_rules.specs.declared.frame.Frame.{Frame}
use Rattle.machine_rules.specs.Row.{World, Next, bare_world, give, raise, start}
use Rattle.machine_rules.specs.Runs.{Ran, after, run}
use Rattle.clu_eval.specs.Steps.{world_at}

-- Where a process stands.
pub record Standing : Type 0 where
  pub world : World
  pub frames : List Frame

-- where code has it: a program, a process's frames, a region's objects, and the node's variables
abbrev pub standing : Program → List Frame → Store → List (Option Value) → Standing
standing p frames objects vars = record { world = world_at p (region_seen objects) vars 0; frames = frames }

-- and then this
abbrev pub going : Option Standing → (Standing → Option Standing) → Option Standing
going None go = None
going (Some at) go = go at

-- the start of a routine
abbrev pub started : World → Option Routine → Option Standing
started w None = None
started w (Some r) = Some (record { world = w; frames = start 0 r [] })

-- the start of the first routine, on a node with these variables
abbrev pub begins : Program → List (Option Value) → Option Standing
begins p vars = started (record (bare_world p 0) { vars = vars }) (slice_get p.routines 0)

-- where a run ends
abbrev pub end_of : Option Ran → Option Standing
end_of None = None
end_of (Some ran) = Some (record { world = ran.world; frames = ran.frames })

-- so many steps
abbrev pub stepped : ℕ → Standing → Option Standing
stepped n at = end_of (run n at.world at.frames)

-- a step of this row
abbrev pub by : World → Option Next → Option Standing
by w None = None
by w (Some next) = Some (record { world = after next w; frames = next.frames })

-- the node gives a value
abbrev pub given_in : Value → World → List Frame → Option Standing
given_in v w [] = None
given_in v w (f ∷ fs) = Some (record { world = w; frames = give v (f ∷ fs) })

abbrev pub given : Value → Standing → Option Standing
given v at = given_in v at.world at.frames

-- the node raises an exception
abbrev pub raised_in : Sig → World → List Frame → Option Standing
raised_in sig w [] = None
raised_in sig w (f ∷ fs) = by w (raise w sig (f ∷ fs))

abbrev pub raised : Sig → Standing → Option Standing
raised sig at = raised_in sig at.world at.frames

-- n steps from the start
abbrev pub ran : ℕ → Program → List (Option Value) → Option Standing
ran n p vars = going (begins p vars) (stepped n)

-- n steps, an answer of the node, and the steps up to the last
abbrev pub ran_on : ℕ → (Standing → Option Standing) → ℕ → Program → Option Standing
ran_on n answer last p = going (going (ran n p []) answer) (stepped (last - n))
