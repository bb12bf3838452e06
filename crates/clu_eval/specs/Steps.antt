-- The world in which a step is taken, as code has it.
use Rattle.std.specs.Prelude.{ℕ, List, Option}
use Rattle.clu_tree.specs.declared.program.Program.{Program}
use Rattle.clu_tree.specs.declared.value.Value.{Value}
use Rattle.obj_region.specs.Answers.{StoreSeen}
use Rattle.machine_rules.specs.World.{World}

-- the world of a program, a store, node variables and a time
abbrev pub world_at : Program → StoreSeen → List (Option Value) → ℕ → World
world_at program seen vars time = record { program = program; store = seen.objects; bound = seen.bound; vars = vars; time = time }
