-- Where a step of a process is taken, and what it gives.
use Rattle.std.specs.Prelude.{ℕ, List, [], Option, Some, None}
use Rattle.clu_tree.specs.declared.value.Addr.{Addr}
use Rattle.clu_tree.specs.declared.value.Value.{Value}
use Rattle.clu_tree.specs.declared.program.Program.{Program}
use Rattle.obj_region.specs.Store.{Store}
use Rattle.obj_region.specs.Answers.{StoreSeen}
use Rattle.machine_rules.specs.declared.frame.Frame.{Frame}
use Rattle.machine_rules.specs.declared.act.Act.{Act}
use Rattle.machine_rules.specs.declared.act.Act.TheVariants as act

-- Where a step is taken: the program, the node's objects by address, the bound below which no object may change, the
-- node's variables and its time.
pub record World : Type 0 where
  pub program : Program
  pub store : Store
  pub bound : ℕ
  pub vars : List (Option Value)
  pub time : ℕ

-- the world of a program that makes no objects and has no node variables
abbrev pub bare_world : Program → ℕ → World
bare_world program time = record { program = program; store = []; bound = 0; vars = []; time = time }

-- the store of the world
abbrev pub store_of : World → StoreSeen
store_of w = record { objects = w.store; bound = w.bound; below = []; lender = None }

-- What a step gives: the locks given back, innermost first, its act, the objects, and the frames from the innermost.
pub record Next : Type 0 where
  pub left : List Addr
  pub act : Act
  pub store : Store
  pub frames : List Frame

-- these locks are given back, and the objects stay as they are
abbrev pub gives : World → List Addr → Act → List Frame → Option Next
gives w left does frames = Some (record { left = left; act = does; store = w.store; frames = frames })

-- the process goes on with these frames
abbrev pub goes : World → List Frame → Option Next
goes w frames = gives w [] act.Went frames

-- the step isn't taken, since it would change an object that may not change, and the process is given up
abbrev pub gives_up : World → Option Next
gives_up w = gives w [] act.Old []
