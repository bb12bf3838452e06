-- What a step does to the node that the process lives on.
use Rattle.std.specs.Prelude.{◌≡◌, ◌≤◌, ◌<◌, ◌⊎◌, ℕ, ◌+◌, pos, nat_abs, int_le, if◌then◌else◌, List, [], ◌∷◌, Some, None, IsSome}
use Rattle.clu_tree.specs.declared.program.Program.{Program}
use Rattle.machine_rules.specs.declared.frame.Frame.{Frame}
use Rattle.machine_rules.specs.declared.act.Act.{Act}
use Rattle.machine_rules.specs.declared.act.Act.TheVariants as act
use Rattle.world_types.specs.declared.effects.Effects.{Effects}
use Rattle.world_types.specs.declared.effects.Mark.TheVariants as mark
use Rattle.world_rules.specs.Plain.{nothing}
use Rattle.world_rules.specs.Node.{Live, asleep, ready, steps}
use Rattle.world_rules.specs.Shown.{line_text}
use Rattle.node_core.specs.Seen.{IsRunning, live, state_of}
use Rattle.node_core.specs.declared.turn.After.{After}
use Rattle.node_core.specs.declared.turn.After.TheVariants as after
use Rattle.node_core.specs.declared.turn.Ran.{Ran}

-- the effects of a step of the process 1 at the node
abbrev pub noted : ℕ → Act → Effects
noted node (act.Put text) = record nothing { lines = record { node = node; text = line_text node text } ∷ [] }
noted node (act.Ended value) = record nothing { marks = mark.Ended 1 ∷ [] }
noted node _ = nothing

-- what the process does behind a step at the time; a sleep of 0 ms or less has no limit
abbrev pub after_of : ℕ → Act → After
after_of time (act.Sleep ms) = if int_le ms (pos 0) then after.Ready else after.Asleep (time + nat_abs ms)
after_of time (act.Ended value) = after.Over
after_of time _ = after.Ready

-- the act is one that a process of this part of the language has
abbrev pub IsNoted : Act → Type 0
IsNoted act.Went = Unit {0}
IsNoted (act.Put text) = Unit {0}
IsNoted (act.Sleep ms) = Unit {0}
IsNoted (act.Ended value) = Unit {0}
IsNoted _ = ⊥

-- what is left of the process with these frames
abbrev pub left_of : After → List Frame → List Live
left_of after.Ready frames = ready 1 frames ∷ []
left_of (after.Asleep limit) frames = asleep 1 limit frames ∷ []
left_of after.Over frames = []

-- What is left of a process after a turn of at most so many steps, which began with these frames at the time: fewer
-- steps than that only where it is over or sleeps.
pub record RanTo (program : Program) (number : ℕ) (frames : List Frame) (time most : ℕ) (ran : Ran) : Type 0 where
  pub taken : steps program 1 ran.steps (state_of number (ready 1 frames ∷ []) 1 time) ≡ Some (state_of number (live ran.process ran.asleep) 1 time, ran.effects)
  pub some : 1 ≤ ran.steps
  pub within : ran.steps ≤ most
  pub early : ran.steps < most → (ran.process ≡ None) ⊎ IsSome ran.asleep
  pub slept : ran.process ≡ None → ran.asleep ≡ None
  pub fits : IsRunning program ran.process
