use Rattle.std.proofs.Common.{◌≡◌, drop}
use Rattle.world_rules.specs.Node.{routine_named}
use Rattle.node_core.proofs.start.place_of.Given as goal

abbrev pub invariant-loop-place : goal.invariant-loop-place
invariant-loop-place l = routine_named l.name l.place (drop l.place l.routines) ≡ routine_named l.name 0 l.routines
