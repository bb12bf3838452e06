-- A run goes on behind each of its steps.
use Rattle.std.proofs.Common.{◌≡◌, ℕ, suc, ◌<◌, List, Option, Some, None, refl, arith}
use Rattle.std.specs.Prelude.{◌-◌, ◌+◌}
use Rattle.clu_tree.specs.declared.value.Addr.{Addr}
use Rattle.clu_tree.specs.declared.value.Value.{Value}
use Rattle.clu_tree.specs.declared.program.Program.{Program}
use Rattle.obj_region.specs.Store.{Store}
use Rattle.eval_objects.specs.Seen.{took}
use Rattle.machine_rules.specs.declared.frame.Frame.{Frame}
use Rattle.machine_rules.specs.declared.act.Act.{Act}
use Rattle.machine_rules.specs.Row.{Next, row}
use Rattle.machine_rules.specs.Runs.{Ran, after, begun, run, vars_after}
use Rattle.machine_tests.specs.Examples.{Standing, end_of, standing, stepped}

-- what stands at the end doesn't show the step before
begun_end : (next : Next) (o : Option Ran) → end_of (begun next o) ≡ end_of o
begun_end next None = refl
begun_end next (Some ran) = refl

one_more : (n step : ℕ) → step < n → n - step ≡ suc (n - (step + 1))
one_more n step more = omega arith

-- a run of some steps goes on with what its first row leaves
pub goes_on : (last step : ℕ) (p : Program) (fs : List Frame) (objects : Store) (vars : List (Option Value)) (left : List Addr) (does : Act) (store : Store) (frames : List Frame) →
    step < last → row (standing p fs objects vars).world fs ≡ took left does store frames →
    stepped (last - step) (standing p fs objects vars) ≡ stepped (last - (step + 1)) (standing p frames store (vars_after does vars))
goes_on last step p fs objects vars left does store frames more e =
    let n : ℕ = last - (step + 1) in
    let at : Standing = standing p fs objects vars in
    let next : Next = record { left = left; act = does; store = store; frames = frames } in
    rw (one_more last step more, e) (begun_end next (run n (after next at.world) frames))
