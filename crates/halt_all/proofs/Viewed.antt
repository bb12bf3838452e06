-- What the change of a flag, or of the last round, changes of what is said.
use Rattle.std.proofs.Common.{◌≡◌, ℕ, ◌+◌, ◌-◌, ◌≤◌, Bool, true, false, List, length, set, get_or, reverse, Some, IsSome, refl, ap, ◌∙◌, arith, length-set}
use Rattle.std.specs.FinSet.{insert, remove}
use Rattle.world_types.specs.Rounds.{Round, closed, opening}
use Rattle.halt_all.specs.Halting.{Halting, flagged, halting_of}
use Rattle.halt_all.proofs.Flags.{flagged_raised, flagged_lowered}
use Rattle.halt_all.proofs.Newest.{reverse-closed}

pub raised : (flags : List Bool) (rounds : List Round) (node : ℕ) (said : Halting) → halting_of flags rounds ≡ said → 1 ≤ node → node ≤ said.nodes →
    halting_of (set flags (node - 1) true) rounds ≡ record said { halted = insert said.halted node }
raised flags rounds node said is first last =
    let nodes : node ≤ length flags = rw (← is) at last in
    let place : 1 + (node - 1) ≡ node = omega arith in
    let halts : flagged 1 (set flags (node - 1) true) ≡ insert (flagged 1 flags) node = flagged_raised 1 (node - 1) flags (omega arith) ∙ ap (λ n. insert (flagged 1 flags) n) place in
    rw (← is, halts, length-set) refl

pub lowered : (flags : List Bool) (rounds : List Round) (node : ℕ) (said : Halting) → halting_of flags rounds ≡ said → 1 ≤ node → node ≤ said.nodes →
    halting_of (set flags (node - 1) false) rounds ≡ record said { halted = remove said.halted node }
lowered flags rounds node said is first last =
    let nodes : node ≤ length flags = rw (← is) at last in
    let place : 1 + (node - 1) ≡ node = omega arith in
    let runs : flagged 1 (set flags (node - 1) false) ≡ remove (flagged 1 flags) node = flagged_lowered 1 (node - 1) flags (omega arith) ∙ ap (λ n. remove (flagged 1 flags) n) place in
    rw (← is, runs, length-set) refl

pub closed_last : (flags : List Bool) (rounds : List Round) (old : Round) (i b : ℕ) (said : Halting) → halting_of flags rounds ≡ said → IsSome (opening said.rounds) → i ≡ length rounds - 1 → old ≡ get_or rounds i old →
    halting_of flags (set rounds i (record { opens = old.opens; closes = Some b })) ≡ record said { rounds = closed b said.rounds }
closed_last flags rounds old i b said is is_open at last =
    let opens : IsSome (opening (reverse rounds)) = rw (← is) at is_open in
    let closes : reverse (set rounds i (record { opens = old.opens; closes = Some b })) ≡ closed b (reverse rounds) = reverse-closed rounds old i b opens at last in
    rw (← is, closes) refl
