-- What a step does with the locks that its process holds, and when it isn't taken.
use Rattle.std.specs.Prelude.{◌≡◌, ◌<◌, false, List, [], ◌∷◌, ◌++◌, Some}
use Rattle.clu_tree.specs.declared.value.Addr.{Addr}
use Rattle.clu_tree.specs.declared.value.Sig.{Sig}
use Rattle.machine_rules.specs.declared.frame.Frame.{Frame}
use Rattle.machine_rules.specs.declared.act.Act.{Act}
use Rattle.machine_rules.specs.declared.act.Act.TheVariants as act
use Rattle.machine_rules.specs.Frames.{held, is_held}
use Rattle.machine_rules.specs.Row.{World, Next, raise, row}

-- The locks held before are those given back and, behind them, those still held. A lock that is entered wasn't held, and
-- is the innermost one then. A process that is given up holds none.
abbrev pub LocksKept : List Addr → Act → List Addr → List Addr → Type 0
LocksKept before (act.Enter a) left after = (is_held a before ≡ false) × (left ≡ []) × (after ≡ a ∷ before)
LocksKept before act.Old left after = (left ≡ []) × (after ≡ [])
LocksKept before _ left after = left ++ after ≡ before

-- each step of a process with these frames keeps account of its locks
abbrev pub KeepsLocks : World → List Frame → Type 0
KeepsLocks w frames = (next : Next) → row w frames ≡ Some next → LocksKept (held frames) next.act next.left (held next.frames)

-- so does an exception that the node raises in it
abbrev pub KeepsRaised : World → Sig → List Frame → Type 0
KeepsRaised w s frames = (next : Next) → raise w s frames ≡ Some next → LocksKept (held frames) next.act next.left (held next.frames)

-- a step of a process with these frames is taken, unless there are objects that may not change
abbrev pub IsTakenIfFree : World → List Frame → Type 0
IsTakenIfFree w frames = (next : Next) → row w frames ≡ Some next → next.act ≡ act.Old → 0 < w.bound
