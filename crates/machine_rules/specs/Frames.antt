-- The frames of a process: how one begins, what it keeps, and how it ends.
use Rattle.std.specs.Prelude.{ℕ, Bool, if◌then◌else◌, ◌==◌, List, [], ◌∷◌, ◌++◌, map, find, Option, Some, None}
use Rattle.std.specs.List.{list_any}
use Rattle.std.specs.Str.{bytes_eq}
use Rattle.clu_tree.specs.declared.value.Addr.{Addr}
use Rattle.clu_tree.specs.declared.value.Value.{Value}
use Rattle.clu_tree.specs.declared.shape.Shape.{Shape}
use Rattle.clu_tree.specs.declared.shape.Named.{Named, out-Named}
use Rattle.clu_tree.specs.declared.program.Routine.{Routine}
use Rattle.machine_rules.specs.declared.item.Item.{Item}
use Rattle.machine_rules.specs.declared.item.Item.TheVariants as i
use Rattle.machine_rules.specs.declared.frame.Var.{Var}
use Rattle.machine_rules.specs.declared.frame.Frame.{Frame}
use Rattle.machine_rules.specs.declared.act.Act.TheVariants as act
use Rattle.machine_rules.specs.World.{World, Next, gives}

-- ---- variables by name

-- the variable of this name
abbrev pub found : List ℕ → List Var → Option Var
found x vars = find (λ (v : Var). bytes_eq x v.name) vars

-- the variables with this one declared: it takes the place of one of its name, else it is the last
abbrev pub declare : List ℕ → Shape → Option Value → List Var → List Var
declare x shape value [] = record { name = x; shape = shape; value = value } ∷ []
declare x shape value (v ∷ vs) =
    if bytes_eq x v.name then record { name = x; shape = shape; value = value } ∷ vs else v ∷ declare x shape value vs

-- this variable comes before the others, where there are any
abbrev pub before : Var → Option (List Var) → Option (List Var)
before v None = None
before v (Some vs) = Some (v ∷ vs)

-- the variables with this value in the one of this name, where there is one
abbrev pub assign : List ℕ → Value → List Var → Option (List Var)
assign x value [] = None
assign x value (v ∷ vs) =
    if bytes_eq x v.name then Some (record v { value = Some value } ∷ vs) else before v (assign x value vs)

-- the variables with each parameter declared as its argument
abbrev pub bind : List Var → List Named → List Value → List Var
bind vars [] args = vars
bind vars (x ∷ xs) [] = vars
bind vars (x ∷ xs) (v ∷ vs) = bind (declare (out-Named x).name (out-Named x).shape (Some v) vars) xs vs

-- ---- what a frame becomes

-- the frame with this work and these values
abbrev pub with : Frame → List Item → List Value → Frame
with f work values = record { routine = f.routine; line = f.line; vars = f.vars; work = work; values = values }

-- the frame with these variables, this work and these values
abbrev pub with_vars : Frame → List Var → List Item → List Value → Frame
with_vars f vars work values = record { routine = f.routine; line = f.line; vars = vars; work = work; values = values }

-- the frame at this line
abbrev pub at_line : Frame → ℕ → Frame
at_line f line = record { routine = f.routine; line = line; vars = f.vars; work = f.work; values = f.values }

-- the frame of a call of the routine at the place k, at its header's line, with its body and the body's end to do
abbrev pub entry : ℕ → Routine → List Value → Frame
entry k r args = record { routine = k; line = r.line; vars = bind [] r.params args; work = map i.Exec r.body ++ i.Fall ∷ []; values = [] }

-- the frames with which a process begins that calls the routine at the place k
abbrev pub start : ℕ → Routine → List Value → List Frame
start k r args = entry k r args ∷ []

-- ---- locks

-- the locks that these items would give back, in order
abbrev pub leaves : List Item → List Addr
leaves [] = []
leaves (i.Leave a ∷ work) = a ∷ leaves work
leaves (_ ∷ work) = leaves work

-- the locks that a process with these frames holds, innermost first
abbrev pub held : List Frame → List Addr
held [] = []
held (f ∷ fs) = leaves f.work ++ held fs

-- the lock is one of these
abbrev pub is_held : Addr → List Addr → Bool
is_held a locks = list_any (λ (b : Addr). a.0 == b.0) locks

-- ---- ends

-- a frame ended with v, which is a value of the frame below; where there is none the process is over
abbrev pub ends : World → List Addr → Value → List Frame → Option Next
ends w left v [] = gives w left (act.Ended v) []
ends w left v (f ∷ fs) = gives w left act.Went (with f f.work (v ∷ f.values) ∷ fs)
