-- An exception is raised in a frame: where it lands, and how frames end by it.
use Rattle.std.specs.Prelude.{ℕ, Bool, if◌then◌else◌, List, [], ◌∷◌, ◌++◌, map, codes, Option, Some, None}
use Rattle.std.specs.List.{list_any}
use Rattle.std.specs.Str.{bytes_eq}
use Rattle.clu_tree.specs.declared.value.Addr.{Addr}
use Rattle.clu_tree.specs.declared.value.Value.{Value}
use Rattle.clu_tree.specs.declared.value.Value.TheVariants as value
use Rattle.clu_tree.specs.declared.value.Sig.{Sig}
use Rattle.clu_tree.specs.declared.shape.Named.{Named, out-Named}
use Rattle.clu_tree.specs.declared.tree.Stmt.{Stmt}
use Rattle.clu_tree.specs.declared.tree.Handlers.{out-Handlers}
use Rattle.clu_tree.specs.declared.tree.When.{When, out-When}
use Rattle.machine_rules.specs.declared.item.Catch.{Catch}
use Rattle.machine_rules.specs.declared.item.Catch.TheVariants.{Handle, Pass}
use Rattle.machine_rules.specs.declared.item.Item.{Item}
use Rattle.machine_rules.specs.declared.item.Item.TheVariants as i
use Rattle.machine_rules.specs.declared.frame.Var.{Var}
use Rattle.machine_rules.specs.declared.frame.Frame.{Frame}
use Rattle.machine_rules.specs.declared.act.Act.TheVariants as act
use Rattle.machine_rules.specs.World.{World, Next, gives}
use Rattle.machine_rules.specs.Frames.{declare, leaves, with, with_vars}

-- the exception of this name, without a value
abbrev pub signal : List ℕ → Sig
signal name = record { name = name; value = None }

-- failure, with what went wrong
abbrev pub failure : List ℕ → Sig
failure text = record { name = codes "failure"; value = Some (value.Str text) }

-- what leaves a frame in which nothing takes s
abbrev pub outgoing : Sig → Sig
outgoing s =
    if bytes_eq s.name (codes "failure") then s else failure (codes "unhandled exception: " ++ s.name)

-- ---- what a guard does with an exception

-- A guard lets it pass outward, handles it by a body with a variable or without one, or ends the frame raising it.
pub data Taken : Type 0 where
  Lets : Taken
  Handles : Option Named → List Stmt → Taken
  Passes : Taken

-- the name is one of these
abbrev pub is_named : List ℕ → List (List ℕ) → Bool
is_named n names = list_any (bytes_eq n) names

-- by `others`, where it is there
abbrev pub by_others : Option (List Stmt) → Taken
by_others None = Lets
by_others (Some body) = Handles None body

-- by the first `when` that names it, else by `others`
abbrev pub by_whens : List ℕ → List When → Option (List Stmt) → Taken
by_whens n [] others = by_others others
by_whens n (x ∷ xs) others =
    if is_named n (out-When x).names then Handles (out-When x).variable (out-When x).body else by_whens n xs others

abbrev pub taken : List ℕ → Catch → Taken
taken n (Handle hs) = by_whens n (out-Handlers hs).whens (out-Handlers hs).others
taken n (Pass names) = if is_named n names then Passes else Lets

-- ---- where it lands in the work of a frame

-- It lands at a handler, with the locks given back on the way and the work behind the guard; at a resignal; or nowhere.
pub data Landing : Type 0 where
  Nowhere : Landing
  Lands : Option Named → List Stmt → List Addr → List Item → Landing
  Resignals : Landing

-- the same, where this lock is given back before
abbrev pub behind : Addr → Landing → Landing
behind a (Lands x body left work) = Lands x body (a ∷ left) work
behind a Nowhere = Nowhere
behind a Resignals = Resignals

-- at a guard that does this with it, with this work behind it, or else further outward
abbrev pub lands_at : Taken → List Item → Landing → Landing
lands_at Lets work outer = outer
lands_at (Handles x body) work outer = Lands x body [] work
lands_at Passes work outer = Resignals

-- work items are dropped down to the first guard that takes it
abbrev pub landing : List ℕ → List Item → Landing
landing n [] = Nowhere
landing n (i.Guard c ∷ work) = lands_at (taken n c) work (landing n work)
landing n (i.Leave a ∷ work) = behind a (landing n work)
landing n (_ ∷ work) = landing n work

-- ---- how it goes on

-- what is raised in the frame below: s itself by a resignal
abbrev pub leaving : Landing → Sig → Sig
leaving Resignals s = s
leaving _ s = outgoing s

-- the variables with the handler's; there is no row where the exception lacks the value
abbrev pub caught : Option Named → Option Value → List Var → Option (List Var)
caught None value vars = Some vars
caught (Some x) None vars = None
caught (Some x) (Some v) vars = Some (declare (out-Named x).name (out-Named x).shape (Some v) vars)

-- the frame goes on with the handler's body; a statement begins with no values of its frame, and so does a handler
abbrev pub handled : World → List Addr → Frame → List Frame → List Item → Option (List Var) → Option Next
handled w left f fs work None = None
handled w left f fs work (Some vars) = gives w left act.Went (with_vars f vars work [] ∷ fs)

-- the frame handles it, or it is raised in the frame below
abbrev pub lands : World → List Addr → Sig → Frame → List Frame → Landing → Option Next → Option Next
lands w left s f fs Nowhere below = below
lands w left s f fs Resignals below = below
lands w left s f fs (Lands x body gone work) below = handled w (left ++ gone) f fs (map i.Exec body ++ work) (caught x s.value f.vars)

-- s is raised in the first frame, after these locks were given back; where there is none the process dies of it
abbrev pub unwind : World → List Addr → Sig → List Frame → Option Next
unwind w left s [] = gives w left (act.Died s) []
unwind w left s (f ∷ fs) =
    lands w left s f fs (landing s.name f.work) (unwind w (left ++ leaves f.work) (leaving (landing s.name f.work) s) fs)

-- a step of this frame raises s, with this work behind the step; no value of the frame outlives it
abbrev pub raises : World → Sig → Frame → List Frame → List Item → Option Next
raises w s f fs work = unwind w [] s (with f work [] ∷ fs)

-- a step of this frame raises failure
abbrev pub fails : World → List ℕ → Frame → List Frame → List Item → Option Next
fails w text f fs work = raises w (failure text) f fs work
