-- What one step of a process does: the first item of the innermost frame's work decides.
--
-- What a name or an operator stands for is read off its `meant`. The typing rules say what each means, by names, and a
-- checked program has its trees filled with just that; so in such a program this is what the names say.
use Rattle.std.specs.Prelude.{ℕ, ℤ, ◌+ℤ◌, pos, Bool, true, false, if◌then◌else◌, ◌==◌, nat_lt, int_lt, List, [], ◌∷◌, ◌++◌, length, map, codes, Option, Some, None, slice_get}
use Rattle.clu_tree.specs.declared.op.Op.TheVariants as op
use Rattle.clu_tree.specs.declared.value.Addr.{Addr}
use Rattle.clu_tree.specs.declared.value.Value.{Value}
use Rattle.clu_tree.specs.declared.value.Value.TheVariants as value
use Rattle.clu_tree.specs.declared.value.Sig.{Sig}
use Rattle.clu_tree.specs.declared.shape.Shape.{Shape}
use Rattle.clu_tree.specs.declared.shape.Named.{Named, out-Named}
use Rattle.clu_tree.specs.declared.tree.Meant.{Meant}
use Rattle.clu_tree.specs.declared.tree.Meant.TheVariants as meant
use Rattle.clu_tree.specs.declared.tree.Infix.{Infix}
use Rattle.clu_tree.specs.declared.tree.Infix.TheVariants as fix
use Rattle.clu_tree.specs.declared.tree.Expr.{Expr, out-Expr}
use Rattle.clu_tree.specs.declared.tree.Expr.TheOpen as ef
use Rattle.clu_tree.specs.declared.tree.FieldInit.{FieldInit, out-FieldInit}
use Rattle.clu_tree.specs.declared.tree.Target.{Target}
use Rattle.clu_tree.specs.declared.tree.Target.TheVariants as target
use Rattle.clu_tree.specs.declared.tree.Remote.{Remote}
use Rattle.clu_tree.specs.declared.tree.Remote.TheVariants as remote
use Rattle.clu_tree.specs.declared.tree.Iter.{Iter}
use Rattle.clu_tree.specs.declared.tree.Iter.TheVariants as iter
use Rattle.clu_tree.specs.declared.tree.Stmt.{Stmt, out-Stmt, roll-Stmt}
use Rattle.clu_tree.specs.declared.tree.Stmt.TheOpen as sf
use Rattle.clu_tree.specs.declared.tree.Arm.{Arm, out-Arm}
use Rattle.clu_tree.specs.declared.tree.TagArm.{TagArm, out-TagArm}
use Rattle.clu_tree.specs.declared.tree.When.{When}
use Rattle.clu_tree.specs.declared.tree.Handlers.{Handlers}
use Rattle.clu_tree.specs.declared.program.Routine.{Routine}
use Rattle.obj_region.specs.declared.object.Obj.TheVariants as obj
use Rattle.obj_region.specs.Store.{array_at, fields_at, in_bounds, item_at}
use Rattle.machine_rules.specs.declared.item.Catch.TheVariants.{Handle, Pass}
use Rattle.machine_rules.specs.declared.item.Item.{Item}
use Rattle.machine_rules.specs.declared.item.Item.TheVariants as i
use Rattle.machine_rules.specs.declared.frame.Var.{Var}
use Rattle.machine_rules.specs.declared.frame.Frame.{Frame}
use Rattle.machine_rules.specs.declared.act.Act.TheVariants as act
pub use Rattle.machine_rules.specs.World.{World, Next, bare_world, gives, goes}
pub use Rattle.machine_rules.specs.Frames.{with, at_line, entry, start, leaves, ends}
use Rattle.machine_rules.specs.Frames.{assign, declare, found, held, is_held, with_vars}
use Rattle.machine_rules.specs.Exceptions.{failure, fails, signal, unwind}
pub use Rattle.machine_rules.specs.Operands.{taking, on_int, on_str}
use Rattle.machine_rules.specs.Operands.{on_array, on_bool, on_oneof, on_ref, taking2, taking_args, taking_last}
use Rattle.machine_rules.specs.Operations.{adds, adds_some, apply, makes, sets_field}

-- Each row begins with the world, the frame, the frames below it, and the work behind the first item.

-- ---- frames begin and end

-- a frame is added for a call of the routine at the place k; a process has at most 1,000
abbrev pub enters : World → Frame → List Frame → List Item → ℕ → Routine → List Value → List Value → Option Next
enters w f fs work k r args values =
    if nat_lt (length fs) 999
    then goes w (entry k r args ∷ with f work values ∷ fs)
    else fails w (codes "frame limit") f fs work

-- the end of the body of a routine with this result
abbrev pub fall_at : World → List Addr → List Frame → Option Shape → Option Next
fall_at w left fs None = ends w left value.Nil fs
fall_at w left fs (Some shape) = unwind w left (failure (codes "no return")) fs

-- the end of the body of this routine
abbrev pub fall : World → List Addr → List Frame → Option Routine → Option Next
fall w left fs None = None
fall w left fs (Some r) = fall_at w left fs r.result

-- ---- expressions

-- e is evaluated before this work
abbrev pub evals : World → Frame → List Frame → Expr → List Item → Option Next
evals w f fs e work = goes w (with f (i.Eval e ∷ work) f.values ∷ fs)

-- the operands are evaluated, and then this is done, where it is known
abbrev pub operands : World → Frame → List Frame → List Item → List Expr → Option Item → Option Next
operands w f fs work es None = None
operands w f fs work es (Some item) = goes w (with f (map i.Eval es ++ item ∷ work) f.values ∷ fs)

-- a variable is read
abbrev pub reads : World → Frame → List Frame → List Item → Option Value → Option Next
reads w f fs work None = fails w (codes "unset variable") f fs work
reads w f fs work (Some v) = adds w f fs work v f.values

abbrev pub reads_local : World → Frame → List Frame → List Item → Option Var → Option Next
reads_local w f fs work None = None
reads_local w f fs work (Some x) = reads w f fs work x.value

abbrev pub reads_node : World → Frame → List Frame → List Item → Option (Option Value) → Option Next
reads_node w f fs work None = None
reads_node w f fs work (Some v) = reads w f fs work v

abbrev pub eval_name : World → Frame → List Frame → List Item → List ℕ → Meant → Option Next
eval_name w f fs work x meant.Local = reads_local w f fs work (found x f.vars)
eval_name w f fs work x (meant.NodeVar k) = reads_node w f fs work (slice_get w.vars k)
eval_name w f fs work x _ = None

-- what is done with the operands of an operator, an operation or a call
abbrev pub doing : Meant → Option Item
doing (meant.Op o) = Some (i.Apply o)
doing (meant.Routine k) = Some (i.Enter k)
doing (meant.Tag k) = Some (i.MakeTag k)
doing _ = None

-- what is done at a field's place
abbrev pub at_field : Meant → (ℕ → Item) → Option Item
at_field (meant.Field k) item = Some (item k)
at_field _ item = None

-- the second operand of `cand` and `cor` waits until the first is known
abbrev pub eval_binary : World → Frame → List Frame → List Item → Infix → Expr → Expr → Meant → Option Next
eval_binary w f fs work fix.Cand a b m = evals w f fs a (i.Pick false b ∷ work)
eval_binary w f fs work fix.Cor a b m = evals w f fs a (i.Pick true b ∷ work)
eval_binary w f fs work _ a b m = operands w f fs work (a ∷ b ∷ []) (doing m)

abbrev pub value_of : FieldInit → Expr
value_of x = (out-FieldInit x).value

-- an expression is evaluated
abbrev pub eval : World → Frame → List Frame → List Item → ef.Expr-F Expr FieldInit → Option Next
eval w f fs work (ef.Literal v _) = adds w f fs work v f.values
eval w f fs work (ef.Now _) = adds w f fs work (value.Int (pos w.time)) f.values
eval w f fs work (ef.Name x _ m) = eval_name w f fs work x m
eval w f fs work (ef.Binary a o b _ m) = eval_binary w f fs work o a b m
eval w f fs work (ef.Unary _ a _ m) = operands w f fs work (a ∷ []) (doing m)
eval w f fs work (ef.Call _ args _ m) = operands w f fs work args (doing m)
eval w f fs work (ef.Op _ _ args _ m) = operands w f fs work args (doing m)
eval w f fs work (ef.Record _ fields _ _) = operands w f fs work (map value_of fields) (Some (i.MakeRecord (length fields)))
eval w f fs work (ef.Array _ items _ _) = operands w f fs work items (Some (i.MakeArray (length items)))
eval w f fs work (ef.Index a k _ m) = operands w f fs work (a ∷ k ∷ []) (doing m)
eval w f fs work (ef.Field a _ _ m) = operands w f fs work (a ∷ []) (at_field m i.Get)
eval w f fs work (ef.Up a _) = evals w f fs a work
eval w f fs work (ef.Down a _) = evals w f fs a work

-- the first operand of `cand` (false) or `cor` (true) is known
abbrev pub picks : World → Frame → List Frame → List Item → List Value → Bool → Expr → Bool → Option Next
picks w f fs work values true e true = adds w f fs work (value.Bool true) values
picks w f fs work values false e false = adds w f fs work (value.Bool false) values
picks w f fs work values _ e _ = goes w (with f (i.Eval e ∷ work) values ∷ fs)

-- ---- statements

-- the line of a statement; one that stands round another has none of its own
abbrev pub own_line : sf.Stmt-F Stmt Arm Handlers TagArm When → Option ℕ
own_line (sf.Declare _ _ _ line) = Some line
own_line (sf.Assign _ _ line) = Some line
own_line (sf.Remote _ _ line _) = Some line
own_line (sf.Call _ line) = Some line
own_line (sf.PutLine _ line) = Some line
own_line (sf.Sleep _ line) = Some line
own_line (sf.Fork _ _ line _) = Some line
own_line (sf.Return _ line) = Some line
own_line (sf.Signal _ _ line) = Some line
own_line (sf.If _ _ _ _ line) = Some line
own_line (sf.While _ _ line) = Some line
own_line (sf.For _ _ _ _ line) = Some line
own_line (sf.Tagcase _ _ _ line) = Some line
own_line (sf.Begin _ line) = Some line
own_line (sf.Region _ _ line) = Some line
own_line (sf.Except _ _) = None
own_line (sf.Resignal _ _) = None

-- the line last begun was this one, and now is that of what begins, if it has one
abbrev pub line_begun : ℕ → Option ℕ → ℕ
line_begun was None = was
line_begun was (Some line) = line

-- the line last begun, once this statement began
abbrev pub line_of : ℕ → sf.Stmt-F Stmt Arm Handlers TagArm When → ℕ
line_of was s = line_begun was (own_line s)

-- the body comes first
abbrev pub puts : World → Frame → List Frame → List Item → List Value → List Stmt → Option Next
puts w f fs work values body = goes w (with f (map i.Exec body ++ work) values ∷ fs)

-- the body comes first, where there is one
abbrev pub puts_others : World → Frame → List Frame → List Item → List Value → Option (List Stmt) → Option Next
puts_others w f fs work values None = goes w (with f work values ∷ fs)
puts_others w f fs work values (Some body) = puts w f fs work values body

-- x is declared as v, and the body comes first
abbrev pub begins : World → Frame → List Frame → List Item → List Value → List ℕ → Shape → Value → List Stmt → Option Next
begins w f fs work values x t v body =
    goes w (with_vars f (declare x t (Some v) f.vars) (map i.Exec body ++ work) values ∷ fs)

abbrev pub declares : World → Frame → List Frame → List Item → List ℕ → Shape → Option Expr → Option Next
declares w f fs work x t None = goes w (with_vars f (declare x t None f.vars) work f.values ∷ fs)
declares w f fs work x t (Some e) = goes w (with_vars f (declare x t None f.vars) (i.Eval e ∷ i.Assign x ∷ work) f.values ∷ fs)

-- what sets a variable
abbrev pub setting : List ℕ → Meant → Option Item
setting x meant.Local = Some (i.Assign x)
setting x (meant.NodeVar k) = Some (i.AssignNode k)
setting x _ = None

-- the variables become these, where there is one of the name
abbrev pub sets_local : World → Frame → List Frame → List Item → List Value → Option (List Var) → Option Next
sets_local w f fs work values None = None
sets_local w f fs work values (Some vars) = goes w (with_vars f vars work values ∷ fs)

-- the node sets its variable at the place k, where there is one
abbrev pub sets_node : World → Frame → List Frame → List Item → List Value → ℕ → Value → Option (Option Value) → Option Next
sets_node w f fs work values k v None = None
sets_node w f fs work values k v (Some _) = gives w [] (act.SetVar k v) (with f work values ∷ fs)

abbrev pub assigns : World → Frame → List Frame → List Item → Expr → Target → Option Next
assigns w f fs work e (target.Name x _ m) = operands w f fs work (e ∷ []) (setting x m)
assigns w f fs work e (target.Field r _ _ m) = operands w f fs (i.Discard ∷ work) (r ∷ e ∷ []) (at_field m i.Put)
assigns w f fs work e (target.Index a k _ _) = operands w f fs (i.Discard ∷ work) (a ∷ k ∷ e ∷ []) (Some (i.Apply op.ArrStore))

-- what is done with a routine's arguments
abbrev pub with_routine : Meant → (ℕ → Item) → Option Item
with_routine (meant.Routine k) item = Some (item k)
with_routine _ item = None

-- what is done with the answer of a remote call
abbrev pub receiving : Option (List ℕ) → Meant → Option Item
receiving None m = Some i.Discard
receiving (Some x) m = setting x m

-- a remote call, and then this
abbrev pub asks : World → Frame → List Frame → List Item → Remote → Option Item → Option Next
asks w f fs work call None = None
asks w f fs work (remote.Once _ args at _ m) (Some after) = operands w f fs (after ∷ work) (args ++ at ∷ []) (with_routine m i.AskOnce)
asks w f fs work (remote.Maybe _ args at within _ m) (Some after) = operands w f fs (after ∷ work) (args ++ at ∷ within ∷ []) (with_routine m i.AskMaybe)

abbrev pub loops_over : World → Frame → List Frame → List Item → List ℕ → Shape → List Stmt → Iter → Option Next
loops_over w f fs work x t body (iter.FromTo a b _) = goes w (with f (i.Eval a ∷ i.Eval b ∷ i.ForInt x t body ∷ work) f.values ∷ fs)
loops_over w f fs work x t body (iter.Elements _ a _) = goes w (with f (i.Eval a ∷ i.ForEach x t body ∷ work) f.values ∷ fs)

abbrev pub returns : World → Frame → List Frame → List Item → Option Expr → Option Next
returns w f fs work None = ends w (leaves work) value.Nil fs
returns w f fs work (Some e) = evals w f fs e (i.Give ∷ work)

abbrev pub signals : World → Frame → List Frame → List Item → List ℕ → Option Expr → Option Next
signals w f fs work n None = unwind w (leaves work) (signal n) fs
signals w f fs work n (Some e) = evals w f fs e (i.Raise n ∷ work)

-- a statement is begun, by a frame that is at its line
abbrev pub exec : World → Frame → List Frame → List Item → sf.Stmt-F Stmt Arm Handlers TagArm When → Option Next
exec w f fs work (sf.Declare x t first _) = declares w f fs work x t first
exec w f fs work (sf.Assign to e _) = assigns w f fs work e to
exec w f fs work (sf.Call e _) = evals w f fs e (i.Discard ∷ work)
exec w f fs work (sf.Remote x call _ m) = asks w f fs work call (receiving x m)
exec w f fs work (sf.PutLine e _) = evals w f fs e (i.Print ∷ work)
exec w f fs work (sf.Sleep e _) = evals w f fs e (i.Nap ∷ work)
exec w f fs work (sf.Region e body _) = evals w f fs e (i.Grab body ∷ work)
exec w f fs work (sf.Fork _ args _ m) = operands w f fs work args (with_routine m i.Spawn)
exec w f fs work (sf.If e body arms others _) = evals w f fs e (i.Branch body arms others ∷ work)
exec w f fs work (sf.While e body line) = evals w f fs e (i.Loop e body line ∷ work)
exec w f fs work (sf.For x t over body _) = loops_over w f fs work x t body over
exec w f fs work (sf.Tagcase e arms others _) = evals w f fs e (i.Tagged arms others ∷ work)
exec w f fs work (sf.Begin body _) = puts w f fs work f.values body
exec w f fs work (sf.Except s hs) = goes w (with f (i.Exec s ∷ i.Guard (Handle hs) ∷ work) f.values ∷ fs)
exec w f fs work (sf.Resignal s names) = goes w (with f (i.Exec s ∷ i.Guard (Pass names) ∷ work) f.values ∷ fs)
exec w f fs work (sf.Return e _) = returns w f fs work e
exec w f fs work (sf.Signal n e _) = signals w f fs work n e

-- ---- choices and loops

-- the body is put, or the next condition comes, or the else body, or nothing
abbrev pub branches : World → Frame → List Frame → List Item → List Value → List Stmt → List Arm → Option (List Stmt) → Bool → Option Next
branches w f fs work values body arms others true = puts w f fs work values body
branches w f fs work values body [] others false = puts_others w f fs work values others
branches w f fs work values body (a ∷ arms) others false =
    goes w (with f (i.Eval (out-Arm a).test ∷ i.Branch (out-Arm a).body arms others ∷ work) values ∷ fs)

-- the body and the statement again, or nothing
abbrev pub loops : World → Frame → List Frame → List Item → List Value → Expr → List Stmt → ℕ → Bool → Option Next
loops w f fs work values e body line true = puts w f fs (i.Exec (roll-Stmt (sf.While e body line)) ∷ work) values body
loops w f fs work values e body line false = goes w (with f work values ∷ fs)

-- the round of a number, which is the last one or comes before it
abbrev pub next : World → Frame → List Frame → List Item → List ℕ → Shape → List Stmt → ℤ → ℤ → Option Next
next w f fs work x t body n last =
    if int_lt last n then goes w (with f work f.values ∷ fs)
    else begins w f fs (if int_lt n last then i.Next x t body (n +ℤ pos 1) last ∷ work else work) f.values x t (value.Int n) body

abbrev pub element : World → Frame → List Frame → List Item → List ℕ → Shape → List Stmt → Addr → ℤ → Option Value → Option Next
element w f fs work x t body a k None = None
element w f fs work x t body a k (Some v) = begins w f fs (i.Each x t body a (k +ℤ pos 1) ∷ work) f.values x t v body

-- the round of an index, while it is in the array's bounds
abbrev pub each : World → Frame → List Frame → List Item → List ℕ → Shape → List Stmt → Addr → ℤ → Option Next
each w f fs work x t body a k =
    on_array w (value.Ref a) (λ at.
    if in_bounds (array_at w.store at) k
    then element w f fs work x t body a k (item_at (array_at w.store at) k)
    else goes w (with f work f.values ∷ fs))

abbrev pub is_tag : Meant → ℕ → Bool
is_tag (meant.Tag k) tag = k == tag
is_tag _ tag = false

-- an arm's variable is declared, if it has one, and its body is put
abbrev pub takes_arm : World → Frame → List Frame → List Item → List Value → Value → List Stmt → Option Named → Option Next
takes_arm w f fs work values v body None = puts w f fs work values body
takes_arm w f fs work values v body (Some x) = begins w f fs work values (out-Named x).name (out-Named x).shape v body

-- `others` of a `tagcase` none of whose arms is of the tag
abbrev pub takes_others : World → Frame → List Frame → List Item → List Value → Option (List Stmt) → Option Next
takes_others w f fs work values None = None
takes_others w f fs work values (Some body) = puts w f fs work values body

-- the arm of a oneof's tag
abbrev pub takes_tag : World → Frame → List Frame → List Item → List Value → List TagArm → Option (List Stmt) → ℕ → Value → Option Next
takes_tag w f fs work values [] others tag v = takes_others w f fs work values others
takes_tag w f fs work values (a ∷ arms) others tag v =
    if is_tag (out-TagArm a).meant tag
    then takes_arm w f fs work values v (out-TagArm a).body (out-TagArm a).variable
    else takes_tag w f fs work values arms others tag v

-- ---- what the node does

-- a lock is entered, and the body and its Leave are put; the process waits with them where the lock isn't free
abbrev pub grabs : World → Frame → List Frame → List Item → List Value → List Stmt → Addr → Option Next
grabs w f fs work values body a =
    if is_held a (leaves work ++ held fs)
    then fails w (codes "lock already held") f fs work
    else gives w [] (act.Enter a) (with f (map i.Exec body ++ i.Leave a ∷ work) values ∷ fs)

-- a call is sent to a node, and its answer is waited for
abbrev pub sends_once : World → Frame → List Frame → List Item → ℕ → ℤ → List Value → List Value → Option Next
sends_once w f fs work k to args values =
    gives w [] (act.Once (record { routine = k; to = to; args = args })) (with f work values ∷ fs)

-- the same for at most so many ms
abbrev pub sends_maybe : World → Frame → List Frame → List Item → ℕ → ℤ → ℤ → List Value → List Value → Option Next
sends_maybe w f fs work k to ms args values =
    gives w [] (act.Maybe (record { routine = k; to = to; args = args }) ms) (with f work values ∷ fs)

-- ---- the row

-- the row of the first item
abbrev pub row_at : World → Frame → List Frame → List Item → Item → Option Next
row_at w f fs work (i.Eval e) = eval w f fs work (out-Expr e)
row_at w f fs work (i.Apply o) = apply w o f fs work
row_at w f fs work (i.MakeRecord n) = taking_last n f.values (λ fields values. makes w f fs work values act.Went (obj.Rec fields))
row_at w f fs work (i.MakeArray n) = taking_last n f.values (λ items values. makes w f fs work values act.Went (obj.Arr (pos 1) items))
row_at w f fs work (i.MakeTag k) = taking f.values (λ v values. makes w f fs work values act.Went (obj.One k v))
row_at w f fs work (i.Get k) = taking f.values (λ v values. on_ref v (λ a. adds_some w f fs work (slice_get (fields_at w.store a.0) k) values))
row_at w f fs work (i.Put k) = taking2 f.values (λ v x values. on_ref v (λ a. sets_field w f fs work values a.0 k x))
row_at w f fs work (i.Pick or e) = taking f.values (λ v values. on_bool v (picks w f fs work values or e))
row_at w f fs work (i.Enter k) = taking_args (slice_get w.program.routines k) f.values (enters w f fs work k)
row_at w f fs work i.Fall = fall w (leaves work) fs (slice_get w.program.routines f.routine)
row_at w f fs work (i.Exec s) = exec w (at_line f (line_of f.line (out-Stmt s))) fs work (out-Stmt s)
row_at w f fs work (i.Assign x) = taking f.values (λ v values. sets_local w f fs work values (assign x v f.vars))
row_at w f fs work (i.AssignNode k) = taking f.values (λ v values. sets_node w f fs work values k v (slice_get w.vars k))
row_at w f fs work i.Discard = taking f.values (λ v values. goes w (with f work values ∷ fs))
row_at w f fs work i.Print = taking f.values (λ v values. on_str v (λ text. gives w [] (act.Put text) (with f work values ∷ fs)))
row_at w f fs work i.Nap = taking f.values (λ v values. on_int v (λ ms. gives w [] (act.Sleep ms) (with f work values ∷ fs)))
row_at w f fs work (i.Grab body) = taking f.values (λ v values. on_ref v (grabs w f fs work values body))
row_at w f fs work (i.Leave a) = gives w (a ∷ []) act.Went (with f work f.values ∷ fs)
row_at w f fs work (i.Spawn k) =
    taking_args (slice_get w.program.routines k) f.values (λ r args values. gives w [] (act.Fork k args) (with f work values ∷ fs))
row_at w f fs work (i.AskOnce k) =
    taking f.values (λ at values. on_int at (λ to.
    taking_args (slice_get w.program.routines k) values (λ r. sends_once w f fs work k to)))
row_at w f fs work (i.AskMaybe k) =
    taking2 f.values (λ at within values. on_int at (λ to. on_int within (λ ms.
    taking_args (slice_get w.program.routines k) values (λ r. sends_maybe w f fs work k to ms))))
row_at w f fs work (i.Branch body arms others) = taking f.values (λ v values. on_bool v (branches w f fs work values body arms others))
row_at w f fs work (i.Loop e body line) = taking f.values (λ v values. on_bool v (loops w f fs work values e body line))
row_at w f fs work (i.ForInt x t body) =
    taking2 f.values (λ a b values. on_int a (λ first. on_int b (λ last. goes w (with f (i.Next x t body first last ∷ work) values ∷ fs))))
row_at w f fs work (i.Next x t body n last) = next w f fs work x t body n last
row_at w f fs work (i.ForEach x t body) =
    taking f.values (λ v values. on_ref v (λ a. on_array w v (λ at. goes w (with f (i.Each x t body a (array_at w.store at).low ∷ work) values ∷ fs))))
row_at w f fs work (i.Each x t body a k) = each w f fs work x t body a k
row_at w f fs work (i.Tagged arms others) = taking f.values (λ v values. on_oneof w v (takes_tag w f fs work values arms others))
row_at w f fs work (i.Guard c) = goes w (with f work f.values ∷ fs)
row_at w f fs work (i.Raise n) = taking f.values (λ v values. unwind w (leaves work) (record { name = n; value = Some v }) fs)
row_at w f fs work i.Give = taking f.values (λ v values. ends w (leaves work) v fs)

-- the row of a frame with this work
abbrev pub row_of : World → Frame → List Frame → List Item → Option Next
row_of w f fs [] = None
row_of w f fs (item ∷ work) = row_at w f fs work item

-- the step that a process with these frames takes in this world: none where it is over
abbrev pub row : World → List Frame → Option Next
row w [] = None
row w (f ∷ fs) = row_of w f fs f.work

-- ---- what the node does to a process

-- a process that waited goes on with v
abbrev pub give : Value → List Frame → List Frame
give v [] = []
give v (f ∷ fs) = with f f.work (v ∷ f.values) ∷ fs

-- s is raised in a process that waited
abbrev pub raise : World → Sig → List Frame → Option Next
raise w s frames = unwind w [] s frames

-- ---- where a process stands

abbrev pub begun_by : List Item → Option ℕ
begun_by (i.Exec s ∷ work) = own_line (out-Stmt s)
begun_by _ = None

-- the line of the statement that the next step begins
abbrev pub stands : List Frame → Option ℕ
stands [] = None
stands (f ∷ fs) = begun_by f.work
