-- When a statement is typed, and which variables are in sight behind it. A statement inside another one is a plan, which waits for the
-- guards around it and the variables in sight; so are arms and handlers.
use Rattle.std.specs.Prelude.{ℕ, Bool, true, false, not, ◌&&◌, nat_eq, List, [], ◌∷◌, ◌++◌, map, codes, length, Option, Some, None, is_some}
use Rattle.std.specs.List.{list_all}
use Rattle.clu_tree.specs.declared.shape.Shape.{Shape}
use Rattle.clu_tree.specs.declared.shape.Shape.TheVariants as shape
use Rattle.clu_tree.specs.declared.shape.Named.{Named, out-Named}
use Rattle.clu_tree.specs.declared.op.Op.TheVariants as op
use Rattle.clu_tree.specs.declared.tree.Meant.{Meant}
use Rattle.clu_tree.specs.declared.tree.Meant.TheVariants as m
use Rattle.clu_tree.specs.declared.tree.Expr.{Expr}
use Rattle.clu_tree.specs.declared.tree.Target.{Target}
use Rattle.clu_tree.specs.declared.tree.Target.TheVariants as target
use Rattle.clu_tree.specs.declared.tree.Remote.{Remote}
use Rattle.clu_tree.specs.declared.tree.Remote.TheVariants as remote
use Rattle.clu_tree.specs.declared.tree.Iter.{Iter}
use Rattle.clu_tree.specs.declared.tree.Iter.TheVariants as iter
use Rattle.clu_tree.specs.declared.tree.Stmt.{Stmt}
use Rattle.clu_tree.specs.declared.tree.Stmt.TheVariants as st
use Rattle.clu_tree.specs.declared.tree.Stmt.TheOpen as sf
use Rattle.clu_tree.specs.declared.tree.Stmt.TheFolds.{fold-Stmt}
use Rattle.clu_tree.specs.declared.tree.Arm.{Arm, roll-Arm}
use Rattle.clu_tree.specs.declared.tree.TagArm.{TagArm, roll-TagArm}
use Rattle.clu_tree.specs.declared.tree.When.{When, roll-When}
use Rattle.clu_tree.specs.declared.tree.Handlers.{Handlers, roll-Handlers}
use Rattle.clu_typing.specs.Options.{◌>>=◌, needs, all_of}
use Rattle.clu_typing.specs.Names.{distinct, lookup, field_after}
use Rattle.clu_typing.specs.Types.{Declarations, Head, layer, same, is_transmissible, is_sent}
use Rattle.clu_typing.specs.Operations.{bounds}
use Rattle.clu_typing.specs.Exceptions.{Guard, Wants, Anything, Exactly, accepts, accepts_all, accepts_failure, without_values, signalled, guard_on, guard_on_all}
use Rattle.clu_typing.specs.Exprs.{Place, Scope, written, exprs_of, fit, variable, routine_named, item_in, tags_in, field_in, expr, value, typed, values}

-- under these guards, with these variables in sight: the filled statement, and the variables in sight behind it
abbrev pub Plan : Type 0
Plan = List Guard → Scope → Option (Stmt × Scope)

-- an arm of an `if`
abbrev pub ArmPlan : Type 0
ArmPlan = List Guard → Scope → Option Arm

-- An arm of a `tagcase`, over the tags of the value that is looked at.
pub record TagPlan : Type 0 where
  pub tag : List ℕ
  pub run : List Named → List Guard → Scope → Option TagArm

-- A `when`: the names of the exceptions that it takes, what it wants of their values, and its body.
pub record WhenPlan : Type 0 where
  pub names : List (List ℕ)
  pub wants : Option Wants
  pub run : List Guard → Scope → Option When

-- The handlers of an `except`: the guards that they are, and their bodies.
pub record HandlersPlan : Type 0 where
  pub guards : Option (List Guard)
  pub run : List Guard → Scope → Option Handlers

-- ---- bodies and their variables

-- the name may be declared: no variable in sight and no node variable has it
abbrev pub is_new : Place → Scope → List ℕ → Bool
is_new p scope x = not (is_some (variable p.declarations scope x))

-- the variables in sight, with one more
abbrev pub declared : Place → Scope → List ℕ → Shape → Option Scope
declared p scope x t = needs (is_new p scope x) (Some ((x, t) ∷ scope))

-- a body: each statement sees what those before it declared, and nothing of it is in sight behind the body
abbrev pub body : List Plan → List Guard → Scope → Option (List Stmt)
body [] guards scope = Some []
body (s ∷ ss) guards scope = s guards scope >>= λ x. body ss guards x.1 >>= λ ys. Some (x.0 ∷ ys)

-- the variables in sight in the body of a handler or of an arm, which may have one of its own
abbrev pub with_variable : Place → Scope → Option Named → Option Scope
with_variable p scope None = Some scope
with_variable p scope (Some x) = written p (out-Named x).shape >>= λ t. declared p scope (out-Named x).name t

-- a body that may be absent
abbrev pub optional : Option (List Plan) → List Guard → Scope → Option (Option (List Stmt))
optional None guards scope = Some None
optional (Some ss) guards scope = body ss guards scope >>= λ ys. Some (Some ys)

-- ---- what stands in statements

-- there is a value exactly where one is wanted, and it has that type
abbrev pub value_where : Place → Scope → List Guard → Option Shape → Option Expr → Option (Option Expr)
value_where p scope guards None None = Some None
value_where p scope guards None (Some x) = None
value_where p scope guards (Some t) None = None
value_where p scope guards (Some t) (Some x) = typed p scope guards t x >>= λ y. Some (Some y)

-- an initial value has the variable's type
abbrev pub first_of : Place → Scope → List Guard → Shape → Option Expr → Option (Option Expr)
first_of p scope guards t None = Some None
first_of p scope guards t (Some x) = typed p scope guards t x >>= λ y. Some (Some y)

-- What stands before `:=`, and the type of what is put there. A name is not used there, so it raises nothing; `r.f` needs a record, and
-- `a[i]` an array.
abbrev pub target_of : Place → Scope → List Guard → Target → Option (Target × Shape)
target_of p scope guards (target.Name x line _) = variable p.declarations scope x >>= λ k. Some (target.Name x line k.1, k.0)
target_of p scope guards (target.Field a f line _) =
    value p scope guards a >>= λ x. field_in p.declarations x.1 f >>= λ k.
    needs (accepts_failure p.declarations guards) (Some (target.Field x.0 f line (m.Field k.0), k.1))
target_of p scope guards (target.Index a i line _) =
    value p scope guards a >>= λ x. item_in (layer p.declarations x.1) >>= λ t. typed p scope guards shape.Int i >>= λ y.
    needs (accepts_all p.declarations guards (without_values bounds)) (Some (target.Index x.0 y line (m.Op op.ArrStore), t))

-- the routine may be called from another node: all its types can be sent, and it doesn't list `no_answer`
abbrev pub is_remote : Declarations → Head → Bool
is_remote d h =
    list_all (is_transmissible d) (h.outside).params && (is_sent d (h.outside).result
    && (list_all (λ l. is_sent d l.1) (h.outside).signals && not (is_some (lookup (codes "no_answer") (h.outside).signals))))

-- the routine of this name outside clusters, if it may be called from another node
abbrev pub remote_routine : Declarations → List ℕ → Option Head
remote_routine d x = routine_named d x >>= λ h. needs (is_remote d h) (Some h)

-- A remote call, and the type of its result. The node and the time limit are ints; what the routine lists may be raised here, and
-- `failure`; a `maybe` can raise `no_answer` besides.
abbrev pub remote_of : Place → Scope → List Guard → Remote → Option (Remote × Option Shape)
remote_of p scope guards (remote.Once f args at line _) =
    remote_routine p.declarations f >>= λ h. values p scope guards args >>= λ xs. typed p scope guards shape.Int at >>= λ y.
    needs (fit p.declarations xs (h.outside).params && accepts_all p.declarations guards (h.outside).signals)
    (Some (remote.Once f (exprs_of xs) y line (m.Routine h.number), (h.outside).result))
remote_of p scope guards (remote.Maybe f args at within line _) =
    remote_routine p.declarations f >>= λ h. values p scope guards args >>= λ xs. typed p scope guards shape.Int at >>= λ y.
    typed p scope guards shape.Int within >>= λ z.
    needs (fit p.declarations xs (h.outside).params && (accepts_all p.declarations guards (h.outside).signals && accepts p.declarations guards (codes "no_answer") None))
    (Some (remote.Maybe f (exprs_of xs) y z line (m.Routine h.number), (h.outside).result))

-- the variable that gets the result has its type; without a variable there may be a result or none
abbrev pub receiver_of : Place → Scope → Option (List ℕ) → Option Shape → Option Meant
receiver_of p scope None t = Some m.Unknown
receiver_of p scope (Some x) t = t >>= λ u. variable p.declarations scope x >>= λ k. needs (same p.declarations u k.0) (Some k.1)

-- what a `for` goes over, and the type of its variable: ints, or the items of an array
abbrev pub iter_of : Place → Scope → List Guard → Iter → Option (Iter × Shape)
iter_of p scope guards (iter.FromTo a b line) =
    typed p scope guards shape.Int a >>= λ x. typed p scope guards shape.Int b >>= λ y. Some (iter.FromTo x y line, shape.Int)
iter_of p scope guards (iter.Elements t a line) =
    written p t >>= λ s. item_in (layer p.declarations s) >>= λ i. typed p scope guards s a >>= λ x. Some (iter.Elements t x line, i)

-- `fork` starts a routine outside clusters with arguments of its types, and can raise `failure`
abbrev pub fork_of : Place → Scope → List Guard → List ℕ → List Expr → ℕ → Option Stmt
fork_of p scope guards f args line =
    routine_named p.declarations f >>= λ h. values p scope guards args >>= λ xs.
    needs (fit p.declarations xs (h.outside).params && accepts_failure p.declarations guards) (Some (st.Fork f (exprs_of xs) line (m.Routine h.number)))

-- ---- arms

-- the written type has a meaning, and is this type
abbrev pub written_is : Place → Option Shape → Shape → Bool
written_is p None t = false
written_is p (Some s) t = same p.declarations s t

-- the arm's variable, if it has one, has the tag's type
abbrev pub variable_is : Place → Option Named → Shape → Bool
variable_is p None t = true
variable_is p (Some x) t = written_is p (written p (out-Named x).shape) t

-- the place of the arm's tag among the tags
abbrev pub tag_of : Place → List Named → Option Named → List ℕ → Option ℕ
tag_of p tags x tag = field_after 0 tag tags >>= λ k. needs (variable_is p x k.1) (Some k.0)

-- an arm of a `tagcase`
abbrev pub tag_step : Place → sf.TagArm-F Plan ArmPlan HandlersPlan TagPlan WhenPlan → TagPlan
tag_step p a =
    record {
      tag = a.tag;
      run = λ tags guards scope. tag_of p tags a.variable a.tag >>= λ k. with_variable p scope a.variable >>= λ inner.
          body a.body guards inner >>= λ ys. Some (roll-TagArm (record { tag = a.tag; variable = a.variable; body = ys; meant = m.Tag k }));
    }

-- all tags have an arm, or there is `others`
abbrev pub covered : List Named → List TagPlan → Option (List Plan) → Bool
covered tags arms (Some ss) = true
covered tags arms None = nat_eq (length tags) (length arms)

-- the arms of an `if`
abbrev pub arms_of : List ArmPlan → List Guard → Scope → Option (List Arm)
arms_of arms guards scope = all_of (map (λ a. a guards scope) arms)

-- an arm of an `if`: its condition is a bool
abbrev pub arm_step : Place → sf.Arm-F Plan ArmPlan HandlersPlan TagPlan WhenPlan → ArmPlan
arm_step p a guards scope =
    typed p scope guards shape.Bool a.test >>= λ x. body a.body guards scope >>= λ ys. Some (roll-Arm (record { test = x; body = ys }))

-- ---- handlers

-- what a `when` wants of the values of its exceptions: one of its variable's type, or anything where it has no variable
abbrev pub wants_of : Place → Option Named → Option Wants
wants_of p None = Some Anything
wants_of p (Some x) = written p (out-Named x).shape >>= λ t. Some (Exactly (Some t))

-- a `when`
abbrev pub when_step : Place → sf.When-F Plan ArmPlan HandlersPlan TagPlan WhenPlan → WhenPlan
when_step p w =
    record {
      names = w.names;
      wants = wants_of p w.variable;
      run = λ guards scope. with_variable p scope w.variable >>= λ inner.
          body w.body guards inner >>= λ ys. Some (roll-When (record { names = w.names; variable = w.variable; body = ys }));
    }

-- the guards that these `when`s are, before these
abbrev pub guards_after : List WhenPlan → List Guard → Option (List Guard)
guards_after [] more = Some more
guards_after (w ∷ ws) more = w.wants >>= λ x. guards_after ws more >>= λ cs. Some (map (guard_on x) w.names ++ cs)

-- the guard that `others` is
abbrev pub others_guards : Option (List Plan) → List Guard
others_guards None = []
others_guards (Some ss) = guard_on_all ∷ []

-- all names of these `when`s
abbrev pub when_names : List WhenPlan → List (List ℕ)
when_names [] = []
when_names (w ∷ ws) = w.names ++ when_names ws

-- the handlers of an `except`: no name stands in them twice
abbrev pub handlers_step : Place → sf.Handlers-F Plan ArmPlan HandlersPlan TagPlan WhenPlan → HandlersPlan
handlers_step p h =
    record {
      guards = needs (distinct (when_names h.whens)) (guards_after h.whens (others_guards h.others));
      run = λ guards scope. all_of (map (λ w. w.run guards scope) h.whens) >>= λ ws. optional h.others guards scope >>= λ o.
          Some (roll-Handlers (record { whens = ws; others = o }));
    }

-- the guards that a `resignal` is: each name is one that the routine may signal, and its guard wants exactly the value that goes with it
abbrev pub resignals : Place → List (List ℕ) → Option (List Guard)
resignals p ns = all_of (map (λ n. signalled ((p.head).inside) n >>= λ t. Some (guard_on (Exactly t) n)) ns)

-- ---- statements

-- the variables in sight stay as they are
abbrev pub stays : Scope → Option Stmt → Option (Stmt × Scope)
stays scope o = o >>= λ s. Some (s, scope)

abbrev pub stmt_step : Place → sf.Stmt-F Plan ArmPlan HandlersPlan TagPlan WhenPlan → Plan
stmt_step p (sf.Declare x t first line) guards scope =
    written p t >>= λ s. declared p scope x s >>= λ next. first_of p next guards s first >>= λ y. Some (st.Declare x t y line, next)
stmt_step p (sf.Assign to a line) guards scope =
    stays scope (target_of p scope guards to >>= λ k. typed p scope guards k.1 a >>= λ y. Some (st.Assign k.0 y line))
stmt_step p (sf.Remote x ask line _) guards scope =
    stays scope (remote_of p scope guards ask >>= λ k. receiver_of p scope x k.1 >>= λ meant. Some (st.Remote x k.0 line meant))
stmt_step p (sf.Call a line) guards scope = stays scope (expr p scope guards a >>= λ x. Some (st.Call x.0 line))
stmt_step p (sf.PutLine a line) guards scope = stays scope (typed p scope guards shape.Str a >>= λ x. Some (st.PutLine x line))
stmt_step p (sf.Sleep a line) guards scope = stays scope (typed p scope guards shape.Int a >>= λ x. Some (st.Sleep x line))
stmt_step p (sf.Fork f args line _) guards scope = stays scope (fork_of p scope guards f args line)
stmt_step p (sf.Return a line) guards scope =
    stays scope (value_where p scope guards ((p.head).inside).result a >>= λ y. Some (st.Return y line))
stmt_step p (sf.Signal n a line) guards scope =
    stays scope (signalled ((p.head).inside) n >>= λ t. value_where p scope guards t a >>= λ y. Some (st.Signal n y line))
stmt_step p (sf.If a ss arms others line) guards scope =
    stays scope (typed p scope guards shape.Bool a >>= λ x. body ss guards scope >>= λ ys. arms_of arms guards scope >>= λ zs.
    optional others guards scope >>= λ o. Some (st.If x ys zs o line))
stmt_step p (sf.While a ss line) guards scope =
    stays scope (typed p scope guards shape.Bool a >>= λ x. body ss guards scope >>= λ ys. Some (st.While x ys line))
stmt_step p (sf.For x t over ss line) guards scope =
    stays scope (written p t >>= λ s. iter_of p scope guards over >>= λ k. needs (same p.declarations s k.1)
    (declared p scope x s >>= λ inner. body ss guards inner >>= λ ys. Some (st.For x t k.0 ys line)))
stmt_step p (sf.Tagcase a arms others line) guards scope =
    stays scope (value p scope guards a >>= λ x. tags_in (layer p.declarations x.1) >>= λ tags.
    needs (distinct (map (λ k. k.tag) arms) && covered tags arms others) (all_of (map (λ k. k.run tags guards scope) arms) >>= λ zs.
    optional others guards scope >>= λ o. Some (st.Tagcase x.0 zs o line)))
stmt_step p (sf.Begin ss line) guards scope = stays scope (body ss guards scope >>= λ ys. Some (st.Begin ys line))
stmt_step p (sf.Region a ss line) guards scope =
    stays scope (typed p scope guards shape.Lock a >>= λ x. needs (accepts_failure p.declarations guards) (body ss guards scope >>= λ ys. Some (st.Region x ys line)))
stmt_step p (sf.Except s h) guards scope =
    h.guards >>= λ inner. s (inner ++ guards) scope >>= λ x. h.run guards x.1 >>= λ hs. Some (st.Except x.0 hs, x.1)
stmt_step p (sf.Resignal s ns) guards scope = resignals p ns >>= λ inner. s (inner ++ guards) scope >>= λ x. Some (st.Resignal x.0 ns, x.1)

abbrev pub plan : Place → Stmt → Plan
plan p = fold-Stmt Plan ArmPlan HandlersPlan TagPlan WhenPlan (stmt_step p) (arm_step p) (handlers_step p) (tag_step p) (when_step p)
