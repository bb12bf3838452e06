-- When an expression is typed, what type it has, and what each of its nodes stands for (`meant`). The parts of a node are typed first;
-- what is left is one rule for each kind of node, over its typed parts.
use Rattle.std.specs.Prelude.{ℕ, suc, Bool, true, false, ◌&&◌, ◌||◌, if◌then◌else◌, List, [], ◌∷◌, ◌++◌, map, codes, find, Option, Some, None, is_some}
use Rattle.std.specs.Str.{bytes_eq}
use Rattle.clu_tree.specs.declared.shape.Shape.{Shape}
use Rattle.clu_tree.specs.declared.shape.Shape.TheVariants as shape
use Rattle.clu_tree.specs.declared.shape.Shape.TheOpen as sf
use Rattle.clu_tree.specs.declared.shape.Named.{Named, out-Named}
use Rattle.clu_tree.specs.declared.value.Value.{Value}
use Rattle.clu_tree.specs.declared.value.Value.TheVariants as v
use Rattle.clu_tree.specs.declared.op.Op.TheVariants as op
use Rattle.clu_tree.specs.declared.program.Cluster.{Cluster}
use Rattle.clu_tree.specs.declared.program.NodeVar.{NodeVar}
use Rattle.clu_tree.specs.declared.tree.Meant.{Meant}
use Rattle.clu_tree.specs.declared.tree.Meant.TheVariants as m
use Rattle.clu_tree.specs.declared.tree.Infix.{Infix}
use Rattle.clu_tree.specs.declared.tree.Prefix.{Prefix}
use Rattle.clu_tree.specs.declared.tree.Expr.{Expr}
use Rattle.clu_tree.specs.declared.tree.Expr.TheVariants as e
use Rattle.clu_tree.specs.declared.tree.Expr.TheOpen as ef
use Rattle.clu_tree.specs.declared.tree.Expr.TheFolds.{fold-Expr}
use Rattle.clu_tree.specs.declared.tree.FieldInit.{FieldInit, roll-FieldInit}
use Rattle.clu_typing.specs.Options.{◌>>=◌, needs, all_of}
use Rattle.clu_typing.specs.Names.{is_among, lookup, field_after}
use Rattle.clu_typing.specs.Types.{Declarations, Head, is_fine, type_in, layer, same, cluster_named}
use Rattle.clu_typing.specs.Operations.{Builtin, ops_of, infix_name, prefix_name, bounds}
use Rattle.clu_typing.specs.Exceptions.{Guard, accepts_all, accepts_failure, without_values}

-- Where an expression or a statement stands: among what declarations, and in which routine.
pub record Place : Type 0 where
  pub declarations : Declarations
  pub head : Head

-- the variables in sight with their types, the last declared first
abbrev pub Scope : Type 0
Scope = List (List ℕ × Shape)

-- the type that is written here, with `rep` replaced, if it has a meaning
abbrev pub written : Place → Shape → Option Shape
written p t = needs (is_fine (p.declarations).known (is_some (p.head).owner) t) (Some (type_in (p.head).owner t))

-- a filled expression, with its type if it gives a value
abbrev pub Found : Type 0
Found = Option (Expr × Option Shape)

-- a field of a record constructor
abbrev pub Init : Type 0
Init = List ℕ × Found

-- a filled expression and its type
abbrev pub Valued : Type 0
Valued = Expr × Shape

-- an expression that is used as a value gives one: a call of what has no result is none
abbrev pub value_of : Found → Option Valued
value_of o = o >>= λ x. x.1 >>= λ t. Some (x.0, t)

abbrev pub values_of : List Found → Option (List Valued)
values_of os = all_of (map value_of os)

-- the expression has the type that is wanted
abbrev pub of_type : Declarations → Shape → Option Valued → Option Expr
of_type d t o = o >>= λ x. needs (same d x.1 t) (Some x.0)

-- the expressions without their types
abbrev pub exprs_of : List Valued → List Expr
exprs_of xs = map (λ x. x.0) xs

-- there are as many expressions as types, and each has its type
abbrev pub fit : Declarations → List Valued → List Shape → Bool
fit d [] [] = true
fit d [] (t ∷ ts) = false
fit d (x ∷ xs) [] = false
fit d (x ∷ xs) (t ∷ ts) = same d x.1 t && fit d xs ts

-- each of the expressions has the type
abbrev pub all_fit : Declarations → List Valued → Shape → Bool
all_fit d [] t = true
all_fit d (x ∷ xs) t = same d x.1 t && all_fit d xs t

-- a value of this type
abbrev pub gives : Expr → Shape → Found
gives x t = Some (x, Some t)

-- ---- what a name stands for

-- the node variable of this name, counted from k
abbrev pub node_var_after : ℕ → List ℕ → List NodeVar → Option (Shape × Meant)
node_var_after k x [] = None
node_var_after k x (n ∷ ns) = if bytes_eq x n.name then Some (n.shape, m.NodeVar k) else node_var_after (suc k) x ns

-- a variable in sight comes first
abbrev pub local_or : Option Shape → Option (Shape × Meant) → Option (Shape × Meant)
local_or (Some t) o = Some (t, m.Local)
local_or None o = o

-- what a variable's name stands for: the variable of the routine that is in sight, else the node variable
abbrev pub variable : Declarations → Scope → List ℕ → Option (Shape × Meant)
variable d scope x = local_or (lookup x scope) (node_var_after 0 x d.node_vars)

-- What a routine or an operation is where it is used: what it takes and gives, what it can raise besides `failure`, and what stands
-- for it in the tree.
pub record Use : Type 0 where
  pub takes : List Shape
  pub gives : Option Shape
  pub raises : List (List ℕ × Option Shape)
  pub meant : Meant

abbrev pub routine_use : Head → Use
routine_use h = record { takes = (h.outside).params; gives = (h.outside).result; raises = (h.outside).signals; meant = m.Routine h.number }

abbrev pub built_use : Builtin → Use
built_use b = record { takes = b.takes; gives = b.gives; raises = without_values b.raises; meant = m.Op b.op }

abbrev pub make_use : Shape → ℕ × Shape → Use
make_use t k = record { takes = k.1 ∷ []; gives = Some t; raises = []; meant = m.Tag k.0 }

-- no cluster
abbrev pub is_ownerless : Option Cluster → Bool
is_ownerless None = true
is_ownerless (Some c) = false

-- the head is of a routine of this name outside clusters
abbrev pub is_top : List ℕ → Head → Bool
is_top x h = bytes_eq x h.name && is_ownerless h.owner

-- the routine of this name outside clusters
abbrev pub routine_named : Declarations → List ℕ → Option Head
routine_named d x = find (is_top x) d.heads

-- that this cluster is there and has this name
abbrev pub is_owned : List ℕ → Option Cluster → Bool
is_owned x None = false
is_owned x (Some c) = bytes_eq x c.name

-- the operation of this name of the cluster
abbrev pub operation_named : Declarations → Cluster → List ℕ → Option Head
operation_named d c x = find (λ h. bytes_eq x h.name && is_owned c.name h.owner) d.heads

-- the tag of this name behind `make_`, counted from k
abbrev pub make_after : ℕ → List ℕ → List Named → Option (ℕ × Shape)
make_after k x [] = None
make_after k x (f ∷ fs) = if bytes_eq x (codes "make_" ++ (out-Named f).name) then Some (k, (out-Named f).shape) else make_after (suc k) x fs

-- an operation of a cluster may be used where the cluster lists it and, if it is written `T$op`, also inside the cluster
abbrev pub cluster_use : Place → Bool → Cluster → List ℕ → Option Use
cluster_use p by_name c x =
    needs (is_among x c.listed || (by_name && is_owned c.name (p.head).owner)) (operation_named p.declarations c x >>= λ h. Some (routine_use h))

-- the operation of this name of a built-in type
abbrev pub built_in : List Builtin → List ℕ → Option Use
built_in bs x = find (λ b. bytes_eq x b.name) bs >>= λ b. Some (built_use b)

-- the operation of this name of the type t, whose outermost level is this; `by_name` where it is written `T$op` and not as an operator
abbrev pub use_at : Place → Bool → Shape → sf.Shape-F Shape Named → List ℕ → Option Use
use_at p by_name t (sf.Name c) x = cluster_named p.declarations c >>= λ d. cluster_use p by_name d x
use_at p by_name t (sf.Oneof fs) x = make_after 0 x fs >>= λ k. Some (make_use t k)
use_at p by_name t l x = built_in (ops_of t l) x

-- the operation of this name of a type
abbrev pub operation : Place → Bool → Shape → List ℕ → Option Use
operation p by_name t x = use_at p by_name t (layer p.declarations t) x

-- the arguments are of its types, and what it can raise may be raised here
abbrev pub used : Place → List Guard → Use → List Valued → Bool
used p guards u xs = fit p.declarations xs u.takes && accepts_all p.declarations guards u.raises

-- ---- one rule for each kind of node, over its typed parts

-- the type of a literal
abbrev pub literal_type : Value → Option Shape
literal_type v.Nil = Some shape.Null
literal_type (v.Bool b) = Some shape.Bool
literal_type (v.Int n) = Some shape.Int
literal_type (v.Char c) = Some shape.Char
literal_type (v.Str text) = Some shape.Str
literal_type (v.Ref at) = None

-- a name is a variable's; its use can raise `failure`, since the variable may be unset
abbrev pub name_of : Place → Scope → List Guard → List ℕ → ℕ → Found
name_of p scope guards x line = variable p.declarations scope x >>= λ k. needs (accepts_failure p.declarations guards) (gives (e.Name x line k.1) k.0)

-- `cand` and `cor` take bools and give one; any other infix operator is the operation of its left operand's type that has its name
abbrev pub binary_of : Place → List Guard → Option (List ℕ) → Valued → Infix → Valued → ℕ → Found
binary_of p guards None x o y line =
    needs (same p.declarations x.1 shape.Bool && same p.declarations y.1 shape.Bool) (gives (e.Binary x.0 o y.0 line m.Unknown) shape.Bool)
binary_of p guards (Some n) x o y line =
    operation p false x.1 n >>= λ u. u.gives >>= λ t. needs (used p guards u (x ∷ y ∷ [])) (gives (e.Binary x.0 o y.0 line u.meant) t)

-- an operator before its operand is the operation of its operand's type
abbrev pub unary_of : Place → List Guard → Prefix → Valued → ℕ → Found
unary_of p guards o x line =
    operation p false x.1 (prefix_name o) >>= λ u. u.gives >>= λ t. needs (used p guards u (x ∷ [])) (gives (e.Unary o x.0 line u.meant) t)

-- a call is one of a routine outside clusters
abbrev pub call_of : Place → List Guard → List ℕ → List Valued → ℕ → Found
call_of p guards f xs line =
    routine_named p.declarations f >>= λ h. needs (used p guards (routine_use h) xs) (Some (e.Call f (exprs_of xs) line (m.Routine h.number), (h.outside).result))

-- `T$op(..)` is a call of an operation of T
abbrev pub op_of : Place → List Guard → Shape → List ℕ → List Valued → ℕ → Found
op_of p guards t x xs line =
    written p t >>= λ s. operation p true s x >>= λ u. needs (used p guards u xs) (Some (e.Op t x (exprs_of xs) line u.meant, u.gives))

-- the fields of a record
abbrev pub fields_in : sf.Shape-F Shape Named → Option (List Named)
fields_in (sf.Rec fs) = Some fs
fields_in l = None

-- the tags of a oneof
abbrev pub tags_in : sf.Shape-F Shape Named → Option (List Named)
tags_in (sf.Oneof fs) = Some fs
tags_in l = None

-- the type of an array's items
abbrev pub item_in : sf.Shape-F Shape Named → Option Shape
item_in (sf.Arr t) = Some t
item_in l = None

-- each field stands once, in the type's order, and has its type
abbrev pub inits_of : Declarations → List Init → List Named → Option (List FieldInit)
inits_of d [] [] = Some []
inits_of d [] (f ∷ fs) = None
inits_of d (x ∷ xs) [] = None
inits_of d (x ∷ xs) (f ∷ fs) =
    needs (bytes_eq x.0 (out-Named f).name) (of_type d (out-Named f).shape (value_of x.1) >>= λ y. inits_of d xs fs >>= λ ys.
    Some (roll-FieldInit (record { name = x.0; value = y }) ∷ ys))

-- `T${..}` makes a record of the type T, and can raise `failure`
abbrev pub record_of : Place → List Guard → Shape → List Init → ℕ → Found
record_of p guards t inits line =
    written p t >>= λ s. fields_in (layer p.declarations s) >>= λ fs. inits_of p.declarations inits fs >>= λ xs.
    needs (accepts_failure p.declarations guards) (gives (e.Record t xs line m.Unknown) s)

-- `T$[..]` makes an array of the type T of items of its type, and can raise `failure`
abbrev pub array_of : Place → List Guard → Shape → List Valued → ℕ → Found
array_of p guards t xs line =
    written p t >>= λ s. item_in (layer p.declarations s) >>= λ i.
    needs (all_fit p.declarations xs i && accepts_failure p.declarations guards) (gives (e.Array t (exprs_of xs) line m.Unknown) s)

-- `up` takes a value of the rep to the cluster's type
abbrev pub up_of : Place → Valued → ℕ → Found
up_of p x line = (p.head).owner >>= λ c. needs (same p.declarations x.1 c.rep) (gives (e.Up x.0 line) (shape.Name c.name))

-- `down` takes it back
abbrev pub down_of : Place → Valued → ℕ → Found
down_of p x line = (p.head).owner >>= λ c. needs (same p.declarations x.1 (shape.Name c.name)) (gives (e.Down x.0 line) c.rep)

-- the field of this name of a record's type: its place and its type
abbrev pub field_in : Declarations → Shape → List ℕ → Option (ℕ × Shape)
field_in d t f = fields_in (layer d t) >>= λ fs. field_after 0 f fs

-- `r.f` needs a record, and can raise `failure`
abbrev pub field_of : Place → List Guard → Valued → List ℕ → ℕ → Found
field_of p guards x f line =
    field_in p.declarations x.1 f >>= λ k. needs (accepts_failure p.declarations guards) (gives (e.Field x.0 f line (m.Field k.0)) k.1)

-- what `a[i]` gives: it is the fetch of an array or of a string
abbrev pub fetched : sf.Shape-F Shape Named → Option (Shape × Meant)
fetched (sf.Arr t) = Some (t, m.Op op.ArrFetch)
fetched sf.Str = Some (shape.Char, m.Op op.StrFetch)
fetched l = None

-- `a[i]` needs an int, and can raise what a fetch can
abbrev pub index_of : Place → List Guard → Valued → Valued → ℕ → Found
index_of p guards x i line =
    fetched (layer p.declarations x.1) >>= λ k.
    needs (same p.declarations i.1 shape.Int && accepts_all p.declarations guards (without_values bounds)) (gives (e.Index x.0 i.0 line k.1) k.0)

-- ---- expressions

-- one level of an expression, over what its parts are

abbrev pub expr_step : Place → Scope → List Guard → ef.Expr-F Found Init → Found
expr_step p scope guards (ef.Literal value line) = literal_type value >>= λ t. gives (e.Literal value line) t
expr_step p scope guards (ef.Name x line _) = name_of p scope guards x line
expr_step p scope guards (ef.Binary a o b line _) = value_of a >>= λ x. value_of b >>= λ y. binary_of p guards (infix_name o) x o y line
expr_step p scope guards (ef.Unary o a line _) = value_of a >>= λ x. unary_of p guards o x line
expr_step p scope guards (ef.Call f args line _) = values_of args >>= λ xs. call_of p guards f xs line
expr_step p scope guards (ef.Op t x args line _) = values_of args >>= λ xs. op_of p guards t x xs line
expr_step p scope guards (ef.Record t inits line _) = record_of p guards t inits line
expr_step p scope guards (ef.Array t items line _) = values_of items >>= λ xs. array_of p guards t xs line
expr_step p scope guards (ef.Up a line) = value_of a >>= λ x. up_of p x line
expr_step p scope guards (ef.Down a line) = value_of a >>= λ x. down_of p x line
expr_step p scope guards (ef.Now line) = gives (e.Now line) shape.Int
expr_step p scope guards (ef.Field a f line _) = value_of a >>= λ x. field_of p guards x f line
expr_step p scope guards (ef.Index a i line _) = value_of a >>= λ x. value_of i >>= λ y. index_of p guards x y line

-- an expression, with or without a value
abbrev pub expr : Place → Scope → List Guard → Expr → Found
expr p scope guards = fold-Expr Found Init (expr_step p scope guards) (λ f. (f.name, f.value))

-- an expression as a value
abbrev pub value : Place → Scope → List Guard → Expr → Option Valued
value p scope guards x = value_of (expr p scope guards x)

-- an expression of this type
abbrev pub typed : Place → Scope → List Guard → Shape → Expr → Option Expr
typed p scope guards t x = of_type p.declarations t (value p scope guards x)

-- expressions as values
abbrev pub values : Place → Scope → List Guard → List Expr → Option (List Valued)
values p scope guards xs = values_of (map (expr p scope guards) xs)
