-- When a program is typed: where `filled` gives one. What it gives is the program with what each of its names and operators stands for
-- beside it.
use Rattle.std.specs.Prelude.{ℕ, suc, ◌^◌, ℤ, pos, negsuc, Bool, true, false, not, ◌&&◌, if◌then◌else◌, nat_eq, nat_le, int_le, List, [], ◌∷◌, ◌++◌, map, reverse, length, Option, Some, None, is_some}
use Rattle.std.specs.List.{list_all}
use Rattle.std.specs.Str.{bytes_eq}
use Rattle.clu_tree.specs.declared.shape.Shape.{Shape}
use Rattle.clu_tree.specs.declared.shape.Shape.TheVariants as shape
use Rattle.clu_tree.specs.declared.shape.Named.{out-Named}
use Rattle.clu_tree.specs.declared.value.Value.{Value}
use Rattle.clu_tree.specs.declared.program.Initial.{Initial}
use Rattle.clu_tree.specs.declared.program.Initial.TheVariants as first
use Rattle.clu_tree.specs.declared.program.Cluster.{Cluster}
use Rattle.clu_tree.specs.declared.program.NodeVar.{NodeVar}
use Rattle.clu_tree.specs.declared.program.Routine.{Routine}
use Rattle.clu_tree.specs.declared.program.NodePart.{NodePart}
use Rattle.clu_tree.specs.declared.program.NodePart.TheVariants as np
use Rattle.clu_tree.specs.declared.program.NodeDecl.{NodeDecl}
use Rattle.clu_tree.specs.declared.program.Program.{Program}
use Rattle.clu_typing.specs.Options.{◌>>=◌, needs}
use Rattle.clu_typing.specs.Names.{distinct, are_among, within_part_limit, within_count_limit}
use Rattle.clu_typing.specs.Same.{rows_of, no_rows}
use Rattle.clu_typing.specs.Types.{Declarations, Head, is_fine, is_fine_outside, equates_fine, heads_of, holding_of, same}
use Rattle.clu_typing.specs.Exceptions.{failure}
use Rattle.clu_typing.specs.Exprs.{Place, Scope, literal_type, routine_named, is_ownerless, is_owned, node_var_after}
use Rattle.clu_typing.specs.Stmts.{plan, body, is_remote}

-- the names of equates
abbrev pub equate_names : Program → List (List ℕ)
equate_names p = map (λ q. q.name) p.equates

-- the names of clusters
abbrev pub cluster_names : Program → List (List ℕ)
cluster_names p = map (λ c. c.name) p.clusters

-- what a program declares
abbrev pub declarations_of : Program → Declarations
declarations_of p =
    record {
      equates = reverse p.equates;
      known = equate_names p ++ cluster_names p;
      rows = rows_of no_rows p.equates;
      holding = holding_of p.equates p.clusters;
      clusters = p.clusters;
      node_vars = p.node_vars;
      heads = heads_of p.clusters 0 p.routines;
    }

-- ---- names

-- the names of routines outside clusters
abbrev pub top_names : List Head → List (List ℕ)
top_names [] = []
top_names (h ∷ hs) = if is_ownerless h.owner then h.name ∷ top_names hs else top_names hs

-- the names of the routines of this cluster
abbrev pub names_of_owned : List ℕ → List Head → List (List ℕ)
names_of_owned c [] = []
names_of_owned c (h ∷ hs) = if is_owned c h.owner then h.name ∷ names_of_owned c hs else names_of_owned c hs

-- the names of equates, clusters, node variables and routines outside clusters are distinct
abbrev pub names_distinct : Program → Declarations → Bool
names_distinct p d = distinct (d.known ++ (map (λ n. n.name) p.node_vars ++ top_names d.heads))

-- the cluster's own routines have distinct names, and the listed names are among them
abbrev pub owned_fine : List (List ℕ) → List (List ℕ) → Bool
owned_fine listed own = distinct own && are_among own listed

-- A cluster's routines have distinct names; it lists names of its own routines alone, each at most once; and its rep has a meaning,
-- without `rep` and `cvt`.
abbrev pub cluster_typed : Declarations → Cluster → Bool
cluster_typed d c = is_fine d.known false c.rep && (distinct c.listed && owned_fine c.listed (names_of_owned c.name d.heads))

-- ---- node variables

-- the greatest count with which a semaphore begins
abbrev pub most : ℤ
most = pos (2 ^ 62)

-- there is a type, and it is this one
abbrev pub is_some_same : Declarations → Option Shape → Shape → Bool
is_some_same d None t = false
is_some_same d (Some s) t = same d s t

-- an initial value has the node variable's type
abbrev pub initial_fits : Declarations → Shape → Option Initial → Bool
initial_fits d t None = true
initial_fits d t (Some (first.Literal v)) = is_some_same d (literal_type v) t
initial_fits d t (Some first.Lock) = same d shape.Lock t
initial_fits d t (Some (first.Semaphore n)) = same d shape.Semaphore t && (int_le (pos 0) n && int_le n most)
initial_fits d t (Some (first.Empty i)) = is_fine d.known false i && same d (shape.Arr i) t

-- a node variable's type has a meaning outside clusters, and its initial value has that type
abbrev pub node_var_typed : Declarations → NodeVar → Bool
node_var_typed d n = is_fine d.known false n.shape && initial_fits d n.shape n.first

-- ---- routines

-- the type, if there is one, has a meaning
abbrev pub optional_fine : List (List ℕ) → Bool → Option Shape → Bool
optional_fine known inside None = true
optional_fine known inside (Some t) = is_fine_outside known inside t

-- there is a type, and it is the string type
abbrev pub is_text : Declarations → Option Shape → Bool
is_text d None = false
is_text d (Some t) = same d t shape.Str

-- a listed `failure` has a string
abbrev pub has_text : Declarations → List ℕ × Option Shape → Bool
has_text d l = if bytes_eq l.0 failure then is_text d l.1 else true

-- the names of the parameters
abbrev pub param_names : Routine → List (List ℕ)
param_names r = map (λ x. (out-Named x).name) r.params

-- A routine's head: at most 200 parameters, with distinct names that no node variable has; types with a meaning; listed exceptions
-- with distinct names, of which `failure` has a string to callers and to the body.
abbrev pub head_typed : Declarations → Head → Routine → Bool
head_typed d h r =
    within_part_limit r.params && (distinct (param_names r) && (list_all (λ x. not (is_some (node_var_after 0 x d.node_vars))) (param_names r)
    && (list_all (λ x. is_fine_outside d.known (is_some h.owner) (out-Named x).shape) r.params && (optional_fine d.known (is_some h.owner) r.result
    && (list_all (λ l. optional_fine d.known (is_some h.owner) l.value) r.signals && (distinct (map (λ l. l.name) r.signals)
    && (list_all (has_text d) (h.inside).signals && list_all (has_text d) (h.outside).signals)))))))

-- the parameters are the variables in sight where the body begins
abbrev pub params_scope : List (List ℕ) → List Shape → Scope
params_scope [] ts = []
params_scope (x ∷ xs) [] = []
params_scope (x ∷ xs) (t ∷ ts) = (x, t) ∷ params_scope xs ts

-- in this routine
abbrev pub place : Declarations → Head → Place
place d h = record { declarations = d; head = h }

-- a routine: its head and its body are typed; no guard stands around the body
abbrev pub routine_of : Declarations → Head → Routine → Option Routine
routine_of d h r =
    needs (head_typed d h r) (body (map (plan (place d h)) r.body) [] (params_scope (param_names r) (h.inside).params) >>= λ ys. Some (record r { body = ys }))

-- all routines, each with its head
abbrev pub routines_of : Declarations → List Head → List Routine → Option (List Routine)
routines_of d [] rs = Some []
routines_of d (h ∷ hs) [] = Some []
routines_of d (h ∷ hs) (r ∷ rs) = routine_of d h r >>= λ x. routines_of d hs rs >>= λ xs. Some (x ∷ xs)

-- ---- node blocks

-- there are as many literals as types, and each has its type
abbrev pub literals_fit : Declarations → List Value → List Shape → Bool
literals_fit d [] [] = true
literals_fit d [] (t ∷ ts) = false
literals_fit d (x ∷ xs) [] = false
literals_fit d (x ∷ xs) (t ∷ ts) = is_some_same d (literal_type x) t && literals_fit d xs ts

-- there is a routine, and it is one of these
abbrev pub head_is : (Head → Bool) → Option Head → Bool
head_is ok None = false
head_is ok (Some h) = ok h

-- `export` names a routine outside clusters that may be called from another node, `start` one with arguments of its types
abbrev pub part_typed : Declarations → NodePart → Bool
part_typed d (np.Export x _) = head_is (is_remote d) (routine_named d x)
part_typed d (np.Start x args _) = head_is (λ h. literals_fit d args (h.outside).params) (routine_named d x)

-- the exported names
abbrev pub exports : List NodePart → List (List ℕ)
exports [] = []
exports (np.Export x _ ∷ ps) = x ∷ exports ps
exports (np.Start _ _ _ ∷ ps) = exports ps

-- the number of `start`s
abbrev pub starts : List NodePart → ℕ
starts [] = 0
starts (np.Export _ _ ∷ ps) = starts ps
starts (np.Start _ _ _ ∷ ps) = suc (starts ps)

-- the written number is k
abbrev pub is_number : ℕ → ℤ → Bool
is_number k (pos n) = nat_eq k n
is_number k (negsuc n) = false

-- node blocks are numbered in order from k on; each exports a name at most once, and has at most 1,024 `start`s
abbrev pub nodes_typed : Declarations → ℕ → List NodeDecl → Bool
nodes_typed d k [] = true
nodes_typed d k (n ∷ ns) =
    is_number k n.number && (distinct (exports n.parts) && (nat_le (starts n.parts) 1024 && (list_all (part_typed d) n.parts && nodes_typed d (suc k) ns)))

-- ---- programs

-- at most 10,000 routines, clusters and node variables each, and 1 to 8 node blocks
abbrev pub within_limits : Program → Bool
within_limits p = within_count_limit p.routines && (within_count_limit p.clusters && (within_count_limit p.node_vars && (nat_le 1 (length p.nodes) && nat_le (length p.nodes) 8)))

-- all but the routines is typed
abbrev pub declarations_typed : Program → Declarations → Bool
declarations_typed p d =
    names_distinct p d && (equates_fine (cluster_names p) p.equates && (list_all (cluster_typed d) p.clusters
    && (list_all (node_var_typed d) p.node_vars && nodes_typed d 1 p.nodes)))

-- the program with its routines filled, where it is typed among what it declares
abbrev pub filled_by : Program → Declarations → Option Program
filled_by p d = needs (declarations_typed p d) (routines_of d d.heads p.routines >>= λ rs. Some (record p { routines = rs }))

-- the program with what each name and operator stands for beside it; none where it isn't typed
abbrev pub filled : Program → Option Program
filled p = needs (within_limits p) (filled_by p (declarations_of p))
