-- Types as they are written: which of them have a meaning, what `rep` and `cvt` stand for, what a type is behind equates, when two
-- are the same, and which can be sent to another node.
use Rattle.std.specs.Prelude.{ℕ, zero, suc, ◌+◌, Bool, true, false, not, ◌&&◌, ◌||◌, if◌then◌else◌, nat_eq, nat_le, nat_lt, List, [], ◌∷◌, ◌++◌, length, map, find, Option, Some, None}
use Rattle.std.specs.List.{list_all, list_any}
use Rattle.std.specs.Str.{bytes_eq}
use Rattle.std.specs.Option.{option_map}
use Rattle.clu_tree.specs.declared.shape.Shape.{Shape, out-Shape}
use Rattle.clu_tree.specs.declared.shape.Shape.TheVariants as shape
use Rattle.clu_tree.specs.declared.shape.Shape.TheOpen as sf
use Rattle.clu_tree.specs.declared.shape.Shape.TheFolds.{fold-Shape}
use Rattle.clu_tree.specs.declared.shape.Named.{Named, out-Named, roll-Named}
use Rattle.clu_tree.specs.declared.program.Equate.{Equate}
use Rattle.clu_tree.specs.declared.program.NodeVar.{NodeVar}
use Rattle.clu_tree.specs.declared.program.Cluster.{Cluster}
use Rattle.clu_tree.specs.declared.program.Routine.{Routine}
use Rattle.clu_typing.specs.Names.{is_among, distinct, within_part_limit}
use Rattle.clu_typing.specs.Same.{Rows, same_by}

-- ---- a type has a meaning

abbrev pub FinePart : Type 0
FinePart = List ℕ × Bool

-- fields or tags have types with a meaning, names of their own, and are at most 200
abbrev pub fine_fields : List FinePart → Bool
fine_fields fs = list_all (λ f. f.1) fs && (distinct (map (λ f. f.0) fs) && within_part_limit fs)

-- One level of a type: a name is one of the known ones, `rep` stands only inside a cluster, and `cvt` nowhere within a type.
abbrev pub fine_step : List (List ℕ) → Bool → sf.Shape-F Bool FinePart → Bool
fine_step known inside sf.Null = true
fine_step known inside sf.Bool = true
fine_step known inside sf.Int = true
fine_step known inside sf.Char = true
fine_step known inside sf.Str = true
fine_step known inside sf.Lock = true
fine_step known inside sf.Semaphore = true
fine_step known inside sf.Cvt = false
fine_step known inside sf.Rep = inside
fine_step known inside (sf.Name x) = is_among x known
fine_step known inside (sf.Arr t) = t
fine_step known inside (sf.Rec fs) = fine_fields fs
fine_step known inside (sf.Oneof fs) = fine_fields fs

-- the type has a meaning where these names of types are known, inside or outside a cluster
abbrev pub is_fine : List (List ℕ) → Bool → Shape → Bool
is_fine known inside = fold-Shape Bool FinePart (fine_step known inside) (λ f. (f.name, f.shape))

-- the type is `cvt`
abbrev pub is_cvt : sf.Shape-F Shape Named → Bool
is_cvt sf.Cvt = true
is_cvt t = false

-- the type of a parameter, a result or an exception's value has a meaning: inside a cluster it may also be `cvt`, as a whole
abbrev pub is_fine_outside : List (List ℕ) → Bool → Shape → Bool
is_fine_outside known inside t = is_fine known inside t || (inside && is_cvt (out-Shape t))

-- an equate's type uses built-in types, clusters and the equates above it, and neither `rep` nor `cvt`
abbrev pub equates_fine : List (List ℕ) → List Equate → Bool
equates_fine known [] = true
equates_fine known (q ∷ qs) = is_fine known false q.shape && equates_fine (q.name ∷ known) qs

-- ---- `rep` and `cvt` replaced

-- one level of a type: `rep` is the cluster's rep
abbrev pub type_step : Option Cluster → sf.Shape-F Shape Named → Shape
type_step c sf.Null = shape.Null
type_step c sf.Bool = shape.Bool
type_step c sf.Int = shape.Int
type_step c sf.Char = shape.Char
type_step c sf.Str = shape.Str
type_step c sf.Lock = shape.Lock
type_step c sf.Semaphore = shape.Semaphore
type_step c sf.Cvt = shape.Cvt
type_step None sf.Rep = shape.Rep
type_step (Some c) sf.Rep = c.rep
type_step c (sf.Name x) = shape.Name x
type_step c (sf.Arr t) = shape.Arr t
type_step c (sf.Rec fs) = shape.Rec fs
type_step c (sf.Oneof fs) = shape.Oneof fs

-- the type of a variable, an operation or a constructor in a routine of this cluster
abbrev pub type_in : Option Cluster → Shape → Shape
type_in c = fold-Shape Shape Named (type_step c) roll-Named

-- what `cvt` is to callers: the cluster's type
abbrev pub cvt_outside : Option Cluster → Shape
cvt_outside None = shape.Cvt
cvt_outside (Some c) = shape.Name c.name

-- what `cvt` is inside the body: the cluster's rep
abbrev pub cvt_inside : Option Cluster → Shape
cvt_inside None = shape.Cvt
cvt_inside (Some c) = c.rep

-- the type of a parameter, a result or an exception's value to callers
abbrev pub type_to_callers : Option Cluster → Shape → Shape
type_to_callers c t = if is_cvt (out-Shape t) then cvt_outside c else type_in c t

-- the same to the body
abbrev pub type_to_body : Option Cluster → Shape → Shape
type_to_body c t = if is_cvt (out-Shape t) then cvt_inside c else type_in c t

-- ---- what is declared

-- The types of a routine's parameters, of its result if it has one, and of the values of the exceptions that it lists.
pub record Signature : Type 0 where
  pub params : List Shape
  pub result : Option Shape
  pub signals : List (List ℕ × Option Shape)

-- What a routine is to others: its number and its name, its cluster if it stands in one, and its signature to callers and to its
-- body.
pub record Head : Type 0 where
  pub number : ℕ
  pub name : List ℕ
  pub owner : Option Cluster
  pub outside : Signature
  pub inside : Signature

-- What a program declares: `equates` from the last to the first, the names of types that are `known`, the rows of equates, the names
-- of types that are `holding` a lock or a semaphore, clusters, node variables, and a head for each routine by its number.
pub record Declarations : Type 0 where
  pub equates : List Equate
  pub known : List (List ℕ)
  pub rows : Rows
  pub holding : List (List ℕ)
  pub clusters : List Cluster
  pub node_vars : List NodeVar
  pub heads : List Head

-- the signature, where each type in it stands for what f gives
abbrev pub signature_by : (Shape → Shape) → Routine → Signature
signature_by f r =
    record { params = map (λ x. f (out-Named x).shape) r.params; result = option_map f r.result; signals = map (λ l. (l.name, option_map f l.value)) r.signals }

-- the routine of this number stands in the cluster
abbrev pub holds_routine : ℕ → Cluster → Bool
holds_routine k c = nat_le c.first k && nat_lt k (c.first + c.count)

-- the head of a routine of this cluster
abbrev pub head_by : Option Cluster → ℕ → Routine → Head
head_by c k r = record { number = k; name = r.name; owner = c; outside = signature_by (type_to_callers c) r; inside = signature_by (type_to_body c) r }

-- the head of the routine of this number
abbrev pub head_of : List Cluster → ℕ → Routine → Head
head_of clusters k r = head_by (find (holds_routine k) clusters) k r

-- the heads of routines that are numbered from k on
abbrev pub heads_of : List Cluster → ℕ → List Routine → List Head
heads_of clusters k [] = []
heads_of clusters k (r ∷ rs) = head_of clusters k r ∷ heads_of clusters (suc k) rs

-- ---- a type behind equates, and sameness

-- the type is this name
abbrev pub is_name : List ℕ → sf.Shape-F Shape Named → Bool
is_name x (sf.Name y) = bytes_eq x y
is_name x t = false

-- what an equate's name stands for, and any other type itself; equates stand from the last to the first, and each uses only those
-- behind it in that list
abbrev pub behind : List Equate → Shape → Shape
behind [] t = t
behind (q ∷ qs) t = behind qs (if is_name q.name (out-Shape t) then q.shape else t)

-- the outermost level of a type behind equates: no equate's name
abbrev pub layer : Declarations → Shape → sf.Shape-F Shape Named
layer d t = out-Shape (behind d.equates t)

-- the two types are the same
abbrev pub same : Declarations → Shape → Shape → Bool
same d = same_by d.rows

-- both are absent, or they are the same
abbrev pub same_option : Declarations → Option Shape → Option Shape → Bool
same_option d None None = true
same_option d None (Some t) = false
same_option d (Some t) None = false
same_option d (Some t) (Some u) = same d t u

-- the cluster of this name
abbrev pub cluster_named : Declarations → List ℕ → Option Cluster
cluster_named d x = find (λ c. bytes_eq x c.name) d.clusters

-- ---- types that can be sent: those that hold no lock and no semaphore, through any depth and through reps

-- one level of a type: it is a lock or a semaphore, or a part holds one; of names these do
abbrev pub holds_step : List (List ℕ) → sf.Shape-F Bool Bool → Bool
holds_step holding sf.Null = false
holds_step holding sf.Bool = false
holds_step holding sf.Int = false
holds_step holding sf.Char = false
holds_step holding sf.Str = false
holds_step holding sf.Lock = true
holds_step holding sf.Semaphore = true
holds_step holding sf.Cvt = false
holds_step holding sf.Rep = false
holds_step holding (sf.Name x) = is_among x holding
holds_step holding (sf.Arr t) = t
holds_step holding (sf.Rec fs) = list_any (λ f. f) fs
holds_step holding (sf.Oneof fs) = list_any (λ f. f) fs

-- the type holds a lock or a semaphore, where of names these do
abbrev pub holds : List (List ℕ) → Shape → Bool
holds holding = fold-Shape Bool Bool (holds_step holding) (λ f. f.shape)

-- the names whose types hold one, where of names these do
abbrev pub shown : List (List ℕ) → List (List ℕ × Shape) → List (List ℕ)
shown holding [] = []
shown holding (x ∷ xs) = if holds holding x.1 then x.0 ∷ shown holding xs else shown holding xs

-- round by round, from no name on, until a round shows no more
abbrev pub rounds : ℕ → List (List ℕ × Shape) → List (List ℕ) → List (List ℕ)
rounds zero all holding = holding
rounds (suc n) all holding = (λ (more : List (List ℕ)). if nat_eq (length holding) (length more) then holding else rounds n all more) (shown holding all)

-- the names whose types hold a lock or a semaphore at some depth
abbrev pub holding_in : List (List ℕ × Shape) → List (List ℕ)
holding_in all = rounds (suc (length all)) all []

-- what the names of types stand for: an equate's type, or a cluster's rep
abbrev pub meanings : List Equate → List Cluster → List (List ℕ × Shape)
meanings qs cs = map (λ q. (q.name, q.shape)) qs ++ map (λ c. (c.name, c.rep)) cs

-- of the names of equates and of clusters alike
abbrev pub holding_of : List Equate → List Cluster → List (List ℕ)
holding_of qs cs = holding_in (meanings qs cs)

-- the type can be sent
abbrev pub is_transmissible : Declarations → Shape → Bool
is_transmissible d t = not (holds d.holding t)

-- there is nothing to be sent, or its type can be
abbrev pub is_sent : Declarations → Option Shape → Bool
is_sent d None = true
is_sent d (Some t) = is_transmissible d t
