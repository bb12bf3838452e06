-- When two written types are the same: where they are equal once each equate's name is replaced by its type. Equates are never
-- replaced here, since the types may grow beyond all bounds. Each array, record and oneof inside an equate's type gets a row, none
-- two, and a type is compared by its key, in which a part that has a row is that row's number.
use Rattle.std.specs.Prelude.{ℕ, suc, Bool, true, false, ◌&&◌, if◌then◌else◌, nat_eq, List, [], ◌∷◌, ◌++◌, length, Option, Some, None}
use Rattle.std.specs.Str.{bytes_eq}
use Rattle.clu_tree.specs.declared.shape.Shape.{Shape}
use Rattle.clu_tree.specs.declared.shape.Shape.TheOpen as sf
use Rattle.clu_tree.specs.declared.shape.Shape.TheFolds.{fold-Shape}
use Rattle.clu_tree.specs.declared.program.Equate.{Equate}
use Rattle.clu_typing.specs.Names.{lookup}

-- A type as it is compared. `Kind` is a type of one word, `Owned` a cluster's, `Row` one that has a row; `More` and `End` list
-- fields or tags in order.
pub data Key : Type 0 where
  Kind : ℕ → Key
  Owned : List ℕ → Key
  Row : ℕ → Key
  Array : Key → Key
  Fields : Key → Key
  Tags : Key → Key
  End : Key
  More : List ℕ → Key → Key → Key

-- equal keys
abbrev pub key_eq : Key → Key → Bool
key_eq (Kind a) (Kind b) = nat_eq a b
key_eq (Owned a) (Owned b) = bytes_eq a b
key_eq (Row a) (Row b) = nat_eq a b
key_eq (Array a) (Array b) = key_eq a b
key_eq (Fields a) (Fields b) = key_eq a b
key_eq (Tags a) (Tags b) = key_eq a b
key_eq End End = true
key_eq (More x a xs) (More y b ys) = bytes_eq x y && (key_eq a b && key_eq xs ys)
key_eq a b = false

abbrev pub KeyPart : Type 0
KeyPart = List ℕ × Key

-- fields or tags in order
abbrev pub parts : List KeyPart → Key
parts [] = End
parts (f ∷ fs) = More f.0 f.1 (parts fs)

-- The keys of equates by name, the last first, and the keys that have a row, by its number.
pub record Rows : Type 0 where
  pub known : List (List ℕ × Key)
  pub layers : List Key

-- the row of the key, counted from n
abbrev pub row_after : ℕ → Key → List Key → Option ℕ
row_after n k [] = None
row_after n k (l ∷ ls) = if key_eq k l then Some n else row_after (suc n) k ls

-- the row, if there is one
abbrev pub row_or : Key → Option ℕ → Key
row_or k None = k
row_or k (Some n) = Row n

-- a key is its row, if it has one
abbrev pub short : Rows → Key → Key
short rows k = row_or k (row_after 0 k rows.layers)

-- an equate's name is its type's key, and any other name is a cluster's
abbrev pub named_key : List ℕ → Option Key → Key
named_key x None = Owned x
named_key x (Some k) = k

-- one level of a type
abbrev pub key_step : Rows → sf.Shape-F Key KeyPart → Key
key_step rows sf.Null = Kind 0
key_step rows sf.Bool = Kind 1
key_step rows sf.Int = Kind 2
key_step rows sf.Char = Kind 3
key_step rows sf.Str = Kind 4
key_step rows sf.Lock = Kind 5
key_step rows sf.Semaphore = Kind 6
key_step rows sf.Cvt = Kind 7
key_step rows sf.Rep = Kind 8
key_step rows (sf.Name x) = named_key x (lookup x rows.known)
key_step rows (sf.Arr t) = short rows (Array t)
key_step rows (sf.Rec fs) = short rows (Fields (parts fs))
key_step rows (sf.Oneof fs) = short rows (Tags (parts fs))

-- the key of a type
abbrev pub key : Rows → Shape → Key
key rows = fold-Shape Key KeyPart (key_step rows) (λ f. (f.name, f.shape))

-- the two types are the same where these rows are those of the equates
abbrev pub same_by : Rows → Shape → Shape → Bool
same_by rows a b = key_eq (key rows a) (key rows b)

-- ---- a row for an equate's type and for each of its parts, innermost first

-- what a type adds to the rows, and its key then
abbrev pub Keeping : Type 0
Keeping = Rows → Rows × Key

abbrev pub KeepingPart : Type 0
KeepingPart = List ℕ × Keeping

-- a new row, unless there is one already
abbrev pub kept : Rows → Key → Option ℕ → Rows × Key
kept rows k (Some n) = (rows, Row n)
kept rows k None = (record rows { layers = rows.layers ++ k ∷ [] }, Row (length rows.layers))

-- a key gets a row, unless it has one
abbrev pub keep : Rows → Key → Rows × Key
keep rows k = kept rows k (row_after 0 k rows.layers)

-- an array of these items
abbrev pub keep_array : Rows × Key → Rows × Key
keep_array x = keep x.0 (Array x.1)

-- one more field or tag before the others
abbrev pub with_part : List ℕ → Key → Rows × Key → Rows × Key
with_part name k r = (r.0, More name k r.1)

-- the fields or tags of a type, from the first to the last
abbrev pub keep_parts : Rows → List KeepingPart → Rows × Key
keep_parts rows [] = (rows, End)
keep_parts rows (f ∷ fs) = (λ (x : Rows × Key). with_part f.0 x.1 (keep_parts x.0 fs)) (f.1 rows)

-- a record of these fields
abbrev pub keep_fields : Rows × Key → Rows × Key
keep_fields x = keep x.0 (Fields x.1)

-- a oneof of these tags
abbrev pub keep_tags : Rows × Key → Rows × Key
keep_tags x = keep x.0 (Tags x.1)

-- one level of a type
abbrev pub keeping_step : sf.Shape-F Keeping KeepingPart → Keeping
keeping_step sf.Null rows = (rows, Kind 0)
keeping_step sf.Bool rows = (rows, Kind 1)
keeping_step sf.Int rows = (rows, Kind 2)
keeping_step sf.Char rows = (rows, Kind 3)
keeping_step sf.Str rows = (rows, Kind 4)
keeping_step sf.Lock rows = (rows, Kind 5)
keeping_step sf.Semaphore rows = (rows, Kind 6)
keeping_step sf.Cvt rows = (rows, Kind 7)
keeping_step sf.Rep rows = (rows, Kind 8)
keeping_step (sf.Name x) rows = (rows, named_key x (lookup x rows.known))
keeping_step (sf.Arr t) rows = keep_array (t rows)
keeping_step (sf.Rec fs) rows = keep_fields (keep_parts rows fs)
keeping_step (sf.Oneof fs) rows = keep_tags (keep_parts rows fs)

-- rows for a type and all its parts
abbrev pub keeping : Shape → Keeping
keeping = fold-Shape Keeping KeepingPart keeping_step (λ f. (f.name, f.shape))

-- the equate's name stands for this key from here on
abbrev pub with_equate : List ℕ → Rows × Key → Rows
with_equate x r = record (r.0) { known = (x, r.1) ∷ (r.0).known }

-- rows for all equates, in the text's order
abbrev pub rows_of : Rows → List Equate → Rows
rows_of rows [] = rows
rows_of rows (q ∷ qs) = rows_of (with_equate q.name (keeping q.shape rows)) qs

-- before the first equate
abbrev pub no_rows : Rows
no_rows = record { known = []; layers = [] }
