-- How a reader goes over programs. Contracts that are public don't name this: it finds what the grammar says, and nothing else.
use Rattle.std.specs.Prelude.{ℕ, zero, suc, Bool, true, false, if◌then◌else◌, List, [], ◌∷◌, length, Option, Some, None, codes, bytes_eq, pos, neg_ℤ}
use Rattle.clu_tree.specs.declared.lexeme.Key.TheVariants as key
use Rattle.clu_tree.specs.declared.lexeme.Lexeme.TheVariants as lexeme
use Rattle.clu_tree.specs.declared.shape.Shape.{Shape}
use Rattle.clu_tree.specs.declared.shape.Named.{Named}
use Rattle.clu_tree.specs.declared.shape.Listed.{Listed}
use Rattle.clu_tree.specs.declared.value.Value.{Value}
use Rattle.clu_tree.specs.declared.value.Value.TheVariants as v
use Rattle.clu_tree.specs.declared.program.Initial.{Initial}
use Rattle.clu_tree.specs.declared.program.Initial.TheVariants as n
use Rattle.clu_tree.specs.declared.program.Routine.{Routine}
use Rattle.clu_tree.specs.declared.program.NodePart.{NodePart}
use Rattle.clu_tree.specs.declared.program.NodePart.TheVariants as np
use Rattle.clu_tree.specs.declared.program.Program.{Program}
use Rattle.clu_grammar.specs.Grammar.{Tokens, Part, AnEquate, ANodeVar, ARoutine, ACluster, ANode, program_of, empty_program}
use Rattle.clu_grammar.specs.ExprPlan.{Found, Parser, ◌>>=◌, closed, bracketed, shape, fields, literal_at}
use Rattle.clu_grammar.specs.StmtPlan.{end_key, names, body}

-- ---- literals

abbrev pub signed_at : Parser Value
signed_at (lexeme.Key key.Minus _ ∷ lexeme.Int (pos x) _ ∷ r) = Some (v.Int (neg_ℤ (pos x)), r)
signed_at ts = literal_at ts

abbrev pub values_after : Parser (List Value) → Value → Parser (List Value)
values_after others x (lexeme.Key key.Comma _ ∷ m) = others m >>= λ xs r. Some (x ∷ xs, r)
values_after others x m = Some (x ∷ [], m)

-- one or more literals, at most so many
unfoldable pub value_list : ℕ → Parser (List Value)
value_list zero ts = None
value_list (suc n) ts = signed_at ts >>= values_after (value_list n)

-- the arguments behind an opening bracket, and the closing one
abbrev pub values : Parser (List Value)
values (lexeme.Key key.RParen _ ∷ r) = Some ([], r)
values ts = value_list (length ts) ts >>= closed

-- ---- routines

abbrev pub listed_after : Parser (List Listed) → List ℕ → Option Shape → Parser (List Listed)
listed_after others x t (lexeme.Key key.Comma _ ∷ m) = others m >>= λ xs r. Some (record { name = x; value = t } ∷ xs, r)
listed_after others x t m = Some (record { name = x; value = t } ∷ [], m)

-- `end` and this very name
abbrev pub own_name : {A : Type 0} → List ℕ → A → Parser A
own_name x y (lexeme.Key key.End _ ∷ lexeme.Name z _ ∷ r) = if bytes_eq z x then Some (y, r) else None
own_name x y _ = None

abbrev pub ends_cluster : Tokens → Bool
ends_cluster (lexeme.Key key.End _ ∷ _) = true
ends_cluster _ = false

-- with types and bodies of at most so many levels
module _ (deep : ℕ) where
  -- ["(" type ")"]
  abbrev pub carried : Parser (Option Shape)
  carried (lexeme.Key key.LParen _ ∷ m) = shape deep m >>= closed >>= λ t r. Some (Some t, r)
  carried ts = Some (None, ts)

  -- one or more exceptions, at most so many
  unfoldable pub listed : ℕ → Parser (List Listed)
  listed zero ts = None
  listed (suc n) (lexeme.Name x _ ∷ m) = carried m >>= listed_after (listed n) x
  listed (suc n) _ = None

  abbrev pub params : Parser (List Named)
  params (lexeme.Key key.RParen _ ∷ r) = Some ([], r)
  params ts = fields (shape deep) (length ts) ts >>= closed

  abbrev pub result : Parser (Option Shape)
  result (lexeme.Key key.Returns _ ∷ lexeme.Key key.LParen _ ∷ m) = shape deep m >>= closed >>= λ t r. Some (Some t, r)
  result ts = Some (None, ts)

  abbrev pub signals : Parser (List Listed)
  signals (lexeme.Key key.Signals _ ∷ lexeme.Key key.LParen _ ∷ m) = listed (length m) m >>= closed
  signals ts = Some ([], ts)

  -- behind the name of a routine, `= proc (`
  abbrev pub routine_of : List ℕ → ℕ → Parser Routine
  routine_of x line a =
      params a >>= λ ps b. result b >>= λ t c. signals c >>= λ ls d. body deep d >>= λ ss e. own_name x (record { name = x; params = ps; result = t; signals = ls; body = ss; line = line }) e

  unfoldable pub routine : Parser Routine
  routine (lexeme.Name x l ∷ lexeme.Key key.Equals _ ∷ lexeme.Key key.Proc _ ∷ lexeme.Key key.LParen _ ∷ a) = routine_of x l a
  routine _ = None

  -- the routines of a cluster, at most so many
  unfoldable pub routines : ℕ → Parser (List Routine)
  routines zero ts = None
  routines (suc n) ts = if ends_cluster ts then Some ([], ts) else (routine ts >>= λ x m. routines n m >>= λ xs r. Some (x ∷ xs, r))

-- ---- parts of a program

-- the parts of a node block and the `end` behind them, at most so many
unfoldable pub node_parts : ℕ → Parser (List NodePart)
node_parts zero ts = None
node_parts (suc n) (lexeme.Key key.Export l ∷ lexeme.Name x _ ∷ m) = node_parts n m >>= λ ps r. Some (np.Export x l ∷ ps, r)
node_parts (suc n) (lexeme.Key key.Start l ∷ lexeme.Name x _ ∷ lexeme.Key key.LParen _ ∷ m) = values m >>= λ vs q. node_parts n q >>= λ ps r. Some (np.Start x vs l ∷ ps, r)
node_parts (suc n) ts = end_key [] ts

abbrev pub created : Initial → Parser Initial
created x (lexeme.Key key.RParen _ ∷ r) = Some (x, r)
created x _ = None

-- `$ name (`
abbrev pub makes : List ℕ → Tokens → Option Tokens
makes x (lexeme.Key key.Dollar _ ∷ lexeme.Name y _ ∷ lexeme.Key key.LParen _ ∷ r) = if bytes_eq y x then Some r else None
makes x _ = None

abbrev pub kept : {A : Type 0} → A → Option Tokens → Found A
kept x (Some r) = Some (x, r)
kept x None = None

abbrev pub behind_make : {A : Type 0} → List ℕ → A → Parser A
behind_make name x ts = kept x (makes name ts)

abbrev pub semaphore_of : Parser Initial
semaphore_of (lexeme.Int x _ ∷ r) = created (n.Semaphore x) r
semaphore_of _ = None

abbrev pub rep_key : {A : Type 0} → A → Parser A
rep_key x (lexeme.Key key.Rep _ ∷ lexeme.Key key.Equals _ ∷ r) = Some (x, r)
rep_key x _ = None

abbrev pub part_before : Part → Option (List Part) → Option (List Part)
part_before x (Some xs) = Some (x ∷ xs)
part_before x None = None

abbrev pub parts_after : (Tokens → Option (List Part)) → Found Part → Option (List Part)
parts_after others (Some x) = part_before x.0 (others x.1)
parts_after others None = None

abbrev pub made_of : Option (List Part) → Option Program
made_of (Some xs) = Some (program_of empty_program xs)
made_of None = None

-- with types and bodies of at most so many levels
module _ (deep : ℕ) where
  abbrev pub initial : Parser Initial
  initial (lexeme.Key key.Lock _ ∷ m) = behind_make (codes "create") n.Lock m >>= created
  initial (lexeme.Key key.Semaphore _ ∷ m) = behind_make (codes "create") n.Lock m >>= λ _. semaphore_of
  initial (lexeme.Key key.Array _ ∷ lexeme.Key key.LBracket _ ∷ m) = shape deep m >>= bracketed >>= behind_make (codes "new") >>= λ t. created (n.Empty t)
  initial ts = signed_at ts >>= λ x r. Some (n.Literal x, r)

  -- behind `nodevar name`, `:` and a type
  abbrev pub node_var_of : List ℕ → ℕ → Shape → Parser Part
  node_var_of x line t (lexeme.Key key.Becomes _ ∷ m) = initial m >>= λ y r. Some (ANodeVar (record { name = x; shape = t; first = Some y; line = line }), r)
  node_var_of x line t r = Some (ANodeVar (record { name = x; shape = t; first = None; line = line }), r)

  -- behind the name of a cluster, `= cluster is`
  abbrev pub cluster_of : List ℕ → ℕ → Parser Part
  cluster_of x line a =
      names (length a) a >>= rep_key >>= λ xs b. shape deep b >>= λ t m. routines deep (suc (length m)) m >>= λ rs q. own_name x (ACluster x xs t rs line) q

  unfoldable pub part : Parser Part
  part (lexeme.Key key.Nodevar l ∷ lexeme.Name x _ ∷ lexeme.Key key.Colon _ ∷ m) = shape deep m >>= node_var_of x l
  part (lexeme.Key key.Node l ∷ lexeme.Int x _ ∷ lexeme.Key key.Is _ ∷ m) =
      node_parts (suc (length m)) m >>= λ ps r. Some (ANode (record { number = x; parts = ps; line = l }), r)
  part (lexeme.Name x l ∷ lexeme.Key key.Equals _ ∷ lexeme.Key key.Proc _ ∷ lexeme.Key key.LParen _ ∷ m) = routine_of deep x l m >>= λ y r. Some (ARoutine y, r)
  part (lexeme.Name x l ∷ lexeme.Key key.Equals _ ∷ lexeme.Key key.Cluster _ ∷ lexeme.Key key.Is _ ∷ m) = cluster_of x l m
  part (lexeme.Name x l ∷ lexeme.Key key.Equals _ ∷ m) = shape deep m >>= λ t r. Some (AnEquate (record { name = x; shape = t; line = l }), r)
  part _ = None

  -- all the parts, at most so many
  unfoldable pub parts : ℕ → Tokens → Option (List Part)
  parts n [] = Some []
  parts zero ts = None
  parts (suc n) ts = parts_after (parts n) (part ts)

  -- the program of at most so many levels that all the tokens are
  abbrev pub program_within : Tokens → Option Program
  program_within ts = made_of (parts (length ts) ts)

-- the greatest number of levels
abbrev pub deepest_tree : ℕ
deepest_tree = 200

-- the program that all the tokens are
abbrev pub program : Tokens → Option Program
program ts = program_within deepest_tree ts
