-- What tokens read as, one case for each alternative of the grammar. `ReadsX ts r x`: the tokens ts begin with those of x, and r is what follows.
use Rattle.std.specs.Prelude.{ℕ, zero, suc, ◌≡◌, Bool, true, false, List, [], ◌∷◌, ◌++◌, length, Option, Some, None, ℤ, pos, neg_ℤ, codes}
use Rattle.clu_tree.specs.Lexical.{word_of}
use Rattle.clu_tree.specs.declared.lexeme.Key.{Key}
use Rattle.clu_tree.specs.declared.lexeme.Key.TheVariants as key
use Rattle.clu_tree.specs.declared.lexeme.Lexeme.{Lexeme}
use Rattle.clu_tree.specs.declared.lexeme.Lexeme.TheVariants as lexeme
use Rattle.clu_tree.specs.declared.shape.Shape.{Shape}
use Rattle.clu_tree.specs.declared.shape.Shape.TheVariants as s
use Rattle.clu_tree.specs.declared.shape.Named.{Named, roll-Named}
use Rattle.clu_tree.specs.declared.shape.Listed.{Listed}
use Rattle.clu_tree.specs.declared.value.Value.{Value}
use Rattle.clu_tree.specs.declared.value.Value.TheVariants as v
use Rattle.clu_tree.specs.declared.tree.Meant.TheVariants as meant
use Rattle.clu_tree.specs.declared.tree.Infix.{Infix}
use Rattle.clu_tree.specs.declared.tree.Infix.TheVariants as op
use Rattle.clu_tree.specs.declared.tree.Prefix.{Prefix}
use Rattle.clu_tree.specs.declared.tree.Prefix.TheVariants as p
use Rattle.clu_tree.specs.declared.tree.Expr.{Expr}
use Rattle.clu_tree.specs.declared.tree.Expr.TheVariants as e
use Rattle.clu_tree.specs.declared.tree.FieldInit.{FieldInit, roll-FieldInit}
use Rattle.clu_tree.specs.declared.tree.Target.{Target}
use Rattle.clu_tree.specs.declared.tree.Target.TheVariants as t
use Rattle.clu_tree.specs.declared.tree.Remote.{Remote}
use Rattle.clu_tree.specs.declared.tree.Remote.TheVariants as c
use Rattle.clu_tree.specs.declared.tree.Iter.{Iter}
use Rattle.clu_tree.specs.declared.tree.Iter.TheVariants as i
use Rattle.clu_tree.specs.declared.tree.Stmt.{Stmt}
use Rattle.clu_tree.specs.declared.tree.Stmt.TheVariants as st
use Rattle.clu_tree.specs.declared.tree.Arm.{Arm, roll-Arm}
use Rattle.clu_tree.specs.declared.tree.TagArm.{TagArm, roll-TagArm}
use Rattle.clu_tree.specs.declared.tree.When.{When, roll-When}
use Rattle.clu_tree.specs.declared.tree.Handlers.{Handlers, roll-Handlers}
use Rattle.clu_tree.specs.declared.program.Initial.{Initial}
use Rattle.clu_tree.specs.declared.program.Initial.TheVariants as n
use Rattle.clu_tree.specs.declared.program.Equate.{Equate}
use Rattle.clu_tree.specs.declared.program.NodeVar.{NodeVar}
use Rattle.clu_tree.specs.declared.program.Routine.{Routine}
use Rattle.clu_tree.specs.declared.program.NodePart.{NodePart}
use Rattle.clu_tree.specs.declared.program.NodePart.TheVariants as np
use Rattle.clu_tree.specs.declared.program.NodeDecl.{NodeDecl}
use Rattle.clu_tree.specs.declared.program.Program.{Program}

-- tokens, first to last
abbrev pub Tokens : Type 0
Tokens = List Lexeme

-- the line of the first token
abbrev pub line_of : Tokens → ℕ
line_of [] = 0
line_of (lexeme.Name _ n ∷ _) = n
line_of (lexeme.Int _ n ∷ _) = n
line_of (lexeme.Char _ n ∷ _) = n
line_of (lexeme.Str _ n ∷ _) = n
line_of (lexeme.Key _ n ∷ _) = n

-- ---- types

-- the types that one word names
abbrev pub type_of : Key → Option Shape
type_of key.Null = Some s.Null
type_of key.Bool = Some s.Bool
type_of key.Int = Some s.Int
type_of key.Char = Some s.Char
type_of key.String = Some s.Str
type_of key.Lock = Some s.Lock
type_of key.Semaphore = Some s.Semaphore
type_of key.Cvt = Some s.Cvt
type_of key.Rep = Some s.Rep
type_of _ = None

-- a name with its type
abbrev pub field_of : List ℕ → Shape → Named
field_of x t = roll-Named (record { name = x; shape = t })

mutual
  pub data ReadsShape : Tokens → Tokens → Shape → Type 0 where
    type_word : {o : Key} {n : ℕ} {r : Tokens} {t : Shape} → type_of o ≡ Some t → ReadsShape (lexeme.Key o n ∷ r) r t
    type_name : {x : List ℕ} {n : ℕ} {r : Tokens} → ReadsShape (lexeme.Name x n ∷ r) r (s.Name x)
    array_type : {n m k : ℕ} {a r : Tokens} {t : Shape} → ReadsShape a (lexeme.Key key.RBracket k ∷ r) t →
        ReadsShape (lexeme.Key key.Array n ∷ lexeme.Key key.LBracket m ∷ a) r (s.Arr t)
    record_type : {n m k : ℕ} {a r : Tokens} {fs : List Named} → ReadsFields a (lexeme.Key key.RBracket k ∷ r) fs →
        ReadsShape (lexeme.Key key.Record n ∷ lexeme.Key key.LBracket m ∷ a) r (s.Rec fs)
    oneof_type : {n m k : ℕ} {a r : Tokens} {fs : List Named} → ReadsFields a (lexeme.Key key.RBracket k ∷ r) fs →
        ReadsShape (lexeme.Key key.Oneof n ∷ lexeme.Key key.LBracket m ∷ a) r (s.Oneof fs)

  -- id ":" type {"," id ":" type}
  pub data ReadsFields : Tokens → Tokens → List Named → Type 0 where
    last_field : {x : List ℕ} {n m : ℕ} {a r : Tokens} {t : Shape} → ReadsShape a r t →
        ReadsFields (lexeme.Name x n ∷ lexeme.Key key.Colon m ∷ a) r (field_of x t ∷ [])
    field_and : {x : List ℕ} {n m k : ℕ} {a b r : Tokens} {t : Shape} {fs : List Named} →
        ReadsShape a (lexeme.Key key.Comma k ∷ b) t → ReadsFields b r fs →
        ReadsFields (lexeme.Name x n ∷ lexeme.Key key.Colon m ∷ a) r (field_of x t ∷ fs)

-- ---- literals and names

-- a literal's value, without a sign
pub data ReadsLiteral : Tokens → Tokens → Value → Type 0 where
  nil : {l : ℕ} {r : Tokens} → ReadsLiteral (lexeme.Key key.Nil l ∷ r) r v.Nil
  yes : {l : ℕ} {r : Tokens} → ReadsLiteral (lexeme.Key key.True l ∷ r) r (v.Bool true)
  no : {l : ℕ} {r : Tokens} → ReadsLiteral (lexeme.Key key.False l ∷ r) r (v.Bool false)
  int : {n : ℤ} {l : ℕ} {r : Tokens} → ReadsLiteral (lexeme.Int n l ∷ r) r (v.Int n)
  char : {n l : ℕ} {r : Tokens} → ReadsLiteral (lexeme.Char n l ∷ r) r (v.Char n)
  string : {x : List ℕ} {l : ℕ} {r : Tokens} → ReadsLiteral (lexeme.Str x l ∷ r) r (v.Str x)

-- outside expressions a literal may have a sign
pub data ReadsSigned : Tokens → Tokens → Value → Type 0 where
  unsigned : {ts r : Tokens} {x : Value} → ReadsLiteral ts r x → ReadsSigned ts r x
  negated : {n l k : ℕ} {r : Tokens} → ReadsSigned (lexeme.Key key.Minus k ∷ lexeme.Int (pos n) l ∷ r) r (v.Int (neg_ℤ (pos n)))

-- the name of an operation, which may be a reserved word
pub data ReadsOp : Tokens → Tokens → List ℕ → Type 0 where
  op_name : {x : List ℕ} {l : ℕ} {r : Tokens} → ReadsOp (lexeme.Name x l ∷ r) r x
  op_word : {x : List ℕ} {o : Key} {l : ℕ} {r : Tokens} → word_of o ≡ Some x → ReadsOp (lexeme.Key o l ∷ r) r x

-- id {"," id}
pub data ReadsNames : Tokens → Tokens → List (List ℕ) → Type 0 where
  last_name : {x : List ℕ} {l : ℕ} {r : Tokens} → ReadsNames (lexeme.Name x l ∷ r) r (x ∷ [])
  name_and : {x : List ℕ} {l k : ℕ} {m r : Tokens} {xs : List (List ℕ)} → ReadsNames m r xs →
      ReadsNames (lexeme.Name x l ∷ lexeme.Key key.Comma k ∷ m) r (x ∷ xs)

-- ---- expressions

-- How loosely a symbol holds what stands on its two sides: 1 is tightest and 5 loosest. What goes on with a primary holds still tighter, at 0, and 6 is what holds nothing.
abbrev pub looseness : Key → ℕ
looseness key.Dot = 0
looseness key.LBracket = 0
looseness key.Star = 1
looseness key.Slash = 1
looseness key.Slashes = 1
looseness key.Plus = 2
looseness key.Minus = 2
looseness key.Bars = 2
looseness key.Less = 3
looseness key.AtMost = 3
looseness key.Equals = 3
looseness key.Differs = 3
looseness key.AtLeast = 3
looseness key.More = 3
looseness key.Ampersand = 4
looseness key.Cand = 4
looseness key.Bar = 5
looseness key.Cor = 5
looseness _ = 6

-- the operator of a symbol between two operands; comparisons for being equal among them
abbrev pub infix_of : Key → Infix
infix_of key.Star = op.Mul
infix_of key.Slash = op.Div
infix_of key.Slashes = op.Mod
infix_of key.Plus = op.Add
infix_of key.Minus = op.Sub
infix_of key.Bars = op.Concat
infix_of key.Less = op.Lt
infix_of key.AtMost = op.Le
infix_of key.AtLeast = op.Ge
infix_of key.More = op.Gt
infix_of key.Ampersand = op.And
infix_of key.Cand = op.Cand
infix_of key.Bar = op.Or
infix_of key.Cor = op.Cor
infix_of _ = op.Equal

-- two operands with a symbol between them; `a ~= b` is `~(a = b)`
abbrev pub joined : Key → Expr → Expr → ℕ → Expr
joined key.Differs a b n = e.Unary p.Not (e.Binary a op.Equal b n meant.Unknown) n meant.Unknown
joined o a b n = e.Binary a (infix_of o) b n meant.Unknown

-- operators of looseness k + 1 may stand in a row, but for comparisons
abbrev pub repeats : ℕ → Bool
repeats (suc (suc zero)) = false
repeats _ = true

-- the symbol of a prefix
abbrev pub prefix_of : Prefix → Key
prefix_of p.Minus = key.Minus
prefix_of p.Not = key.Tilde

mutual
  -- ReadsExpr 0 is an operand, with its prefixes and what follows a primary; ReadsExpr 5 is any expression.
  pub data ReadsExpr : ℕ → Tokens → Tokens → Expr → Type 0 where
    primary : {ts r : Tokens} {x : Expr} → ReadsPrimary ts r x → ReadsExpr zero ts r x
    prefix : {l : ℕ} {ts r : Tokens} {x : Expr} → (op : Prefix) → ReadsExpr zero ts r x → ReadsExpr zero (lexeme.Key (prefix_of op) l ∷ ts) r (e.Unary op x l meant.Unknown)
    alone : {k : ℕ} {ts r : Tokens} {x : Expr} → ReadsExpr k ts r x → ReadsExpr (suc k) ts r x
    -- to the left
    grouped : {k l : ℕ} {o : Key} {ts m r : Tokens} {a b : Expr} → looseness o ≡ suc k → repeats k ≡ true →
        ReadsExpr (suc k) ts (lexeme.Key o l ∷ m) a → ReadsExpr k m r b → ReadsExpr (suc k) ts r (joined o a b (line_of ts))
    -- at most once
    compared : {k l : ℕ} {o : Key} {ts m r : Tokens} {a b : Expr} → looseness o ≡ suc k → repeats k ≡ false →
        ReadsExpr k ts (lexeme.Key o l ∷ m) a → ReadsExpr k m r b → ReadsExpr (suc k) ts r (joined o a b (line_of ts))

  pub data ReadsPrimary : Tokens → Tokens → Expr → Type 0 where
    literal : {ts r : Tokens} {x : Value} → ReadsLiteral ts r x → ReadsPrimary ts r (e.Literal x (line_of ts))
    name : {x : List ℕ} {l : ℕ} {r : Tokens} → ReadsPrimary (lexeme.Name x l ∷ r) r (e.Name x l meant.Unknown)
    called : {ts r : Tokens} {x : Expr} → ReadsCall ts r x → ReadsPrimary ts r x
    record_of : {k j h : ℕ} {ts m r : Tokens} {t : Shape} {fs : List FieldInit} →
        ReadsShape ts (lexeme.Key key.Dollar k ∷ lexeme.Key key.LBrace j ∷ m) t → ReadsInits m (lexeme.Key key.RBrace h ∷ r) fs → ReadsPrimary ts r (e.Record t fs (line_of ts) meant.Unknown)
    no_items : {k j h : ℕ} {ts r : Tokens} {t : Shape} →
        ReadsShape ts (lexeme.Key key.Dollar k ∷ lexeme.Key key.LBracket j ∷ lexeme.Key key.RBracket h ∷ r) t → ReadsPrimary ts r (e.Array t [] (line_of ts) meant.Unknown)
    array_of : {k j h : ℕ} {ts m r : Tokens} {t : Shape} {xs : List Expr} →
        ReadsShape ts (lexeme.Key key.Dollar k ∷ lexeme.Key key.LBracket j ∷ m) t → ReadsItems m (lexeme.Key key.RBracket h ∷ r) xs → ReadsPrimary ts r (e.Array t xs (line_of ts) meant.Unknown)
    -- parentheses leave no node
    group : {l k : ℕ} {m r : Tokens} {x : Expr} → ReadsExpr 5 m (lexeme.Key key.RParen k ∷ r) x → ReadsPrimary (lexeme.Key key.LParen l ∷ m) r x
    up : {l k j : ℕ} {m r : Tokens} {x : Expr} → ReadsExpr 5 m (lexeme.Key key.RParen k ∷ r) x → ReadsPrimary (lexeme.Key key.Up l ∷ lexeme.Key key.LParen j ∷ m) r (e.Up x l)
    down : {l k j : ℕ} {m r : Tokens} {x : Expr} → ReadsExpr 5 m (lexeme.Key key.RParen k ∷ r) x → ReadsPrimary (lexeme.Key key.Down l ∷ lexeme.Key key.LParen j ∷ m) r (e.Down x l)
    now : {l k j : ℕ} {r : Tokens} → ReadsPrimary (lexeme.Key key.Now l ∷ lexeme.Key key.LParen k ∷ lexeme.Key key.RParen j ∷ r) r (e.Now l)
    field : {x : List ℕ} {k l : ℕ} {ts r : Tokens} {a : Expr} → ReadsPrimary ts (lexeme.Key key.Dot k ∷ lexeme.Name x l ∷ r) a → ReadsPrimary ts r (e.Field a x (line_of ts) meant.Unknown)
    index : {k l : ℕ} {ts m r : Tokens} {a b : Expr} → ReadsPrimary ts (lexeme.Key key.LBracket k ∷ m) a → ReadsExpr 5 m (lexeme.Key key.RBracket l ∷ r) b →
        ReadsPrimary ts r (e.Index a b (line_of ts) meant.Unknown)

  -- a call of a routine or of a type's operation
  pub data ReadsCall : Tokens → Tokens → Expr → Type 0 where
    call : {x : List ℕ} {l k : ℕ} {m r : Tokens} {xs : List Expr} → ReadsArgs m r xs → ReadsCall (lexeme.Name x l ∷ lexeme.Key key.LParen k ∷ m) r (e.Call x xs l meant.Unknown)
    operation : {x : List ℕ} {k j : ℕ} {ts a m r : Tokens} {t : Shape} {xs : List Expr} →
        ReadsShape ts (lexeme.Key key.Dollar k ∷ a) t → ReadsOp a (lexeme.Key key.LParen j ∷ m) x → ReadsArgs m r xs → ReadsCall ts r (e.Op t x xs (line_of ts) meant.Unknown)

  -- [expr {"," expr}] ")"
  pub data ReadsArgs : Tokens → Tokens → List Expr → Type 0 where
    no_args : {k : ℕ} {r : Tokens} → ReadsArgs (lexeme.Key key.RParen k ∷ r) r []
    args : {k : ℕ} {ts r : Tokens} {xs : List Expr} → ReadsItems ts (lexeme.Key key.RParen k ∷ r) xs → ReadsArgs ts r xs

  -- expr {"," expr}
  pub data ReadsItems : Tokens → Tokens → List Expr → Type 0 where
    last_item : {ts r : Tokens} {x : Expr} → ReadsExpr 5 ts r x → ReadsItems ts r (x ∷ [])
    item : {k : ℕ} {ts m r : Tokens} {x : Expr} {xs : List Expr} → ReadsExpr 5 ts (lexeme.Key key.Comma k ∷ m) x → ReadsItems m r xs → ReadsItems ts r (x ∷ xs)

  -- id ":" expr {"," id ":" expr}
  pub data ReadsInits : Tokens → Tokens → List FieldInit → Type 0 where
    last_init : {y : List ℕ} {l k : ℕ} {m r : Tokens} {x : Expr} → ReadsExpr 5 m r x → ReadsInits (lexeme.Name y l ∷ lexeme.Key key.Colon k ∷ m) r (roll-FieldInit (record { name = y; value = x }) ∷ [])
    init : {y : List ℕ} {l k j : ℕ} {m q r : Tokens} {x : Expr} {fs : List FieldInit} → ReadsExpr 5 m (lexeme.Key key.Comma j ∷ q) x → ReadsInits q r fs →
        ReadsInits (lexeme.Name y l ∷ lexeme.Key key.Colon k ∷ m) r (roll-FieldInit (record { name = y; value = x }) ∷ fs)

-- ---- statements

pub data ReadsTarget : Tokens → Tokens → Target → Type 0 where
  to_name : {x : List ℕ} {l : ℕ} {r : Tokens} → ReadsTarget (lexeme.Name x l ∷ r) r (t.Name x l meant.Unknown)
  to_field : {x : List ℕ} {k l : ℕ} {ts r : Tokens} {a : Expr} → ReadsPrimary ts (lexeme.Key key.Dot k ∷ lexeme.Name x l ∷ r) a → ReadsTarget ts r (t.Field a x (line_of ts) meant.Unknown)
  to_item : {k l : ℕ} {ts m r : Tokens} {a b : Expr} → ReadsPrimary ts (lexeme.Key key.LBracket k ∷ m) a → ReadsExpr 5 m (lexeme.Key key.RBracket l ∷ r) b →
      ReadsTarget ts r (t.Index a b (line_of ts) meant.Unknown)

pub data ReadsRemote : Tokens → Tokens → Remote → Type 0 where
  once : {x : List ℕ} {l j k h : ℕ} {m q r : Tokens} {xs : List Expr} {a : Expr} →
      ReadsArgs m (lexeme.Key key.At h ∷ q) xs → ReadsExpr 5 q r a → ReadsRemote (lexeme.Key key.Once l ∷ lexeme.Name x j ∷ lexeme.Key key.LParen k ∷ m) r (c.Once x xs a l meant.Unknown)
  maybe : {x : List ℕ} {l j k h g : ℕ} {m q w r : Tokens} {xs : List Expr} {a b : Expr} →
      ReadsArgs m (lexeme.Key key.At h ∷ q) xs → ReadsExpr 5 q (lexeme.Key key.Within g ∷ w) a → ReadsExpr 5 w r b →
      ReadsRemote (lexeme.Key key.Maybe l ∷ lexeme.Name x j ∷ lexeme.Key key.LParen k ∷ m) r (c.Maybe x xs a b l meant.Unknown)

pub data ReadsIter : Tokens → Tokens → Iter → Type 0 where
  from_to : {x : List ℕ} {l k j h g f : ℕ} {m q r : Tokens} {a b : Expr} → x ≡ codes "from_to" →
      ReadsExpr 5 m (lexeme.Key key.Comma f ∷ q) a → ReadsExpr 5 q (lexeme.Key key.RParen g ∷ r) b →
      ReadsIter (lexeme.Key key.Int l ∷ lexeme.Key key.Dollar k ∷ lexeme.Name x j ∷ lexeme.Key key.LParen h ∷ m) r (i.FromTo a b l)
  elements : {x : List ℕ} {k j h g : ℕ} {ts m r : Tokens} {s : Shape} {a : Expr} → x ≡ codes "elements" →
      ReadsShape ts (lexeme.Key key.Dollar k ∷ lexeme.Name x j ∷ lexeme.Key key.LParen h ∷ m) s → ReadsExpr 5 m (lexeme.Key key.RParen g ∷ r) a → ReadsIter ts r (i.Elements s a (line_of ts))

-- ["(" id ":" type ")"]
pub data ReadsVariable : Tokens → Tokens → Option Named → Type 0 where
  no_variable : {r : Tokens} → ReadsVariable r r None
  variable : {x : List ℕ} {l k j h : ℕ} {m r : Tokens} {s : Shape} → ReadsShape m (lexeme.Key key.RParen h ∷ r) s →
      ReadsVariable (lexeme.Key key.LParen l ∷ lexeme.Name x k ∷ lexeme.Key key.Colon j ∷ m) r (Some (field_of x s))

mutual
  pub data ReadsBody : Tokens → Tokens → List Stmt → Type 0 where
    body_end : {r : Tokens} → ReadsBody r r []
    body : {ts m r : Tokens} {x : Stmt} {xs : List Stmt} → ReadsStmt ts m x → ReadsBody m r xs → ReadsBody ts r (x ∷ xs)

  pub data ReadsStmt : Tokens → Tokens → Stmt → Type 0 where
    simple : {ts r : Tokens} {x : Stmt} → ReadsSimple ts r x → ReadsStmt ts r x
    except : {l k : ℕ} {ts m r : Tokens} {x : Stmt} {h : Handlers} → ReadsStmt ts (lexeme.Key key.Except l ∷ m) x → ReadsHandlers m (lexeme.Key key.End k ∷ r) h → ReadsStmt ts r (st.Except x h)
    resignal : {l : ℕ} {ts m r : Tokens} {x : Stmt} {xs : List (List ℕ)} → ReadsStmt ts (lexeme.Key key.Resignal l ∷ m) x → ReadsNames m r xs → ReadsStmt ts r (st.Resignal x xs)

  pub data ReadsSimple : Tokens → Tokens → Stmt → Type 0 where
    declare : {x : List ℕ} {l k : ℕ} {m r : Tokens} {s : Shape} → ReadsShape m r s → ReadsSimple (lexeme.Name x l ∷ lexeme.Key key.Colon k ∷ m) r (st.Declare x s None l)
    declare_as : {x : List ℕ} {l k j : ℕ} {m q r : Tokens} {s : Shape} {a : Expr} → ReadsShape m (lexeme.Key key.Becomes j ∷ q) s → ReadsExpr 5 q r a →
        ReadsSimple (lexeme.Name x l ∷ lexeme.Key key.Colon k ∷ m) r (st.Declare x s (Some a) l)
    assign : {k : ℕ} {ts m r : Tokens} {x : Target} {a : Expr} → ReadsTarget ts (lexeme.Key key.Becomes k ∷ m) x → ReadsExpr 5 m r a → ReadsSimple ts r (st.Assign x a (line_of ts))
    remote : {ts r : Tokens} {x : Remote} → ReadsRemote ts r x → ReadsSimple ts r (st.Remote None x (line_of ts) meant.Unknown)
    remote_to : {y : List ℕ} {l k : ℕ} {m r : Tokens} {x : Remote} → ReadsRemote m r x → ReadsSimple (lexeme.Name y l ∷ lexeme.Key key.Becomes k ∷ m) r (st.Remote (Some y) x l meant.Unknown)
    call_of : {ts r : Tokens} {x : Expr} → ReadsCall ts r x → ReadsSimple ts r (st.Call x (line_of ts))
    put_line : {l k j : ℕ} {m r : Tokens} {a : Expr} → ReadsExpr 5 m (lexeme.Key key.RParen j ∷ r) a → ReadsSimple (lexeme.Key key.PutLine l ∷ lexeme.Key key.LParen k ∷ m) r (st.PutLine a l)
    sleep : {l k j : ℕ} {m r : Tokens} {a : Expr} → ReadsExpr 5 m (lexeme.Key key.RParen j ∷ r) a → ReadsSimple (lexeme.Key key.Sleep l ∷ lexeme.Key key.LParen k ∷ m) r (st.Sleep a l)
    fork : {x : List ℕ} {l k j : ℕ} {m r : Tokens} {xs : List Expr} → ReadsArgs m r xs → ReadsSimple (lexeme.Key key.Fork l ∷ lexeme.Name x k ∷ lexeme.Key key.LParen j ∷ m) r (st.Fork x xs l meant.Unknown)
    leave : {l : ℕ} {r : Tokens} → ReadsSimple (lexeme.Key key.Return l ∷ r) r (st.Return None l)
    give : {l k j : ℕ} {m r : Tokens} {a : Expr} → ReadsExpr 5 m (lexeme.Key key.RParen j ∷ r) a → ReadsSimple (lexeme.Key key.Return l ∷ lexeme.Key key.LParen k ∷ m) r (st.Return (Some a) l)
    signal : {x : List ℕ} {l k : ℕ} {r : Tokens} → ReadsSimple (lexeme.Key key.Signal l ∷ lexeme.Name x k ∷ r) r (st.Signal x None l)
    signal_with : {x : List ℕ} {l k j h : ℕ} {m r : Tokens} {a : Expr} → ReadsExpr 5 m (lexeme.Key key.RParen h ∷ r) a → ReadsSimple (lexeme.Key key.Signal l ∷ lexeme.Name x k ∷ lexeme.Key key.LParen j ∷ m) r (st.Signal x (Some a) l)
    choose : {l k : ℕ} {m q w p r : Tokens} {a : Expr} {b : List Stmt} {arms : List Arm} {o : Option (List Stmt)} →
        ReadsExpr 5 m (lexeme.Key key.Then k ∷ q) a → ReadsBody q w b → ReadsArms w p arms → ReadsElse p r o → ReadsSimple (lexeme.Key key.If l ∷ m) r (st.If a b arms o l)
    while : {l k j : ℕ} {m q r : Tokens} {a : Expr} {b : List Stmt} → ReadsExpr 5 m (lexeme.Key key.Do k ∷ q) a → ReadsBody q (lexeme.Key key.End j ∷ r) b → ReadsSimple (lexeme.Key key.While l ∷ m) r (st.While a b l)
    for : {x : List ℕ} {l k j h g f : ℕ} {m q w r : Tokens} {s : Shape} {i : Iter} {b : List Stmt} →
        ReadsShape m (lexeme.Key key.In h ∷ q) s → ReadsIter q (lexeme.Key key.Do g ∷ w) i → ReadsBody w (lexeme.Key key.End f ∷ r) b → ReadsSimple (lexeme.Key key.For l ∷ lexeme.Name x k ∷ lexeme.Key key.Colon j ∷ m) r (st.For x s i b l)
    tagcase : {l : ℕ} {m q w r : Tokens} {a : Expr} {arms : List TagArm} {o : Option (List Stmt)} →
        ReadsExpr 5 m q a → ReadsTags q w arms → ReadsOthers w r o → ReadsSimple (lexeme.Key key.Tagcase l ∷ m) r (st.Tagcase a arms o l)
    begin : {l k : ℕ} {m r : Tokens} {b : List Stmt} → ReadsBody m (lexeme.Key key.End k ∷ r) b → ReadsSimple (lexeme.Key key.Begin l ∷ m) r (st.Begin b l)
    region : {l k j : ℕ} {m q r : Tokens} {a : Expr} {b : List Stmt} → ReadsExpr 5 m (lexeme.Key key.Do k ∷ q) a → ReadsBody q (lexeme.Key key.End j ∷ r) b → ReadsSimple (lexeme.Key key.Region l ∷ m) r (st.Region a b l)

  pub data ReadsArms : Tokens → Tokens → List Arm → Type 0 where
    no_arms : {r : Tokens} → ReadsArms r r []
    arm : {l k : ℕ} {m q w r : Tokens} {a : Expr} {b : List Stmt} {arms : List Arm} → ReadsExpr 5 m (lexeme.Key key.Then k ∷ q) a → ReadsBody q w b → ReadsArms w r arms →
        ReadsArms (lexeme.Key key.Elseif l ∷ m) r (roll-Arm (record { test = a; body = b }) ∷ arms)

  pub data ReadsElse : Tokens → Tokens → Option (List Stmt) → Type 0 where
    no_else : {k : ℕ} {r : Tokens} → ReadsElse (lexeme.Key key.End k ∷ r) r None
    else : {l k : ℕ} {m r : Tokens} {b : List Stmt} → ReadsBody m (lexeme.Key key.End k ∷ r) b → ReadsElse (lexeme.Key key.Else l ∷ m) r (Some b)

  pub data ReadsTags : Tokens → Tokens → List TagArm → Type 0 where
    no_tags : {r : Tokens} → ReadsTags r r []
    tag : {x : List ℕ} {l k j : ℕ} {m q w r : Tokens} {o : Option Named} {b : List Stmt} {arms : List TagArm} →
        ReadsVariable m (lexeme.Key key.Colon j ∷ q) o → ReadsBody q w b → ReadsTags w r arms →
        ReadsTags (lexeme.Key key.Tag l ∷ lexeme.Name x k ∷ m) r (roll-TagArm (record { tag = x; variable = o; body = b; meant = meant.Unknown }) ∷ arms)

  -- ["others" ":" body] "end"
  pub data ReadsOthers : Tokens → Tokens → Option (List Stmt) → Type 0 where
    no_others : {k : ℕ} {r : Tokens} → ReadsOthers (lexeme.Key key.End k ∷ r) r None
    others : {l k j : ℕ} {m r : Tokens} {b : List Stmt} → ReadsBody m (lexeme.Key key.End k ∷ r) b → ReadsOthers (lexeme.Key key.Others l ∷ lexeme.Key key.Colon j ∷ m) r (Some b)

  pub data ReadsWhens : Tokens → Tokens → List When → Type 0 where
    no_whens : {r : Tokens} → ReadsWhens r r []
    when : {l k : ℕ} {m q w p r : Tokens} {xs : List (List ℕ)} {o : Option Named} {b : List Stmt} {ws : List When} →
        ReadsNames m q xs → ReadsVariable q (lexeme.Key key.Colon k ∷ w) o → ReadsBody w p b → ReadsWhens p r ws →
        ReadsWhens (lexeme.Key key.When l ∷ m) r (roll-When (record { names = xs; variable = o; body = b }) ∷ ws)

  pub data ReadsHandlers : Tokens → Tokens → Handlers → Type 0 where
    handlers : {ts r : Tokens} {ws : List When} → ReadsWhens ts r ws → ReadsHandlers ts r (roll-Handlers (record { whens = ws; others = None }))
    and_others : {l k : ℕ} {ts m r : Tokens} {ws : List When} {b : List Stmt} → ReadsWhens ts (lexeme.Key key.Others l ∷ lexeme.Key key.Colon k ∷ m) ws → ReadsBody m r b →
        ReadsHandlers ts r (roll-Handlers (record { whens = ws; others = Some b }))

-- ---- programs

-- ["(" type ")"]
pub data ReadsCarried : Tokens → Tokens → Option Shape → Type 0 where
  no_value : {r : Tokens} → ReadsCarried r r None
  value : {l k : ℕ} {m r : Tokens} {s : Shape} → ReadsShape m (lexeme.Key key.RParen k ∷ r) s → ReadsCarried (lexeme.Key key.LParen l ∷ m) r (Some s)

pub data ReadsListed : Tokens → Tokens → List Listed → Type 0 where
  last_listed : {x : List ℕ} {l : ℕ} {m r : Tokens} {s : Option Shape} → ReadsCarried m r s → ReadsListed (lexeme.Name x l ∷ m) r (record { name = x; value = s } ∷ [])
  listed_and : {x : List ℕ} {l k : ℕ} {m q r : Tokens} {s : Option Shape} {xs : List Listed} → ReadsCarried m (lexeme.Key key.Comma k ∷ q) s → ReadsListed q r xs →
      ReadsListed (lexeme.Name x l ∷ m) r (record { name = x; value = s } ∷ xs)

pub data ReadsParams : Tokens → Tokens → List Named → Type 0 where
  no_params : {k : ℕ} {r : Tokens} → ReadsParams (lexeme.Key key.RParen k ∷ r) r []
  params : {k : ℕ} {ts r : Tokens} {xs : List Named} → ReadsFields ts (lexeme.Key key.RParen k ∷ r) xs → ReadsParams ts r xs

pub data ReadsResult : Tokens → Tokens → Option Shape → Type 0 where
  no_result : {r : Tokens} → ReadsResult r r None
  result : {l k j : ℕ} {m r : Tokens} {s : Shape} → ReadsShape m (lexeme.Key key.RParen j ∷ r) s → ReadsResult (lexeme.Key key.Returns l ∷ lexeme.Key key.LParen k ∷ m) r (Some s)

pub data ReadsSignals : Tokens → Tokens → List Listed → Type 0 where
  no_signals : {r : Tokens} → ReadsSignals r r []
  signals : {l k j : ℕ} {m r : Tokens} {xs : List Listed} → ReadsListed m (lexeme.Key key.RParen j ∷ r) xs → ReadsSignals (lexeme.Key key.Signals l ∷ lexeme.Key key.LParen k ∷ m) r xs

pub data ReadsRoutine : Tokens → Tokens → Routine → Type 0 where
  routine : {x y : List ℕ} {l k j h g f : ℕ} {a b c d r : Tokens} {ps : List Named} {s : Option Shape} {ls : List Listed} {ss : List Stmt} →
      ReadsParams a b ps → ReadsResult b c s → ReadsSignals c d ls → ReadsBody d (lexeme.Key key.End g ∷ lexeme.Name y f ∷ r) ss → y ≡ x →
      ReadsRoutine (lexeme.Name x l ∷ lexeme.Key key.Equals k ∷ lexeme.Key key.Proc j ∷ lexeme.Key key.LParen h ∷ a) r (record { name = x; params = ps; result = s; signals = ls; body = ss; line = l })

pub data ReadsRoutines : Tokens → Tokens → List Routine → Type 0 where
  no_routines : {r : Tokens} → ReadsRoutines r r []
  routine_and : {ts m r : Tokens} {x : Routine} {xs : List Routine} → ReadsRoutine ts m x → ReadsRoutines m r xs → ReadsRoutines ts r (x ∷ xs)

-- literal {"," literal}
pub data ReadsValueList : Tokens → Tokens → List Value → Type 0 where
  last_value : {ts r : Tokens} {x : Value} → ReadsSigned ts r x → ReadsValueList ts r (x ∷ [])
  value_and : {k : ℕ} {ts m r : Tokens} {x : Value} {xs : List Value} → ReadsSigned ts (lexeme.Key key.Comma k ∷ m) x → ReadsValueList m r xs → ReadsValueList ts r (x ∷ xs)

-- the arguments of a `start`, which are literals, and the bracket behind them
pub data ReadsValues : Tokens → Tokens → List Value → Type 0 where
  no_values : {k : ℕ} {r : Tokens} → ReadsValues (lexeme.Key key.RParen k ∷ r) r []
  values : {k : ℕ} {ts r : Tokens} {xs : List Value} → ReadsValueList ts (lexeme.Key key.RParen k ∷ r) xs → ReadsValues ts r xs

pub data ReadsNodeParts : Tokens → Tokens → List NodePart → Type 0 where
  parts_end : {k : ℕ} {r : Tokens} → ReadsNodeParts (lexeme.Key key.End k ∷ r) r []
  export : {x : List ℕ} {l k : ℕ} {m r : Tokens} {ps : List NodePart} → ReadsNodeParts m r ps → ReadsNodeParts (lexeme.Key key.Export l ∷ lexeme.Name x k ∷ m) r (np.Export x l ∷ ps)
  start : {x : List ℕ} {l k j : ℕ} {a m r : Tokens} {vs : List Value} {ps : List NodePart} → ReadsValues a m vs → ReadsNodeParts m r ps →
      ReadsNodeParts (lexeme.Key key.Start l ∷ lexeme.Name x k ∷ lexeme.Key key.LParen j ∷ a) r (np.Start x vs l ∷ ps)

pub data ReadsInitial : Tokens → Tokens → Initial → Type 0 where
  from_literal : {ts r : Tokens} {x : Value} → ReadsSigned ts r x → ReadsInitial ts r (n.Literal x)
  from_lock : {y : List ℕ} {l k j h g : ℕ} {r : Tokens} → y ≡ codes "create" → ReadsInitial (lexeme.Key key.Lock l ∷ lexeme.Key key.Dollar k ∷ lexeme.Name y j ∷ lexeme.Key key.LParen h ∷ lexeme.Key key.RParen g ∷ r) r n.Lock
  from_semaphore : {y : List ℕ} {x : ℤ} {l k j h g f : ℕ} {r : Tokens} → y ≡ codes "create" → ReadsInitial (lexeme.Key key.Semaphore l ∷ lexeme.Key key.Dollar k ∷ lexeme.Name y j ∷ lexeme.Key key.LParen h ∷ lexeme.Int x g ∷ lexeme.Key key.RParen f ∷ r) r (n.Semaphore x)
  from_array : {y : List ℕ} {l k j h g f d : ℕ} {m r : Tokens} {s : Shape} → y ≡ codes "new" → ReadsShape m (lexeme.Key key.RBracket j ∷ lexeme.Key key.Dollar h ∷ lexeme.Name y g ∷ lexeme.Key key.LParen f ∷ lexeme.Key key.RParen d ∷ r) s →
      ReadsInitial (lexeme.Key key.Array l ∷ lexeme.Key key.LBracket k ∷ m) r (n.Empty s)

-- what a program is made of, in the order of the text; a cluster with its routines
pub data Part : Type 0 where
  AnEquate : Equate → Part
  ANodeVar : NodeVar → Part
  ARoutine : Routine → Part
  ACluster : List ℕ → List (List ℕ) → Shape → List Routine → ℕ → Part
  ANode : NodeDecl → Part

-- how many routines a part has
abbrev pub routines_in : Part → ℕ
routines_in (ARoutine _) = 1
routines_in (ACluster _ _ _ rs _) = length rs
routines_in _ = 0

pub data ReadsPart : Tokens → Tokens → Part → Type 0 where
  equate : {x : List ℕ} {l k : ℕ} {m r : Tokens} {s : Shape} → ReadsShape m r s → ReadsPart (lexeme.Name x l ∷ lexeme.Key key.Equals k ∷ m) r (AnEquate (record { name = x; shape = s; line = l }))
  node_var : {x : List ℕ} {l k j : ℕ} {m r : Tokens} {s : Shape} → ReadsShape m r s →
      ReadsPart (lexeme.Key key.Nodevar l ∷ lexeme.Name x k ∷ lexeme.Key key.Colon j ∷ m) r (ANodeVar (record { name = x; shape = s; first = None; line = l }))
  node_var_as : {x : List ℕ} {l k j h : ℕ} {m q r : Tokens} {s : Shape} {y : Initial} → ReadsShape m (lexeme.Key key.Becomes h ∷ q) s → ReadsInitial q r y →
      ReadsPart (lexeme.Key key.Nodevar l ∷ lexeme.Name x k ∷ lexeme.Key key.Colon j ∷ m) r (ANodeVar (record { name = x; shape = s; first = Some y; line = l }))
  a_routine : {ts r : Tokens} {x : Routine} → ReadsRoutine ts r x → ReadsPart ts r (ARoutine x)
  cluster : {x y : List ℕ} {l k j h g f e d : ℕ} {a b m r : Tokens} {xs : List (List ℕ)} {s : Shape} {rs : List Routine} →
      ReadsNames a (lexeme.Key key.Rep g ∷ lexeme.Key key.Equals f ∷ b) xs → ReadsShape b m s → ReadsRoutines m (lexeme.Key key.End e ∷ lexeme.Name y d ∷ r) rs → y ≡ x →
      ReadsPart (lexeme.Name x l ∷ lexeme.Key key.Equals k ∷ lexeme.Key key.Cluster j ∷ lexeme.Key key.Is h ∷ a) r (ACluster x xs s rs l)
  node : {x : ℤ} {l k j : ℕ} {m r : Tokens} {ps : List NodePart} → ReadsNodeParts m r ps →
      ReadsPart (lexeme.Key key.Node l ∷ lexeme.Int x k ∷ lexeme.Key key.Is j ∷ m) r (ANode (record { number = x; parts = ps; line = l }))

pub data ReadsParts : Tokens → List Part → Type 0 where
  no_parts : ReadsParts [] []
  part_and : {ts r : Tokens} {x : Part} {xs : List Part} → ReadsPart ts r x → ReadsParts r xs → ReadsParts ts (x ∷ xs)

abbrev pub empty_program : Program
empty_program = record { equates = []; node_vars = []; routines = []; clusters = []; nodes = [] }

-- a cluster's routines stand among all, from the place of the first
abbrev pub with_part : Program → Part → Program
with_part p (AnEquate x) = record p { equates = p.equates ++ x ∷ [] }
with_part p (ANodeVar x) = record p { node_vars = p.node_vars ++ x ∷ [] }
with_part p (ARoutine x) = record p { routines = p.routines ++ x ∷ [] }
with_part p (ACluster x xs s rs l) =
    record p { routines = p.routines ++ rs; clusters = p.clusters ++ record { name = x; listed = xs; rep = s; first = length p.routines; count = length rs; line = l } ∷ [] }
with_part p (ANode x) = record p { nodes = p.nodes ++ x ∷ [] }

abbrev pub program_of : Program → List Part → Program
program_of p [] = p
program_of p (x ∷ xs) = program_of (with_part p x) xs

-- All the tokens are a program's: its parts, in their order.
pub record ReadsProgram (tokens : Tokens) (program : Program) : Type 0 where
  pub parts : List Part
  pub read : ReadsParts tokens parts
  pub made : program ≡ program_of empty_program parts
