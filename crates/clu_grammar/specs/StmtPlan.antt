-- How a reader goes over statements. Contracts that are public don't name this: it finds what the grammar says, and nothing else.
use Rattle.std.specs.Prelude.{ℕ, zero, suc, Bool, true, false, if◌then◌else◌, List, [], ◌∷◌, length, Option, Some, None, codes, bytes_eq}
use Rattle.clu_tree.specs.declared.lexeme.Key.TheVariants as key
use Rattle.clu_tree.specs.declared.lexeme.Lexeme.TheVariants as lexeme
use Rattle.clu_tree.specs.declared.shape.Shape.{Shape}
use Rattle.clu_tree.specs.declared.shape.Named.{Named}
use Rattle.clu_tree.specs.declared.tree.Meant.TheVariants as meant
use Rattle.clu_tree.specs.declared.tree.Expr.{Expr, out-Expr}
use Rattle.clu_tree.specs.declared.tree.Expr.TheVariants as e
use Rattle.clu_tree.specs.declared.tree.Expr.TheOpen as ef
use Rattle.clu_tree.specs.declared.tree.FieldInit.{FieldInit}
use Rattle.clu_tree.specs.declared.tree.Target.TheVariants as t
use Rattle.clu_tree.specs.declared.tree.Remote.{Remote}
use Rattle.clu_tree.specs.declared.tree.Remote.TheVariants as c
use Rattle.clu_tree.specs.declared.tree.Iter.{Iter}
use Rattle.clu_tree.specs.declared.tree.Iter.TheVariants as i
use Rattle.clu_tree.specs.declared.tree.Stmt.{Stmt}
use Rattle.clu_tree.specs.declared.tree.Stmt.TheVariants as st
use Rattle.clu_tree.specs.declared.tree.Arm.{Arm, roll-Arm}
use Rattle.clu_tree.specs.declared.tree.TagArm.{TagArm, roll-TagArm}
use Rattle.clu_tree.specs.declared.tree.When.{When, roll-When}
use Rattle.clu_tree.specs.declared.tree.Handlers.{Handlers, roll-Handlers}
use Rattle.clu_grammar.specs.Grammar.{Tokens, line_of, field_of}
use Rattle.clu_grammar.specs.Nesting.{stmt_nesting}
use Rattle.clu_grammar.specs.Ahead.{is_target}
use Rattle.clu_grammar.specs.ExprPlan.{Found, Parser, ◌>>=◌, within, closed, bracketed, dollar, expr_within, shape, levels}
use Rattle.clu_grammar.specs.ExprPlan as plan

-- ---- the key that comes next

abbrev pub comma : {A : Type 0} → A → Parser A
comma x (lexeme.Key key.Comma _ ∷ r) = Some (x, r)
comma x _ = None

abbrev pub colon : {A : Type 0} → A → Parser A
colon x (lexeme.Key key.Colon _ ∷ r) = Some (x, r)
colon x _ = None

abbrev pub at_key : {A : Type 0} → A → Parser A
at_key x (lexeme.Key key.At _ ∷ r) = Some (x, r)
at_key x _ = None

abbrev pub within_key : {A : Type 0} → A → Parser A
within_key x (lexeme.Key key.Within _ ∷ r) = Some (x, r)
within_key x _ = None

abbrev pub then_key : {A : Type 0} → A → Parser A
then_key x (lexeme.Key key.Then _ ∷ r) = Some (x, r)
then_key x _ = None

abbrev pub do_key : {A : Type 0} → A → Parser A
do_key x (lexeme.Key key.Do _ ∷ r) = Some (x, r)
do_key x _ = None

abbrev pub in_key : {A : Type 0} → A → Parser A
in_key x (lexeme.Key key.In _ ∷ r) = Some (x, r)
in_key x _ = None

abbrev pub end_key : {A : Type 0} → A → Parser A
end_key x (lexeme.Key key.End _ ∷ r) = Some (x, r)
end_key x _ = None

-- a body ends before these
abbrev pub ends_body : Tokens → Bool
ends_body (lexeme.Key key.End _ ∷ _) = true
ends_body (lexeme.Key key.Elseif _ ∷ _) = true
ends_body (lexeme.Key key.Else _ ∷ _) = true
ends_body (lexeme.Key key.Tag _ ∷ _) = true
ends_body (lexeme.Key key.When _ ∷ _) = true
ends_body (lexeme.Key key.Others _ ∷ _) = true
ends_body _ = false

-- ---- parts

-- one or more names, at most so many
unfoldable pub names : ℕ → Parser (List (List ℕ))
names zero ts = None
names (suc n) (lexeme.Name x _ ∷ lexeme.Key key.Comma _ ∷ m) = names n m >>= λ xs r. Some (x ∷ xs, r)
names (suc n) (lexeme.Name x _ ∷ r) = Some (x ∷ [], r)
names (suc n) _ = None

-- What stands at the front of a statement, as far as it was read: a whole primary, or one with a field or an element of it, whose node isn't made yet.
pub data Place : Type 0 where
  Whole : Expr → Place
  FieldOf : Expr → List ℕ → Place
  ItemOf : Expr → Expr → Place

-- the node of a place
abbrev pub place_node : ℕ → Place → Expr
place_node line (Whole a) = a
place_node line (FieldOf a x) = e.Field a x line meant.Unknown
place_node line (ItemOf a b) = e.Index a b line meant.Unknown

abbrev pub field_place : Expr → Parser Place
field_place a (lexeme.Name x _ ∷ r) = Some (FieldOf a x, r)
field_place a _ = None

abbrev pub is_call : ef.Expr-F Expr FieldInit → Bool
is_call (ef.Call _ _ _ _) = true
is_call (ef.Op _ _ _ _ _) = true
is_call _ = false

abbrev pub opens : Tokens → Bool
opens (lexeme.Key key.LParen _ ∷ _) = true
opens _ = false

abbrev pub begins_remote : Tokens → Bool
begins_remote (lexeme.Key key.Once _ ∷ _) = true
begins_remote (lexeme.Key key.Maybe _ ∷ _) = true
begins_remote _ = false

abbrev pub stmt_within : ℕ → Stmt → Parser Stmt
stmt_within = within stmt_nesting

-- `body` reads statements of at most d - 1 levels; everything here has at most d
module _ (body : Parser (List Stmt)) (d : ℕ) where
  abbrev pub expr : Parser Expr
  expr = levels d 5

  -- the arguments behind an opening bracket, and the closing one
  abbrev pub args : Parser (List Expr)
  args = plan.args (levels d) d

  -- ["(" id ":" type ")"]
  abbrev pub variable : Parser (Option Named)
  variable (lexeme.Key key.LParen _ ∷ lexeme.Name x _ ∷ lexeme.Key key.Colon _ ∷ m) = shape d m >>= closed >>= λ t r. Some (Some (field_of x t), r)
  variable ts = Some (None, ts)

  abbrev pub remote : Parser Remote
  remote (lexeme.Key key.Once l ∷ lexeme.Name x _ ∷ lexeme.Key key.LParen _ ∷ m) =
      args m >>= at_key >>= λ xs q. expr q >>= λ a r. Some (c.Once x xs a l meant.Unknown, r)
  remote (lexeme.Key key.Maybe l ∷ lexeme.Name x _ ∷ lexeme.Key key.LParen _ ∷ m) =
      args m >>= at_key >>= λ xs q. expr q >>= within_key >>= λ a w. expr w >>= λ b r. Some (c.Maybe x xs a b l meant.Unknown, r)
  remote _ = None

  abbrev pub elements_key : Shape → Parser Shape
  elements_key t (lexeme.Name x _ ∷ lexeme.Key key.LParen _ ∷ r) = if bytes_eq x (codes "elements") then Some (t, r) else None
  elements_key t _ = None

  abbrev pub elements : Parser Iter
  elements ts = shape d ts >>= dollar >>= elements_key >>= λ t m. expr m >>= closed >>= λ a r. Some (i.Elements t a (line_of ts), r)

  abbrev pub range : ℕ → Parser Iter
  range l m = expr m >>= comma >>= λ a q. expr q >>= closed >>= λ b r. Some (i.FromTo a b l, r)

  abbrev pub iter : Parser Iter
  iter (lexeme.Key key.Int l ∷ lexeme.Key key.Dollar k ∷ lexeme.Name x j ∷ lexeme.Key key.LParen h ∷ m) =
      if bytes_eq x (codes "from_to") then range l m else elements (lexeme.Key key.Int l ∷ lexeme.Key key.Dollar k ∷ lexeme.Name x j ∷ lexeme.Key key.LParen h ∷ m)
  iter ts = elements ts

  -- the primary at the front of a statement; here a bracket behind a name always opens its arguments
  abbrev pub front : Parser Expr
  front (lexeme.Name x l ∷ lexeme.Key key.LParen _ ∷ m) = args m >>= λ xs. expr_within d (e.Call x xs l meant.Unknown)
  front (lexeme.Key key.LParen _ ∷ m) = plan.group (levels d) d m
  front ts = plan.atom (levels d) d ts

  -- what goes on with it, at most so many times
  unfoldable pub places : ℕ → ℕ → Place → Parser Place
  places zero line x ts = None
  places (suc n) line x (lexeme.Key key.Dot _ ∷ m) = expr_within d (place_node line x) m >>= field_place >>= places n line
  places (suc n) line x (lexeme.Key key.LBracket _ ∷ m) =
      expr_within d (place_node line x) m >>= (λ a q. expr q >>= bracketed >>= λ b r. Some (ItemOf a b, r)) >>= places n line
  places (suc n) line x ts = Some (x, ts)

  -- A target is assigned to, and a call that stood in no brackets is a statement.
  abbrev pub front_stmt : Bool → ℕ → Place → Parser Stmt
  front_stmt grouped line (FieldOf a x) (lexeme.Key key.Becomes _ ∷ m) = expr m >>= λ b. stmt_within d (st.Assign (t.Field a x line meant.Unknown) b line)
  front_stmt grouped line (ItemOf a b) (lexeme.Key key.Becomes _ ∷ m) = expr m >>= λ y. stmt_within d (st.Assign (t.Index a b line meant.Unknown) y line)
  front_stmt false line (Whole a) ts = if is_call (out-Expr a) then stmt_within d (st.Call a line) ts else None
  front_stmt grouped line x ts = None

  abbrev pub from_front : Parser Stmt
  from_front ts = front ts >>= λ a m. places (suc d) (line_of ts) (Whole a) m >>= front_stmt (opens ts) (line_of ts)

  -- behind a name, `:` and a type
  abbrev pub declared : List ℕ → ℕ → Shape → Parser Stmt
  declared x line t (lexeme.Key key.Becomes _ ∷ m) = expr m >>= λ a. stmt_within d (st.Declare x t (Some a) line)
  declared x line t r = stmt_within d (st.Declare x t None line) r

  -- behind a name and `:=`
  abbrev pub assigned : List ℕ → ℕ → Parser Stmt
  assigned x line m =
      if begins_remote m then (remote m >>= λ y. stmt_within d (st.Remote (Some x) y line meant.Unknown)) else (expr m >>= λ a. stmt_within d (st.Assign (t.Name x line meant.Unknown) a line))

  unfoldable pub arms : ℕ → Parser (List Arm)
  arms zero ts = None
  arms (suc n) (lexeme.Key key.Elseif _ ∷ m) =
      expr m >>= then_key >>= λ a q. body q >>= λ b w. arms n w >>= λ xs r. Some (roll-Arm (record { test = a; body = b }) ∷ xs, r)
  arms (suc n) ts = Some ([], ts)

  -- ["else" body] "end"
  abbrev pub otherwise : Parser (Option (List Stmt))
  otherwise (lexeme.Key key.Else _ ∷ m) = body m >>= end_key >>= λ b r. Some (Some b, r)
  otherwise ts = end_key None ts

  unfoldable pub tags : ℕ → Parser (List TagArm)
  tags zero ts = None
  tags (suc n) (lexeme.Key key.Tag _ ∷ lexeme.Name x _ ∷ m) =
      variable m >>= colon >>= λ o q. body q >>= λ b w. tags n w >>= λ xs r. Some (roll-TagArm (record { tag = x; variable = o; body = b; meant = meant.Unknown }) ∷ xs, r)
  tags (suc n) (lexeme.Key key.Tag _ ∷ _) = None
  tags (suc n) ts = Some ([], ts)

  -- ["others" ":" body] "end"
  abbrev pub others : Parser (Option (List Stmt))
  others (lexeme.Key key.Others _ ∷ lexeme.Key key.Colon _ ∷ m) = body m >>= end_key >>= λ b r. Some (Some b, r)
  others ts = end_key None ts

  unfoldable pub whens : ℕ → Parser (List When)
  whens zero ts = None
  whens (suc n) (lexeme.Key key.When _ ∷ m) =
      names (length m) m >>= λ xs q. variable q >>= colon >>= λ o w. body w >>= λ b p. whens n p >>= λ ws r. Some (roll-When (record { names = xs; variable = o; body = b }) ∷ ws, r)
  whens (suc n) ts = Some ([], ts)

  -- ["others" ":" body], behind the other handlers
  abbrev pub other_handler : List When → Parser Handlers
  other_handler ws (lexeme.Key key.Others _ ∷ lexeme.Key key.Colon _ ∷ m) = body m >>= λ b r. Some (roll-Handlers (record { whens = ws; others = Some b }), r)
  other_handler ws ts = Some (roll-Handlers (record { whens = ws; others = None }), ts)

  abbrev pub handlers : Parser Handlers
  handlers ts = whens (suc (length ts)) ts >>= other_handler

  -- a statement alone
  unfoldable pub simple : Parser Stmt
  simple (lexeme.Name x l ∷ lexeme.Key key.Colon _ ∷ m) = shape d m >>= declared x l
  simple (lexeme.Name x l ∷ lexeme.Key key.Becomes _ ∷ m) = assigned x l m
  simple (lexeme.Key key.Once l ∷ m) = remote (lexeme.Key key.Once l ∷ m) >>= λ x. stmt_within d (st.Remote None x l meant.Unknown)
  simple (lexeme.Key key.Maybe l ∷ m) = remote (lexeme.Key key.Maybe l ∷ m) >>= λ x. stmt_within d (st.Remote None x l meant.Unknown)
  simple (lexeme.Key key.PutLine l ∷ lexeme.Key key.LParen _ ∷ m) = expr m >>= closed >>= λ a. stmt_within d (st.PutLine a l)
  simple (lexeme.Key key.Sleep l ∷ lexeme.Key key.LParen _ ∷ m) = expr m >>= closed >>= λ a. stmt_within d (st.Sleep a l)
  simple (lexeme.Key key.Fork l ∷ lexeme.Name x _ ∷ lexeme.Key key.LParen _ ∷ m) = args m >>= λ xs. stmt_within d (st.Fork x xs l meant.Unknown)
  simple (lexeme.Key key.Return l ∷ lexeme.Key key.LParen k ∷ m) =
      if is_target m then stmt_within d (st.Return None l) (lexeme.Key key.LParen k ∷ m) else (expr m >>= closed >>= λ a. stmt_within d (st.Return (Some a) l))
  simple (lexeme.Key key.Return l ∷ r) = stmt_within d (st.Return None l) r
  simple (lexeme.Key key.Signal l ∷ lexeme.Name x _ ∷ lexeme.Key key.LParen k ∷ m) =
      if is_target m then stmt_within d (st.Signal x None l) (lexeme.Key key.LParen k ∷ m) else (expr m >>= closed >>= λ a. stmt_within d (st.Signal x (Some a) l))
  simple (lexeme.Key key.Signal l ∷ lexeme.Name x _ ∷ r) = stmt_within d (st.Signal x None l) r
  simple (lexeme.Key key.If l ∷ m) =
      expr m >>= then_key >>= λ a q. body q >>= λ b w. arms (suc (length w)) w >>= λ xs p. otherwise p >>= λ o. stmt_within d (st.If a b xs o l)
  simple (lexeme.Key key.While l ∷ m) = expr m >>= do_key >>= λ a q. body q >>= end_key >>= λ b. stmt_within d (st.While a b l)
  simple (lexeme.Key key.For l ∷ lexeme.Name x _ ∷ lexeme.Key key.Colon _ ∷ m) =
      shape d m >>= in_key >>= λ t q. iter q >>= do_key >>= λ y w. body w >>= end_key >>= λ b. stmt_within d (st.For x t y b l)
  simple (lexeme.Key key.Tagcase l ∷ m) = expr m >>= λ a q. tags (suc (length q)) q >>= λ xs w. others w >>= λ o. stmt_within d (st.Tagcase a xs o l)
  simple (lexeme.Key key.Begin l ∷ m) = body m >>= end_key >>= λ b. stmt_within d (st.Begin b l)
  simple (lexeme.Key key.Region l ∷ m) = expr m >>= do_key >>= λ a q. body q >>= end_key >>= λ b. stmt_within d (st.Region a b l)
  simple ts = from_front ts

  -- what is written behind a statement, at most so many times
  unfoldable pub suffixes : ℕ → Stmt → Parser Stmt
  suffixes zero x ts = None
  suffixes (suc n) x (lexeme.Key key.Except _ ∷ m) = handlers m >>= end_key >>= (λ h. stmt_within d (st.Except x h)) >>= suffixes n
  suffixes (suc n) x (lexeme.Key key.Resignal _ ∷ m) = names (length m) m >>= (λ xs. stmt_within d (st.Resignal x xs)) >>= suffixes n
  suffixes (suc n) x ts = Some (x, ts)

  abbrev pub stmt : Parser Stmt
  stmt ts = simple ts >>= suffixes (suc d)

  -- the statements up to where a body ends, at most so many
  unfoldable pub stmts : ℕ → Parser (List Stmt)
  stmts zero ts = None
  stmts (suc n) ts = if ends_body ts then Some ([], ts) else (stmt ts >>= λ x m. stmts n m >>= λ xs r. Some (x ∷ xs, r))

-- statements of at most d levels
unfoldable pub body : ℕ → Parser (List Stmt)
body zero ts = if ends_body ts then Some ([], ts) else None
body (suc d) ts = stmts (body d) (suc d) (suc (length ts)) ts
