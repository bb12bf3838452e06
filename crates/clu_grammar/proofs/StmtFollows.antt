-- What comes first in a statement, and what may follow one.
use Rattle.std.proofs.Common.{◌≡◌, ℕ, Bool, true, false, ◌∷◌, Some, refl, arith}
use Rattle.clu_tree.specs.declared.lexeme.Key.{Key}
use Rattle.clu_tree.specs.declared.lexeme.Key.TheVariants as key
use Rattle.clu_tree.specs.declared.lexeme.Lexeme.TheVariants as lexeme
use Rattle.clu_tree.specs.declared.shape.Shape.{Shape}
use Rattle.clu_tree.specs.declared.value.Value.{Value}
use Rattle.clu_tree.specs.declared.tree.Prefix.TheVariants as p
use Rattle.clu_tree.specs.declared.tree.Expr.{Expr}
use Rattle.clu_tree.specs.declared.tree.Stmt.{Stmt}
use Rattle.clu_grammar.specs.Grammar as g
use Rattle.clu_grammar.specs.Grammar.{Tokens, type_of, looseness, ReadsShape, ReadsLiteral, ReadsExpr, ReadsPrimary, ReadsCall, ReadsRemote, ReadsTarget, ReadsStmt, ReadsSimple}
use Rattle.clu_grammar.specs.StmtPlan.{ends_body, begins_remote}
use Rattle.clu_grammar.proofs.Ending.{Ends, target-ends, call-ends}
use Rattle.clu_grammar.proofs.Shapes.{commas}

-- `except` and `resignal` go on with a statement
abbrev pub suffixed : Tokens → Bool
suffixed (lexeme.Key key.Except _ ∷ _) = true
suffixed (lexeme.Key key.Resignal _ ∷ _) = true
suffixed _ = false

-- What may follow a statement that no suffix was read of yet.
abbrev pub Follows : Tokens → Type 0
Follows r = Ends 5 r × (commas r ≡ false)

-- `returns` and `signals` go on with a routine's header
abbrev pub headed : Tokens → Bool
headed (lexeme.Key key.Returns _ ∷ _) = true
headed (lexeme.Key key.Signals _ ∷ _) = true
headed _ = false

-- not what a body ends before, no suffix, no remote call and no part of a header
abbrev Plain : Tokens → Type 0
Plain ts = (commas ts ≡ false) × (suffixed ts ≡ false) × (ends_body ts ≡ false) × (begins_remote ts ≡ false) × (headed ts ≡ false)

plain-type : (o : Key) (l : ℕ) (r : Tokens) (t : Shape) → type_of o ≡ Some t → Plain (lexeme.Key o l ∷ r)
plain-type key.Null l r t h = (refl, refl, refl, refl, refl)
plain-type key.Bool l r t h = (refl, refl, refl, refl, refl)
plain-type key.Int l r t h = (refl, refl, refl, refl, refl)
plain-type key.Char l r t h = (refl, refl, refl, refl, refl)
plain-type key.String l r t h = (refl, refl, refl, refl, refl)
plain-type key.Lock l r t h = (refl, refl, refl, refl, refl)
plain-type key.Semaphore l r t h = (refl, refl, refl, refl, refl)
plain-type key.Cvt l r t h = (refl, refl, refl, refl, refl)
plain-type key.Rep l r t h = (refl, refl, refl, refl, refl)
plain-type _ l r t h = absurd cc

plain-shape : {ts r : Tokens} {t : Shape} → ReadsShape ts r t → Plain ts
plain-shape (g.type_word {o = o} {n = l} {r = r} {t = t} h) = plain-type o l r t h
plain-shape g.type_name = (refl, refl, refl, refl, refl)
plain-shape (g.array_type p) = (refl, refl, refl, refl, refl)
plain-shape (g.record_type p) = (refl, refl, refl, refl, refl)
plain-shape (g.oneof_type p) = (refl, refl, refl, refl, refl)

plain-literal : {ts r : Tokens} {x : Value} → ReadsLiteral ts r x → Plain ts
plain-literal g.nil = (refl, refl, refl, refl, refl)
plain-literal g.yes = (refl, refl, refl, refl, refl)
plain-literal g.no = (refl, refl, refl, refl, refl)
plain-literal g.int = (refl, refl, refl, refl, refl)
plain-literal g.char = (refl, refl, refl, refl, refl)
plain-literal g.string = (refl, refl, refl, refl, refl)

plain-call : {ts r : Tokens} {x : Expr} → ReadsCall ts r x → Plain ts
plain-call (g.call p) = (refl, refl, refl, refl, refl)
plain-call (g.operation p o q) = plain-shape p

plain-primary : {ts r : Tokens} {x : Expr} → ReadsPrimary ts r x → Plain ts
plain-primary (g.literal p) = plain-literal p
plain-primary g.name = (refl, refl, refl, refl, refl)
plain-primary (g.called p) = plain-call p
plain-primary (g.record_of p q) = plain-shape p
plain-primary (g.no_items p) = plain-shape p
plain-primary (g.array_of p q) = plain-shape p
plain-primary (g.group p) = (refl, refl, refl, refl, refl)
plain-primary (g.up p) = (refl, refl, refl, refl, refl)
plain-primary (g.down p) = (refl, refl, refl, refl, refl)
plain-primary g.now = (refl, refl, refl, refl, refl)
plain-primary (g.field p) = plain-primary p
plain-primary (g.index p q) = plain-primary p

-- No expression begins with a remote call's word.
pub unremote : {k : ℕ} {ts r : Tokens} {x : Expr} → ReadsExpr k ts r x → begins_remote ts ≡ false
unremote (g.primary p) = (plain-primary p).3
unremote (g.prefix p.Minus p) = refl
unremote (g.prefix p.Not p) = refl
unremote (g.alone p) = unremote p
unremote (g.grouped _ _ p q) = unremote p
unremote (g.compared _ _ p q) = unremote p

-- What a statement begins with may follow one, is no suffix, no body ends before it, and it is no part of a header.
abbrev pub Begins : Tokens → Type 0
Begins ts = Follows ts × (suffixed ts ≡ false) × (ends_body ts ≡ false) × (headed ts ≡ false)

simple-begins : {ts r : Tokens} {x : Stmt} → ReadsSimple ts r x → Begins ts
simple-begins (g.declare p) = (((omega arith, refl), refl), refl, refl, refl)
simple-begins (g.declare_as p q) = (((omega arith, refl), refl), refl, refl, refl)
simple-begins (g.assign g.to_name q) = (((omega arith, refl), refl), refl, refl, refl)
simple-begins (g.assign (g.to_field p) q) = let w = plain-primary p in ((target-ends (g.to_field p), w.0), w.1, w.2, w.4)
simple-begins (g.assign (g.to_item p i) q) = let w = plain-primary p in ((target-ends (g.to_item p i), w.0), w.1, w.2, w.4)
simple-begins (g.remote (g.once p q)) = (((omega arith, refl), refl), refl, refl, refl)
simple-begins (g.remote (g.maybe p q w)) = (((omega arith, refl), refl), refl, refl, refl)
simple-begins (g.remote_to p) = (((omega arith, refl), refl), refl, refl, refl)
simple-begins (g.call_of p) = let w = plain-call p in ((call-ends p, w.0), w.1, w.2, w.4)
simple-begins (g.put_line p) = (((omega arith, refl), refl), refl, refl, refl)
simple-begins (g.sleep p) = (((omega arith, refl), refl), refl, refl, refl)
simple-begins (g.fork p) = (((omega arith, refl), refl), refl, refl, refl)
simple-begins g.leave = (((omega arith, refl), refl), refl, refl, refl)
simple-begins (g.give p) = (((omega arith, refl), refl), refl, refl, refl)
simple-begins g.signal = (((omega arith, refl), refl), refl, refl, refl)
simple-begins (g.signal_with p) = (((omega arith, refl), refl), refl, refl, refl)
simple-begins (g.choose p q w o) = (((omega arith, refl), refl), refl, refl, refl)
simple-begins (g.while p q) = (((omega arith, refl), refl), refl, refl, refl)
simple-begins (g.for p q w) = (((omega arith, refl), refl), refl, refl, refl)
simple-begins (g.tagcase p q w) = (((omega arith, refl), refl), refl, refl, refl)
simple-begins (g.begin p) = (((omega arith, refl), refl), refl, refl, refl)
simple-begins (g.region p q) = (((omega arith, refl), refl), refl, refl, refl)

pub stmt-begins : {ts r : Tokens} {x : Stmt} → ReadsStmt ts r x → Begins ts
stmt-begins (g.simple p) = simple-begins p
stmt-begins (g.except p q) = stmt-begins p
stmt-begins (g.resignal p q) = stmt-begins p

-- So does what ends a body.
pub ended-follows : (r : Tokens) → ends_body r ≡ true → Follows r × (suffixed r ≡ false) × (headed r ≡ false)
ended-follows (lexeme.Key key.End l ∷ r) h = (((omega arith, refl), refl), refl, refl)
ended-follows (lexeme.Key key.Elseif l ∷ r) h = (((omega arith, refl), refl), refl, refl)
ended-follows (lexeme.Key key.Else l ∷ r) h = (((omega arith, refl), refl), refl, refl)
ended-follows (lexeme.Key key.Tag l ∷ r) h = (((omega arith, refl), refl), refl, refl)
ended-follows (lexeme.Key key.When l ∷ r) h = (((omega arith, refl), refl), refl, refl)
ended-follows (lexeme.Key key.Others l ∷ r) h = (((omega arith, refl), refl), refl, refl)
ended-follows _ h = absurd cc
