-- Where an expression ends: what may follow it, and how the look-ahead tells.
use Rattle.std.proofs.Common.{◌≡◌, ℕ, zero, suc, ◌+◌, ◌<◌, ◌≤◌, Bool, true, false, List, ◌∷◌, length, Some, refl, ap, ◌∙◌, arith}
use Rattle.clu_tree.specs.declared.lexeme.Key.{Key}
use Rattle.clu_tree.specs.declared.lexeme.Key.TheVariants as key
use Rattle.clu_tree.specs.declared.lexeme.Lexeme.TheVariants as lexeme
use Rattle.clu_tree.specs.declared.shape.Shape.{Shape}
use Rattle.clu_tree.specs.declared.value.Value.{Value}
use Rattle.clu_tree.specs.declared.tree.Prefix.TheVariants as p
use Rattle.clu_tree.specs.declared.tree.Expr.{Expr}
use Rattle.clu_tree.specs.declared.tree.Target.{Target}
use Rattle.clu_grammar.specs.Grammar.{Tokens, type_of, looseness, ReadsShape, type_word, type_name, array_type, record_type, oneof_type, ReadsLiteral, nil, yes, no, int, char, string, ReadsExpr, primary, prefix, alone, grouped, compared, ReadsPrimary, literal, name, called, record_of, no_items, array_of, group, up, down, now, field, index, ReadsCall, call, operation, ReadsItems, last_item, item, ReadsTarget, to_name, to_field, to_item}
use Rattle.clu_grammar.specs.Ahead.{skip, becomes, assigns, is_target}
use Rattle.clu_grammar.proofs.Shrinks.{shrinks}
use Rattle.clu_grammar.proofs.Balance.{skips}

-- how loosely a key that comes first holds what stands before it
abbrev pub loosens : Tokens → ℕ
loosens (lexeme.Key o _ ∷ _) = looseness o
loosens _ = 6

-- What comes isn't `:=` or `$`, and if it is a bracket, that begins the target of an assignment.
abbrev pub ends : Tokens → Bool
ends (lexeme.Key key.Becomes _ ∷ _) = false
ends (lexeme.Key key.Dollar _ ∷ _) = false
ends (lexeme.Key key.LParen _ ∷ m) = is_target m
ends _ = true

-- An expression of looseness k ends before these.
abbrev pub Ends : ℕ → Tokens → Type 0
Ends k r = (k < loosens r) × (ends r ≡ true)

-- A primary may be followed by these: they don't make an assignment's target of it.
abbrev pub Clear : Tokens → Type 0
Clear r = ((t : ℕ) → assigns t r ≡ false) × (ends r ≡ true)

assigns-ends : (t : ℕ) (r : Tokens) → 0 < loosens r → ends r ≡ true → assigns t r ≡ false
assigns-ends zero (lexeme.Key key.Becomes n ∷ r) l h = absurd cc
assigns-ends zero _ l h = refl
assigns-ends (suc t) (lexeme.Key key.Dot n ∷ r) l h = absurd (omega arith)
assigns-ends (suc t) (lexeme.Key key.LBracket n ∷ r) l h = absurd (omega arith)
assigns-ends (suc t) (lexeme.Key key.Becomes n ∷ r) l h = absurd cc
assigns-ends (suc t) _ l h = refl

pub clear-ends : (r : Tokens) → Ends 0 r → Clear r
clear-ends r h = (λ t. assigns-ends t r h.0 h.1, h.1)

pub operator-ends : (o : Key) (k l : ℕ) (m : Tokens) → looseness o ≡ suc k → k < 5 → ends (lexeme.Key o l ∷ m) ≡ true
operator-ends key.Becomes k l m h f = absurd (omega arith)
operator-ends key.Dollar k l m h f = absurd (omega arith)
operator-ends key.LParen k l m h f = absurd (omega arith)
operator-ends _ k l m h f = refl

-- Before a field or an element it is as behind it.
pub clear-field : (n l : ℕ) (x : List ℕ) (r : Tokens) → Clear r → Clear (lexeme.Key key.Dot n ∷ lexeme.Name x l ∷ r)
clear-field n l x r h = (go, refl)
  where
    go : (t : ℕ) → assigns t (lexeme.Key key.Dot n ∷ lexeme.Name x l ∷ r) ≡ false
    go zero = refl
    go (suc t) = h.0 t

pub clear-index : (n : ℕ) (m r : Tokens) → skip zero m ≡ r → Clear r → Clear (lexeme.Key key.LBracket n ∷ m)
clear-index n m r e h = (go, refl)
  where
    go : (t : ℕ) → assigns t (lexeme.Key key.LBracket n ∷ m) ≡ false
    go zero = refl
    go (suc t) = ap (assigns t) e ∙ h.0 t

-- ---- what comes first

abbrev pub opens : Tokens → Bool
opens (lexeme.Key key.LParen _ ∷ _) = true
opens _ = false

-- a closing bracket, of either kind
abbrev pub closes : Tokens → Bool
closes (lexeme.Key key.RParen _ ∷ _) = true
closes (lexeme.Key key.RBracket _ ∷ _) = true
closes _ = false

-- the sign of a prefix
abbrev pub signs : Tokens → Bool
signs (lexeme.Key key.Minus _ ∷ _) = true
signs (lexeme.Key key.Tilde _ ∷ _) = true
signs _ = false

-- None of these, and nothing that goes on with an expression.
abbrev pub Fresh : Tokens → Type 0
Fresh ts = (closes ts ≡ false) × (signs ts ≡ false) × (loosens ts ≡ 6)

-- no bracket either
abbrev pub Bare : Tokens → Type 0
Bare ts = Fresh ts × (opens ts ≡ false) × (ends ts ≡ true)

bare-type : (o : Key) (l : ℕ) (r : Tokens) (t : Shape) → type_of o ≡ Some t → Bare (lexeme.Key o l ∷ r)
bare-type key.Null l r t h = ((refl, refl, refl), refl, refl)
bare-type key.Bool l r t h = ((refl, refl, refl), refl, refl)
bare-type key.Int l r t h = ((refl, refl, refl), refl, refl)
bare-type key.Char l r t h = ((refl, refl, refl), refl, refl)
bare-type key.String l r t h = ((refl, refl, refl), refl, refl)
bare-type key.Lock l r t h = ((refl, refl, refl), refl, refl)
bare-type key.Semaphore l r t h = ((refl, refl, refl), refl, refl)
bare-type key.Cvt l r t h = ((refl, refl, refl), refl, refl)
bare-type key.Rep l r t h = ((refl, refl, refl), refl, refl)
bare-type _ l r t h = absurd cc

pub bare-shape : {ts r : Tokens} {t : Shape} → ReadsShape ts r t → Bare ts
bare-shape (type_word {o = o} {n = n} {r = r} {t = t} h) = bare-type o n r t h
bare-shape type_name = ((refl, refl, refl), refl, refl)
bare-shape (array_type p) = ((refl, refl, refl), refl, refl)
bare-shape (record_type p) = ((refl, refl, refl), refl, refl)
bare-shape (oneof_type p) = ((refl, refl, refl), refl, refl)

pub bare-literal : {ts r : Tokens} {x : Value} → ReadsLiteral ts r x → Bare ts
bare-literal nil = ((refl, refl, refl), refl, refl)
bare-literal yes = ((refl, refl, refl), refl, refl)
bare-literal no = ((refl, refl, refl), refl, refl)
bare-literal int = ((refl, refl, refl), refl, refl)
bare-literal char = ((refl, refl, refl), refl, refl)
bare-literal string = ((refl, refl, refl), refl, refl)

pub bare-call : {ts r : Tokens} {x : Expr} → ReadsCall ts r x → Bare ts
bare-call (call p) = ((refl, refl, refl), refl, refl)
bare-call (operation p o q) = bare-shape p

pub fresh : {ts r : Tokens} {x : Expr} → ReadsPrimary ts r x → Fresh ts
fresh (literal p) = (bare-literal p).0
fresh name = (refl, refl, refl)
fresh (called p) = (bare-call p).0
fresh (record_of p q) = (bare-shape p).0
fresh (no_items p) = (bare-shape p).0
fresh (array_of p q) = (bare-shape p).0
fresh (group p) = (refl, refl, refl)
fresh (up p) = (refl, refl, refl)
fresh (down p) = (refl, refl, refl)
fresh now = (refl, refl, refl)
fresh (field p) = fresh p
fresh (index p q) = fresh p

pub unclosed : {k : ℕ} {ts r : Tokens} {x : Expr} → ReadsExpr k ts r x → closes ts ≡ false
unclosed (primary p) = (fresh p).0
unclosed (prefix p.Minus p) = refl
unclosed (prefix p.Not p) = refl
unclosed (alone p) = unclosed p
unclosed (grouped _ _ p q) = unclosed p
unclosed (compared _ _ p q) = unclosed p

pub unclosed-items : {ts r : Tokens} {xs : List Expr} → ReadsItems ts r xs → closes ts ≡ false
unclosed-items (last_item p) = unclosed p
unclosed-items (item p q) = unclosed p

-- ---- brackets that begin a target

assigns-more : (t s : ℕ) (ts : Tokens) → t ≤ s → assigns t ts ≡ true → assigns s ts ≡ true
assigns-more zero zero ts f h = h
assigns-more zero (suc s) (lexeme.Key key.Becomes n ∷ r) f h = refl
assigns-more zero (suc s) _ f h = absurd cc
assigns-more (suc t) zero ts f h = absurd (omega arith)
assigns-more (suc t) (suc s) (lexeme.Key key.Dot n ∷ lexeme.Name x l ∷ r) f h = assigns-more t s r (omega arith) h
assigns-more (suc t) (suc s) (lexeme.Key key.LBracket n ∷ m) f h = assigns-more t s (skip zero m) (omega arith) h
assigns-more (suc t) (suc s) _ f h = h

-- what stands behind a bracket that comes first
abbrev behind : Tokens → Tokens
behind (lexeme.Key key.LParen _ ∷ m) = m
behind ts = ts

-- The test behind such a bracket is the test behind the whole primary, with a turn more for each field and element.
looks : {ts r : Tokens} {x : Expr} → ReadsPrimary ts r x → opens ts ≡ true → (t : ℕ) →
    (s : ℕ) × (s + length r < t + length (behind ts)) × (assigns s (skip zero (behind ts)) ≡ assigns t r)
looks (literal p) h t = let b = bare-literal p in absurd cc
looks name h t = absurd cc
looks (called p) h t = let b = bare-call p in absurd cc
looks (record_of p q) h t = let b = bare-shape p in absurd cc
looks (no_items p) h t = let b = bare-shape p in absurd cc
looks (array_of p q) h t = let b = bare-shape p in absurd cc
looks (group p) h t = (t, omega (arith, shrinks p), ap (assigns t) (skips p (omega arith) zero))
looks (up p) h t = absurd cc
looks (down p) h t = absurd cc
looks now h t = absurd cc
looks (field p) h t = let e = looks p h (suc t) in (e.0, omega (arith, e.1), e.2)
looks (index p q) h t = let e = looks p h (suc t) in (e.0, omega (arith, e.1, shrinks q), e.2 ∙ ap (assigns t) (skips q (omega arith) zero))

bare-ends : {ts r : Tokens} {x : Expr} → ReadsPrimary ts r x → opens ts ≡ false → ends ts ≡ true
bare-ends (literal p) h = (bare-literal p).2
bare-ends name h = refl
bare-ends (called p) h = (bare-call p).2
bare-ends (record_of p q) h = (bare-shape p).2
bare-ends (no_items p) h = (bare-shape p).2
bare-ends (array_of p q) h = (bare-shape p).2
bare-ends (group p) h = absurd cc
bare-ends (up p) h = refl
bare-ends (down p) h = refl
bare-ends now h = refl
bare-ends (field p) h = bare-ends p h
bare-ends (index p q) h = bare-ends p h

opened-ends : (ts : Tokens) (s : ℕ) → opens ts ≡ true → s ≤ length (behind ts) → assigns s (skip zero (behind ts)) ≡ true → ends ts ≡ true
opened-ends (lexeme.Key key.LParen n ∷ m) s o f h = assigns-more s (length m) (skip zero m) f h
opened-ends _ s o f h = absurd cc

-- An expression ends before the primary that a target begins with.
pub primary-ends : {ts r : Tokens} {x : Expr} → ReadsPrimary ts r x → (t : ℕ) → t ≤ length r → assigns t r ≡ true → Ends 5 ts
primary-ends {ts = ts} {r = r} p t f h = (omega (arith, (fresh p).2), go (opens ts) refl)
  where
    go : (b : Bool) → opens ts ≡ b → ends ts ≡ true
    go false o = bare-ends p o
    go true o = let e = looks p o t in opened-ends ts e.0 o (omega (arith, e.1, f)) (e.2 ∙ h)

-- It ends before a target, and before a call.
pub target-ends : {ts m : Tokens} {l : ℕ} {x : Target} → ReadsTarget ts (lexeme.Key key.Becomes l ∷ m) x → Ends 5 ts
target-ends to_name = (omega arith, refl)
target-ends (to_field p) = primary-ends p 1 (omega arith) refl
target-ends (to_item {m = m} p q) = primary-ends p 1 (omega arith) (ap becomes (skips q (omega arith) zero))

pub call-ends : {ts r : Tokens} {x : Expr} → ReadsCall ts r x → Ends 5 ts
call-ends p = let b = bare-call p in (omega (arith, b.0.2), b.2)
