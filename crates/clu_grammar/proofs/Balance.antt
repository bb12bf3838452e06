-- What is read is balanced, so that skipping it and reading it end at the same place.
use Rattle.std.proofs.Common.{◌≡◌, ℕ, zero, suc, ◌<◌, ◌≤◌, List, ◌∷◌, Some, refl, ◌∙◌, arith}
use Rattle.clu_tree.specs.Lexical.{word_of}
use Rattle.clu_tree.specs.declared.lexeme.Key.{Key}
use Rattle.clu_tree.specs.declared.lexeme.Key.TheVariants as key
use Rattle.clu_tree.specs.declared.lexeme.Lexeme.TheVariants as lexeme
use Rattle.clu_tree.specs.declared.shape.Shape.{Shape}
use Rattle.clu_tree.specs.declared.shape.Named.{Named}
use Rattle.clu_tree.specs.declared.value.Value.{Value}
use Rattle.clu_tree.specs.declared.tree.Prefix.TheVariants as p
use Rattle.clu_tree.specs.declared.tree.Expr.{Expr}
use Rattle.clu_tree.specs.declared.tree.FieldInit.{FieldInit}
use Rattle.clu_grammar.specs.Grammar.{Tokens, type_of, looseness, ReadsShape, ReadsFields, type_word, type_name, array_type, record_type, oneof_type, last_field, field_and, ReadsLiteral, nil, yes, no, int, char, string, ReadsOp, op_name, op_word, ReadsExpr, primary, prefix, alone, grouped, compared, ReadsPrimary, literal, name, called, record_of, no_items, array_of, group, up, down, now, field, index, ReadsCall, call, operation, ReadsArgs, no_args, args, ReadsItems, last_item, item, ReadsInits, last_init, init}
use Rattle.clu_grammar.specs.Ahead.{skip}

skips-operator : (o : Key) (k d n : ℕ) (m : Tokens) → looseness o ≡ suc k → k < 5 → skip d (lexeme.Key o n ∷ m) ≡ skip d m
skips-operator key.LParen k d n m l f = absurd (omega arith)
skips-operator key.LBracket k d n m l f = absurd (omega arith)
skips-operator key.LBrace k d n m l f = absurd (omega arith)
skips-operator key.RParen k d n m l f = absurd (omega arith)
skips-operator key.RBracket k d n m l f = absurd (omega arith)
skips-operator key.RBrace k d n m l f = absurd (omega arith)
skips-operator _ k d n m l f = refl

skips-type : (o : Key) (d n : ℕ) (m : Tokens) (t : Shape) → type_of o ≡ Some t → skip d (lexeme.Key o n ∷ m) ≡ skip d m
skips-type key.LParen d n m t h = absurd cc
skips-type key.LBracket d n m t h = absurd cc
skips-type key.LBrace d n m t h = absurd cc
skips-type key.RParen d n m t h = absurd cc
skips-type key.RBracket d n m t h = absurd cc
skips-type key.RBrace d n m t h = absurd cc
skips-type _ d n m t h = refl

skips-word : (o : Key) (d n : ℕ) (m : Tokens) (x : List ℕ) → word_of o ≡ Some x → skip d (lexeme.Key o n ∷ m) ≡ skip d m
skips-word key.LParen d n m x h = absurd cc
skips-word key.LBracket d n m x h = absurd cc
skips-word key.LBrace d n m x h = absurd cc
skips-word key.RParen d n m x h = absurd cc
skips-word key.RBracket d n m x h = absurd cc
skips-word key.RBrace d n m x h = absurd cc
skips-word _ d n m x h = refl

mutual
  pub skips-shape : {ts r : Tokens} {t : Shape} → ReadsShape ts r t → (d : ℕ) → skip d ts ≡ skip d r
  skips-shape (type_word {o = o} {n = n} {r = r} {t = t} h) d = skips-type o d n r t h
  skips-shape type_name d = refl
  skips-shape (array_type p) d = skips-shape p (suc d)
  skips-shape (record_type p) d = skips-fields p (suc d)
  skips-shape (oneof_type p) d = skips-fields p (suc d)

  pub skips-fields : {ts r : Tokens} {fs : List Named} → ReadsFields ts r fs → (d : ℕ) → skip d ts ≡ skip d r
  skips-fields (last_field p) d = skips-shape p d
  skips-fields (field_and p q) d = skips-shape p d ∙ skips-fields q d

skips-literal : {ts r : Tokens} {x : Value} → ReadsLiteral ts r x → (d : ℕ) → skip d ts ≡ skip d r
skips-literal nil d = refl
skips-literal yes d = refl
skips-literal no d = refl
skips-literal int d = refl
skips-literal char d = refl
skips-literal string d = refl

skips-op : {ts r : Tokens} {x : List ℕ} → ReadsOp ts r x → (d : ℕ) → skip d ts ≡ skip d r
skips-op op_name d = refl
skips-op (op_word {x = x} {o = o} {l = l} {r = r} h) d = skips-word o d l r x h

mutual
  pub skips : {k : ℕ} {ts r : Tokens} {x : Expr} → ReadsExpr k ts r x → k ≤ 5 → (d : ℕ) → skip d ts ≡ skip d r
  skips (primary p) f d = skips-primary p d
  skips (prefix p.Minus p) f d = skips p f d
  skips (prefix p.Not p) f d = skips p f d
  skips (alone p) f d = skips p (omega arith) d
  skips (grouped {k = k} {l = l} {o = o} {m = m} h _ p q) f d = skips p f d ∙ skips-operator o k d l m h (omega arith) ∙ skips q (omega arith) d
  skips (compared {k = k} {l = l} {o = o} {m = m} h _ p q) f d = skips p (omega arith) d ∙ skips-operator o k d l m h (omega arith) ∙ skips q (omega arith) d

  pub skips-primary : {ts r : Tokens} {x : Expr} → ReadsPrimary ts r x → (d : ℕ) → skip d ts ≡ skip d r
  skips-primary (literal p) d = skips-literal p d
  skips-primary name d = refl
  skips-primary (called p) d = skips-call p d
  skips-primary (record_of p q) d = skips-shape p d ∙ skips-inits q (suc d)
  skips-primary (no_items p) d = skips-shape p d
  skips-primary (array_of p q) d = skips-shape p d ∙ skips-items q (suc d)
  skips-primary (group p) d = skips p (omega arith) (suc d)
  skips-primary (up p) d = skips p (omega arith) (suc d)
  skips-primary (down p) d = skips p (omega arith) (suc d)
  skips-primary now d = refl
  skips-primary (field p) d = skips-primary p d
  skips-primary (index p q) d = skips-primary p d ∙ skips q (omega arith) (suc d)

  pub skips-call : {ts r : Tokens} {x : Expr} → ReadsCall ts r x → (d : ℕ) → skip d ts ≡ skip d r
  skips-call (call p) d = skips-args p d
  skips-call (operation p o q) d = skips-shape p d ∙ skips-op o d ∙ skips-args q d

  -- behind an opening bracket
  pub skips-args : {ts r : Tokens} {xs : List Expr} → ReadsArgs ts r xs → (d : ℕ) → skip (suc d) ts ≡ skip d r
  skips-args no_args d = refl
  skips-args (args p) d = skips-items p (suc d)

  pub skips-items : {ts r : Tokens} {xs : List Expr} → ReadsItems ts r xs → (d : ℕ) → skip d ts ≡ skip d r
  skips-items (last_item p) d = skips p (omega arith) d
  skips-items (item p q) d = skips p (omega arith) d ∙ skips-items q d

  pub skips-inits : {ts r : Tokens} {fs : List FieldInit} → ReadsInits ts r fs → (d : ℕ) → skip d ts ≡ skip d r
  skips-inits (last_init p) d = skips p (omega arith) d
  skips-inits (init p q) d = skips p (omega arith) d ∙ skips-inits q d

-- Skipping from behind the bracket that opens arguments ends where they do.
pub closes-args : {ts r : Tokens} {xs : List Expr} → ReadsArgs ts r xs → skip zero ts ≡ r
closes-args no_args = refl
closes-args (args p) = skips-items p zero
