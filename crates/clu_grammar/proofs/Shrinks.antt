-- What is read takes a token.
use Rattle.std.proofs.Common.{ℕ, ◌<◌, List, length, arith}
use Rattle.clu_tree.specs.declared.shape.Shape.{Shape}
use Rattle.clu_tree.specs.declared.shape.Named.{Named}
use Rattle.clu_tree.specs.declared.value.Value.{Value}
use Rattle.clu_tree.specs.declared.tree.Expr.{Expr}
use Rattle.clu_tree.specs.declared.tree.FieldInit.{FieldInit}
use Rattle.clu_grammar.specs.Grammar.{Tokens, ReadsShape, ReadsFields, type_word, type_name, array_type, record_type, oneof_type, last_field, field_and, ReadsLiteral, nil, yes, no, int, char, string, ReadsOp, op_name, op_word, ReadsExpr, primary, prefix, alone, grouped, compared, ReadsPrimary, literal, name, called, record_of, no_items, array_of, group, up, down, now, field, index, ReadsCall, call, operation, ReadsArgs, no_args, args, ReadsItems, last_item, item, ReadsInits, last_init, init}

mutual
  pub shrinks-shape : {ts r : Tokens} {t : Shape} → ReadsShape ts r t → length r < length ts
  shrinks-shape (type_word h) = omega arith
  shrinks-shape type_name = omega arith
  shrinks-shape (array_type p) = omega (arith, shrinks-shape p)
  shrinks-shape (record_type p) = omega (arith, shrinks-fields p)
  shrinks-shape (oneof_type p) = omega (arith, shrinks-fields p)

  pub shrinks-fields : {ts r : Tokens} {fs : List Named} → ReadsFields ts r fs → length r < length ts
  shrinks-fields (last_field p) = omega (arith, shrinks-shape p)
  shrinks-fields (field_and p q) = omega (arith, shrinks-shape p, shrinks-fields q)

pub shrinks-literal : {ts r : Tokens} {x : Value} → ReadsLiteral ts r x → length r < length ts
shrinks-literal nil = omega arith
shrinks-literal yes = omega arith
shrinks-literal no = omega arith
shrinks-literal int = omega arith
shrinks-literal char = omega arith
shrinks-literal string = omega arith

pub shrinks-op : {ts r : Tokens} {x : List ℕ} → ReadsOp ts r x → length r < length ts
shrinks-op op_name = omega arith
shrinks-op (op_word h) = omega arith

mutual
  pub shrinks : {k : ℕ} {ts r : Tokens} {x : Expr} → ReadsExpr k ts r x → length r < length ts
  shrinks (primary p) = shrinks-primary p
  shrinks (prefix op p) = omega (arith, shrinks p)
  shrinks (alone p) = shrinks p
  shrinks (grouped _ _ p q) = omega (arith, shrinks p, shrinks q)
  shrinks (compared _ _ p q) = omega (arith, shrinks p, shrinks q)

  pub shrinks-primary : {ts r : Tokens} {x : Expr} → ReadsPrimary ts r x → length r < length ts
  shrinks-primary (literal p) = shrinks-literal p
  shrinks-primary name = omega arith
  shrinks-primary (called p) = shrinks-call p
  shrinks-primary (record_of p q) = omega (arith, shrinks-shape p, shrinks-inits q)
  shrinks-primary (no_items p) = omega (arith, shrinks-shape p)
  shrinks-primary (array_of p q) = omega (arith, shrinks-shape p, shrinks-items q)
  shrinks-primary (group p) = omega (arith, shrinks p)
  shrinks-primary (up p) = omega (arith, shrinks p)
  shrinks-primary (down p) = omega (arith, shrinks p)
  shrinks-primary now = omega arith
  shrinks-primary (field p) = omega (arith, shrinks-primary p)
  shrinks-primary (index p q) = omega (arith, shrinks-primary p, shrinks q)

  pub shrinks-call : {ts r : Tokens} {x : Expr} → ReadsCall ts r x → length r < length ts
  shrinks-call (call p) = omega (arith, shrinks-args p)
  shrinks-call (operation p o q) = omega (arith, shrinks-shape p, shrinks-op o, shrinks-args q)

  pub shrinks-args : {ts r : Tokens} {xs : List Expr} → ReadsArgs ts r xs → length r < length ts
  shrinks-args no_args = omega arith
  shrinks-args (args p) = omega (arith, shrinks-items p)

  pub shrinks-items : {ts r : Tokens} {xs : List Expr} → ReadsItems ts r xs → length r < length ts
  shrinks-items (last_item p) = shrinks p
  shrinks-items (item p q) = omega (arith, shrinks p, shrinks-items q)

  pub shrinks-inits : {ts r : Tokens} {fs : List FieldInit} → ReadsInits ts r fs → length r < length ts
  shrinks-inits (last_init p) = omega (arith, shrinks p)
  shrinks-inits (init p q) = omega (arith, shrinks p, shrinks-inits q)
