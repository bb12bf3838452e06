-- How deep each node is, by its parts.
use Rattle.std.proofs.Common.{◌≡◌, ℕ, ◌+◌, ◌≤◌, max, List, [], ◌∷◌, map, refl, ap, sym, ◌∙◌, subst, arith, Option, Some, None}
use Rattle.clu_tree.specs.declared.shape.Shape.{Shape, roll-Shape, Shape-F}
use Rattle.clu_tree.specs.declared.shape.Shape.TheVariants as s
use Rattle.clu_tree.specs.declared.shape.Shape.TheOpen as sf
use Rattle.clu_tree.specs.declared.shape.Shape.TheFolds.{fold-Named, fold-roll-Shape, fold_out-Shape, fold_out-Named, map-Shape}
use Rattle.clu_tree.specs.declared.shape.Named.{Named}
use Rattle.clu_tree.specs.declared.tree.Expr.{Expr, roll-Expr}
use Rattle.clu_tree.specs.declared.tree.Expr.TheVariants as e
use Rattle.clu_tree.specs.declared.tree.Expr.TheOpen as ef
use Rattle.clu_tree.specs.declared.tree.Expr.TheFolds.{fold-FieldInit, map-Expr, fold-roll-Expr, fold_out-Expr, fold_out-FieldInit}
use Rattle.clu_tree.specs.declared.tree.FieldInit.{FieldInit}
use Rattle.clu_tree.specs.declared.tree.Meant.{Meant}
use Rattle.clu_tree.specs.declared.tree.Infix.{Infix}
use Rattle.clu_tree.specs.declared.tree.Prefix.{Prefix}
use Rattle.clu_tree.specs.declared.tree.Target.{Target}
use Rattle.clu_tree.specs.declared.tree.Remote.{Remote}
use Rattle.clu_tree.specs.declared.tree.Iter.{Iter}
use Rattle.clu_tree.specs.declared.tree.Stmt.{Stmt, roll-Stmt}
use Rattle.clu_tree.specs.declared.tree.Stmt.TheVariants as st
use Rattle.clu_tree.specs.declared.tree.Stmt.TheOpen as f
use Rattle.clu_tree.specs.declared.tree.Stmt.TheFolds.{fold-roll-Stmt, fold_out-Stmt, fold-roll-Handlers, fold-roll-Arm, fold-roll-TagArm, fold-roll-When, map-Stmt}
use Rattle.clu_tree.specs.declared.tree.Arm.{Arm, roll-Arm}
use Rattle.clu_tree.specs.declared.tree.TagArm.{TagArm, roll-TagArm}
use Rattle.clu_tree.specs.declared.tree.When.{When, roll-When}
use Rattle.clu_tree.specs.declared.tree.Handlers.{Handlers, roll-Handlers}
use Rattle.clu_tree.specs.declared.value.Value.{Value}
use Rattle.clu_grammar.specs.Nesting.{deepest, shape_step, shape_nesting, named_nesting, expr_step, expr_nesting, init_nesting, target_nesting, remote_nesting, iter_nesting, value_nesting, variable_nesting, stmt_step, arm_step, handlers_step, tag_step, when_step, stmt_nesting, handlers_nesting, arm_nesting, tag_nesting, when_nesting}

-- ---- types

map_same : {A : Type 0} (f g : A → ℕ) → ((x : A) → f x ≡ g x) → (xs : List A) → deepest (map f xs) ≡ deepest (map g xs)
map_same f g h [] = refl
map_same f g h (x ∷ xs) = ap (λ n. max n (deepest (map f xs))) (h x) ∙ ap (λ n. max (g x) n) (map_same f g h xs)

shape_roll : (y : Shape-F Shape Named) → shape_nesting (roll-Shape y) ≡ shape_step (map-Shape _ _ _ _ shape_nesting (fold-Named ℕ ℕ shape_step (λ f. f.shape)) y)
shape_roll = fold-roll-Shape ℕ ℕ shape_step (λ f. f.shape)

named_folds : (x : Named) → fold-Named ℕ ℕ shape_step (λ f. f.shape) x ≡ named_nesting x
named_folds x = fold_out-Named ℕ ℕ shape_step (λ f. f.shape) x

pub nests-Null : shape_nesting s.Null ≡ 1
nests-Null = ap shape_nesting (sym s.rolls-Null) ∙ shape_roll sf.Null

pub nests-Bool : shape_nesting s.Bool ≡ 1
nests-Bool = ap shape_nesting (sym s.rolls-Bool) ∙ shape_roll sf.Bool

pub nests-Int : shape_nesting s.Int ≡ 1
nests-Int = ap shape_nesting (sym s.rolls-Int) ∙ shape_roll sf.Int

pub nests-Char : shape_nesting s.Char ≡ 1
nests-Char = ap shape_nesting (sym s.rolls-Char) ∙ shape_roll sf.Char

pub nests-Str : shape_nesting s.Str ≡ 1
nests-Str = ap shape_nesting (sym s.rolls-Str) ∙ shape_roll sf.Str

pub nests-Lock : shape_nesting s.Lock ≡ 1
nests-Lock = ap shape_nesting (sym s.rolls-Lock) ∙ shape_roll sf.Lock

pub nests-Semaphore : shape_nesting s.Semaphore ≡ 1
nests-Semaphore = ap shape_nesting (sym s.rolls-Semaphore) ∙ shape_roll sf.Semaphore

pub nests-Cvt : shape_nesting s.Cvt ≡ 1
nests-Cvt = ap shape_nesting (sym s.rolls-Cvt) ∙ shape_roll sf.Cvt

pub nests-Rep : shape_nesting s.Rep ≡ 1
nests-Rep = ap shape_nesting (sym s.rolls-Rep) ∙ shape_roll sf.Rep

pub nests-TypeName : (x : List ℕ) → shape_nesting (s.Name x) ≡ 1
nests-TypeName x = ap shape_nesting (sym (s.rolls-Name x)) ∙ shape_roll (sf.Name x)

pub nests-Arr : (t : Shape) → shape_nesting (s.Arr t) ≡ 1 + shape_nesting t
nests-Arr t = ap shape_nesting (sym (s.rolls-Arr t)) ∙ shape_roll (sf.Arr t)

pub nests-Rec : (fs : List Named) → shape_nesting (s.Rec fs) ≡ 1 + deepest (map named_nesting fs)
nests-Rec fs = ap shape_nesting (sym (s.rolls-Rec fs)) ∙ shape_roll (sf.Rec fs) ∙ ap (λ n. 1 + n) (map_same (fold-Named ℕ ℕ shape_step (λ f. f.shape)) named_nesting named_folds fs)

pub nests-Oneof : (fs : List Named) → shape_nesting (s.Oneof fs) ≡ 1 + deepest (map named_nesting fs)
nests-Oneof fs = ap shape_nesting (sym (s.rolls-Oneof fs)) ∙ shape_roll (sf.Oneof fs) ∙ ap (λ n. 1 + n) (map_same (fold-Named ℕ ℕ shape_step (λ f. f.shape)) named_nesting named_folds fs)

shape_step_pos : (y : Shape-F ℕ ℕ) → 1 ≤ shape_step y
shape_step_pos (sf.Arr _) = omega arith
shape_step_pos (sf.Rec _) = omega arith
shape_step_pos (sf.Oneof _) = omega arith
shape_step_pos _ = omega arith

pub shape_nests_pos : (x : Shape) → 1 ≤ shape_nesting x
shape_nests_pos x = subst (λ n. 1 ≤ n) (sym (fold_out-Shape ℕ ℕ shape_step (λ f. f.shape) x)) (shape_step_pos _)

-- ---- expressions

expr_roll : (y : ef.Expr-F Expr FieldInit) → expr_nesting (roll-Expr y) ≡ expr_step (map-Expr _ _ _ _ expr_nesting (fold-FieldInit ℕ ℕ expr_step (λ f. f.value)) y)
expr_roll = fold-roll-Expr ℕ ℕ expr_step (λ f. f.value)

init_folds : (x : FieldInit) → fold-FieldInit ℕ ℕ expr_step (λ f. f.value) x ≡ init_nesting x
init_folds x = fold_out-FieldInit ℕ ℕ expr_step (λ f. f.value) x

pub nests-Literal : (x : Value) (n : ℕ) → expr_nesting (e.Literal x n) ≡ 1
nests-Literal x n = ap expr_nesting (sym (e.rolls-Literal x n)) ∙ expr_roll (ef.Literal x n)

pub nests-Name : (x : List ℕ) (n : ℕ) (m : Meant) → expr_nesting (e.Name x n m) ≡ 1
nests-Name x n m = ap expr_nesting (sym (e.rolls-Name x n m)) ∙ expr_roll (ef.Name x n m)

pub nests-Binary : (a : Expr) (o : Infix) (b : Expr) (n : ℕ) (m : Meant) → expr_nesting (e.Binary a o b n m) ≡ 1 + max (expr_nesting a) (expr_nesting b)
nests-Binary a o b n m = ap expr_nesting (sym (e.rolls-Binary a o b n m)) ∙ expr_roll (ef.Binary a o b n m)

pub nests-Unary : (o : Prefix) (a : Expr) (n : ℕ) (m : Meant) → expr_nesting (e.Unary o a n m) ≡ 1 + expr_nesting a
nests-Unary o a n m = ap expr_nesting (sym (e.rolls-Unary o a n m)) ∙ expr_roll (ef.Unary o a n m)

pub nests-Call : (x : List ℕ) (xs : List Expr) (n : ℕ) (m : Meant) → expr_nesting (e.Call x xs n m) ≡ 1 + deepest (map expr_nesting xs)
nests-Call x xs n m = ap expr_nesting (sym (e.rolls-Call x xs n m)) ∙ expr_roll (ef.Call x xs n m)

pub nests-Op : (t : Shape) (x : List ℕ) (xs : List Expr) (n : ℕ) (m : Meant) → expr_nesting (e.Op t x xs n m) ≡ 1 + max (shape_nesting t) (deepest (map expr_nesting xs))
nests-Op t x xs n m = ap expr_nesting (sym (e.rolls-Op t x xs n m)) ∙ expr_roll (ef.Op t x xs n m)

pub nests-Record : (t : Shape) (fs : List FieldInit) (n : ℕ) (m : Meant) → expr_nesting (e.Record t fs n m) ≡ 1 + max (shape_nesting t) (deepest (map init_nesting fs))
nests-Record t fs n m = ap expr_nesting (sym (e.rolls-Record t fs n m)) ∙ expr_roll (ef.Record t fs n m) ∙ ap (λ n. 1 + max (shape_nesting t) n) (map_same (fold-FieldInit ℕ ℕ expr_step (λ f. f.value)) init_nesting init_folds fs)

pub nests-Array : (t : Shape) (xs : List Expr) (n : ℕ) (m : Meant) → expr_nesting (e.Array t xs n m) ≡ 1 + max (shape_nesting t) (deepest (map expr_nesting xs))
nests-Array t xs n m = ap expr_nesting (sym (e.rolls-Array t xs n m)) ∙ expr_roll (ef.Array t xs n m)

pub nests-Up : (a : Expr) (n : ℕ) → expr_nesting (e.Up a n) ≡ 1 + expr_nesting a
nests-Up a n = ap expr_nesting (sym (e.rolls-Up a n)) ∙ expr_roll (ef.Up a n)

pub nests-Down : (a : Expr) (n : ℕ) → expr_nesting (e.Down a n) ≡ 1 + expr_nesting a
nests-Down a n = ap expr_nesting (sym (e.rolls-Down a n)) ∙ expr_roll (ef.Down a n)

pub nests-Now : (n : ℕ) → expr_nesting (e.Now n) ≡ 1
nests-Now n = ap expr_nesting (sym (e.rolls-Now n)) ∙ expr_roll (ef.Now n)

pub nests-Field : (a : Expr) (x : List ℕ) (n : ℕ) (m : Meant) → expr_nesting (e.Field a x n m) ≡ 1 + expr_nesting a
nests-Field a x n m = ap expr_nesting (sym (e.rolls-Field a x n m)) ∙ expr_roll (ef.Field a x n m)

pub nests-Index : (a b : Expr) (n : ℕ) (m : Meant) → expr_nesting (e.Index a b n m) ≡ 1 + max (expr_nesting a) (expr_nesting b)
nests-Index a b n m = ap expr_nesting (sym (e.rolls-Index a b n m)) ∙ expr_roll (ef.Index a b n m)

expr_step_pos : (y : ef.Expr-F ℕ ℕ) → 1 ≤ expr_step y
expr_step_pos (ef.Literal _ _) = omega arith
expr_step_pos (ef.Name _ _ _) = omega arith
expr_step_pos (ef.Now _) = omega arith
expr_step_pos _ = omega arith

pub nests_pos : (x : Expr) → 1 ≤ expr_nesting x
nests_pos x = subst (λ n. 1 ≤ n) (sym (fold_out-Expr ℕ ℕ expr_step (λ f. f.value) x)) (expr_step_pos _)

-- ---- statements

stmt_roll : (y : f.Stmt-F Stmt Arm Handlers TagArm When) → stmt_nesting (roll-Stmt y) ≡ stmt_step (map-Stmt _ _ _ _ _ _ _ _ _ _ stmt_nesting arm_nesting handlers_nesting tag_nesting when_nesting y)
stmt_roll = fold-roll-Stmt ℕ ℕ ℕ ℕ ℕ stmt_step arm_step handlers_step tag_step when_step

-- how deep the statements of a part that may be left out are
abbrev pub others_nesting : Option (List Stmt) → ℕ
others_nesting None = 0
others_nesting (Some b) = deepest (map stmt_nesting b)

pub nests-Declare : (x : List ℕ) (s : Shape) (a : Option Expr) (n : ℕ) → stmt_nesting (st.Declare x s a n) ≡ 1 + max (shape_nesting s) (value_nesting a)
nests-Declare x s a n = ap stmt_nesting (sym (st.rolls-Declare x s a n)) ∙ stmt_roll (f.Declare x s a n)

pub nests-Assign : (x : Target) (a : Expr) (n : ℕ) → stmt_nesting (st.Assign x a n) ≡ 1 + max (target_nesting x) (expr_nesting a)
nests-Assign x a n = ap stmt_nesting (sym (st.rolls-Assign x a n)) ∙ stmt_roll (f.Assign x a n)

pub nests-Remote : (y : Option (List ℕ)) (x : Remote) (n : ℕ) (m : Meant) → stmt_nesting (st.Remote y x n m) ≡ 1 + remote_nesting x
nests-Remote y x n m = ap stmt_nesting (sym (st.rolls-Remote y x n m)) ∙ stmt_roll (f.Remote y x n m)

pub nests-CallOf : (a : Expr) (n : ℕ) → stmt_nesting (st.Call a n) ≡ 1 + expr_nesting a
nests-CallOf a n = ap stmt_nesting (sym (st.rolls-Call a n)) ∙ stmt_roll (f.Call a n)

pub nests-PutLine : (a : Expr) (n : ℕ) → stmt_nesting (st.PutLine a n) ≡ 1 + expr_nesting a
nests-PutLine a n = ap stmt_nesting (sym (st.rolls-PutLine a n)) ∙ stmt_roll (f.PutLine a n)

pub nests-Sleep : (a : Expr) (n : ℕ) → stmt_nesting (st.Sleep a n) ≡ 1 + expr_nesting a
nests-Sleep a n = ap stmt_nesting (sym (st.rolls-Sleep a n)) ∙ stmt_roll (f.Sleep a n)

pub nests-Fork : (x : List ℕ) (xs : List Expr) (n : ℕ) (m : Meant) → stmt_nesting (st.Fork x xs n m) ≡ 1 + deepest (map expr_nesting xs)
nests-Fork x xs n m = ap stmt_nesting (sym (st.rolls-Fork x xs n m)) ∙ stmt_roll (f.Fork x xs n m)

pub nests-Return : (a : Option Expr) (n : ℕ) → stmt_nesting (st.Return a n) ≡ 1 + value_nesting a
nests-Return a n = ap stmt_nesting (sym (st.rolls-Return a n)) ∙ stmt_roll (f.Return a n)

pub nests-Signal : (x : List ℕ) (a : Option Expr) (n : ℕ) → stmt_nesting (st.Signal x a n) ≡ 1 + value_nesting a
nests-Signal x a n = ap stmt_nesting (sym (st.rolls-Signal x a n)) ∙ stmt_roll (f.Signal x a n)

pub nests-If : (a : Expr) (b : List Stmt) (arms : List Arm) (o : Option (List Stmt)) (n : ℕ) → stmt_nesting (st.If a b arms o n) ≡ 1 + max (expr_nesting a) (max (deepest (map stmt_nesting b)) (max (deepest (map arm_nesting arms)) (others_nesting o)))
nests-If a b arms None n = ap stmt_nesting (sym (st.rolls-If a b arms None n)) ∙ stmt_roll (f.If a b arms None n)
nests-If a b arms (Some c) n = ap stmt_nesting (sym (st.rolls-If a b arms (Some c) n)) ∙ stmt_roll (f.If a b arms (Some c) n)

pub nests-While : (a : Expr) (b : List Stmt) (n : ℕ) → stmt_nesting (st.While a b n) ≡ 1 + max (expr_nesting a) (deepest (map stmt_nesting b))
nests-While a b n = ap stmt_nesting (sym (st.rolls-While a b n)) ∙ stmt_roll (f.While a b n)

pub nests-For : (x : List ℕ) (s : Shape) (i : Iter) (b : List Stmt) (n : ℕ) → stmt_nesting (st.For x s i b n) ≡ 1 + max (shape_nesting s) (max (iter_nesting i) (deepest (map stmt_nesting b)))
nests-For x s i b n = ap stmt_nesting (sym (st.rolls-For x s i b n)) ∙ stmt_roll (f.For x s i b n)

pub nests-Tagcase : (a : Expr) (arms : List TagArm) (o : Option (List Stmt)) (n : ℕ) → stmt_nesting (st.Tagcase a arms o n) ≡ 1 + max (expr_nesting a) (max (deepest (map tag_nesting arms)) (others_nesting o))
nests-Tagcase a arms None n = ap stmt_nesting (sym (st.rolls-Tagcase a arms None n)) ∙ stmt_roll (f.Tagcase a arms None n)
nests-Tagcase a arms (Some c) n = ap stmt_nesting (sym (st.rolls-Tagcase a arms (Some c) n)) ∙ stmt_roll (f.Tagcase a arms (Some c) n)

pub nests-Begin : (b : List Stmt) (n : ℕ) → stmt_nesting (st.Begin b n) ≡ 1 + deepest (map stmt_nesting b)
nests-Begin b n = ap stmt_nesting (sym (st.rolls-Begin b n)) ∙ stmt_roll (f.Begin b n)

pub nests-Region : (a : Expr) (b : List Stmt) (n : ℕ) → stmt_nesting (st.Region a b n) ≡ 1 + max (expr_nesting a) (deepest (map stmt_nesting b))
nests-Region a b n = ap stmt_nesting (sym (st.rolls-Region a b n)) ∙ stmt_roll (f.Region a b n)

pub nests-Except : (x : Stmt) (h : Handlers) → stmt_nesting (st.Except x h) ≡ 1 + max (stmt_nesting x) (handlers_nesting h)
nests-Except x h = ap stmt_nesting (sym (st.rolls-Except x h)) ∙ stmt_roll (f.Except x h)

pub nests-Resignal : (x : Stmt) (ys : List (List ℕ)) → stmt_nesting (st.Resignal x ys) ≡ 1 + stmt_nesting x
nests-Resignal x ys = ap stmt_nesting (sym (st.rolls-Resignal x ys)) ∙ stmt_roll (f.Resignal x ys)

pub nests-Arm : (a : Expr) (b : List Stmt) → arm_nesting (roll-Arm (record { test = a; body = b })) ≡ max (expr_nesting a) (deepest (map stmt_nesting b))
nests-Arm a b = fold-roll-Arm ℕ ℕ ℕ ℕ ℕ stmt_step arm_step handlers_step tag_step when_step (record { test = a; body = b })

pub nests-TagArm : (x : List ℕ) (o : Option Named) (b : List Stmt) (m : Meant) →
    tag_nesting (roll-TagArm (record { tag = x; variable = o; body = b; meant = m })) ≡ max (variable_nesting o) (deepest (map stmt_nesting b))
nests-TagArm x o b m = fold-roll-TagArm ℕ ℕ ℕ ℕ ℕ stmt_step arm_step handlers_step tag_step when_step (record { tag = x; variable = o; body = b; meant = m })

pub nests-When : (xs : List (List ℕ)) (o : Option Named) (b : List Stmt) →
    when_nesting (roll-When (record { names = xs; variable = o; body = b })) ≡ max (variable_nesting o) (deepest (map stmt_nesting b))
nests-When xs o b = fold-roll-When ℕ ℕ ℕ ℕ ℕ stmt_step arm_step handlers_step tag_step when_step (record { names = xs; variable = o; body = b })

pub nests-Handlers : (ws : List When) (o : Option (List Stmt)) →
    handlers_nesting (roll-Handlers (record { whens = ws; others = o })) ≡ max (deepest (map when_nesting ws)) (others_nesting o)
nests-Handlers ws None = fold-roll-Handlers ℕ ℕ ℕ ℕ ℕ stmt_step arm_step handlers_step tag_step when_step (record { whens = ws; others = None })
nests-Handlers ws (Some b) = fold-roll-Handlers ℕ ℕ ℕ ℕ ℕ stmt_step arm_step handlers_step tag_step when_step (record { whens = ws; others = Some b })

stmt_step_pos : (y : f.Stmt-F ℕ ℕ ℕ ℕ ℕ) → 1 ≤ stmt_step y
stmt_step_pos (f.Begin _ _) = omega arith
stmt_step_pos (f.Except _ _) = omega arith
stmt_step_pos _ = omega arith

pub stmt_nests_pos : (x : Stmt) → 1 ≤ stmt_nesting x
stmt_nests_pos x = subst (λ n. 1 ≤ n) (sym (fold_out-Stmt ℕ ℕ ℕ ℕ ℕ stmt_step arm_step handlers_step tag_step when_step x)) (stmt_step_pos _)
