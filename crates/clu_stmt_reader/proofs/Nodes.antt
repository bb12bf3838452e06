-- The levels of nodes, and of lists that grow.
use Rattle.std.proofs.Common.{◌≡◌, ℕ, ◌+◌, ◌≤◌, max, List, [], ◌∷◌, ◌++◌, map, refl, arith, Option, Some}
use Rattle.clu_tree.specs.declared.tree.Stmt.{Stmt}
use Rattle.clu_tree.specs.declared.tree.Arm.{Arm}
use Rattle.clu_tree.specs.declared.tree.TagArm.{TagArm}
use Rattle.clu_tree.specs.declared.tree.When.{When}
use Rattle.clu_grammar.specs.Nesting.{deepest, stmt_nesting, arm_nesting, tag_nesting, when_nesting}
use Rattle.clu_grammar.proofs.Nests.{nests-Declare, nests-Assign, nests-Remote, nests-CallOf, nests-PutLine, nests-Sleep, nests-Fork, nests-Return, nests-Signal, nests-If, nests-While, nests-For, nests-Tagcase, nests-Begin, nests-Region, nests-Except, nests-Resignal, nests-Arm, nests-TagArm, nests-When, nests-Handlers}

pub ruleset nodes = (nests-Declare, nests-Assign, nests-Remote, nests-CallOf, nests-PutLine, nests-Sleep, nests-Fork, nests-Return, nests-Signal, nests-If, nests-While, nests-For, nests-Tagcase, nests-Begin, nests-Region, nests-Except, nests-Resignal, nests-Arm, nests-TagArm, nests-When, nests-Handlers)

deepest_more : {A : Type 0} (f : A → ℕ) (xs : List A) (x : A) → deepest (map f (xs ++ x ∷ [])) ≡ max (deepest (map f xs)) (f x)
deepest_more f [] x = omega arith
deepest_more f (y ∷ xs) x = omega (arith, deepest_more f xs x)

pub stmts_push : (xs : List Stmt) (x : Stmt) → deepest (map stmt_nesting (xs ++ x ∷ [])) ≡ max (deepest (map stmt_nesting xs)) (stmt_nesting x)
stmts_push = deepest_more stmt_nesting

pub arms_push : (xs : List Arm) (x : Arm) → deepest (map arm_nesting (xs ++ x ∷ [])) ≡ max (deepest (map arm_nesting xs)) (arm_nesting x)
arms_push = deepest_more arm_nesting

pub tags_push : (xs : List TagArm) (x : TagArm) → deepest (map tag_nesting (xs ++ x ∷ [])) ≡ max (deepest (map tag_nesting xs)) (tag_nesting x)
tags_push = deepest_more tag_nesting

pub whens_push : (xs : List When) (x : When) → deepest (map when_nesting (xs ++ x ∷ [])) ≡ max (deepest (map when_nesting xs)) (when_nesting x)
whens_push = deepest_more when_nesting

pub ruleset lists = (stmts_push, arms_push, tags_push, whens_push)
