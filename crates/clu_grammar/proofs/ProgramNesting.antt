-- How deep a program is, by its parts.
use Rattle.std.proofs.Common.{◌≡◌, ℕ, max, List, [], ◌∷◌, ◌++◌, length, map, arith}
use Rattle.clu_tree.specs.declared.program.Equate.{Equate}
use Rattle.clu_tree.specs.declared.program.Cluster.{Cluster}
use Rattle.clu_tree.specs.declared.program.Program.{Program}
use Rattle.clu_grammar.specs.Grammar.{Part, AnEquate, ANodeVar, ARoutine, ACluster, ANode, empty_program, with_part, program_of}
use Rattle.clu_grammar.specs.Nesting.{deepest, shape_nesting, node_var_nesting, routine_nesting, program_nesting}

abbrev pub part_nesting : Part → ℕ
part_nesting (AnEquate x) = shape_nesting x.shape
part_nesting (ANodeVar x) = node_var_nesting x
part_nesting (ARoutine x) = routine_nesting x
part_nesting (ACluster x xs s rs l) = max (shape_nesting s) (deepest (map routine_nesting rs))
part_nesting (ANode x) = 0

deepest-append : {A : Type 0} (f : A → ℕ) (xs ys : List A) → deepest (map f (xs ++ ys)) ≡ max (deepest (map f xs)) (deepest (map f ys))
deepest-append f [] ys = omega arith
deepest-append f (x ∷ xs) ys = omega (arith, deepest-append f xs ys)

with-nests : (p : Program) (x : Part) → program_nesting (with_part p x) ≡ max (program_nesting p) (part_nesting x)
with-nests p (AnEquate x) = omega (arith, deepest-append (λ (x : Equate). shape_nesting x.shape) p.equates (x ∷ []))
with-nests p (ANodeVar x) = omega (arith, deepest-append node_var_nesting p.node_vars (x ∷ []))
with-nests p (ARoutine x) = omega (arith, deepest-append routine_nesting p.routines (x ∷ []))
with-nests p (ACluster x xs s rs l) =
    omega (arith, deepest-append routine_nesting p.routines rs, deepest-append (λ (x : Cluster). shape_nesting x.rep) p.clusters (record { name = x; listed = xs; rep = s; first = length p.routines; count = length rs; line = l } ∷ []))
with-nests p (ANode x) = omega arith

program_of-nests : (p : Program) (xs : List Part) → program_nesting (program_of p xs) ≡ max (program_nesting p) (deepest (map part_nesting xs))
program_of-nests p [] = omega arith
program_of-nests p (x ∷ xs) = omega (arith, program_of-nests (with_part p x) xs, with-nests p x)

-- A program is as deep as its deepest part.
pub nests-Program : (xs : List Part) → program_nesting (program_of empty_program xs) ≡ deepest (map part_nesting xs)
nests-Program xs = omega (arith, program_of-nests empty_program xs)
