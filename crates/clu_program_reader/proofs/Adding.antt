-- A program put together part by part.
use Rattle.std.proofs.Common.{◌≡◌, ℕ, suc, ◌+◌, List, [], ◌∷◌, length, Option, Some, None, refl, ap, ◌∙◌, arith}
use Rattle.std.proofs.lemmas.List.{length-append}
use Rattle.clu_tree.specs.declared.program.Program.{Program}
use Rattle.clu_grammar.specs.Grammar.{Tokens, Part, AnEquate, ANodeVar, ARoutine, ACluster, ANode, routines_in, with_part}
use Rattle.clu_grammar.specs.ProgramPlan as plan
use Rattle.clu_program_reader.specs.Whole.{with_rest}

-- what the whole loop finds, where the tokens are at their end
pub parts_end : (p : Program) (n : ℕ) (ts : Tokens) → length ts ≡ 0 → with_rest p (plan.parts 200 n ts) ≡ Some p
unfolding plan.parts
parts_end p n [] h = refl
parts_end p n (x ∷ ts) h = absurd (omega (arith, h))

-- the same where a part follows
pub parts_more : (p : Program) (n : ℕ) (ts r : Tokens) (x : Part) → plan.part 200 ts ≡ Some (x, r) → (length ts ≡ 0 → ⊥) → with_rest p (plan.parts 200 (suc n) ts) ≡ with_rest (with_part p x) (plan.parts 200 n r)
unfolding plan.parts
parts_more p n [] r x h some = absurd (some refl)
parts_more p n (y ∷ ts) r x h some = ap (λ o. with_rest p (plan.parts_after (plan.parts 200 n) o)) h ∙ before (plan.parts 200 n r)
  where
    before : (o : Option (List Part)) → with_rest p (plan.part_before x o) ≡ with_rest (with_part p x) o
    before (Some xs) = refl
    before None = refl

pub parts_out : (p : Program) (ts : Tokens) → (length ts ≡ 0 → ⊥) → with_rest p (plan.parts 200 0 ts) ≡ None
unfolding plan.parts
parts_out p [] some = absurd (some refl)
parts_out p (y ∷ ts) some = refl

-- each part adds its routines
pub routines_grow : (p : Program) (x : Part) → length (with_part p x).routines ≡ length p.routines + routines_in x
routines_grow p (AnEquate x) = omega arith
routines_grow p (ANodeVar x) = omega arith
routines_grow p (ARoutine x) = length-append p.routines (x ∷ [])
routines_grow p (ACluster x xs s rs l) = length-append p.routines rs
routines_grow p (ANode x) = omega arith

pub parts_step : (p : Program) (n : ℕ) (ts : Tokens) → (length ts ≡ 0 → ⊥) → with_rest p (plan.parts 200 (suc n) ts) ≡ with_rest p (plan.parts_after (plan.parts 200 n) (plan.part 200 ts))
unfolding plan.parts
parts_step p n [] some = absurd (some refl)
parts_step p n (y ∷ ts) some = refl
