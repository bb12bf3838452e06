use Rattle.std.proofs.Common.{◌≡◌, ℕ, ◌+◌, ◌<◌, List, [], ◌∷◌, ◌++◌, length, get_or, take, map, decimal, ap, sym, ◌∙◌, append_assoc, append-nil}
use Rattle.std.proofs.lemmas.List.{map-append, take_more}
use Rattle.journal_text.specs.Spelling.{spaced}
use Rattle.journal_text.proofs.Parts.{spaced-append}
use Rattle.journal_text.proofs.writing.put.Goals as goal

-- one number more
one_number : (numbers : List ℕ) (i : ℕ) → i < length numbers → spaced (map decimal (take (i + 1) numbers)) ≡ spaced (map decimal (take i numbers)) ++ (32 ∷ decimal (get_or numbers i 0))
one_number numbers i inside =
    ap (λ (ns : List ℕ). spaced (map decimal ns)) (take_more numbers i 0 inside)
    ∙ ap spaced (map-append decimal (take i numbers) (get_or numbers i 0 ∷ []))
    ∙ spaced-append (map decimal (take i numbers)) (decimal (get_or numbers i 0) ∷ [])
    ∙ ap (λ (t : List ℕ). spaced (map decimal (take i numbers)) ++ (32 ∷ t)) (append-nil (decimal (get_or numbers i 0)))

one_more : (start out pushed new numbers : List ℕ) (i : ℕ) → i < length numbers → out ≡ start ++ spaced (map decimal (take i numbers)) → pushed ≡ out ++ 32 ∷ [] → new ≡ pushed ++ decimal (get_or numbers i 0)
    → new ≡ start ++ spaced (map decimal (take (i + 1) numbers))
one_more start out pushed new numbers i inside before space number =
    let digits = decimal (get_or numbers i 0) in
    number
    ∙ ap (λ (t : List ℕ). t ++ digits) (space ∙ ap (λ (t : List ℕ). t ++ 32 ∷ []) before)
    ∙ append_assoc (start ++ spaced (map decimal (take i numbers))) (32 ∷ []) digits
    ∙ append_assoc start (spaced (map decimal (take i numbers))) (32 ∷ digits)
    ∙ ap (λ (t : List ℕ). start ++ t) (sym (one_number numbers i inside))

pub loop-number-preserved : goal.loop-number-preserved
loop-number-preserved c =
    one_more _ _ _ _ _ _ c.loop-number-test.true c.loop-number.invariant c.in_ok-push.ensures.items c.in_ok-put_number.ensures
