use Rattle.std.proofs.Common.{◌≡◌, ℕ, ◌+◌, ◌<◌, List, length, get_or, drop, Option, Some, None, ap, sym, ◌∙◌}
use Rattle.std.proofs.lemmas.List.{at_drop_more}
use Rattle.journal_text.specs.declared.word.Word.{Word}
use Rattle.journal_text.specs.declared.word.Word.TheVariants as word
use Rattle.journal_text.specs.Reading.{text_at, word_text, word_or, first_word}
use Rattle.journal_text.proofs.Fields.{text_at-found, text_at-missing}
use Rattle.journal_text.proofs.word.first_word.Goals as goal

-- at the next word
at_word : (words : List Word) (i : ℕ) (bytes : List ℕ) (behind : Option (List ℕ)) → i < length words → text_at (word_text (get_or words i word.Turn)) bytes ≡ behind
    → first_word (drop i words) bytes ≡ word_or (get_or words i word.Turn) behind (first_word (drop (i + 1) words) bytes)
at_word words i bytes behind inside e =
    at_drop_more (λ (ws : List Word). first_word ws bytes) words i word.Turn inside ∙ ap (λ (o : Option (List ℕ)). word_or (get_or words i word.Turn) o (first_word (drop (i + 1) words) bytes)) e

pub returns-in-Some : goal.returns-in-Some
returns-in-Some c =
    let found = c.in-Some.ensures.cases in
    let behind = text_at-found c.spelling.result.now c.args.bytes.now found.0 ∙ ap Some (sym found.1) in
    sym c.loop-word.invariant ∙ at_word c.args.words.now c.loop-word.word-index c.args.bytes.now (Some c.in-Some.rest.now) c.loop-word-test.true (ap (λ (t : List ℕ). text_at t c.args.bytes.now) (sym c.spelling.ensures) ∙ behind)

pub loop-word-preserved : goal.loop-word-preserved
loop-word-preserved c =
    let behind = text_at-missing c.spelling.result.now c.args.bytes.now c.in_default.ensures.cases in
    sym (at_word c.args.words.now c.loop-word.word-index c.args.bytes.now None c.loop-word-test.true (ap (λ (t : List ℕ). text_at t c.args.bytes.now) (sym c.spelling.ensures) ∙ behind)) ∙ c.loop-word.invariant
