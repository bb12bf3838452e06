-- A question that is read is the question that was spelled, and what was spelled is read again.
use Rattle.std.proofs.Common.{◌≡◌, ℕ, List, [], ◌∷◌, ◌++◌, Some, refl, ap, ◌∙◌}
use Rattle.world_types.specs.declared.event.Kind.{Kind}
use Rattle.world_types.specs.declared.event.Kind.TheVariants.{Once, Maybe}
use Rattle.world_types.specs.declared.event.Question.{Question}
use Rattle.world_types.specs.declared.event.Question.TheVariants.{Ps, Trace, Caller, Vars, Print, Calls, Time}
use Rattle.journal_text.specs.declared.word.Word.{Word}
use Rattle.journal_text.specs.declared.word.Word.TheVariants as word
use Rattle.journal_text.specs.Spelling.{spaced, kind_word, question_words}
use Rattle.journal_text.specs.Grammar.{IsQuestion}
use Rattle.journal_text.specs.Reading.{kind_of, kind_at, trace_at, caller_at, vars_at, print_at, question_of, question_at}
use Rattle.journal_text.proofs.Fields.{none_is}
use Rattle.journal_text.proofs.Parts.{IsBehind, IsPart, IsTaken, step, step_again, behind-spaced, spaced-then, joined, alone_taken, one_taken, two_taken, one_again, two_again, word_part, serial_part, one_word, itself}
use Rattle.journal_text.proofs.Names.{name_part}

abbrev pub kind_words : Kind → List (List ℕ)
kind_words kind = kind_word kind ∷ []

kind_of_taken : (w : Word) (bytes : List ℕ) (x : Kind × List ℕ) → kind_of w bytes ≡ Some x → IsTaken kind_words (λ k. Unit {0}) (itself w) bytes x
kind_of_taken word.Once bytes x e = alone_taken kind_words (λ k. Unit {0}) (itself word.Once) Once refl tt bytes x e
kind_of_taken word.Maybe bytes x e = alone_taken kind_words (λ k. Unit {0}) (itself word.Maybe) Maybe refl tt bytes x e
kind_of_taken _ bytes x e = none_is x e

kind_again : (kind : Kind) (rest : List ℕ) → Unit {0} → IsBehind rest → kind_at (spaced (kind_words kind) ++ rest) ≡ Some (kind, rest)
unfolding kind_at
kind_again Once rest is behind = step_again word_part (λ w. kind_of w.0 w.1) word.Once rest tt behind
kind_again Maybe rest is behind = step_again word_part (λ w. kind_of w.0 w.1) word.Maybe rest tt behind

kind_taken : (bytes : List ℕ) (x : Kind × List ℕ) → kind_at bytes ≡ Some x → (bytes ≡ spaced (kind_words x.0) ++ x.1) × Unit {0}
unfolding kind_at
kind_taken bytes x e =
    let a = step word_part (λ w. kind_of w.0 w.1) bytes x e in
    joined kind_words (λ k. Unit {0}) (itself a.value) bytes a.rest x a.parts (kind_of_taken a.value a.rest x a.goes_on)

kind_part : IsPart kind_at kind_words (λ kind. Unit {0})
kind_part = record { taken = kind_taken; again = kind_again }

-- ---- questions

question_of_taken : (w : Word) (bytes : List ℕ) (x : Question × List ℕ) → question_of w bytes ≡ Some x → IsTaken question_words IsQuestion (itself w) bytes x
unfolding trace_at caller_at vars_at print_at
question_of_taken word.Ps bytes x e = alone_taken question_words IsQuestion (itself word.Ps) Ps refl tt bytes x e
question_of_taken word.Where bytes x e = one_taken question_words IsQuestion (itself word.Where) serial_part Trace (λ process is. (refl, is)) bytes x e
question_of_taken word.Caller bytes x e = two_taken question_words IsQuestion (itself word.Caller) kind_part serial_part Caller (λ kind seq there is. (refl, is)) bytes x e
question_of_taken word.Vars bytes x e = one_taken question_words IsQuestion (itself word.Vars) serial_part Vars (λ process is. (refl, is)) bytes x e
question_of_taken word.Print bytes x e = two_taken question_words IsQuestion (itself word.Print) serial_part name_part Print (λ process name is there. (refl, (is, there))) bytes x e
question_of_taken word.Calls bytes x e = alone_taken question_words IsQuestion (itself word.Calls) Calls refl tt bytes x e
question_of_taken word.Time bytes x e = alone_taken question_words IsQuestion (itself word.Time) Time refl tt bytes x e
question_of_taken _ bytes x e = none_is x e

question_taken : (bytes : List ℕ) (x : Question × List ℕ) → question_at bytes ≡ Some x → (bytes ≡ spaced (question_words x.0) ++ x.1) × IsQuestion x.0
unfolding question_at
question_taken bytes x e =
    let a = step word_part (λ w. question_of w.0 w.1) bytes x e in
    joined question_words IsQuestion (itself a.value) bytes a.rest x a.parts (question_of_taken a.value a.rest x a.goes_on)

-- by its word
question_by : (w : Word) (more : List (List ℕ)) (rest : List ℕ) → IsBehind rest → question_at (spaced (itself w ++ more) ++ rest) ≡ question_of w (spaced more ++ rest)
unfolding question_at
question_by w more rest behind = ap question_at (spaced-then (itself w) more rest) ∙ step_again word_part (λ w. question_of w.0 w.1) w (spaced more ++ rest) tt (behind-spaced more rest behind)

question_again : (question : Question) (rest : List ℕ) → IsQuestion question → IsBehind rest → question_at (spaced (question_words question) ++ rest) ≡ Some (question, rest)
unfolding trace_at caller_at vars_at print_at
question_again Ps rest is behind = question_by word.Ps [] rest behind
question_again (Trace process) rest is behind = question_by word.Where (one_word process) rest behind ∙ one_again serial_part Trace process rest is behind
question_again (Caller kind seq) rest is behind = question_by word.Caller (kind_words kind ++ one_word seq) rest behind ∙ two_again kind_part serial_part Caller kind seq rest tt is behind
question_again (Vars process) rest is behind = question_by word.Vars (one_word process) rest behind ∙ one_again serial_part Vars process rest is behind
question_again (Print process name) rest is behind = question_by word.Print (one_word process ++ name ∷ []) rest behind ∙ two_again serial_part name_part Print process name rest is.0 is.1 behind
question_again Calls rest is behind = question_by word.Calls [] rest behind
question_again Time rest is behind = question_by word.Time [] rest behind

pub question_part : IsPart question_at question_words IsQuestion
question_part = record { taken = question_taken; again = question_again }
