-- A line that is read is the line that was written, and what was written is read again.
use Rattle.std.proofs.Common.{◌≡◌, ℕ, ◌-◌, ◌^◌, ◌<◌, List, [], ◌∷◌, ◌++◌, length, Some, refl, sym, ap, ◌∙◌, append_assoc, arith}
use Rattle.std.specs.Prelude.{Result, Ok, Err, IfOk, MatchResult}
use Rattle.std.specs.Fmt.{decimal}
use Rattle.std.proofs.lemmas.List.{length-append}
use Rattle.std.proofs.lemmas.Option.{some_pair_parts}
use Rattle.world_types.specs.declared.event.Event.{Event}
use Rattle.world_types.specs.declared.event.Event.TheVariants.{Turn, Packet, Tick, Stop, Halt, Resume, Ask, Answer, Set, Clear, HaltAll, ResumeAll, Say, Quit}
use Rattle.world_types.specs.declared.event.Told.{Told}
use Rattle.journal_text.specs.declared.fault.LineFault.{LineFault}
use Rattle.journal_text.specs.declared.fault.LineFault.TheVariants.{Bad, Memory}
use Rattle.journal_text.specs.Spelling.{spaced, event_words, spelled}
use Rattle.journal_text.specs.Grammar.{InGrammar, BeginsWithNoLine}
use Rattle.journal_text.specs.Reading.{◌>>=◌, Gives, text_at, number_at, event_at, line_at}
use Rattle.journal_text.proofs.Fields.{bind_some, some_has, none_is, text_takes, number_takes, number_again}
use Rattle.journal_text.proofs.Events.{event_taken, event_again}

-- an event has a space at its front
spaced-front : (event : Event) (rest : List ℕ) → (more : List ℕ) × (spaced (event_words event) ++ rest ≡ 32 ∷ more)
spaced-front (Turn node steps reading) rest = (_, refl)
spaced-front (Packet node sender index) rest = (_, refl)
spaced-front (Tick node) rest = (_, refl)
spaced-front (Stop node) rest = (_, refl)
spaced-front (Halt node) rest = (_, refl)
spaced-front (Resume node) rest = (_, refl)
spaced-front (Ask node question) rest = (_, refl)
spaced-front (Answer node) rest = (_, refl)
spaced-front (Set node line) rest = (_, refl)
spaced-front (Clear node line) rest = (_, refl)
spaced-front HaltAll rest = (_, refl)
spaced-front (ResumeAll until) rest = (_, refl)
spaced-front (Say why) rest = (_, refl)
spaced-front Quit rest = (_, refl)

pub line_takes : (bytes : List ℕ) (x : Told × List ℕ) → line_at bytes ≡ Some x → (bytes ≡ spelled x.0 ++ x.1) × InGrammar x.0
unfolding line_at
line_takes bytes x e =
    let a = bind_some (number_at (2 ^ 62 - 1) bytes) (λ stamp. event_at stamp.1 >>= λ event. text_at (10 ∷ []) event.1 >>= λ rest. Some (record { stamp = stamp.0; event = event.0 }, rest)) x e in
    let b = bind_some (event_at a.0.1) (λ event. text_at (10 ∷ []) event.1 >>= λ rest. Some (record { stamp = a.0.0; event = event.0 }, rest)) x a.2 in
    let c = bind_some (text_at (10 ∷ []) b.0.1) (λ rest. Some (record { stamp = a.0.0; event = b.0.0 }, rest)) x b.2 in
    let stamp = number_takes (2 ^ 62 - 1) bytes a.0 (omega arith) (omega arith) a.1 in
    let event = event_taken a.0.1 b.0 b.1 in
    let end = text_takes (10 ∷ []) b.0.1 c.0 c.1 in
    let told : Told = record { stamp = a.0.0; event = b.0.0 } in
    let whole : bytes ≡ spelled told ++ c.0 =
    stamp.parts ∙ ap (λ (after : List ℕ). decimal a.0.0 ++ after) (event.0 ∙ ap (λ (after : List ℕ). spaced (event_words b.0.0) ++ after) end) ∙ simp append_assoc in
    some_has (λ (y : Told × List ℕ). (bytes ≡ spelled y.0 ++ y.1) × InGrammar y.0) (told, c.0) x c.2 (whole, (omega (arith, stamp.small), event.1))

pub line_again : (told : Told) (rest : List ℕ) → InGrammar told → line_at (spelled told ++ rest) ≡ Some (told, rest)
unfolding line_at text_at
line_again told rest fits =
    let regrouped : spelled told ++ rest ≡ decimal told.stamp ++ (spaced (event_words told.event) ++ (10 ∷ rest)) = simp append_assoc in
    let front = spaced-front told.event (10 ∷ rest) in
    let stamp : number_at (2 ^ 62 - 1) (decimal told.stamp ++ (spaced (event_words told.event) ++ (10 ∷ rest))) ≡ Some (told.stamp, spaced (event_words told.event) ++ (10 ∷ rest)) =
    ap (λ (after : List ℕ). number_at (2 ^ 62 - 1) (decimal told.stamp ++ after)) front.1
    ∙ number_again (2 ^ 62 - 1) told.stamp 32 front.0 (omega (arith, fits.0)) (omega (arith, fits.0)) refl
    ∙ ap (λ (after : List ℕ). Some (told.stamp, after)) (sym front.1) in
    ap line_at regrouped ∙ rw (stamp, event_again told.event rest fits.1) refl

-- ---- what a reader of a line answers

pub answer_in_grammar : {X : Type 0} (view : X → Told × List ℕ) (bytes : List ℕ) (r : Result X LineFault) → Gives view r (line_at bytes) → IfOk r (λ x. InGrammar (view x).0)
answer_in_grammar view bytes (Ok x) given = (line_takes bytes (view x) given).1
answer_in_grammar view bytes (Err fault) given = tt

pub answer_parts : {X : Type 0} (view : X → Told × List ℕ) (bytes : List ℕ) (r : Result X LineFault) → Gives view r (line_at bytes) → IfOk r (λ x. bytes ≡ spelled (view x).0 ++ (view x).1)
answer_parts view bytes (Ok x) given = (line_takes bytes (view x) given).0
answer_parts view bytes (Err fault) given = tt

-- what is spelled is more than what stands behind it
pub length-behind : (told : Told) (rest bytes : List ℕ) → bytes ≡ spelled told ++ rest → length rest < length bytes
length-behind told rest bytes e =
    omega (arith, ap length e, length-append (spelled told) rest, length-append (decimal told.stamp ++ spaced (event_words told.event)) (10 ∷ []))

pub answer_shorter : {X : Type 0} (view : X → Told × List ℕ) (bytes : List ℕ) (r : Result X LineFault) → Gives view r (line_at bytes) → IfOk r (λ x. length (view x).1 < length bytes)
answer_shorter view bytes (Ok x) given = length-behind (view x).0 (view x).1 bytes (line_takes bytes (view x) given).0
answer_shorter view bytes (Err fault) given = tt

pub answer_taken : {X : Type 0} (view : X → Told × List ℕ) (bytes : List ℕ) (r : Result X LineFault) → Gives view r (line_at bytes)
    → (told : Told) (rest : List ℕ) → InGrammar told → bytes ≡ spelled told ++ rest → MatchResult r (λ x. ((view x).0 ≡ told) × ((view x).1 ≡ rest)) (λ fault. fault ≡ Memory)
answer_taken view bytes (Ok x) given told rest fits e = some_pair_parts (view x).0 told (view x).1 rest (sym given ∙ ap line_at e ∙ line_again told rest fits)
answer_taken view bytes (Err Memory) given told rest fits e = refl
answer_taken view bytes (Err Bad) given told rest fits e = none_is (told, rest) (sym given ∙ ap line_at e ∙ line_again told rest fits)

pub answer_bad : {X : Type 0} (view : X → Told × List ℕ) (bytes : List ℕ) (r : Result X LineFault) → Gives view r (line_at bytes) → r ≡ Err Bad → BeginsWithNoLine bytes
answer_bad view bytes (Ok x) given bad = absurd cc
answer_bad view bytes (Err Memory) given bad = absurd cc
answer_bad view bytes (Err Bad) given bad = λ told rest fits e. none_is (told, rest) (sym given ∙ ap line_at e ∙ line_again told rest fits)

pub unambiguous : (a b : Told) (x y : List ℕ) → InGrammar a → InGrammar b → spelled a ++ x ≡ spelled b ++ y → (a ≡ b) × (x ≡ y)
unambiguous a b x y fits_a fits_b e = some_pair_parts a b x y (sym (line_again a x fits_a) ∙ ap line_at e ∙ line_again b y fits_b)
