-- An event that is read is the event that was spelled, and what was spelled is read again.
use Rattle.std.proofs.Common.{◌≡◌, ℕ, ◌^◌, ◌-◌, List, [], ◌∷◌, ◌++◌, Option, Some, None, refl, ap, ◌∙◌, inl, inr}
use Rattle.std.specs.Prelude.{◌==◌, IfSome}
use Rattle.world_types.specs.declared.event.Event.{Event}
use Rattle.world_types.specs.declared.event.Event.TheVariants.{Turn, Packet, Tick, Stop, Halt, Resume, Ask, Answer, Set, Clear, HaltAll, ResumeAll, Say, Quit}
use Rattle.world_types.specs.declared.event.SayWord.{SayWord}
use Rattle.world_types.specs.declared.event.SayWord.TheVariants.{Unknown, NoNode, Changes}
use Rattle.journal_text.specs.declared.word.Word.{Word}
use Rattle.journal_text.specs.declared.word.Word.TheVariants as word
use Rattle.journal_text.specs.Spelling.{spaced, question_words, say_word, until_words, event_words}
use Rattle.journal_text.specs.Grammar.{IsNode, IsNumber, IsEvent}
use Rattle.journal_text.specs.Reading.{◌>>=◌, word_number_at, turn_at, packet_at, ask_at, set_at, clear_at, of_node, of_node_at, until_at, resume_all_at, say_word_of, say_word_at, say_at, event_of, event_at}
use Rattle.journal_text.proofs.Fields.{bind_some, chosen, some_has, none_is}
use Rattle.journal_text.proofs.Parts.{IsBehind, IsPart, IsTaken, step, step_again, behind-spaced, spaced-then, two_parts, joined, alone_taken, one_taken, two_taken, one_again, two_again, word_part, node_part, long_part, steps_part, line_part, one_word, itself}
use Rattle.journal_text.proofs.Questions.{question_part}

-- ---- events of a node

-- the words of an event of the node, of which these are behind the node's number
abbrev IsOfNode : Word → ℕ → List ℕ → Event × List ℕ → Type 0
IsOfNode w node bytes x = IsTaken event_words IsEvent (itself w ++ one_word node) bytes x

of_node_taken : (w : Word) (node : ℕ) → IsNode node → (bytes : List ℕ) (x : Event × List ℕ) → of_node w node bytes ≡ Some x → IsOfNode w node bytes x
unfolding turn_at packet_at ask_at set_at clear_at
of_node_taken word.Turn node there bytes x e = two_taken event_words IsEvent (itself word.Turn ++ one_word node) steps_part long_part (Turn node) (λ steps reading is_steps is_reading. (refl, (there, is_steps, is_reading))) bytes x e
of_node_taken word.Packet node there bytes x e = two_taken event_words IsEvent (itself word.Packet ++ one_word node) node_part long_part (Packet node) (λ sender index is_sender is_index. (refl, (there, is_sender, is_index))) bytes x e
of_node_taken word.Tick node there bytes x e = alone_taken event_words IsEvent (itself word.Tick ++ one_word node) (Tick node) refl there bytes x e
of_node_taken word.Stop node there bytes x e = alone_taken event_words IsEvent (itself word.Stop ++ one_word node) (Stop node) refl there bytes x e
of_node_taken word.Halt node there bytes x e = alone_taken event_words IsEvent (itself word.Halt ++ one_word node) (Halt node) refl there bytes x e
of_node_taken word.Resume node there bytes x e = alone_taken event_words IsEvent (itself word.Resume ++ one_word node) (Resume node) refl there bytes x e
of_node_taken word.Ask node there bytes x e = one_taken event_words IsEvent (itself word.Ask ++ one_word node) question_part (Ask node) (λ question is. (refl, (there, is))) bytes x e
of_node_taken word.Answer node there bytes x e = alone_taken event_words IsEvent (itself word.Answer ++ one_word node) (Answer node) refl there bytes x e
of_node_taken word.Set node there bytes x e = one_taken event_words IsEvent (itself word.Set ++ one_word node) line_part (Set node) (λ line is. (refl, (there, is))) bytes x e
of_node_taken word.Clear node there bytes x e = one_taken event_words IsEvent (itself word.Clear ++ one_word node) line_part (Clear node) (λ line is. (refl, (there, is))) bytes x e
of_node_taken _ node there bytes x e = none_is x e

-- the node's number is one of the words
behind_node : (w : Word) (node : ℕ) (bytes rest : List ℕ) (x : Event × List ℕ) → bytes ≡ spaced (one_word node) ++ rest → IsOfNode w node rest x → IsTaken event_words IsEvent (itself w) bytes x
behind_node w node bytes rest x e t = record { more = one_word node ++ t.more; first = t.first; parts = two_parts bytes (one_word node) t.more rest x.1 e t.parts; is = t.is }

of_node_at_taken : (w : Word) (bytes : List ℕ) (x : Event × List ℕ) → of_node_at w bytes ≡ Some x → IsTaken event_words IsEvent (itself w) bytes x
unfolding of_node_at
of_node_at_taken w bytes x e =
    let a = step node_part (λ node. of_node w node.0 node.1) bytes x e in
    behind_node w a.value bytes a.rest x a.parts (of_node_taken w a.value a.is a.rest x a.goes_on)

-- ---- the other events

until_taken : (bytes : List ℕ) (x : Option ℕ × List ℕ) → until_at bytes ≡ Some x → (bytes ≡ spaced (until_words x.0) ++ x.1) × IfSome x.0 IsNumber
unfolding until_at
until_taken [] x e = some_has (λ (y : Option ℕ × List ℕ). ([] ≡ spaced (until_words y.0) ++ y.1) × IfSome y.0 IsNumber) (None, []) x e (refl, tt)
until_taken (b ∷ bytes) x e =
    let Is : Option ℕ × List ℕ → Type 0 = λ y. (b ∷ bytes ≡ spaced (until_words y.0) ++ y.1) × IfSome y.0 IsNumber in
    elim (chosen (b == 32) (word_number_at (2 ^ 62 - 1) (b ∷ bytes) >>= λ time. Some (Some time.0, time.1)) (Some (None, b ∷ bytes)) (Some x) e) [
      | inl w ↦
          let a = step long_part (λ time. Some (Some time.0, time.1)) (b ∷ bytes) x w.1 in
          some_has Is (Some a.value, a.rest) x a.goes_on (a.parts, a.is)
      | inr w ↦ some_has Is (None, b ∷ bytes) x w.1 (refl, tt)
    ]

until_again : (until : Option ℕ) (rest : List ℕ) → IfSome until IsNumber → until_at (spaced (until_words until) ++ (10 ∷ rest)) ≡ Some (until, 10 ∷ rest)
unfolding until_at
until_again None rest is = refl
until_again (Some time) rest is = one_again long_part Some time (10 ∷ rest) is (inr refl)

resume_all_taken : (bytes : List ℕ) (x : Event × List ℕ) → resume_all_at bytes ≡ Some x → IsTaken event_words IsEvent (itself word.ResumeAll) bytes x
unfolding resume_all_at
resume_all_taken bytes x e =
    let a = bind_some (until_at bytes) (λ until. Some (ResumeAll until.0, until.1)) x e in
    let t = until_taken bytes a.0 a.1 in
    some_has (IsTaken event_words IsEvent (itself word.ResumeAll) bytes) (ResumeAll a.0.0, a.0.1) x a.2 (record { more = until_words a.0.0; first = refl; parts = t.0; is = t.1 })

abbrev say_words : SayWord → List (List ℕ)
say_words why = say_word why ∷ []

say_word_of_taken : (w : Word) (bytes : List ℕ) (x : SayWord × List ℕ) → say_word_of w bytes ≡ Some x → IsTaken say_words (λ why. Unit {0}) (itself w) bytes x
say_word_of_taken word.Unknown bytes x e = alone_taken say_words (λ why. Unit {0}) (itself word.Unknown) Unknown refl tt bytes x e
say_word_of_taken word.Node bytes x e = alone_taken say_words (λ why. Unit {0}) (itself word.Node) NoNode refl tt bytes x e
say_word_of_taken word.Changes bytes x e = alone_taken say_words (λ why. Unit {0}) (itself word.Changes) Changes refl tt bytes x e
say_word_of_taken _ bytes x e = none_is x e

say_word_taken : (bytes : List ℕ) (x : SayWord × List ℕ) → say_word_at bytes ≡ Some x → (bytes ≡ spaced (say_words x.0) ++ x.1) × Unit {0}
unfolding say_word_at
say_word_taken bytes x e =
    let a = step word_part (λ w. say_word_of w.0 w.1) bytes x e in
    joined say_words (λ why. Unit {0}) (itself a.value) bytes a.rest x a.parts (say_word_of_taken a.value a.rest x a.goes_on)

say_word_again : (why : SayWord) (rest : List ℕ) → Unit {0} → IsBehind rest → say_word_at (spaced (say_words why) ++ rest) ≡ Some (why, rest)
unfolding say_word_at
say_word_again Unknown rest is behind = step_again word_part (λ w. say_word_of w.0 w.1) word.Unknown rest tt behind
say_word_again NoNode rest is behind = step_again word_part (λ w. say_word_of w.0 w.1) word.Node rest tt behind
say_word_again Changes rest is behind = step_again word_part (λ w. say_word_of w.0 w.1) word.Changes rest tt behind

say_word_part : IsPart say_word_at say_words (λ why. Unit {0})
say_word_part = record { taken = say_word_taken; again = say_word_again }

-- ---- any event

event_of_taken : (w : Word) (bytes : List ℕ) (x : Event × List ℕ) → event_of w bytes ≡ Some x → IsTaken event_words IsEvent (itself w) bytes x
unfolding say_at
event_of_taken word.HaltAll bytes x e = alone_taken event_words IsEvent (itself word.HaltAll) HaltAll refl tt bytes x e
event_of_taken word.ResumeAll bytes x e = resume_all_taken bytes x e
event_of_taken word.Say bytes x e = one_taken event_words IsEvent (itself word.Say) say_word_part Say (λ why is. (refl, tt)) bytes x e
event_of_taken word.Quit bytes x e = alone_taken event_words IsEvent (itself word.Quit) Quit refl tt bytes x e
event_of_taken w bytes x e = of_node_at_taken w bytes x e

pub event_taken : (bytes : List ℕ) (x : Event × List ℕ) → event_at bytes ≡ Some x → (bytes ≡ spaced (event_words x.0) ++ x.1) × IsEvent x.0
unfolding event_at
event_taken bytes x e =
    let a = step word_part (λ w. event_of w.0 w.1) bytes x e in
    joined event_words IsEvent (itself a.value) bytes a.rest x a.parts (event_of_taken a.value a.rest x a.goes_on)

-- by its word
event_by : (w : Word) (more : List (List ℕ)) (rest : List ℕ) → event_at (spaced (itself w ++ more) ++ (10 ∷ rest)) ≡ event_of w (spaced more ++ (10 ∷ rest))
unfolding event_at
event_by w more rest =
    ap event_at (spaced-then (itself w) more (10 ∷ rest)) ∙ step_again word_part (λ w. event_of w.0 w.1) w (spaced more ++ (10 ∷ rest)) tt (behind-spaced more (10 ∷ rest) (inr refl))

-- by its word and its node
of_node_by : (w : Word) (node : ℕ) (more : List (List ℕ)) (rest : List ℕ) → IsNode node → ((bytes : List ℕ) → event_of w bytes ≡ of_node_at w bytes)
    → event_at (spaced (itself w ++ (one_word node ++ more)) ++ (10 ∷ rest)) ≡ of_node w node (spaced more ++ (10 ∷ rest))
unfolding of_node_at
of_node_by w node more rest there same =
    event_by w (one_word node ++ more) rest
    ∙ same (spaced (one_word node ++ more) ++ (10 ∷ rest))
    ∙ ap (of_node_at w) (spaced-then (one_word node) more (10 ∷ rest))
    ∙ step_again node_part (λ node. of_node w node.0 node.1) node (spaced more ++ (10 ∷ rest)) there (behind-spaced more (10 ∷ rest) (inr refl))

pub event_again : (event : Event) (rest : List ℕ) → IsEvent event → event_at (spaced (event_words event) ++ (10 ∷ rest)) ≡ Some (event, 10 ∷ rest)
unfolding turn_at packet_at ask_at set_at clear_at resume_all_at say_at
event_again (Turn node steps reading) rest fits =
    of_node_by word.Turn node (one_word steps ++ one_word reading) rest fits.0 (λ bytes. refl) ∙ two_again steps_part long_part (Turn node) steps reading (10 ∷ rest) fits.1 fits.2 (inr refl)
event_again (Packet node sender index) rest fits =
    of_node_by word.Packet node (one_word sender ++ one_word index) rest fits.0 (λ bytes. refl) ∙ two_again node_part long_part (Packet node) sender index (10 ∷ rest) fits.1 fits.2 (inr refl)
event_again (Tick node) rest fits = of_node_by word.Tick node [] rest fits (λ bytes. refl)
event_again (Stop node) rest fits = of_node_by word.Stop node [] rest fits (λ bytes. refl)
event_again (Halt node) rest fits = of_node_by word.Halt node [] rest fits (λ bytes. refl)
event_again (Resume node) rest fits = of_node_by word.Resume node [] rest fits (λ bytes. refl)
event_again (Ask node question) rest fits = of_node_by word.Ask node (question_words question) rest fits.0 (λ bytes. refl) ∙ one_again question_part (Ask node) question (10 ∷ rest) fits.1 (inr refl)
event_again (Answer node) rest fits = of_node_by word.Answer node [] rest fits (λ bytes. refl)
event_again (Set node line) rest fits = of_node_by word.Set node (one_word line) rest fits.0 (λ bytes. refl) ∙ one_again line_part (Set node) line (10 ∷ rest) fits.1 (inr refl)
event_again (Clear node line) rest fits = of_node_by word.Clear node (one_word line) rest fits.0 (λ bytes. refl) ∙ one_again line_part (Clear node) line (10 ∷ rest) fits.1 (inr refl)
event_again HaltAll rest fits = event_by word.HaltAll [] rest
event_again (ResumeAll until) rest fits = event_by word.ResumeAll (until_words until) rest ∙ ap (λ o. o >>= λ u. Some (ResumeAll u.0, u.1)) (until_again until rest fits)
event_again (Say why) rest fits = event_by word.Say (say_words why) rest ∙ one_again say_word_part Say why (10 ∷ rest) tt (inr refl)
event_again Quit rest fits = event_by word.Quit [] rest
