-- What is written for a list, and for a list without the debugger.
use Rattle.std.proofs.Common.{◌≡◌, ℕ, List, [], ◌∷◌, ◌++◌, reverse, Some, refl, sym, ◌∙◌, ap, subst, append_assoc, append-nil}
use Rattle.std.proofs.lemmas.List.{reverse-append}
use Rattle.clu_tree.specs.declared.program.Program.{Program}
use Rattle.world_types.specs.declared.event.Event.{Event}
use Rattle.world_types.specs.declared.event.Event.TheVariants.{Turn, Packet, Tick}
use Rattle.world_types.specs.declared.event.Told.{Told}
use Rattle.world_types.specs.declared.effects.Line.{Line}
use Rattle.world_types.specs.declared.effects.Effects.{Effects}
use Rattle.world_types.specs.declared.effects.Entry.{Entry}
use Rattle.world_rules.specs.Said.{plain_events}
use Rattle.world_rules.specs.Plain.{plain}
use Rattle.world_rules.specs.Legal.{ArePlain, IsPlainEvent, effects_of, tolds}
use Rattle.world_rules.specs.Laws.{PlainLaw}
use Rattle.world_rules.specs.Node.{first_of_program, rules_of}
use Rattle.world_rules.specs.Transcript.{printed, transcript, written_by}
use Rattle.world_rules.proofs.Erasing.{erase-plain}
use Rattle.world_rules.proofs.Following.{same_effects}

pub transcript-more : (list : List Entry) (e : Entry) → transcript (list ++ e ∷ []) ≡ transcript list ++ written_by e.event e.effects
transcript-more [] e = append-nil (written_by e.event e.effects)
transcript-more (x ∷ list) e =
    ap (λ (t : List ℕ). written_by x.event x.effects ++ t) (transcript-more list e) ∙ sym (append_assoc (written_by x.event x.effects) (transcript list) (written_by e.event e.effects))

printed-append : (xs ys : List Line) → printed (xs ++ ys) ≡ printed xs ++ printed ys
printed-append [] ys = refl
printed-append (x ∷ xs) ys = ap (λ (t : List ℕ). x.text ++ 10 ∷ t) (printed-append xs ys) ∙ sym (append_assoc x.text (10 ∷ printed xs) (printed ys))

written-plain : (e : Event) (x : Effects) → IsPlainEvent e → written_by e x ≡ printed x.lines
written-plain (Turn n k r) x h = refl
written-plain (Packet n m j) x h = refl
written-plain (Tick n) x h = refl
written-plain e x h = elim h [ ]

-- each entry, the newest first, writes its lines
lines-plain : (past : List Entry) → ArePlain (tolds past) → transcript (reverse past) ≡ printed (effects_of past).lines
lines-plain [] h = refl
lines-plain (e ∷ past) h =
    ap transcript (reverse-append (e ∷ []) past)
    ∙ transcript-more (reverse past) e
    ∙ ap (λ (t : List ℕ). t ++ written_by e.event e.effects) (lines-plain past h.1)
    ∙ ap (λ (t : List ℕ). printed (effects_of past).lines ++ t) (written-plain e.event e.effects h.0)
    ∙ sym (printed-append (effects_of past).lines e.effects.lines)

plain_append : (xs ys : List Entry) → ArePlain (tolds xs) → ArePlain (tolds ys) → ArePlain (tolds (xs ++ ys))
plain_append [] ys h k = k
plain_append (x ∷ xs) ys h k = (h.0, plain_append xs ys h.1 k)

plain_reverse : (xs : List Entry) → ArePlain (tolds xs) → ArePlain (tolds (reverse xs))
plain_reverse [] h = tt
plain_reverse (x ∷ xs) h = rw (reverse-append (x ∷ []) xs) (plain_append (reverse xs) (x ∷ []) (plain_reverse xs h.1) (h.0, tt))

reverse-twice : (xs : List Entry) → reverse (reverse xs) ≡ xs
reverse-twice [] = refl
reverse-twice (x ∷ xs) = rw (reverse-append (x ∷ []) xs, reverse-append (reverse xs) (x ∷ []), reverse-twice xs) refl

pub plain_law : (program : Program) → PlainLaw program
plain_law program list legal only =
    let s = same_effects (rules_of program) (first_of_program program) list legal in
    record {
      last = s.last;
      most = s.most;
      ran = subst (λ (l : List Told). plain (rules_of program) (first_of_program program) (plain_events l) ≡ Some (s.last, s.most)) (erase-plain (tolds list) only) s.same;
      written = ap transcript (sym (reverse-twice list)) ∙ lines-plain (reverse list) (plain_reverse list only) ∙ ap (λ (x : Effects). printed x.lines) (sym s.bare_same);
    }
