-- The laws of erasing.
use Rattle.std.proofs.Common.{◌≡◌, ℕ, ◌≤◌, Bool, true, false, List, [], ◌∷◌, ◌++◌, reverse, if◌then◌else◌, ◌==◌, Option, Some, None, refl, sym, ◌∙◌, ap, arith, append_assoc}
use Rattle.std.proofs.lemmas.List.{reverse-append}
use Rattle.world_types.specs.Rounds.{Round, cut}
use Rattle.world_types.specs.declared.event.Event.{Event}
use Rattle.world_types.specs.declared.event.Event.TheVariants.{Turn, Packet, Tick, Stop, Resume, HaltAll, ResumeAll}
use Rattle.world_types.specs.declared.event.Told.{Told}
use Rattle.world_types.specs.declared.effects.Effects.{Effects}
use Rattle.world_types.specs.declared.event.PlainEvent.{PlainEvent}
use Rattle.world_types.proofs.Cuts.{cut-opened, cut-closed}
use Rattle.world_rules.specs.Plain.{Rules, World, and_then, step, behind, plain, join, nothing}
use Rattle.world_rules.specs.Said.{node_of, halted, halted_by, rounds_by, rounds, held, resumed, items_by, items, erased, erase, plainly_at, plain_events}
use Rattle.world_rules.specs.Legal.{ReadsBy, InTime, IsPlainEvent, ArePlain}

by_test : {P : Type 0} (b : Bool) → (b ≡ true → P) → (b ≡ false → P) → P
by_test true h k = h refl
by_test false h k = k refl

-- ---- a later event doesn't change the cut at an earlier stamp

cut-by : (s t : ℕ) (e : Event) (rs : List Round) → t ≤ s → cut (rounds_by s e rs) t ≡ cut rs t
cut-by s t (Stop n) rs h = cut-opened s t rs h
cut-by s t HaltAll rs h = cut-opened s t rs h
cut-by s t (ResumeAll u) rs h = cut-closed s t rs h
cut-by s t e rs h = refl

pub cut-later : (past : List Told) (e : Told) (t : ℕ) → t ≤ e.stamp → cut (rounds (e ∷ past)) t ≡ cut (rounds past) t
cut-later past e t h = cut-by e.stamp t e.event (rounds past) h

-- ---- erasing by cuts that agree

items-alike : (c d : ℕ → ℕ) (past : List Told) (s : ℕ) (e : Event) → ReadsBy s e → ((t : ℕ) → t ≤ s → c t ≡ d t) → items_by c past s e ≡ items_by d past s e
items-alike c d past s (Turn n k r) h a = rw (a s (omega arith), a r h) refl
items-alike c d past s (Packet n m j) h a = rw (a s (omega arith)) refl
items-alike c d past s (Tick n) h a = rw (a s (omega arith)) refl
items-alike c d past s (Resume n) h a = rw (a s (omega arith)) refl
items-alike c d past s e h a = refl

erased-alike : (c d : ℕ → ℕ) (s : ℕ) (past : List Told) → InTime s past → ((t : ℕ) → t ≤ s → c t ≡ d t) → erased c past ≡ erased d past
erased-alike c d s [] h a = refl
erased-alike c d s (e ∷ past) h a =
    let b : (t : ℕ) → t ≤ e.stamp → c t ≡ d t = λ t k. a t (omega (arith, h.0)) in
    rw (erased-alike c d e.stamp past h.2 b, items-alike c d past e.stamp e.event h.1 b) refl

-- one event more: by the cut before it
pub erased-more : (past : List Told) (e : Told) → InTime e.stamp (e ∷ past) → erased (cut (rounds (e ∷ past))) (e ∷ past) ≡ erased (cut (rounds past)) past ++ items (cut (rounds past)) past e
erased-more past e h =
    let c = cut (rounds (e ∷ past)) in
    let d = cut (rounds past) in
    rw (erased-alike c d e.stamp past h.2 (cut-later past e), items-alike c d past e.stamp e.event h.1 (cut-later past e)) refl

pub snoc : (list : List Told) (e : Told) → InTime e.stamp (e ∷ reverse list) → erase (list ++ e ∷ []) ≡ erase list ++ items (cut (rounds (reverse list))) (reverse list) e
snoc list e h = rw (reverse-append list (e ∷ [])) (erased-more (reverse list) e h)

-- ---- what is left has no debugger in it

pub plain_append : (xs ys : List Told) → ArePlain xs → ArePlain ys → ArePlain (xs ++ ys)
plain_append [] ys h k = k
plain_append (x ∷ xs) ys h k = (h.0, plain_append xs ys h.1 k)

pub plain_resumed : (n t : ℕ) (ps : List (ℕ × ℕ)) → ArePlain (resumed n t ps)
plain_resumed n t [] = tt
plain_resumed n t (p ∷ ps) = (tt, plain_resumed n t ps)

pub plain_items : (c : ℕ → ℕ) (past : List Told) (s : ℕ) (e : Event) → ArePlain (items_by c past s e)
plain_items c past s (Turn n k r) = (tt, tt)
plain_items c past s (Packet n m j) = by_test (halted n past) (λ e. rw e tt) (λ e. rw e (tt, tt))
plain_items c past s (Tick n) = (tt, tt)
plain_items c past s (Resume n) = plain_resumed n (c s) (held n past)
plain_items c past s e = tt

pub plain_erased : (c : ℕ → ℕ) (past : List Told) → ArePlain (erased c past)
plain_erased c [] = tt
plain_erased c (e ∷ past) = plain_append (erased c past) (items c past e) (plain_erased c past) (plain_items c past e.stamp e.event)

-- ---- erasing what has no debugger in it

rounds_by-plain : (s : ℕ) (e : Event) (rs : List Round) → IsPlainEvent e → rounds_by s e rs ≡ rs
rounds_by-plain s (Turn n k r) rs h = refl
rounds_by-plain s (Packet n m j) rs h = refl
rounds_by-plain s (Tick n) rs h = refl
rounds_by-plain s e rs h = elim h [ ]

pub rounds-plain : (past : List Told) → ArePlain past → rounds past ≡ []
rounds-plain [] h = refl
rounds-plain (e ∷ past) h = rounds_by-plain e.stamp e.event (rounds past) h.0 ∙ rounds-plain past h.1

halted_by-plain : (e : Event) (before : Bool) → IsPlainEvent e → halted_by e before ≡ before
halted_by-plain (Turn m k r) before g = refl
halted_by-plain (Packet m f i) before g = refl
halted_by-plain (Tick m) before g = refl
halted_by-plain e before g = elim g [ ]

pub if-same : {A : Type 0} (b : Bool) (x y : A) → x ≡ y → (if b then x else y) ≡ y
if-same true x y h = h
if-same false x y h = refl

pub halted-plain : (n : ℕ) (past : List Told) → ArePlain past → halted n past ≡ false
halted-plain n [] h = refl
halted-plain n (e ∷ past) h = if-same (node_of e.event == n) (halted_by e.event (halted n past)) (halted n past) (halted_by-plain e.event (halted n past) h.0) ∙ halted-plain n past h.1

items-plain : (c : ℕ → ℕ) (past : List Told) (s : ℕ) (e : Event) → ((t : ℕ) → c t ≡ t) → IsPlainEvent e → ArePlain past → items_by c past s e ≡ record { stamp = s; event = e } ∷ []
items-plain c past s (Turn n k r) a h p = rw (a s, a r) refl
items-plain c past s (Packet n m j) a h p = rw (halted-plain n past p, a s) refl
items-plain c past s (Tick n) a h p = rw (a s) refl
items-plain c past s e a h p = elim h [ ]

pub erased-plain : (c : ℕ → ℕ) (past : List Told) → ((t : ℕ) → c t ≡ t) → ArePlain past → erased c past ≡ reverse past
erased-plain c [] a h = refl
erased-plain c (e ∷ past) a h =
    rw (erased-plain c past a h.1, items-plain c past e.stamp e.event a h.0 h.1) (sym (reverse-append (e ∷ []) past))

pub plain_reverse : (past : List Told) → ArePlain past → ArePlain (reverse past)
plain_reverse [] h = tt
plain_reverse (e ∷ past) h = rw (reverse-append (e ∷ []) past) (plain_append (reverse past) (e ∷ []) (plain_reverse past h.1) (h.0, tt))

pub cut-plain : (past : List Told) (t : ℕ) → ArePlain past → cut (rounds past) t ≡ t
cut-plain past t h = rw (rounds-plain past h) (omega arith)

pub reverse-twice : (xs : List Told) → reverse (reverse xs) ≡ xs
reverse-twice [] = refl
reverse-twice (x ∷ xs) = rw (reverse-append (x ∷ []) xs, reverse-append (reverse xs) (x ∷ []), reverse-twice xs) refl

pub erase-plain : (list : List Told) → ArePlain list → erase list ≡ list
erase-plain list h =
    let p = plain_reverse list h in
    erased-plain (cut (rounds (reverse list))) (reverse list) (λ t. cut-plain (reverse list) t p) p ∙ reverse-twice list

-- ---- the effects of a legal list

pub events-append : (xs ys : List Told) → plain_events (xs ++ ys) ≡ plain_events xs ++ plain_events ys
events-append [] ys = refl
events-append (x ∷ xs) ys = rw (events-append xs ys) (sym (append_assoc (plainly_at x.stamp x.event) (plain_events xs) (plain_events ys)))

pub join-assoc : (x y z : Effects) → join (join x y) z ≡ join x (join y z)
join-assoc x y z = rw (append_assoc x.sent y.sent z.sent, append_assoc x.lines y.lines z.lines, append_assoc x.marks y.marks z.marks, append_assoc x.shown y.shown z.shown) refl

pub plain-append : {S : Type 0} (rules : Rules S) (w v u : World S) (x y : Effects) (es fs : List PlainEvent) → plain rules w es ≡ Some (v, x) → plain rules v fs ≡ Some (u, y) → plain rules w (es ++ fs) ≡ Some (u, join x y)
plain-append {S} rules w v u x y [] fs h k =
    let wv : w ≡ v = ap fst_of h in
    let nx : nothing ≡ x = ap snd_of h in
    rw (wv, ← nx) k
  where
    fst_of : Option (World S × Effects) → World S
    fst_of None = w
    fst_of (Some a) = a.0

    snd_of : Option (World S × Effects) → Effects
    snd_of None = nothing
    snd_of (Some a) = a.1
plain-append {S} rules w v u x y (e ∷ es) fs h k = stepped (λ a b q k'. plain-append rules a.0 b.0 u b.1 y es fs q k') (step rules w e) h
  where
    ran : ((a b : World S × Effects) → plain rules a.0 es ≡ Some b → plain rules b.0 fs ≡ Some (u, y) → plain rules a.0 (es ++ fs) ≡ Some (u, join b.1 y)) → (a : World S × Effects) (o : Option (World S × Effects)) → plain rules a.0 es ≡ o → and_then o (behind a.1) ≡ Some (v, x) → and_then (plain rules a.0 (es ++ fs)) (behind a.1) ≡ Some (u, join x y)
    ran again a None q g = cc
    ran again a (Some b) q g =
        let bv : b.0 ≡ v = ap fst_of g in
        let bx : join a.1 b.1 ≡ x = ap snd_of g in
        let rest : plain rules a.0 (es ++ fs) ≡ Some (u, join b.1 y) = again a b q (rw bv k) in
        rw (rest, ← bx) (ap (λ (z : Effects). Some (u, z)) (sym (join-assoc a.1 b.1 y)))
      where
        fst_of : Option (World S × Effects) → World S
        fst_of None = w
        fst_of (Some a) = a.0

        snd_of : Option (World S × Effects) → Effects
        snd_of None = nothing
        snd_of (Some a) = a.1

    stepped : ((a b : World S × Effects) → plain rules a.0 es ≡ Some b → plain rules b.0 fs ≡ Some (u, y) → plain rules a.0 (es ++ fs) ≡ Some (u, join b.1 y)) → (o : Option (World S × Effects)) → and_then o (λ a. and_then (plain rules a.0 es) (behind a.1)) ≡ Some (v, x) → and_then o (λ a. and_then (plain rules a.0 (es ++ fs)) (behind a.1)) ≡ Some (u, join x y)
    stepped again None g = cc
    stepped again (Some a) g = ran again a (plain rules a.0 es) refl g
