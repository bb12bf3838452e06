-- What the numbered conditions tell, and the effects of a legal list.
use Rattle.std.proofs.Common.{◌≡◌, ℕ, ◌≤◌, Bool, true, false, ◌&&◌, List, [], ◌∷◌, ◌++◌, reverse, nat_le, Option, Some, None, refl, ◌∙◌, ap, arith}
use Rattle.std.proofs.lemmas.Bool.{leb-true}
use Rattle.std.proofs.lemmas.List.{reverse-append}
use Rattle.world_types.specs.declared.event.Event.{Event}
use Rattle.world_types.specs.declared.event.Event.TheVariants.{Turn, Packet, Tick}
use Rattle.world_types.specs.declared.event.Told.{Told}
use Rattle.world_types.specs.declared.effects.Entry.{Entry}
use Rattle.world_types.specs.declared.effects.Effects.{Effects}
use Rattle.world_rules.specs.Plain.{Rules, World, and_then, plain, join, nothing}
use Rattle.world_rules.specs.Said.{node_of, last_of, last_stamp, rounds, cut, read_by, erased, items, plain_events}
use Rattle.world_rules.specs.Conditions.{Test, first_of, number_of}
use Rattle.world_rules.specs.Legal.{tests, all_tests, first_failing, reached, passed, showing, shown_by, told, tolds, bare, effects_of, LegalPast, Legal, ReadsBy, InTime, SameEffects}
use Rattle.world_rules.proofs.Erasing.{erased-more, events-append, plain-append}

pub by_test : {P : Type 0} (b : Bool) → (b ≡ true → P) → (b ≡ false → P) → P
by_test true h k = h refl
by_test false h k = k refl

abbrev pub AllPass : List Test → Type 0
AllPass [] = Unit {0}
AllPass (t ∷ ts) = (t.1 ≡ true) × AllPass ts

pub passes : (ts : List Test) → first_of ts ≡ None → AllPass ts
passes [] h = tt
passes (t ∷ ts) h = by_test t.1 (λ e. (e, passes ts (rw e at h))) (λ e. absurd_some (rw e at h))
  where
    absurd_some : Some (number_of t.0) ≡ None → AllPass (t ∷ ts)
    absurd_some q = cc

pub none_fails : (ts : List Test) → AllPass ts → first_of ts ≡ None
none_fails [] h = refl
none_fails (t ∷ ts) h = rw h.0 (none_fails ts h.1)

pub and_left : (a b : Bool) → (a && b) ≡ true → a ≡ true
and_left true b h = refl
and_left false b h = h

pub and_right : (a b : Bool) → (a && b) ≡ true → b ≡ true
and_right true b h = h
and_right false b h = cc

pub le_true : (a b : ℕ) → nat_le a b ≡ true → a ≤ b
le_true = leb-true

pub stamp_by : (past : List Told) (s : ℕ) → last_stamp past ≤ s → InTime (last_stamp past) past → InTime s past
stamp_by [] s h k = tt
stamp_by (e ∷ past) s h k = (h, k.1, k.2)

reads : {S : Type 0} (rules : Rules S) (w : World S) (p : Option (ℕ × ℕ)) (past : List Told) (s : ℕ) (e : Event) → AllPass (tests rules w p past s e) → ReadsBy s e
reads rules w p past s (Turn n k r) h =
    le_true r s (and_left (nat_le r s) (read_by (rounds past) r) (and_right (nat_le (last_of n past) r) (nat_le r s && read_by (rounds past) r) h.1.1.0))
reads rules w p past s (Packet n m j) h = tt
reads rules w p past s (Tick n) h = tt
reads rules w p past s e h = tt

pub meets_all : {S : Type 0} (rules : Rules S) (first : World S) (past : List Told) (e : Told) → first_failing rules first past e ≡ None → AllPass (all_tests rules (reached rules first past) (passed rules first (node_of e.event) past) past e)
meets_all rules first past e h = passes (all_tests rules (reached rules first past) (passed rules first (node_of e.event) past) past e) h

-- a list whose entries meet their conditions is in time
pub in_time_more : {S : Type 0} (rules : Rules S) (first : World S) (past : List Told) (e : Told) → first_failing rules first past e ≡ None → InTime (last_stamp past) past → InTime e.stamp (e ∷ past)
in_time_more rules first past e h k =
    let a = meets_all rules first past e h in
    (omega arith, reads rules (reached rules first past) (passed rules first (node_of e.event) past) past e.stamp e.event a.1.1.1, stamp_by past e.stamp (le_true (last_stamp past) e.stamp a.0) k)

pub in_time : {S : Type 0} (rules : Rules S) (first : World S) (past : List Entry) → LegalPast rules first past → InTime (last_stamp (tolds past)) (tolds past)
in_time rules first [] h = tt
in_time rules first (e ∷ past) h = in_time_more rules first (tolds past) (told e) h.1.meets (in_time rules first past h.0)

-- ---- the effects of a legal list

pub record Showed {S : Type 0} (o : Option (World S × Effects)) (after : World S) (x : Effects) : Type 0 where
  pub y : Effects
  pub plainly : o ≡ Some (after, y)
  pub same : bare y ≡ bare x

pub showed : {S : Type 0} (text : List ℕ) (o : Option (World S × Effects)) (after : World S) (x : Effects) → and_then o (showing text) ≡ Some (after, x) → Showed o after x
showed text None after x h = cc
showed {S} text (Some a) after x h = record { y = a.1; plainly = ap (λ (v : World S). Some (v, a.1)) (ap fst_of h); same = ap (λ (z : Effects). bare z) (ap snd_of h) }
  where
    fst_of : Option (World S × Effects) → World S
    fst_of None = after
    fst_of (Some b) = b.0

    snd_of : Option (World S × Effects) → Effects
    snd_of None = x
    snd_of (Some b) = b.1

pub record Same {S : Type 0} (rules : Rules S) (first : World S) (past : List Told) (x : Effects) : Type 0 where
  pub last : World S
  pub most : Effects
  pub same : plain rules first (plain_events (erased (cut (rounds past)) past)) ≡ Some (last, most)
  pub bare_same : bare most ≡ x

bare-join : (x y : Effects) → bare (join x y) ≡ join (bare x) (bare y)
bare-join x y = refl

pub is_reached : {S : Type 0} (rules : Rules S) (first : World S) (past : List Told) (x : Effects) (s : Same rules first past x) → reached rules first past ≡ s.last
is_reached rules first past x s = rw s.same refl

pub same_past : {S : Type 0} (rules : Rules S) (first : World S) (past : List Entry) → LegalPast rules first past → Same rules first (tolds past) (effects_of past)
same_past rules first [] h = record { last = first; most = nothing; same = refl; bare_same = refl }
same_past {S} rules first (e ∷ past) h =
    let before = same_past rules first past h.0 in
    let f = h.1 in
    let d = cut (rounds (tolds past)) in
    let r = is_reached rules first (tolds past) (effects_of past) before in
    let one = showed (shown_by rules (reached rules first (tolds past)) (tolds past) e.stamp e.event) (plain rules (reached rules first (tolds past)) (plain_events (items d (tolds past) (told e)))) f.after e.effects f.gives in
    let one' : plain rules before.last (plain_events (items d (tolds past) (told e))) ≡ Some (f.after, one.y) = rw (← r) one.plainly in
    record {
      last = f.after;
      most = join before.most one.y;
      same = rw (erased-more (tolds past) (told e) (in_time_more rules first (tolds past) (told e) f.meets (in_time rules first past h.0)), events-append (erased d (tolds past)) (items d (tolds past) (told e)))
          (plain-append rules first before.last f.after before.most one.y (plain_events (erased d (tolds past))) (plain_events (items d (tolds past) (told e))) before.same one');
      bare_same = bare-join before.most one.y ∙ (λ i. join (before.bare_same i) (one.same i));
    }

pub reached_more : {S : Type 0} (rules : Rules S) (first : World S) (past : List Entry) (e : Entry) (h : LegalPast rules first (e ∷ past)) → reached rules first (tolds (e ∷ past)) ≡ h.1.after
unfolding same_past
reached_more rules first past e h = is_reached rules first (tolds (e ∷ past)) (effects_of (e ∷ past)) (same_past rules first (e ∷ past) h)

tolds-append : (xs ys : List Entry) → tolds (xs ++ ys) ≡ tolds xs ++ tolds ys
tolds-append [] ys = refl
tolds-append (x ∷ xs) ys = ap (λ (zs : List Told). told x ∷ zs) (tolds-append xs ys)

pub tolds-reverse : (xs : List Entry) → tolds (reverse xs) ≡ reverse (tolds xs)
tolds-reverse [] = refl
tolds-reverse (x ∷ xs) =
    rw (reverse-append (x ∷ []) xs, reverse-append (told x ∷ []) (tolds xs), tolds-append (reverse xs) (x ∷ []), tolds-reverse xs) refl

pub same_effects : {S : Type 0} (rules : Rules S) (first : World S) (list : List Entry) → Legal rules first list → SameEffects rules first list
same_effects rules first list h =
    let s = same_past rules first (reverse list) h in
    record { last = s.last; most = s.most; same = rw (← tolds-reverse list) s.same; bare_same = s.bare_same }
