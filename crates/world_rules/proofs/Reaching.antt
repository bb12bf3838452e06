-- The worlds that legal lists leave: times, sent packets, and that an entry that meets its conditions is possible.
use Rattle.std.proofs.Common.{◌≡◌, ℕ, zero, suc, ◌-◌, ◌≤◌, Bool, true, false, ◌&&◌, ◌⊎◌, inl, inr, List, [], ◌∷◌, ◌++◌, ◌==◌, length, Option, Some, None, is_some, IsSome, slice_get, slice_set, refl, sym, ◌∙◌, ap, arith, append_assoc}
use Rattle.std.proofs.lemmas.List.{append-nil}
use Rattle.std.proofs.lemmas.Bool.{eqb-true, eq-eqb}
use Rattle.world_types.specs.declared.event.Event.{Event}
use Rattle.world_types.specs.declared.event.Event.TheVariants.{Turn, Packet, Tick, Resume}
use Rattle.world_types.specs.declared.event.Told.{Told}
use Rattle.world_types.specs.declared.effects.Sent.{Sent}
use Rattle.world_types.specs.declared.effects.Entry.{Entry}
use Rattle.world_types.specs.declared.effects.Effects.{Effects}
use Rattle.world_types.specs.declared.event.PlainEvent.{PlainEvent}
use Rattle.world_types.specs.declared.event.PlainEvent.TheVariants as plainly
use Rattle.world_rules.specs.Plain.{Rules, Lawful, World, Fresh, and_then, node_at, packet_of, to_node, moved, step, behind, plain}
use Rattle.world_rules.specs.Said.{node_of, halted, last_of, last_stamp, rounds, cut, held, resumed, items, items_by, plain_events}
use Rattle.world_rules.specs.Legal.{InTime, tests, first_failing, test, is_node, due_at, ready_at, reached, passed, allowed, unmarked, most, showing, shown_by, enter, told, tolds, Follows, LegalPast}
use Rattle.world_rules.specs.Clock.{ClosedBy}
use Rattle.world_types.proofs.Cuts.{cut_mono}
use Rattle.world_rules.proofs.Cuts.{rounds_ordered}
use Rattle.world_rules.proofs.Erasing.{cut-later}
use Rattle.world_rules.proofs.Following.{by_test, AllPass, meets_all, in_time, in_time_more, showed, reached_more}
use Rattle.world_rules.proofs.Plainly.{and_then_some, last_below, stays, last_stays, last_goes, no_items}
use Rattle.world_rules.proofs.Clocks.{closed_more}

-- ---- places of a list

pub get-set-at : {A : Type 0} (xs : List A) (i : ℕ) (x : A) → IsSome (slice_get xs i) → slice_get (slice_set xs i x) i ≡ Some x
get-set-at [] i x h = cc
get-set-at (y ∷ xs) zero x h = refl
get-set-at (y ∷ xs) (suc i) x h = get-set-at xs i x h

pub get-set-other : {A : Type 0} (xs : List A) (i j : ℕ) (x : A) → (i ≡ j → ⊥) → slice_get (slice_set xs i x) j ≡ slice_get xs j
get-set-other [] i j x h = refl
get-set-other (y ∷ xs) zero zero x h = absurd (h refl)
get-set-other (y ∷ xs) zero (suc j) x h = refl
get-set-other (y ∷ xs) (suc i) zero x h = refl
get-set-other (y ∷ xs) (suc i) (suc j) x h = get-set-other xs i j x (λ e. h (ap suc e))

pub length-set : {A : Type 0} (xs : List A) (i : ℕ) (x : A) → length (slice_set xs i x) ≡ length xs
length-set [] i x = refl
length-set (y ∷ xs) zero x = refl
length-set (y ∷ xs) (suc i) x = ap suc (length-set xs i x)

get-front : {A : Type 0} (xs ys : List A) (i : ℕ) (x : A) → slice_get xs i ≡ Some x → slice_get (xs ++ ys) i ≡ Some x
get-front [] ys i x h = cc
get-front (y ∷ xs) ys zero x h = h
get-front (y ∷ xs) ys (suc i) x h = get-front xs ys i x h

module _ {S : Type 0} (rules : Rules S) (lawful : Lawful rules) where
  -- ---- one plain event

  -- a node of the later world is as before, or it is node n, of a time by t, and has sent what it had sent and more
  pub record Grown (n t m : ℕ) (old new : S × List Sent) : Type 0 where
    pub more : List Sent
    pub sent : new.1 ≡ old.1 ++ more
    pub since : (new.0 ≡ old.0) ⊎ ((n ≡ m) × (rules.time new.0 ≤ t))

  pub record Near (n t : ℕ) (w v : World S) : Type 0 where
    pub grown : (m : ℕ) (new : S × List Sent) → node_at v m ≡ Some new → (old : S × List Sent) × (node_at w m ≡ Some old) × Grown n t m old new
    pub there : (m : ℕ) (old : S × List Sent) → node_at w m ≡ Some old → (new : S × List Sent) × (node_at v m ≡ Some new) × Grown n t m old new
    pub long : length v ≡ length w

  same-grown : (n t m : ℕ) (a : S × List Sent) → Grown n t m a a
  same-grown n t m a = record { more = []; sent = sym (append-nil a.1); since = inl refl }

  pub near_same : (n t : ℕ) (w : World S) → Near n t w w
  near_same n t w = record {
    grown = λ m new h. (new, h, same-grown n t m new);
    there = λ m old h. (old, h, same-grown n t m old);
    long = refl;
  }

  some_same : {A : Type 0} (x y : A) → Some x ≡ Some y → x ≡ y
  some_same {A} x y h = ap of h
    where
      of : Option A → A
      of None = x
      of (Some z) = z

  near_set : (t i : ℕ) (w : World S) (node x : S × List Sent) → slice_get w i ≡ Some node → Grown (suc i) t (suc i) node x → Near (suc i) t w (slice_set w i x)
  near_set t i w node x at g = record { grown = grown; there = there; long = length-set w i x }
    where
      here : slice_get (slice_set w i x) i ≡ Some x
      here = get-set-at w i x (rw at refl)

      grown : (m : ℕ) (new : S × List Sent) → node_at (slice_set w i x) m ≡ Some new → (old : S × List Sent) × (node_at w m ≡ Some old) × Grown (suc i) t m old new
      grown zero new h = cc
      grown (suc j) new h = by_test (i == j)
          (λ e. let ij : i ≡ j = eqb-true i j e in
          let nx : x ≡ new = some_same x new (sym here ∙ (rw (← ij) at h)) in
          (node, rw (← ij) at, rw (← ij, ← nx) g))
          (λ e. (new, sym (get-set-other w i j x (λ q. no (eq-eqb i j q) e)) ∙ h, same-grown (suc i) t (suc j) new))
        where
          no : {P : Type 0} → (i == j) ≡ true → (i == j) ≡ false → P
          no a b = cc

      there : (m : ℕ) (old : S × List Sent) → node_at w m ≡ Some old → (new : S × List Sent) × (node_at (slice_set w i x) m ≡ Some new) × Grown (suc i) t m old new
      there zero old h = cc
      there (suc j) old h = by_test (i == j)
          (λ e. let ij : i ≡ j = eqb-true i j e in
          let no : node ≡ old = some_same node old (sym at ∙ (rw (← ij) at h)) in
          (x, rw (← ij) here, rw (← ij, ← no) g))
          (λ e. (old, get-set-other w i j x (λ q. no (eq-eqb i j q) e) ∙ h, same-grown (suc i) t (suc j) old))
        where
          no : {P : Type 0} → (i == j) ≡ true → (i == j) ≡ false → P
          no a b = cc

  near_moved : (n t : ℕ) (w : World S) (node : S × List Sent) (o : Option (S × Effects)) (b : World S × Effects) → node_at w n ≡ Some node → ((a : S × Effects) → o ≡ Some a → rules.time a.0 ≤ t) → moved w n node.1 o ≡ Some b → Near n t w b.0
  near_moved zero t w node o b at l h = cc
  near_moved (suc i) t w node None b at l h = cc
  near_moved (suc i) t w node (Some a) b at l h =
      let e : suc i - 1 ≡ i = omega arith in
      let x : slice_set w i (a.0, node.1 ++ a.1.sent) ≡ b.0 = rw (← e) (ap fst_of h) in
      rw (← x) (near_set t i w node (a.0, node.1 ++ a.1.sent) at (record { more = a.1.sent; sent = refl; since = inr (refl, l a refl) }))
    where
      fst_of : Option (World S × Effects) → World S
      fst_of None = w
      fst_of (Some c) = c.0

  -- a plain event at a time by t
  abbrev pub IsBy : ℕ → ℕ → PlainEvent → Type 0
  IsBy n t (plainly.Turn m k r) = (m ≡ n) × (r ≤ t)
  IsBy n t (plainly.Deliver m f j s) = (m ≡ n) × (s ≤ t)
  IsBy n t (plainly.Tick m s) = (m ≡ n) × (s ≤ t)

  abbrev pub AllBy : ℕ → ℕ → List PlainEvent → Type 0
  AllBy n t [] = Unit {0}
  AllBy n t (e ∷ es) = IsBy n t e × AllBy n t es

  near_step : (n t : ℕ) (w : World S) (e : PlainEvent) (b : World S × Effects) → IsBy n t e → step rules w e ≡ Some b → Near n t w b.0
  near_step n t w (plainly.Turn m k r) b l h =
      let one = and_then_some (node_at w m) (λ node. moved w m node.1 (rules.turn node.0 k r)) b h in
      rw (← l.0) (near_moved m t w one.a (rules.turn one.a.0 k r) b one.is (λ a e. omega (arith, l.1, lawful.turn_time one.a.0 k r a e)) one.gives)
  near_step n t w (plainly.Deliver m f j s) b l h =
      let one = and_then_some (node_at w m) (λ node. and_then (packet_of w m f j) (λ bytes. moved w m node.1 (rules.deliver node.0 bytes s))) b h in
      let two = and_then_some (packet_of w m f j) (λ bytes. moved w m one.a.1 (rules.deliver one.a.0 bytes s)) b one.gives in
      rw (← l.0) (near_moved m t w one.a (rules.deliver one.a.0 two.a s) b one.is (λ a e. omega (arith, l.1, lawful.deliver_time one.a.0 two.a s a e)) two.gives)
  near_step n t w (plainly.Tick m s) b l h =
      let one = and_then_some (node_at w m) (λ node. moved w m node.1 (rules.tick node.0 s)) b h in
      rw (← l.0) (near_moved m t w one.a (rules.tick one.a.0 s) b one.is (λ a e. omega (arith, l.1, lawful.tick_time one.a.0 s a e)) one.gives)

  grown_twice : (n t m : ℕ) (a b c : S × List Sent) → Grown n t m a b → Grown n t m b c → Grown n t m a c
  grown_twice n t m a b c g h = record {
    more = g.more ++ h.more;
    sent = h.sent ∙ ap (λ (xs : List Sent). xs ++ h.more) g.sent ∙ append_assoc a.1 g.more h.more;
    since = since h.since g.since;
  }
    where
      since : (c.0 ≡ b.0) ⊎ ((n ≡ m) × (rules.time c.0 ≤ t)) → (b.0 ≡ a.0) ⊎ ((n ≡ m) × (rules.time b.0 ≤ t)) → (c.0 ≡ a.0) ⊎ ((n ≡ m) × (rules.time c.0 ≤ t))
      since (inr k) q = inr k
      since (inl e) (inl f) = inl (e ∙ f)
      since (inl e) (inr k) = inr (k.0, rw e k.1)

  near_twice : (n t : ℕ) (w v u : World S) → Near n t w v → Near n t v u → Near n t w u
  near_twice n t w v u g h = record {
    grown = λ m new e. let one = h.grown m new e in let two = g.grown m one.0 one.1 in (two.0, two.1, grown_twice n t m two.0 one.0 new two.2 one.2);
    there = λ m old e. let one = g.there m old e in let two = h.there m one.0 one.1 in (two.0, two.1, grown_twice n t m old one.0 two.0 one.2 two.2);
    long = h.long ∙ g.long;
  }

  near_last : (n t : ℕ) (w u v : World S) → u ≡ v → Near n t w u → Near n t w v
  near_last n t w u v e h = rw (← e) h

  pub near_plain : (n t : ℕ) (w v : World S) (es : List PlainEvent) (x : Effects) → AllBy n t es → plain rules w es ≡ Some (v, x) → Near n t w v
  near_plain n t w v [] x l h = let e : w ≡ v = ap fst_of h in rw (← e) (near_same n t w)
    where
      fst_of : Option (World S × Effects) → World S
      fst_of None = w
      fst_of (Some c) = c.0
  near_plain n t w v (e ∷ es) x l h =
      let one = and_then_some (step rules w e) (λ a. and_then (plain rules a.0 es) (behind a.1)) (v, x) h in
      let two = and_then_some (plain rules one.a.0 es) (behind one.a.1) (v, x) one.gives in
      let there : two.a.0 ≡ v = ap fst_of two.gives in
      near_twice n t w one.a.0 v (near_step n t w e one.a l.0 one.is) (near_last n t one.a.0 two.a.0 v there (near_plain n t one.a.0 two.a.0 es two.a.1 l.1 two.is))
    where
      fst_of : Option (World S × Effects) → World S
      fst_of None = w
      fst_of (Some c) = c.0

  -- ---- one entry

  by_append : (n t : ℕ) (es fs : List PlainEvent) → AllBy n t es → AllBy n t fs → AllBy n t (es ++ fs)
  by_append n t [] fs h k = k
  by_append n t (e ∷ es) fs h k = (h.0, by_append n t es fs h.1 k)

  by_resumed : (n t : ℕ) (ps : List (ℕ × ℕ)) → AllBy n t (plain_events (resumed n t ps))
  by_resumed n t [] = tt
  by_resumed n t (p ∷ ps) = ((refl, omega arith), by_resumed n t ps)

  by_items : (c : ℕ → ℕ) (past : List Told) (s t : ℕ) (e : Event) → ((r : ℕ) → r ≤ s → c r ≤ t) → t ≡ c s → Rattle.world_rules.specs.Legal.ReadsBy s e → AllBy (node_of e) t (plain_events (items_by c past s e))
  by_items c past s t (Turn n k r) l q h = ((refl, l r h), tt)
  by_items c past s t (Packet n m j) l q h = by_test (halted n past) (λ e. rw e tt) (λ e. rw e ((refl, l s (omega arith)), tt))
  by_items c past s t (Tick n) l q h = ((refl, l s (omega arith)), tt)
  by_items c past s t (Resume n) l q h = rw (← q) (by_resumed n t (held n past))
  by_items c past s t e l q h = tt

  -- the times of a world's nodes are by the cuts of their last stamps
  pub Timed : List Told → World S → Type 0
  Timed past w = (m : ℕ) (node : S × List Sent) → node_at w m ≡ Some node → rules.time node.0 ≤ cut (rounds past) (last_of m past)

  module _ (first : World S) where
    pub near_entry : (past : List Entry) (e : Entry) → LegalPast rules first past → (f : Follows rules first (tolds past) e) → Near (node_of e.event) (cut (rounds (tolds past)) e.stamp) (reached rules first (tolds past)) f.after
    near_entry past e h f =
        let ps = tolds past in
        let c = cut (rounds ps) in
        let time = in_time rules first past h in
        let now = in_time_more rules first ps (told e) f.meets time in
        let one = showed (shown_by rules (reached rules first ps) ps e.stamp e.event) (plain rules (reached rules first ps) (plain_events (items c ps (told e)))) f.after e.effects f.gives in
        let mono : (r : ℕ) → r ≤ e.stamp → c r ≤ c e.stamp = λ r l. cut_mono (rounds ps) (last_stamp ps) r e.stamp (rounds_ordered (last_stamp ps) ps time) l in
        near_plain (node_of e.event) (c e.stamp) (reached rules first ps) f.after (plain_events (items c ps (told e))) one.y (by_items c ps e.stamp (c e.stamp) e.event mono refl now.1) one.plainly

    -- as long as at first
    pub long : (past : List Entry) → LegalPast rules first past → length (reached rules first (tolds past)) ≡ length first
    long [] h = refl
    long (e ∷ past) h = let n = near_entry past e h.0 h.1 in ap (λ (w : World S). length w) (reached_more rules first past e h) ∙ n.long ∙ long past h.0

    pub fresh_at : (w : World S) (m : ℕ) (node : S × List Sent) → Fresh rules w → node_at w m ≡ Some node → rules.time node.0 ≡ 0
    fresh_at w zero node h e = cc
    fresh_at [] (suc i) node h e = cc
    fresh_at (x ∷ w) (suc zero) node h e = let q : x ≡ node = some_same x node e in rw (← q) h.0
    fresh_at (x ∷ w) (suc (suc i)) node h e = fresh_at w (suc i) node h.1 e

    pub closed_past : (n : ℕ) (past : List Entry) → LegalPast rules first past → 1 ≤ n → n ≤ length first → halted n (tolds past) ≡ false → ClosedBy (last_of n (tolds past)) (rounds (tolds past))
    closed_past n [] h a b q = tt
    closed_past n (e ∷ past) h a b q =
        let ps = tolds past in
        let time = in_time rules first past h.0 in
        let now = in_time_more rules first ps (told e) h.1.meets time in
        closed_more rules (reached rules first ps) (passed rules first (node_of e.event) ps) n e.stamp e.event ps (meets_all rules first ps (told e) h.1.meets).1.1.1 a (omega (arith, b, long past h.0)) (rounds_ordered e.stamp ps now.2) (last_below n e.stamp ps now.2) (λ z. closed_past n past h.0 a b z) q

    plain_none : (w v : World S) (es : List Told) (y : Effects) → es ≡ [] → plain rules w (plain_events es) ≡ Some (v, y) → w ≡ v
    plain_none w v es y e h = ap fst_of (rw e at h)
      where
        fst_of : Option (World S × Effects) → World S
        fst_of None = w
        fst_of (Some c) = c.0

    same_stays : (past : List Entry) (e : Entry) → (f : Follows rules first (tolds past) e) → stays e.event ≡ true → reached rules first (tolds past) ≡ f.after
    same_stays past e f g =
        let ps = tolds past in
        let c = cut (rounds ps) in
        let one = showed (shown_by rules (reached rules first ps) ps e.stamp e.event) (plain rules (reached rules first ps) (plain_events (items c ps (told e)))) f.after e.effects f.gives in
        plain_none (reached rules first ps) f.after (items c ps (told e)) one.y (no_items c ps e.stamp e.event g) one.plainly

    pub last_rises : (m s : ℕ) (e : Event) (past : List Told) → last_of m past ≤ s → last_of m past ≤ last_of m (record { stamp = s; event = e } ∷ past)
    last_rises m s e past l = by_test (node_of e == m)
        (λ g. rw g (by_test (stays e) (λ q. rw (last_stays s e (last_of m past) q) (omega arith)) (λ q. rw (last_goes s e (last_of m past) q) l)))
        (λ g. rw g (omega arith))

    timed_more : (past : List Entry) (e : Entry) → LegalPast rules first (e ∷ past) → (m : ℕ) (node : S × List Sent) →
        ((a : S × List Sent) → node_at (reached rules first (tolds past)) m ≡ Some a → rules.time a.0 ≤ cut (rounds (tolds past)) (last_of m (tolds past))) →
        node_at (reached rules first (tolds (e ∷ past))) m ≡ Some node → rules.time node.0 ≤ cut (rounds (tolds (e ∷ past))) (last_of m (tolds (e ∷ past)))
    timed_more past e h m node before q = by_test (stays e.event)
        (λ g. let same : reached rules first (tolds (e ∷ past)) ≡ reached rules first ps = to ∙ sym (same_stays past e h.1 g) in
        later (rules.time node.0) (before node (rw same at q)))
        (λ g. let old = near.grown m node (rw to at q) in since g old.0 (before old.0 old.1) old.2.since)
      where
        ps : List Told
        ps = tolds past

        to : reached rules first (tolds (e ∷ past)) ≡ h.1.after
        to = reached_more rules first past e h

        near : Near (node_of e.event) (cut (rounds ps) e.stamp) (reached rules first ps) h.1.after
        near = near_entry past e h.0 h.1

        now : InTime e.stamp (told e ∷ ps)
        now = in_time_more rules first ps (told e) h.1.meets (in_time rules first past h.0)

        c' : ℕ → ℕ
        c' = cut (rounds (told e ∷ ps))

        mono : (t u : ℕ) → t ≤ u → c' t ≤ c' u
        mono t u l = cut_mono (rounds (told e ∷ ps)) e.stamp t u (rounds_ordered e.stamp (told e ∷ ps) now) l

        later : (x : ℕ) → x ≤ cut (rounds ps) (last_of m ps) → x ≤ c' (last_of m (told e ∷ ps))
        later x k =
            let b = last_below m e.stamp ps now.2 in
            omega (arith, k, cut-later ps (told e) (last_of m ps) b, mono (last_of m ps) (last_of m (told e ∷ ps)) (last_rises m e.stamp e.event ps b))

        since : stays e.event ≡ false → (a : S × List Sent) → rules.time a.0 ≤ cut (rounds ps) (last_of m ps) → (node.0 ≡ a.0) ⊎ ((node_of e.event ≡ m) × (rules.time node.0 ≤ cut (rounds ps) e.stamp)) → rules.time node.0 ≤ c' (last_of m (told e ∷ ps))
        since g a k (inl same) = later (rules.time node.0) (rw same k)
        since g a k (inr by) =
            let at : (node_of e.event == m) ≡ true = eq-eqb (node_of e.event) m by.0 in
            let l : last_of m (told e ∷ ps) ≡ e.stamp = rw at (last_goes e.stamp e.event (last_of m ps) g) in
            rw (l, cut-later ps (told e) e.stamp (omega arith)) by.1

    pub timed : (past : List Entry) → Fresh rules first → LegalPast rules first past → (m : ℕ) (node : S × List Sent) → node_at (reached rules first (tolds past)) m ≡ Some node → rules.time node.0 ≤ cut (rounds (tolds past)) (last_of m (tolds past))
    timed [] new h m node q = omega (arith, fresh_at first m node new q)
    timed (e ∷ past) new h m node q = timed_more past e h m node (λ a at. timed past new h.0 m a at) q

    -- ---- packets that were sent

    pub near_packet : (n' t : ℕ) (w v : World S) (n m j : ℕ) → Near n' t w v → IsSome (packet_of w n m j) → IsSome (packet_of v n m j)
    near_packet n' t w v n m zero h k = cc
    near_packet n' t w v n m (suc j) h k = from (node_at w m) refl k
      where
        some_of : (n : ℕ) (o : Option Sent) → IsSome (to_node n o) → (s : Sent) × (o ≡ Some s)
        some_of n None k = cc
        some_of n (Some s) k = (s, refl)

        from : (o : Option (S × List Sent)) → node_at w m ≡ o → IsSome (and_then o (λ from. to_node n (slice_get from.1 j))) → IsSome (and_then (node_at v m) (λ from. to_node n (slice_get from.1 j)))
        from None e k = cc
        from (Some old) e k =
            let new = h.there m old e in
            let s = some_of n (slice_get old.1 j) k in
            let g : slice_get new.0.1 j ≡ Some s.0 = rw new.2.sent (get-front old.1 new.2.more j s.0 s.1) in
            let k' : IsSome (to_node n (Some s.0)) = rw s.1 at k in
            rw (new.1, g) k'

    abbrev pub AllSent : World S → ℕ → List (ℕ × ℕ) → Type 0
    AllSent w n [] = Unit {0}
    AllSent w n (p ∷ ps) = IsSome (packet_of w n p.0 p.1) × AllSent w n ps

    pub near_sent : (n' t : ℕ) (w v : World S) (n : ℕ) (ps : List (ℕ × ℕ)) → Near n' t w v → AllSent w n ps → AllSent v n ps
    near_sent n' t w v n [] h k = tt
    near_sent n' t w v n (p ∷ ps) h k = (near_packet n' t w v n p.0 p.1 h k.0, near_sent n' t w v n ps h k.1)

    sent_more : (w : World S) (n : ℕ) (ps : List (ℕ × ℕ)) (p : ℕ × ℕ) → AllSent w n ps → IsSome (packet_of w n p.0 p.1) → AllSent w n (ps ++ p ∷ [])
    sent_more w n [] p h k = (k, tt)
    sent_more w n (q ∷ ps) p h k = (h.0, sent_more w n ps p h.1 k)

    held_more : (w : World S) (p : Option (ℕ × ℕ)) (n s : ℕ) (e : Event) (past : List Told) → AllPass (tests rules w p past s e) → AllSent w n (held n past) → AllSent w n (held n (record { stamp = s; event = e } ∷ past))
    held_more w p n s (Packet m f j) past h k = by_test (m == n)
        (λ g. rw g (by_test (halted n past) (λ q. rw q (sent_more w n (held n past) (f, j) k (rw (← eqb-true m n g) h.0))) (λ q. rw q k)))
        (λ g. rw g k)
    held_more w p n s (Resume m) past h k = by_test (m == n) (λ g. rw g tt) (λ g. rw g k)
    held_more w p n s e past h k = by_test (node_of e == n) (λ g. rw g k) (λ g. rw g k)

    pub held_sent : (n : ℕ) (past : List Entry) → LegalPast rules first past → AllSent (reached rules first (tolds past)) n (held n (tolds past))
    held_sent n [] h = tt
    held_sent n (e ∷ past) h =
        let ps = tolds past in
        let w = reached rules first ps in
        let to : reached rules first (tolds (e ∷ past)) ≡ h.1.after = reached_more rules first past e h in
        let near = near_entry past e h.0 h.1 in
        rw to (near_sent (node_of e.event) (cut (rounds ps) e.stamp) w h.1.after n (held n (told e ∷ ps)) near
        (held_more w (passed rules first (node_of e.event) ps) n e.stamp e.event ps (meets_all rules first ps (told e) h.1.meets).1.1.1 (held_sent n past h.0)))

    -- ---- what meets its conditions is possible

    pub most_some : (s : S) (t : ℕ) (marks : ℕ → Bool) (k : ℕ) → IsSome (rules.turn s 1 t) → 1 ≤ k → 1 ≤ most rules s t marks k
    most_some s t marks zero h l = absurd (omega (arith, l))
    most_some s t marks (suc zero) h l =
        let z : suc zero - 1 ≡ 0 = omega arith in
        let u : unmarked rules s t marks (suc zero - 1) ≡ true = ap (λ (j : ℕ). unmarked rules s t marks j) z in
        let al : allowed rules s t marks (suc zero) ≡ true = both (is_some (rules.turn s 1 t)) (unmarked rules s t marks (suc zero - 1)) h u in
        rw al (omega arith)
      where
        both : (a b : Bool) → a ≡ true → b ≡ true → (a && b) ≡ true
        both a b h k = rw (h, k) refl
    most_some s t marks (suc (suc k)) h l = by_test (allowed rules s t marks (suc (suc k))) (λ g. rw g (omega arith)) (λ g. rw g (most_some s t marks (suc k) h (omega arith)))

    cons_some : (w : World S) (e : PlainEvent) (es : List PlainEvent) (a : World S × Effects) → step rules w e ≡ Some a → IsSome (plain rules a.0 es) → IsSome (plain rules w (e ∷ es))
    cons_some w e es a h k = rw h (behind_some (plain rules a.0 es) k)
      where
        behind_some : (o : Option (World S × Effects)) → IsSome o → IsSome (and_then o (behind a.1))
        behind_some None k = cc
        behind_some (Some b) k = refl

    pub resume_possible : (w : World S) (n t : ℕ) (ps : List (ℕ × ℕ)) (node : S × List Sent) → node_at w n ≡ Some node → rules.time node.0 ≤ t → AllSent w n ps → IsSome (plain rules w (plain_events (resumed n t ps)))
    resume_possible w n t [] node at l h = refl
    resume_possible w n t (p ∷ ps) node at l h = bytes (λ v new at l h. resume_possible v n t ps new at l h) (packet_of w n p.0 p.1) refl h.0
      where
        delivered : ((v : World S) (new : S × List Sent) → node_at v n ≡ Some new → rules.time new.0 ≤ t → AllSent v n ps → IsSome (plain rules v (plain_events (resumed n t ps)))) →
            (b : List ℕ) (o : Option (S × Effects)) → rules.deliver node.0 b t ≡ o → IsSome o → packet_of w n p.0 p.1 ≡ Some b → IsSome (plain rules w (plain_events (resumed n t (p ∷ ps))))
        delivered again b None e k q = cc
        delivered again b (Some a) e k q =
            let v = slice_set w (n - 1) (a.0, node.1 ++ a.1.sent) in
            let one : step rules w (plainly.Deliver n p.0 p.1 t) ≡ Some (v, a.1) = rw (at, q, e) refl in
            let near = near_step n t w (plainly.Deliver n p.0 p.1 t) (v, a.1) (refl, omega arith) one in
            let new = near.there n node at in
            cons_some w (plainly.Deliver n p.0 p.1 t) (plain_events (resumed n t ps)) (v, a.1) one (again v new.0 new.1 (by_time new.0 new.2.since) (near_sent n t w v n ps near h.1))
          where
            by_time : (x : S × List Sent) → (x.0 ≡ node.0) ⊎ ((n ≡ n) × (rules.time x.0 ≤ t)) → rules.time x.0 ≤ t
            by_time x (inl same) = rw same l
            by_time x (inr k) = k.1

        bytes : ((v : World S) (new : S × List Sent) → node_at v n ≡ Some new → rules.time new.0 ≤ t → AllSent v n ps → IsSome (plain rules v (plain_events (resumed n t ps)))) →
            (o : Option (List ℕ)) → packet_of w n p.0 p.1 ≡ o → IsSome o → IsSome (plain rules w (plain_events (resumed n t (p ∷ ps))))
        bytes again None e k = cc
        bytes again (Some b) e k = delivered again b (rules.deliver node.0 b t) refl (lawful.delivers node.0 b t l) e
