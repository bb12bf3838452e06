-- The list without the debugger is legal again.
use Rattle.std.proofs.Common.{◌≡◌, ℕ, zero, suc, ◌-◌, ◌≤◌, Bool, true, false, not, ◌&&◌, List, [], ◌∷◌, ◌++◌, reverse, if◌then◌else◌, ◌==◌, nat_le, Option, Some, None, is_some, IsSome, slice_get, refl, sym, ◌∙◌, ap, arith, append_assoc}
use Rattle.std.proofs.lemmas.Bool.{le-leb, eqb-true, eq-eqb}
use Rattle.std.proofs.lemmas.List.{reverse-append}
use Rattle.world_types.specs.declared.event.Event.{Event}
use Rattle.world_types.specs.declared.event.Event.TheVariants.{Turn, Packet, Tick, Resume, Ask, Set, Clear}
use Rattle.world_types.specs.declared.event.Told.{Told}
use Rattle.world_types.specs.declared.effects.Sent.{Sent}
use Rattle.world_types.specs.declared.effects.Entry.{Entry}
use Rattle.world_types.specs.declared.effects.Effects.{Effects}
use Rattle.world_types.specs.declared.event.PlainEvent.{PlainEvent}
use Rattle.world_types.specs.declared.event.PlainEvent.TheVariants as plainly
use Rattle.world_rules.specs.Plain.{Rules, Lawful, World, and_then, node_at, packet_of, to_node, moved, step, behind, plain, join, nothing}
use Rattle.world_rules.specs.Said.{node_of, halted, last_by, last_of, last_stamp, Round, rounds, cut, read_by, goal, goal_by, marked, marked_by, has_quit, quits, held, resumed, erased, items, items_by, plain_events, plainly_at}
use Rattle.world_rules.specs.Legal.{test, tests, all_tests, first_failing, is_node, reached, passed, blocked, unmarked, most, settled, shown_by, enter, told, tolds, bare, Follows, LegalPast, Legal, IsPlainEvent, ArePlain, InTime, ErasesLegally}
use Rattle.world_rules.proofs.Erasing.{if-same, halted-plain, rounds-plain, cut-plain, erased-plain, erased-more, cut-later, plain_reverse, plain_erased, reverse-twice}
use Rattle.world_types.proofs.Cuts.{cut_mono}
use Rattle.world_rules.proofs.Cuts.{rounds_ordered}
use Rattle.world_rules.proofs.Following.{by_test, AllPass, none_fails, and_left, and_right, le_true, meets_all, in_time, in_time_more, reached_more, showed, tolds-reverse}

-- ---- what a list without the debugger says

quits-plain : (e : Event) → IsPlainEvent e → quits e ≡ false
quits-plain (Turn n k r) h = refl
quits-plain (Packet n m j) h = refl
quits-plain (Tick n) h = refl
quits-plain e h = elim h [ ]

pub quit-plain : (past : List Told) → ArePlain past → has_quit past ≡ false
quit-plain [] h = refl
quit-plain (e ∷ past) h = rw (quits-plain e.event h.0) (quit-plain past h.1)

goal_by-plain : (rs : List Round) (s : ℕ) (e : Event) (before : Option ℕ) → IsPlainEvent e → goal_by rs s e before ≡ before
goal_by-plain rs s (Turn n k r) before h = refl
goal_by-plain rs s (Packet n m j) before h = refl
goal_by-plain rs s (Tick n) before h = refl
goal_by-plain rs s e before h = elim h [ ]

pub goal-plain : (past : List Told) → ArePlain past → goal past ≡ None
goal-plain [] h = refl
goal-plain (e ∷ past) h = goal_by-plain (rounds past) e.stamp e.event (goal past) h.0 ∙ goal-plain past h.1

marked_by-plain : (line : ℕ) (e : Event) (before : Bool) → IsPlainEvent e → marked_by line e before ≡ before
marked_by-plain line (Turn n k r) before h = refl
marked_by-plain line (Packet n m j) before h = refl
marked_by-plain line (Tick n) before h = refl
marked_by-plain line e before h = elim h [ ]

pub marked-plain : (n : ℕ) (past : List Told) (line : ℕ) → ArePlain past → marked n past line ≡ false
marked-plain n [] line h = refl
marked-plain n (e ∷ past) line h = if-same (node_of e.event == n) (marked_by line e.event (marked n past line)) (marked n past line) (marked_by-plain line e.event (marked n past line) h.0) ∙ marked-plain n past line h.1

pub unblocked : (here p : Option (ℕ × ℕ)) (marks : ℕ → Bool) → ((line : ℕ) → marks line ≡ false) → blocked here marks p ≡ false
unblocked None p marks h = refl
unblocked (Some place) p marks h = rw (h place.1) refl

pub unmarked-plain : {S : Type 0} (rules : Rules S) (s : S) (t : ℕ) (marks : ℕ → Bool) (k : ℕ) → ((line : ℕ) → marks line ≡ false) → unmarked rules s t marks k ≡ true
unmarked-plain rules s t marks zero h = refl
unmarked-plain rules s t marks (suc k) h = rw (none (rules.begins s (suc k) t)) (unmarked-plain rules s t marks k h)
  where
    none : (o : Option ℕ) → test o marks ≡ false
    none None = refl
    none (Some line) = h line

pub most-plain : {S : Type 0} (rules : Rules S) (s : S) (t : ℕ) (marks : ℕ → Bool) (k : ℕ) → ((line : ℕ) → marks line ≡ false) → IsSome (rules.turn s k t) → 1 ≤ k → most rules s t marks k ≡ k
most-plain rules s t marks zero h some l = refl
most-plain rules s t marks (suc k) h some l = rw (some, unmarked-plain rules s t marks (suc k - 1) h) refl

-- ---- options

pub record Then {A B : Type 0} (o : Option A) (f : A → Option B) (b : B) : Type 0 where
  pub a : A
  pub is : o ≡ Some a
  pub gives : f a ≡ Some b

pub and_then_some : {A B : Type 0} (o : Option A) (f : A → Option B) (b : B) → and_then o f ≡ Some b → Then o f b
and_then_some None f b h = cc
and_then_some (Some a) f b h = record { a = a; is = refl; gives = h }

pub record Split {S : Type 0} (rules : Rules S) (w : World S) (es fs : List PlainEvent) (last : World S) : Type 0 where
  pub mid : World S
  pub x : Effects
  pub front : plain rules w es ≡ Some (mid, x)
  pub y : Effects
  pub back : plain rules mid fs ≡ Some (last, y)

some_fst : {S : Type 0} (a b : World S × Effects) → Some a ≡ Some b → a.0 ≡ b.0
some_fst {S} a b h = ap fst_of h
  where
    fst_of : Option (World S × Effects) → World S
    fst_of None = a.0
    fst_of (Some c) = c.0

pub plain-cons : {S : Type 0} (rules : Rules S) (w : World S) (e : PlainEvent) (es : List PlainEvent) (a b : World S × Effects) → step rules w e ≡ Some a → plain rules a.0 es ≡ Some b → plain rules w (e ∷ es) ≡ Some (b.0, join a.1 b.1)
plain-cons rules w e es a b h k = rw (h, k) refl

pub plain_split : {S : Type 0} (rules : Rules S) (w : World S) (es fs : List PlainEvent) (last : World S) (x : Effects) → plain rules w (es ++ fs) ≡ Some (last, x) → Split rules w es fs last
plain_split rules w [] fs last x h = record { mid = w; x = nothing; front = refl; y = x; back = h }
plain_split {S} rules w (e ∷ es) fs last x h =
    let one = and_then_some (step rules w e) (λ a. and_then (plain rules a.0 (es ++ fs)) (behind a.1)) (last, x) h in
    let two = and_then_some (plain rules one.a.0 (es ++ fs)) (behind one.a.1) (last, x) one.gives in
    let there : two.a.0 ≡ last = some_fst (two.a.0, join one.a.1 two.a.1) (last, x) two.gives in
    let rest = plain_split rules one.a.0 es fs last two.a.1 (two.is ∙ ap (λ (v : World S). Some (v, two.a.1)) there) in
    record {
      mid = rest.mid;
      x = join one.a.1 rest.x;
      front = plain-cons rules w e es one.a (rest.mid, rest.x) one.is rest.front;
      y = rest.y;
      back = rest.back;
    }

-- ---- what a possible event tells of the node

pub record Does {S : Type 0} (w : World S) (n : ℕ) (f : S × List Sent → Option (S × Effects)) : Type 0 where
  pub node : S × List Sent
  pub at : node_at w n ≡ Some node
  pub does : IsSome (f node)

moved_some : {S : Type 0} (w : World S) (n : ℕ) (sent : List Sent) (o : Option (S × Effects)) (b : World S × Effects) → moved w n sent o ≡ Some b → IsSome o
moved_some w n sent None b h = cc
moved_some w n sent (Some a) b h = refl

does : {S : Type 0} (w : World S) (n : ℕ) (f : S × List Sent → Option (S × Effects)) (b : World S × Effects) → and_then (node_at w n) (λ node. moved w n node.1 (f node)) ≡ Some b → Does w n f
does w n f b h =
    let one = and_then_some (node_at w n) (λ node. moved w n node.1 (f node)) b h in
    record { node = one.a; at = one.is; does = moved_some w n one.a.1 (f one.a) b one.gives }

sender : {S : Type 0} (w : World S) (n m j : ℕ) (bytes : List ℕ) → packet_of w n m j ≡ Some bytes → is_node w m ≡ true
sender w n m zero bytes h = cc
sender {S} w n m (suc j) bytes h = named (node_at w m) h
  where
    named : (o : Option (S × List Sent)) → and_then o (λ from. to_node n (slice_get from.1 j)) ≡ Some bytes → is_some o ≡ true
    named None g = cc
    named (Some a) g = refl

-- ---- one item more

-- a Turn's reading is at or after the node's last stamp, and by its own
abbrev pub Timely : List Told → ℕ → Event → Type 0
Timely past s (Turn n k r) = (last_of n past ≤ r) × (r ≤ s)
Timely past s e = Unit {0}

abbrev pub stays : Event → Bool
stays (Ask n q) = true
stays (Set n l) = true
stays (Clear n l) = true
stays e = false

pub no_items : (c : ℕ → ℕ) (past : List Told) (s : ℕ) (e : Event) → stays e ≡ true → items_by c past s e ≡ []
no_items c past s (Ask n q) h = refl
no_items c past s (Set n l) h = refl
no_items c past s (Clear n l) h = refl
no_items c past s e h = cc

pub last_stays : (s : ℕ) (e : Event) (b : ℕ) → stays e ≡ true → last_by s e b ≡ b
last_stays s (Ask n q) b h = refl
last_stays s (Set n l) b h = refl
last_stays s (Clear n l) b h = refl
last_stays s e b h = cc

pub last_goes : (s : ℕ) (e : Event) (b : ℕ) → stays e ≡ false → last_by s e b ≡ s
last_goes s (Ask n q) b h = cc
last_goes s (Set n l) b h = cc
last_goes s (Clear n l) b h = cc
last_goes s e b h = refl

pub last_below : (n s : ℕ) (past : List Told) → InTime s past → last_of n past ≤ s
last_below n s [] h = omega arith
last_below n s (e ∷ past) h =
    let l : last_of n past ≤ e.stamp = last_below n e.stamp past h.2 in
    by_test (node_of e.event == n)
    (λ q. rw q (by_test (stays e.event) (λ g. rw (last_stays e.stamp e.event (last_of n past) g) (omega (arith, h.0))) (λ g. rw (last_goes e.stamp e.event (last_of n past) g) h.0)))
    (λ q. rw q (omega (arith, h.0)))

module _ {S : Type 0} (rules : Rules S) (first : World S) (lawful : Lawful rules) where
  -- a possible item that comes in time meets its conditions
  pub meets : (past : List Told) (w : World S) (s : ℕ) (e : Event) (b : World S × Effects) → ArePlain past → reached rules first past ≡ w → IsPlainEvent e → last_stamp past ≤ s → Timely past s e → plain rules w (plainly_at s e) ≡ Some b →
      first_failing rules first past (record { stamp = s; event = e }) ≡ None
  meets past w s (Turn n k r) b h q g l t p =
      let one = and_then_some (step rules w (plainly.Turn n k r)) (λ a. and_then (plain rules a.0 []) (behind a.1)) b p in
      let d = does w n (λ node. rules.turn node.0 k r) one.a one.is in
      let laws = lawful.turn_is d.node.0 k r d.does in
      let ts = all_tests rules (reached rules first past) (passed rules first n past) past (record { stamp = s; event = Turn n k r }) in
      none_fails ts (rw (q, halted-plain n past h, rounds-plain past h, goal-plain past h, quit-plain past h, d.at, le-leb (last_stamp past) s l, le-leb (last_of n past) r t.0, le-leb r s t.1, laws.1, unblocked (rules.stands d.node.0) (passed rules first n past) (marked n past) (λ line. marked-plain n past line h)) (refl, (refl, (refl, (refl, (refl, (refl, (refl, (due_false d.node r laws.2, (refl, (refl, tt)))))))))))
    where
      due_false : (node : S × List Sent) (t : ℕ) → rules.due node.0 t ≡ false → not (rules.due node.0 (cut [] t)) ≡ true
      due_false node t e = let z : cut [] t ≡ t = omega arith in rw (z, e) refl
  meets past w s (Packet n m j) b h q g l t p =
      let one = and_then_some (step rules w (plainly.Deliver n m j s)) (λ a. and_then (plain rules a.0 []) (behind a.1)) b p in
      let two = and_then_some (node_at w n) (λ node. and_then (packet_of w n m j) (λ bytes. moved w n node.1 (rules.deliver node.0 bytes s))) one.a one.is in
      let three = and_then_some (packet_of w n m j) (λ bytes. moved w n two.a.1 (rules.deliver two.a.0 bytes s)) one.a two.gives in
      let from = sender w n m j three.a three.is in
      let ts = all_tests rules (reached rules first past) (passed rules first n past) past (record { stamp = s; event = Packet n m j }) in
      none_fails ts (rw (q, halted-plain n past h, rounds-plain past h, goal-plain past h, quit-plain past h, two.is, from, le-leb (last_stamp past) s l) (refl, (refl, (refl, (some_packet (packet_of w n m j) three.a three.is, (refl, (refl, tt)))))))
    where
      some_packet : (o : Option (List ℕ)) (bytes : List ℕ) → o ≡ Some bytes → is_some o ≡ true
      some_packet o bytes e = rw e refl
  meets past w s (Tick n) b h q g l t p =
      let one = and_then_some (step rules w (plainly.Tick n s)) (λ a. and_then (plain rules a.0 []) (behind a.1)) b p in
      let d = does w n (λ node. rules.tick node.0 s) one.a one.is in
      let laws = lawful.tick_is d.node.0 s d.does in
      let ts = all_tests rules (reached rules first past) (passed rules first n past) past (record { stamp = s; event = Tick n }) in
      none_fails ts (rw (q, halted-plain n past h, rounds-plain past h, goal-plain past h, quit-plain past h, d.at, le-leb (last_stamp past) s l) (refl, (refl, (refl, (refl, (refl, (due_true d.node s laws.0, (refl, tt))))))))
    where
      due_true : (node : S × List Sent) (t : ℕ) → rules.due node.0 t ≡ true → rules.due node.0 (cut [] t) ≡ true
      due_true node t e = let z : cut [] t ≡ t = omega arith in rw z e
  meets past w s e b h q g l t p = elim g [ ]

  -- a possible turn has the steps that it names
  pub whole : (past : List Told) (w : World S) (s : ℕ) (e : Event) (b : World S × Effects) → ArePlain past → reached rules first past ≡ w → IsPlainEvent e → plain rules w (plainly_at s e) ≡ Some b →
      settled rules first past (record { stamp = s; event = e }) ≡ record { stamp = s; event = e }
  whole past w s (Turn n k r) b h q g p =
      let one = and_then_some (step rules w (plainly.Turn n k r)) (λ a. and_then (plain rules a.0 []) (behind a.1)) b p in
      let d = does w n (λ node. rules.turn node.0 k r) one.a one.is in
      let laws = lawful.turn_is d.node.0 k r d.does in
      let m : most rules d.node.0 r (marked n past) k ≡ k = most-plain rules d.node.0 r (marked n past) k (λ line. marked-plain n past line h) d.does laws.0 in
      rw (q, d.at, cut-plain past r h, m) refl
  whole past w s (Packet n m j) b h q g p = refl
  whole past w s (Tick n) b h q g p = refl
  whole past w s e b h q g p = elim g [ ]

  pub gives : (past : List Told) (w after : World S) (s : ℕ) (e : Event) (x : Effects) → ArePlain past → reached rules first past ≡ w → IsPlainEvent e → plain rules w (plainly_at s e) ≡ Some (after, x) →
      enter rules (reached rules first past) past (record { stamp = s; event = e }) ≡ Some (after, bare x)
  gives past w after s (Turn n k r) x h q g p = rw (q, cut-plain past r h, p) refl
  gives past w after s (Packet n m j) x h q g p = rw (q, cut-plain past s h, halted-plain n past h, p) refl
  gives past w after s (Tick n) x h q g p = rw (q, cut-plain past s h, p) refl
  gives past w after s e x h q g p = elim g [ ]

  -- ---- the items of an entry, one by one

  -- items of one node at one stamp, each in time after those before it
  abbrev pub Ready : ℕ → ℕ → List Told → List Told → Type 0
  Ready n s past [] = Unit {0}
  Ready n s past (i ∷ is) = (node_of i.event ≡ n) × (i.stamp ≡ s) × IsPlainEvent i.event × Timely past i.stamp i.event × Ready n s (i ∷ past) is

  pub record Added (before : List Told) (after : World S) (n s : ℕ) (is : List Told) : Type 0 where
    pub entries : List Entry
    pub legal : LegalPast rules first entries
    pub is_told : tolds entries ≡ reverse is ++ before
    pub reaches : reached rules first (tolds entries) ≡ after
    pub lasts : (m : ℕ) → last_of m (tolds entries) ≤ (if n == m then s else last_of m before)
    pub last : last_stamp (tolds entries) ≤ s

  one_more : (past : List Entry) (w after : World S) (i : Told) (x : Effects) → LegalPast rules first past → ArePlain (tolds past) → reached rules first (tolds past) ≡ w → IsPlainEvent i.event → last_stamp (tolds past) ≤ i.stamp → Timely (tolds past) i.stamp i.event → plain rules w (plainly_at i.stamp i.event) ≡ Some (after, x) →
      Follows rules first (tolds past) (record { stamp = i.stamp; event = i.event; effects = bare x })
  one_more past w after i x legal h q g l t p = record {
    meets = meets (tolds past) w i.stamp i.event (after, x) h q g l t p;
    whole = whole (tolds past) w i.stamp i.event (after, x) h q g p;
    after = after;
    gives = gives (tolds past) w after i.stamp i.event x h q g p;
  }

  reaches_more : (past : List Entry) (e : Entry) (legal : LegalPast rules first past) (f : Follows rules first (tolds past) e) → reached rules first (tolds (e ∷ past)) ≡ f.after
  reaches_more past e legal f = reached_more rules first past e (legal, f)

  lasts_more : (n m s : ℕ) (i : Told) (past : List Told) → node_of i.event ≡ n → i.stamp ≡ s → IsPlainEvent i.event → last_of m (i ∷ past) ≤ (if n == m then s else last_of m past)
  lasts_more n m s i past e d g = by_test (node_of i.event == m)
      (λ q. rw (← e, q) (at_it i.event g))
      (λ q. rw (← e, q) (omega arith))
    where
      at_it : (x : Event) → IsPlainEvent x → last_by i.stamp x (last_of m past) ≤ s
      at_it (Turn n k r) h = omega (arith, d)
      at_it (Packet n from j) h = omega (arith, d)
      at_it (Tick n) h = omega (arith, d)
      at_it x h = elim h [ ]

  if_below : (b : Bool) (x y z : ℕ) → y ≤ (if b then x else z) → (if b then x else y) ≤ (if b then x else z)
  if_below true x y z h = omega arith
  if_below false x y z h = h

  more_told : (i : Told) (is ps : List Told) → reverse is ++ (i ∷ ps) ≡ reverse (i ∷ is) ++ ps
  more_told i is ps = rw (reverse-append (i ∷ []) is) (sym (append_assoc (reverse is) (i ∷ []) ps))

  add_all : (past : List Entry) (w after : World S) (n s : ℕ) (is : List Told) (x : Effects) → LegalPast rules first past → ArePlain (tolds past) → reached rules first (tolds past) ≡ w → Ready n s (tolds past) is → last_stamp (tolds past) ≤ s → last_of n (tolds past) ≤ s → plain rules w (plain_events is) ≡ Some (after, x) →
      Added (tolds past) after n s is
  unfolding one_more
  add_all past w after n s [] x legal h q ready l ln p = record {
    entries = past;
    legal = legal;
    is_told = refl;
    reaches = q ∙ some_first w after x p;
    lasts = λ m. by_test (n == m) (λ e. rw e (rw (← eqb-true n m e) ln)) (λ e. rw e (omega arith));
    last = l;
  }
    where
      some_first : (a b : World S) (x : Effects) → ◌≡◌ {A = Option (World S × Effects)} (Some (a, nothing)) (Some (b, x)) → a ≡ b
      some_first a b x h = some_fst (a, nothing) (b, x) h
  add_all past w after n s (i ∷ is) x legal h q ready l ln p =
      let split = plain_split rules w (plainly_at i.stamp i.event) (plain_events is) after x p in
      let l' : last_stamp (tolds past) ≤ i.stamp = rw ready.1 l in
      let f = one_more past w split.mid i split.x legal h q ready.2 l' ready.3 split.front in
      let e : Entry = record { stamp = i.stamp; event = i.event; effects = bare split.x } in
      let lasts : (m : ℕ) → last_of m (i ∷ tolds past) ≤ (if n == m then s else last_of m (tolds past)) = λ m. lasts_more n m s i (tolds past) ready.0 ready.1 ready.2 in
      let rest = add_all (e ∷ past) split.mid after n s is split.y (legal, f) (ready.2, h) (reaches_more past e legal f) ready.4 (omega (arith, ready.1)) (node_now (lasts n)) split.back in
      record {
        entries = rest.entries;
        legal = rest.legal;
        is_told = rest.is_told ∙ more_told i is (tolds past);
        reaches = rest.reaches;
        lasts = λ m. both m (last_of m (tolds rest.entries)) (last_of m (i ∷ tolds past)) (rest.lasts m) (lasts m);
        last = rest.last;
      }
    where
      node_now : last_of n (i ∷ tolds past) ≤ (if n == n then s else last_of n (tolds past)) → last_of n (i ∷ tolds past) ≤ s
      node_now k = let r : (n == n) ≡ true = eq-eqb n n refl in rw r at k

      both : (m x y : ℕ) → x ≤ (if n == m then s else y) → y ≤ (if n == m then s else last_of m (tolds past)) → x ≤ (if n == m then s else last_of m (tolds past))
      both m x y h k = by_test (n == m) (λ e. rw e (rw e at h)) (λ e. rw e (omega (arith, rw e at h, rw e at k)))

  -- ---- the whole list

  pub record Erases (past : List Told) : Type 0 where
    pub entries : List Entry
    pub is : tolds entries ≡ reverse (erased (cut (rounds past)) past)
    pub legal : LegalPast rules first entries
    pub lasts : (n : ℕ) → last_of n (tolds entries) ≤ cut (rounds past) (last_of n past)
    pub last : last_stamp (tolds entries) ≤ cut (rounds past) (last_stamp past)

  plain_told : (past ps : List Told) → ps ≡ reverse (erased (cut (rounds past)) past) → ArePlain ps
  plain_told past ps e = rw e (plain_reverse (erased (cut (rounds past)) past) (plain_erased (cut (rounds past)) past))

  same_reached : (past ps : List Told) → ps ≡ reverse (erased (cut (rounds past)) past) → reached rules first ps ≡ reached rules first past
  same_reached past ps e =
      let h = plain_told past ps e in
      rw (erased-plain (cut (rounds ps)) ps (λ t. cut-plain ps t h) h, e, reverse-twice (erased (cut (rounds past)) past)) refl

  ready_held : (n s : ℕ) (ps : List (ℕ × ℕ)) (past : List Told) → Ready n s past (resumed n s ps)
  ready_held n s [] past = tt
  ready_held n s (p ∷ ps) past = (refl, refl, tt, tt, ready_held n s ps (record { stamp = s; event = Packet n p.0 p.1 } ∷ past))

  ready_items : (c : ℕ → ℕ) (past before : List Told) (s : ℕ) (e : Event) → ((n : ℕ) → last_of n before ≤ c (last_of n past)) → ((t u : ℕ) → t ≤ u → c t ≤ c u) → Timely past s e → Ready (node_of e) (c s) before (items_by c past s e)
  ready_items c past before s (Turn n k r) l m t = (refl, refl, tt, (omega (arith, l n, m (last_of n past) r t.0), m r s t.1), tt)
  ready_items c past before s (Packet n from j) l m t = by_test (halted n past) (λ e. rw e tt) (λ e. rw e (refl, refl, tt, tt, tt))
  ready_items c past before s (Tick n) l m t = (refl, refl, tt, tt, tt)
  ready_items c past before s (Resume n) l m t = ready_held n (c s) (held n past) before
  ready_items c past before s e l m t = tt

  pub timely : (w : World S) (p : Option (ℕ × ℕ)) (past : List Told) (s : ℕ) (e : Event) → AllPass (tests rules w p past s e) → Timely past s e
  timely w p past s (Turn n k r) h = (
    le_true (last_of n past) r (and_left (nat_le (last_of n past) r) (nat_le r s && read_by (rounds past) r) h.1.1.0),
    le_true r s (and_left (nat_le r s) (read_by (rounds past) r) (and_right (nat_le (last_of n past) r) (nat_le r s && read_by (rounds past) r) h.1.1.0)),
  )
  timely w p past s (Packet n m j) h = tt
  timely w p past s (Tick n) h = tt
  timely w p past s e h = tt

  erases : (past : List Entry) → LegalPast rules first past → Erases (tolds past)
  erases [] h = record { entries = []; is = refl; legal = tt; lasts = λ n. omega arith; last = omega arith }
  erases (e ∷ past) h =
      let before = erases past h.0 in
      let f = h.1 in
      let ps = tolds past in
      let c = cut (rounds ps) in
      let n = node_of e.event in
      let its = items c ps (told e) in
      let time = in_time rules first past h.0 in
      let now = in_time_more rules first ps (told e) f.meets time in
      let passed_all = meets_all rules first ps (told e) f.meets in
      let mono : (t u : ℕ) → t ≤ u → c t ≤ c u = λ t u l. cut_mono (rounds ps) (last_stamp ps) t u (rounds_ordered (last_stamp ps) ps time) l in
      let by : last_stamp ps ≤ e.stamp = le_true (last_stamp ps) e.stamp passed_all.0 in
      let one = showed (shown_by rules (reached rules first ps) ps e.stamp e.event) (plain rules (reached rules first ps) (plain_events its)) f.after e.effects f.gives in
      let ready = ready_items c ps (tolds before.entries) e.stamp e.event before.lasts mono (timely (reached rules first ps) (passed rules first n ps) ps e.stamp e.event passed_all.1.1.1) in
      let last_now : last_stamp (tolds before.entries) ≤ c e.stamp = omega (arith, before.last, mono (last_stamp ps) e.stamp by) in
      let node_now : last_of n (tolds before.entries) ≤ c e.stamp = omega (arith, before.lasts n, mono (last_of n ps) e.stamp (last_below n e.stamp ps now.2)) in
      let added = add_all before.entries (reached rules first ps) f.after n (c e.stamp) its one.y before.legal (plain_told ps (tolds before.entries) before.is) (same_reached ps (tolds before.entries) before.is) ready last_now node_now one.plainly in
      record {
        entries = added.entries;
        is = told_more ps its (tolds before.entries) (tolds added.entries) added.is_told before.is ∙ ap (λ (zs : List Told). reverse zs) (sym (erased-more ps (told e) now));
        legal = added.legal;
        lasts = λ m. by_test (stays e.event)
            (λ g. let kept : tolds added.entries ≡ tolds before.entries = added.is_told ∙ ap (λ (zs : List Told). reverse zs ++ tolds before.entries) (no_items c ps e.stamp e.event g) in
            let same : last_of m (told e ∷ ps) ≡ last_of m ps = if-same (n == m) (last_by e.stamp e.event (last_of m ps)) (last_of m ps) (last_stays e.stamp e.event (last_of m ps) g) in
            rw (kept, same, cut-later ps (told e) (last_of m ps) (last_below m e.stamp ps now.2)) (before.lasts m))
            (λ g. let a : last_of m (tolds added.entries) ≤ (if n == m then c e.stamp else last_of m (tolds before.entries)) = added.lasts m in by_test (n == m)
            (λ q. let to : last_of m (told e ∷ ps) ≡ e.stamp = rw q (last_goes e.stamp e.event (last_of m ps) g) in
            rw (to, cut-later ps (told e) e.stamp (omega arith)) (rw q at a))
            (λ q. let to : last_of m (told e ∷ ps) ≡ last_of m ps = rw q refl in
            let k : last_of m (tolds added.entries) ≤ last_of m (tolds before.entries) = rw q at a in
            rw (to, cut-later ps (told e) (last_of m ps) (last_below m e.stamp ps now.2)) (omega (arith, k, before.lasts m))));
        last = rw (cut-later ps (told e) e.stamp (omega arith)) added.last;
      }
    where
      told_more : (ps its before after : List Told) → after ≡ reverse its ++ before → before ≡ reverse (erased (cut (rounds ps)) ps) → after ≡ reverse (erased (cut (rounds ps)) ps ++ its)
      told_more ps its before after a b = rw (a, b, reverse-append (erased (cut (rounds ps)) ps) its) refl

  entries-twice : (xs : List Entry) → reverse (reverse xs) ≡ xs
  entries-twice [] = refl
  entries-twice (x ∷ xs) = rw (reverse-append (x ∷ []) xs, reverse-append (reverse xs) (x ∷ []), entries-twice xs) refl

  pub erases_legally : (list : List Entry) → Legal rules first list → ErasesLegally rules first list
  erases_legally list h =
      let r = erases (reverse list) h in
      record {
        entries = reverse r.entries;
        erased = tolds-reverse r.entries ∙ ap (λ (zs : List Told). reverse zs) r.is ∙ reverse-twice (erased (cut (rounds (tolds (reverse list)))) (tolds (reverse list))) ∙ ap (λ (zs : List Told). erased (cut (rounds zs)) zs) (tolds-reverse list);
        legal = rw (entries-twice r.entries) r.legal;
      }
