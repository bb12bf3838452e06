-- One event more of a world.
use Rattle.std.proofs.Common.{◌≡◌, ℕ, ◌≤◌, ◌<◌, ◌^◌, Bool, true, false, not, nat_le, List, [], ◌∷◌, ◌++◌, reverse, Option, Some, None, is_some, IsSome, length, append-nil, refl, sym, ◌∙◌, ap, subst, arith, le_of_eq}
use Rattle.std.proofs.lemmas.Bool.{eqb-true, leb-true}
use Rattle.std.proofs.lemmas.List.{reverse-append}
use Rattle.clu_tree.specs.Typed.{IsTyped}
use Rattle.clu_tree.specs.declared.program.NodeDecl.{NodeDecl}
use Rattle.clu_tree.specs.declared.program.Program.{Program}
use Rattle.world_types.specs.declared.event.Told.{Told}
use Rattle.world_types.specs.declared.effects.Sent.{Sent}
use Rattle.world_types.specs.declared.effects.Effects.{Effects}
use Rattle.world_types.specs.declared.effects.Entry.{Entry}
use Rattle.world_rules.specs.Plain.{World, join, node_at, nothing, plain}
use Rattle.world_rules.specs.Said.{last_stamp, marked, plain_events, plainly_at}
use Rattle.world_rules.specs.Conditions.{first_of}
use Rattle.world_rules.specs.Legal.{ArePlain, Follows, bare, first_failing, most, reached, settled}
use Rattle.world_rules.specs.Node.{NodeState, due, first_of_program, nodes_from, picks, rules_of, tick, turn}
use Rattle.world_rules.proofs.Erasing.{cut-plain, events-append, plain-append}
use Rattle.world_rules.proofs.Following.{and_left, and_right, passes}
use Rattle.world_rules.proofs.Lawfully.{lawful}
use Rattle.world_rules.proofs.Plainly.{gives, marked-plain, most-plain}
use Rattle.node_core.specs.Seen.{CanTick, CanTurn, NodeSeen, most_steps, no_marks}
use Rattle.debug_world.specs.Seen.{Adds, AreOwn, IsOwn, Keeps, Refuses, Seen, ticked, turned}
use Rattle.debug_world.proofs.Turning.{all_plain, failing_tick, failing_turn, some_fst, most-alike, own_plain, reached_is, short_tick, short_turn, some_of, tick-shown, turn-shown}

join-nothing : (x : Effects) → x.shown ≡ [] → bare (join x nothing) ≡ x
join-nothing x h = rw (append-nil x.sent, append-nil x.lines, append-nil x.marks) (ap (λ (t : List ℕ). record x { shown = t }) (sym h))

-- what a world knows of its parts while it isn't spent
pub record Knows (program : Program) (s : NodeState) (list : List Told) (last : ℕ) : Type 0 where
  pub own : AreOwn (reverse list)
  pub stamp : last_stamp (reverse list) ≡ last
  pub sent : List Sent
  pub effects : Effects
  pub ran : plain (rules_of program) (first_of_program program) (plain_events list) ≡ Some ((s, sent) ∷ [], effects)
  pub early : s.time ≤ last

pub known : (node : NodeSeen) (list : List Told) (last : ℕ) (spent : Bool) → Keeps node list last spent → spent ≡ false → Knows node.program node.state list last
known node list last spent h unspent =
    let k = h.leaves unspent in
    record { own = h.own; stamp = k.0; sent = k.1.sent; effects = k.1.effects; ran = k.1.ran; early = k.1.early }

pub unspent_node : (node : NodeSeen) (list : List Told) (last : ℕ) (spent : Bool) → Keeps node list last spent → spent ≡ false → node.spent ≡ false
unspent_node node list last spent h unspent = (h.leaves unspent).1.unspent

pub at : (program : Program) (s : NodeState) (list : List Told) (last : ℕ) (k : Knows program s list last) → reached (rules_of program) (first_of_program program) (reverse list) ≡ (s, k.sent) ∷ []
at program s list last k = reached_is program list ((s, k.sent) ∷ []) k.effects (all_plain (reverse list) k.own) k.ran

-- ---- one event more

abbrev none_fails : Program → List Told → Told → Type 0
none_fails program list e = first_failing (rules_of program) (first_of_program program) (reverse list) e ≡ None

-- the event is the node's own, and the machine without debugger does this at it
pub record Does (program : Program) (s s' : NodeState) (e : Told) (y : Effects) : Type 0 where
  pub own : IsOwn e.event
  pub ran : (sent : List Sent) → plain (rules_of program) ((s, sent) ∷ []) (plainly_at e.stamp e.event) ≡ Some ((s', sent ++ y.sent) ∷ [], join y nothing)
  pub unshown : y.shown ≡ []
  pub early : s'.time ≤ e.stamp

abbrev entry_of : Told → Effects → Entry
entry_of e y = record { stamp = e.stamp; event = e.event; effects = y }

-- the entry follows, and leaves the world that is known
pub record Follow (program : Program) (s' : NodeState) (list : List Told) (e : Told) (y : Effects) : Type 0 where
  pub follows : Follows (rules_of program) (first_of_program program) (reverse list) (entry_of e y)
  pub knows : Knows program s' (list ++ e ∷ []) e.stamp

pub follow : (program : Program) (s s' : NodeState) (list : List Told) (last : ℕ) (e : Told) (y : Effects) → Knows program s list last → Does program s s' e y → none_fails program list e →
    settled (rules_of program) (first_of_program program) (reverse list) e ≡ e → Follow program s' list e y
follow program s s' list last e y knows does meets whole = record {
  follows = record {
    meets = meets;
    whole = whole;
    after = (s', knows.sent ++ y.sent) ∷ [];
    gives = gives (rules_of program) (first_of_program program) (lawful program) (reverse list) ((s, knows.sent) ∷ []) ((s', knows.sent ++ y.sent) ∷ []) e.stamp e.event (join y nothing) (all_plain (reverse list) knows.own) (at program s list last knows)
        (own_plain e.event does.own) (does.ran knows.sent)
        ∙ ap (λ (x : Effects). Some ((s', knows.sent ++ y.sent) ∷ [], x)) (join-nothing y does.unshown);
  };
  knows = record {
    own = rw (reverse-append list (e ∷ [])) (does.own, knows.own);
    stamp = rw (reverse-append list (e ∷ [])) refl;
    sent = knows.sent ++ y.sent;
    effects = join knows.effects (join y nothing);
    ran = rw (events-append list (e ∷ [])) (plain-append (rules_of program) (first_of_program program) ((s, knows.sent) ∷ []) ((s', knows.sent ++ y.sent) ∷ []) knows.effects (join y nothing) (plain_events list) (plain_events (e ∷ [])) knows.ran
        (rw (append-nil (plainly_at e.stamp e.event)) (does.ran knows.sent)));
    early = does.early;
  };
}

-- ---- turns

-- the conditions, as they are tested
pub turn_tested : (program : Program) (s : NodeState) (list : List Told) (last stamp n steps r : ℕ) → Knows program s list last →
    first_failing (rules_of program) (first_of_program program) (reverse list) (turned stamp n steps r) ≡ first_of (short_turn program last s stamp n r)
turn_tested program s list last stamp n steps r k =
    failing_turn program (reverse list) s k.sent stamp n steps r k.own (at program s list last k) ∙ ap (λ (m : ℕ). first_of (short_turn program m s stamp n r)) k.stamp

-- what a turn that isn't refused meets
pub record MeetsTurn (s : NodeState) (last stamp n r : ℕ) : Type 0 where
  pub node : n ≡ 1
  pub late : last ≤ r
  pub read : r ≤ stamp
  pub free : due s r ≡ false
  pub ready : is_some (picks s) ≡ true

not_true : (b : Bool) → not b ≡ true → b ≡ false
not_true false h = refl
not_true true h = cc

pub meets_turn : (program : Program) (s : NodeState) (list : List Told) (last stamp n steps r : ℕ) → Knows program s list last → none_fails program list (turned stamp n steps r) → MeetsTurn s last stamp n r
meets_turn program s list last stamp n steps r k none =
    let all = passes (short_turn program last s stamp n r) (sym (turn_tested program s list last stamp n steps r k) ∙ none) in
    record {
      node = eqb-true n 1 all.1.0;
      late = leb-true last r (and_left (nat_le last r) (nat_le r stamp) all.1.1.0);
      read = leb-true r stamp (and_right (nat_le last r) (nat_le r stamp) all.1.1.0);
      free = not_true (due s r) all.1.1.1.0;
      ready = all.1.1.1.1.0;
    }

-- a turn that was taken
pub record Took (program : Program) (s s' : NodeState) (r limit k : ℕ) (y : Effects) : Type 0 where
  pub most_of : k ≡ most (rules_of program) s r no_marks limit
  pub turned : turn program s k r ≡ Some (s', y)

-- the entry follows, and has the most steps
pub record FollowTurn (program : Program) (s' : NodeState) (list : List Told) (stamp r limit k : ℕ) (y : Effects) : Type 0 where
  pub follow : Follow program s' list (turned stamp 1 k r) y
  pub most_is : turned stamp 1 k r ≡ settled (rules_of program) (first_of_program program) (reverse list) (turned stamp 1 limit r)

pub follow_turn : (program : Program) (s s' : NodeState) (list : List Told) (last stamp r limit k : ℕ) (y : Effects) → Knows program s list last → Took program s s' r limit k y → none_fails program list (turned stamp 1 limit r) →
    FollowTurn program s' list stamp r limit k y
follow_turn program s s' list last stamp r limit k y knows took none = record {
  follow = follow program s s' list last (turned stamp 1 k r) y knows
      (record {
        own = refl;
        ran = λ sent. rw took.turned refl;
        unshown = turn-shown program s k r (s', y) took.turned;
        early = omega (arith, (lawful program).turn_time s k r (s', y) took.turned, (meets_turn program s list last stamp 1 limit r knows none).read);
      })
      (turn_tested program s list last stamp 1 k r knows ∙ sym (turn_tested program s list last stamp 1 limit r knows) ∙ none)
      (rw (here, cut-plain (reverse list) r plain_list, most-plain (rules_of program) s r (marked 1 (reverse list)) k (λ line. marked-plain 1 (reverse list) line plain_list) some ((lawful program).turn_is s k r some).0) refl);
  most_is = rw (here, cut-plain (reverse list) r plain_list, most-alike (rules_of program) s r (marked 1 (reverse list)) limit (λ line. marked-plain 1 (reverse list) line plain_list)) (ap (λ (j : ℕ). turned stamp 1 j r) took.most_of);
}
  where
    plain_list : ArePlain (reverse list)
    plain_list = all_plain (reverse list) knows.own

    here : reached (rules_of program) (first_of_program program) (reverse list) ≡ (s, knows.sent) ∷ []
    here = at program s list last knows

    some : IsSome (turn program s k r)
    some = some_of (turn program s k r) (s', y) took.turned

-- ---- ticks

pub tick_tested : (program : Program) (s : NodeState) (list : List Told) (last stamp n : ℕ) → Knows program s list last →
    first_failing (rules_of program) (first_of_program program) (reverse list) (ticked stamp n) ≡ first_of (short_tick program last s stamp n)
tick_tested program s list last stamp n k =
    failing_tick program (reverse list) s k.sent stamp n k.own (at program s list last k) ∙ ap (λ (m : ℕ). first_of (short_tick program m s stamp n)) k.stamp

-- what a tick that isn't refused meets
pub record MeetsTick (s : NodeState) (last stamp n : ℕ) : Type 0 where
  pub rises : last ≤ stamp
  pub node : n ≡ 1
  pub due : due s stamp ≡ true

pub meets_tick : (program : Program) (s : NodeState) (list : List Told) (last stamp n : ℕ) → Knows program s list last → none_fails program list (ticked stamp n) → MeetsTick s last stamp n
meets_tick program s list last stamp n k none =
    let all = passes (short_tick program last s stamp n) (sym (tick_tested program s list last stamp n k) ∙ none) in
    record { rises = leb-true last stamp all.0; node = eqb-true n 1 all.1.0; due = all.1.1.0 }

pub follow_tick : (program : Program) (s s' : NodeState) (list : List Told) (last stamp : ℕ) (y : Effects) → Knows program s list last → tick s stamp ≡ Some (s', y) → none_fails program list (ticked stamp 1) → Follow program s' list (ticked stamp 1) y
follow_tick program s s' list last stamp y knows ticks none = follow program s s' list last (ticked stamp 1) y knows
    (record {
      own = refl;
      ran = λ sent. rw ticks refl;
      unshown = tick-shown s stamp (s', y) ticks;
      early = le_of_eq ((lawful program).tick_time s stamp (s', y) ticks);
    })
    none
    refl

-- ---- what a world answers

-- the parts of a world, as they are seen
abbrev seen : NodeSeen → List Told → Bool → Seen
seen node list spent = record { program = node.program; list = list; spent = spent }

-- the only node at its start
alone : (program : Program) (ds : List NodeDecl) (s : NodeState) → length ds ≡ 1 → node_at (nodes_from program 1 ds) 1 ≡ Some (s, []) → (nodes_from program 1 ds ≡ (s, []) ∷ []) × (s.time ≡ 0)
alone program [] s n h = cc
alone program (d ∷ []) s n h = let e = some_fst _ _ h in (ap (λ (q : NodeState). (q, []) ∷ []) e, sym (ap (λ (q : NodeState). q.time) e))
alone program (d ∷ e ∷ ds) s n h = absurd (omega arith)

pub keeps_new : (node : NodeSeen) (program : Program) (list : List Told) → IsTyped program → node.program ≡ program → node_at (first_of_program program) 1 ≡ Some (node.state, []) → node.spent ≡ false → list ≡ [] → Keeps node list 0 false
keeps_new node program list typed is there unspent empty = rw empty (record {
  own = tt;
  leaves = λ h. (
    refl,
    record {
      unspent = unspent;
      sent = [];
      effects = nothing;
      ran = rw is (ap (λ (w : World NodeState). Some (w, nothing)) (alone program program.nodes node.state typed.one_node there).0);
      early = omega (arith, (alone program program.nodes node.state typed.one_node there).1);
    },
  );
})

pub refuses : (v : Seen) (node : NodeSeen) (list : List Told) (spent : Bool) (event : Told) (number : ℕ) (o : Option ℕ) → seen node list spent ≡ v → spent ≡ false → Some number ≡ o →
    o ≡ first_failing (rules_of v.program) (first_of_program v.program) (reverse v.list) event → Refuses v v event number
refuses v node list spent event number o is unspent some first = record {
  was = sym (ap (λ (w : Seen). w.spent) is) ∙ unspent;
  is = refl;
  first = sym first ∙ sym some;
}

-- what is refused of a world is refused of its parts
of_parts : (v : Seen) (node : NodeSeen) (list : List Told) (spent : Bool) (event : Told) (o p : Option ℕ) → seen node list spent ≡ v → o ≡ p → first_failing (rules_of node.program) (first_of_program node.program) (reverse list) event ≡ p →
    o ≡ first_failing (rules_of v.program) (first_of_program v.program) (reverse v.list) event
of_parts v node list spent event o p is first tested = first ∙ sym (subst (λ (w : Seen). first_failing (rules_of w.program) (first_of_program w.program) (reverse w.list) event ≡ p) is tested)

pub turn_refusal_is : (v : Seen) (node : NodeSeen) (list : List Told) (last : ℕ) (spent : Bool) (stamp n r steps : ℕ) (o : Option ℕ) → seen node list spent ≡ v → v.spent ≡ false → Keeps node list last spent →
    o ≡ first_of (short_turn node.program last node.state stamp n r) → o ≡ first_failing (rules_of v.program) (first_of_program v.program) (reverse v.list) (turned stamp n steps r)
turn_refusal_is v node list last spent stamp n r steps o is unspent h first =
    of_parts v node list spent (turned stamp n steps r) o (first_of (short_turn node.program last node.state stamp n r)) is first
    (turn_tested node.program node.state list last stamp n steps r (known node list last spent h (ap (λ (w : Seen). w.spent) is ∙ unspent)))

pub tick_refusal_is : (v : Seen) (node : NodeSeen) (list : List Told) (last : ℕ) (spent : Bool) (stamp n : ℕ) (o : Option ℕ) → seen node list spent ≡ v → v.spent ≡ false → Keeps node list last spent →
    o ≡ first_of (short_tick node.program last node.state stamp n) → o ≡ first_failing (rules_of v.program) (first_of_program v.program) (reverse v.list) (ticked stamp n)
tick_refusal_is v node list last spent stamp n o is unspent h first =
    of_parts v node list spent (ticked stamp n) o (first_of (short_tick node.program last node.state stamp n)) is first
    (tick_tested node.program node.state list last stamp n (known node list last spent h (ap (λ (w : Seen). w.spent) is ∙ unspent)))

-- an event that isn't refused, of a world whose parts these are
pub record Met (v : Seen) (node : NodeSeen) (list : List Told) (last : ℕ) (e : Told) : Type 0 where
  pub is : seen node list false ≡ v
  pub keeps : Keeps node list last false
  pub none : none_fails node.program list e

pub met : (v : Seen) (node : NodeSeen) (list : List Told) (last : ℕ) (spent : Bool) (e : Told) (o : Option ℕ) → seen node list spent ≡ v → spent ≡ false → Keeps node list last spent → None ≡ o →
    o ≡ first_failing (rules_of v.program) (first_of_program v.program) (reverse v.list) e → Met v node list last e
met v node list last spent e o is free h gone first =
    let is' : seen node list false ≡ v = ap (λ (b : Bool). seen node list b) (sym free) ∙ is in
    record {
      is = is';
      keeps = subst (λ (b : Bool). Keeps node list last b) free h;
      none = subst (λ (w : Seen). first_failing (rules_of w.program) (first_of_program w.program) (reverse w.list) e ≡ None) (sym is') (sym first ∙ sym gone);
    }

-- an event that was applied is added
pub record Added (v : Seen) (node' : NodeSeen) (list' : List Told) (event e : Told) (y : Effects) : Type 0 where
  pub keeps : Keeps node' list' e.stamp false
  pub adds : Adds v (seen node' list' false) event (entry_of e y)

added_by : (v : Seen) (node node' : NodeSeen) (list list' : List Told) (last : ℕ) (event e : Told) (y : Effects) → seen node list false ≡ v → node'.spent ≡ false → node'.program ≡ node.program → list' ≡ list ++ e ∷ [] →
    e ≡ settled (rules_of node.program) (first_of_program node.program) (reverse list) event → Follow node.program node'.state list e y → Added v node' list' event e y
added_by v node node' list list' last event e y is unspent same longer most f = subst (λ (w : Seen). Added w node' list' event e y) is (record {
  keeps = rw longer (record {
    own = f.knows.own;
    leaves = λ q. (f.knows.stamp, record { unspent = unspent; sent = f.knows.sent; effects = f.knows.effects; ran = rw same f.knows.ran; early = f.knows.early });
  });
  adds = record {
    was = refl;
    is = λ i. record { program = same i; list = longer i; spent = false };
    most = most;
    follows = f.follows;
  };
})

pub added_turn : (v : Seen) (node node' : NodeSeen) (list list' : List Told) (last stamp n r limit k : ℕ) (y : Effects) → Met v node list last (turned stamp n limit r) →
    node'.spent ≡ false → node'.program ≡ node.program → k ≡ most_steps node r limit → turn node.program node.state k r ≡ Some (node'.state, y) → list' ≡ list ++ turned stamp n k r ∷ [] →
    Added v node' list' (turned stamp n limit r) (turned stamp n k r) y
added_turn v node node' list list' last stamp n r limit k y m unspent same most_of took longer = at_one n (sym (meets_turn node.program node.state list last stamp n limit r (known node list last false m.keeps refl) m.none).node) m.none longer
  where
    at_one : (j : ℕ) → 1 ≡ j → none_fails node.program list (turned stamp j limit r) → list' ≡ list ++ turned stamp j k r ∷ [] → Added v node' list' (turned stamp j limit r) (turned stamp j k r) y
    at_one j e = subst (λ (i : ℕ). none_fails node.program list (turned stamp i limit r) → list' ≡ list ++ turned stamp i k r ∷ [] → Added v node' list' (turned stamp i limit r) (turned stamp i k r) y) e
        (λ none q. let f = follow_turn node.program node.state node'.state list last stamp r limit k y (known node list last false m.keeps refl) (record { most_of = most_of; turned = took }) none in
        added_by v node node' list list' last (turned stamp 1 limit r) (turned stamp 1 k r) y m.is unspent same q f.most_is f.follow)

pub added_tick : (v : Seen) (node node' : NodeSeen) (list list' : List Told) (last stamp n : ℕ) (y : Effects) → Met v node list last (ticked stamp n) →
    node'.spent ≡ false → node'.program ≡ node.program → tick node.state stamp ≡ Some (node'.state, y) → list' ≡ list ++ ticked stamp n ∷ [] → Added v node' list' (ticked stamp n) (ticked stamp n) y
added_tick v node node' list list' last stamp n y m unspent same ticks longer = at_one n (sym (meets_tick node.program node.state list last stamp n (known node list last false m.keeps refl) m.none).node) m.none longer
  where
    at_one : (j : ℕ) → 1 ≡ j → none_fails node.program list (ticked stamp j) → list' ≡ list ++ ticked stamp j ∷ [] → Added v node' list' (ticked stamp j) (ticked stamp j) y
    at_one j e = subst (λ (i : ℕ). none_fails node.program list (ticked stamp i) → list' ≡ list ++ ticked stamp i ∷ [] → Added v node' list' (ticked stamp i) (ticked stamp i) y) e
        (λ none q. added_by v node node' list list' last (ticked stamp 1) (ticked stamp 1) y m.is unspent same q refl
        (follow_tick node.program node.state node'.state list last stamp y (known node list last false m.keeps refl) ticks none))

-- ---- what isn't refused is possible

pub can_turn : (v : Seen) (node : NodeSeen) (list : List Told) (last stamp n r limit : ℕ) → 1 ≤ limit → Met v node list last (turned stamp n limit r) → CanTurn node r limit
can_turn v node list last stamp n r limit some m =
    let k = known node list last false m.keeps refl in
    let t = meets_turn node.program node.state list last stamp n limit r k m.none in
    record { unspent = (m.keeps.leaves refl).1.unspent; some = some; late = omega (arith, k.early, t.late); free = t.free; ready = t.ready }

pub can_tick : (v : Seen) (node : NodeSeen) (list : List Told) (last stamp n : ℕ) → Met v node list last (ticked stamp n) → CanTick node stamp
can_tick v node list last stamp n m =
    let k = known node list last false m.keeps refl in
    let t = meets_tick node.program node.state list last stamp n k m.none in
    record { unspent = (m.keeps.leaves refl).1.unspent; late = omega (arith, k.early, t.rises); due = t.due }

-- a reading that isn't refused is as early as the stamp
pub read_early : (v : Seen) (node : NodeSeen) (list : List Told) (last stamp n r limit : ℕ) → Met v node list last (turned stamp n limit r) → stamp < 2 ^ 62 → r < 2 ^ 62
read_early v node list last stamp n r limit m early =
    omega (arith, (meets_turn node.program node.state list last stamp n limit r (known node list last false m.keeps refl) m.none).read, early)
