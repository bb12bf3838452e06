-- What follows of how a replay ends.
use Rattle.std.proofs.Common.{◌≡◌, ◌≢◌, ◌⊎◌, ◌<◌, inl, inr, ℕ, List, [], ◌++◌, Option, Result, Ok, Err, refl, sym, ◌∙◌, subst, arith, append-nil, string_bytes, ap}
use Rattle.clu_reader.specs.Accepted.{IsAccepted}
use Rattle.clu_tree.specs.declared.program.Program.{Program}
use Rattle.world_types.specs.declared.effects.Entry.{Entry}
use Rattle.world_rules.specs.Laws.{ErasingLaws, FollowingLaws, PlainLaw}
use Rattle.world_rules.specs.Legal.{ArePlain, tolds}
use Rattle.world_rules.specs.Node.{IsLegal}
use Rattle.world_rules.specs.Transcript.{transcript}
use Rattle.outside_edge.specs.Laws.{RowLaws}
use Rattle.outside_edge.specs.Shelf.{ShelfTold, Loads}
use Rattle.outside_edge.specs.Sink.{SinkTold, CutShort}
use Rattle.pilgrim_top.specs.Ends.{CountsFaults, CountsPuts, Says, status_of}
use Rattle.pilgrim_top.specs.Replay.{Replays, Unnoticed, unread, refused, unscripted, ran, ran_out}
use Rattle.pilgrim_top.specs.Script.{CutIn, Finishes, RunsScript, entry_text, in_entry, in_text}
use Rattle.pilgrim_top.specs.Top.{Does, EndText, LoadCause, LoadFailed, RoomCause, RoomLacks, ShowsUsage, first, no_text, of_program, of_script, second, usage_text}
use Rattle.pilgrim_top.specs.declared.usage.Usage.{Usage}
use Rattle.pilgrim_top.specs.declared.usage.Usage.TheVariants.{Check, Replay, Erase, Load, Run}
use Rattle.pilgrim_top.specs.declared.stop.Stop.{Stop}
use Rattle.pilgrim_top.specs.declared.stop.Stop.TheVariants.{Unread, Cut, Memory}

-- ---- the headline

legal_of : (program : Program) (lines : List ℕ) (sink sink' : Option SinkTold) (journal : List Entry) (end : Result ℕ Stop) → RunsScript program lines sink sink' journal end → IsLegal program journal
legal_of program lines sink sink' journal (Ok status) h = h.applied.legal
legal_of program lines sink sink' journal (Err Unread) h = absurd h
legal_of program lines sink sink' journal (Err Cut) h = h.applied.legal
legal_of program lines sink sink' journal (Err Memory) h = h.applied.legal

plain_of : (program : Program) (lines : List ℕ) (sink sink' : Option SinkTold) (journal : List Entry) (end : Result ℕ Stop) → RunsScript program lines sink sink' journal end → ArePlain (tolds journal)
plain_of program lines sink sink' journal (Ok status) h = h.applied.plain
plain_of program lines sink sink' journal (Err Unread) h = absurd h
plain_of program lines sink sink' journal (Err Cut) h = h.applied.plain
plain_of program lines sink sink' journal (Err Memory) h = h.applied.plain

pub unnoticed : (program : Program) (lines : List ℕ) (sink sink' : Option SinkTold) (journal : List Entry) (end : Result ℕ Stop) → ((p : Program) → ErasingLaws p) → ((p : Program) → PlainLaw p) → RunsScript program lines sink sink' journal end → Unnoticed program journal
unnoticed program lines sink sink' journal end laws law h =
    let legal = legal_of program lines sink sink' journal end h in
    record { same = (laws program).same journal legal; erased = (laws program).legal journal legal; plainly = law program journal legal (plain_of program lines sink sink' journal end h) }

-- ---- faults

-- ---- a status of its own is no fault's

says_status : (text : List ℕ) (status s : ℕ) (sink sink' : Option SinkTold) → Says text status sink sink' (Ok s) → status ≢ 4 → s ≢ 4
says_status text status s sink sink' h n e = n (sym h.0 ∙ e)

script_status : (program : Program) (lines : List ℕ) (sink sink' : Option SinkTold) (journal : List Entry) (s : ℕ) → RunsScript program lines sink sink' journal (Ok s) → s ≢ 4
script_status program lines sink sink' journal s h = by_end h.ends
  where
    by_end : Finishes program journal h.rest h.count s h.text → s ≢ 4
    by_end (inl e) four = absurd (omega (arith, e.1, four))
    by_end (inr e) four = absurd (omega (arith, e.1, four))

-- an end that isn't a fault has another status than 4
replay_status : (file script : List ℕ) (shelf shelf' : Option ShelfTold) (sink sink' : Option SinkTold) (journal : List Entry) (s : ℕ) → Replays file script shelf shelf' sink sink' journal (Ok s) → s ≢ 4
replay_status file script shelf shelf' sink sink' journal s (unread l j w e) = cc
replay_status file script shelf shelf' sink sink' journal s (refused bytes text l r j says) = says_status text 2 s sink sink' says (λ e. absurd (omega (arith, e)))
replay_status file script shelf shelf' sink sink' journal s (unscripted bytes p mid l a m j w e) = cc
replay_status file script shelf shelf' sink sink' journal s (ran bytes p mid lines l a m run un) = script_status p lines sink sink' journal s run
replay_status file script shelf shelf' sink sink' journal s (ran_out l j w e) = cc

pub does_status : (u : Usage) (shelf shelf' : Option ShelfTold) (sink sink' : Option SinkTold) (journal : List Entry) (s : ℕ) → Does u shelf shelf' sink sink' journal (Ok s) → s ≢ 4
does_status (Replay file script) shelf shelf' sink sink' journal s h = replay_status (string_bytes file) (string_bytes script) shelf shelf' sink sink' journal s h
does_status (Check file) shelf shelf' sink sink' journal s h = says_status usage_text 1 s sink sink' h.says (λ e. absurd (omega (arith, e)))
does_status (Erase file script) shelf shelf' sink sink' journal s h = says_status usage_text 1 s sink sink' h.says (λ e. absurd (omega (arith, e)))
does_status (Load calls) shelf shelf' sink sink' journal s h = says_status usage_text 1 s sink sink' h.says (λ e. absurd (omega (arith, e)))
does_status (Run words) shelf shelf' sink sink' journal s h = says_status usage_text 1 s sink sink' h.says (λ e. absurd (omega (arith, e)))

-- where the status is a fault's, a count rose
fault_by : (shelf shelf' sink sink' : ℕ) (end : Result ℕ Stop) (status : ℕ) → CountsFaults shelf shelf' sink sink' end → ((s : ℕ) → end ≡ Ok s → s ≢ 4) → status ≡ status_of end → status ≡ 4 → (shelf < shelf') ⊎ (sink < sink')
fault_by shelf shelf' sink sink' (Ok s) status h n e four = absurd (n s refl (sym e ∙ four))
fault_by shelf shelf' sink sink' (Err Unread) status h n e four = inl h.0
fault_by shelf shelf' sink sink' (Err Cut) status h n e four = inr h.1
fault_by shelf shelf' sink sink' (Err Memory) status h n e four = absurd (omega (arith, e, four))

pub faulted : (u : Usage) (shelf shelf' : Option ShelfTold) (sink sink' : Option SinkTold) (journal : List Entry) (a a' b b' : ℕ) (end : Result ℕ Stop) (status : ℕ) → Does u shelf shelf' sink sink' journal end → CountsFaults a a' b b' end → status ≡ status_of end → status ≡ 4 → (a < a') ⊎ (b < b')
faulted u shelf shelf' sink sink' journal a a' b b' end status does counts e four =
    fault_by a a' b b' end status counts (λ s is. does_status u shelf shelf' sink sink' journal s (subst (λ (r : Result ℕ Stop). Does u shelf shelf' sink sink' journal r) is does)) e four

-- ---- why

alone : (journal : List Entry) (text : List ℕ) → journal ≡ [] → transcript journal ++ text ≡ text
alone journal text e = rw e refl

unread_cause : (file script : List ℕ) (shelf shelf' : Option ShelfTold) (sink sink' : Option SinkTold) (journal : List Entry) → Replays file script shelf shelf' sink sink' journal (Err Unread) → LoadFailed file script shelf shelf'
unread_cause file script shelf shelf' sink sink' journal (unread l j w e) = first l
unread_cause file script shelf shelf' sink sink' journal (refused bytes text l r j says) = absurd says
unread_cause file script shelf shelf' sink sink' journal (unscripted bytes p mid l a m j w e) = second bytes p mid l a m
unread_cause file script shelf shelf' sink sink' journal (ran bytes p mid lines l a m run un) = absurd run
unread_cause file script shelf shelf' sink sink' journal (ran_out l j w e) = cc

-- only a replay loads
unread_does : (u : Usage) (shelf shelf' : Option ShelfTold) (sink sink' : Option SinkTold) (journal : List Entry) → Does u shelf shelf' sink sink' journal (Err Unread) → LoadCause u shelf shelf'
unread_does (Replay file script) shelf shelf' sink sink' journal h = unread_cause (string_bytes file) (string_bytes script) shelf shelf' sink sink' journal h
unread_does (Check file) shelf shelf' sink sink' journal h = h.says
unread_does (Erase file script) shelf shelf' sink sink' journal h = h.says
unread_does (Load calls) shelf shelf' sink sink' journal h = h.says
unread_does (Run words) shelf shelf' sink sink' journal h = h.says

-- where the shelf's count rose, a load failed
pub load_cause : (u : Usage) (shelf shelf' : Option ShelfTold) (sink sink' : Option SinkTold) (journal : List Entry) (a a' b b' : ℕ) (end : Result ℕ Stop) → Does u shelf shelf' sink sink' journal end → CountsFaults a a' b b' end → a < a' → LoadCause u shelf shelf'
load_cause u shelf shelf' sink sink' journal a a' b b' (Ok s) does h l = absurd (omega (arith, h.0, l))
load_cause u shelf shelf' sink sink' journal a a' b b' (Err Unread) does h l = unread_does u shelf shelf' sink sink' journal does
load_cause u shelf shelf' sink sink' journal a a' b b' (Err Cut) does h l = absurd (omega (arith, h.0, l))
load_cause u shelf shelf' sink sink' journal a a' b b' (Err Memory) does h l = absurd (omega (arith, h.0, l))

-- the room lacked for a text that is written behind no entries
alone_lacks : RowLaws → (sink sink' : Option SinkTold) (journal : List Entry) (text : List ℕ) → journal ≡ [] → CutShort sink sink' text → RoomLacks sink sink' journal text
alone_lacks row sink sink' journal text j cut = row.lacks sink sink' (transcript journal ++ text) (rw (alone journal text j) cut)

-- a script whose writing was cut short
script_cause : RowLaws → ((p : Program) → FollowingLaws p) → (file script bytes lines : List ℕ) (program : Program) (shelf mid shelf' : Option ShelfTold) (sink sink' : Option SinkTold) (journal : List Entry) →
    Loads file shelf mid (Ok bytes) → IsAccepted bytes program → Loads script mid shelf' (Ok lines) → RunsScript program lines sink sink' journal (Err Cut) →
    (text : List ℕ) × EndText file script shelf shelf' journal text × RoomLacks sink sink' journal text
script_cause row laws file script bytes lines program shelf mid shelf' sink sink' journal l a m h = by_which h.cut
  where
    by_which : CutIn program sink sink' journal h.rest h.count → (text : List ℕ) × EndText file script shelf shelf' journal text × RoomLacks sink sink' journal text
    by_which (in_entry before e at longer wrote cut) =
        let whole : transcript journal ++ [] ≡ transcript before ++ entry_text e = append-nil (transcript journal) ∙ ap transcript longer ∙ (laws program).written before e in
        ([], no_text, row.lacks sink sink' (transcript journal ++ []) (rw whole (row.cut sink at sink' (transcript before) (entry_text e) wrote cut)))
    by_which (in_text status text at finishes wrote cut) =
        (text, of_script bytes lines h.rest program mid h.count status text l a m h.applied finishes, row.lacks sink sink' (transcript journal ++ text) (row.cut sink at sink' (transcript journal) text wrote cut))

cut_cause : RowLaws → ((p : Program) → FollowingLaws p) → (file script : List ℕ) (shelf shelf' : Option ShelfTold) (sink sink' : Option SinkTold) (journal : List Entry) → Replays file script shelf shelf' sink sink' journal (Err Cut) → (text : List ℕ) × EndText file script shelf shelf' journal text × RoomLacks sink sink' journal text
cut_cause row laws file script shelf shelf' sink sink' journal (unread l j w e) = cc
cut_cause row laws file script shelf shelf' sink sink' journal (refused bytes text l r j says) = (text, of_program bytes text l r, alone_lacks row sink sink' journal text j says)
cut_cause row laws file script shelf shelf' sink sink' journal (unscripted bytes p mid l a m j w e) = cc
cut_cause row laws file script shelf shelf' sink sink' journal (ran bytes p mid lines l a m run un) = script_cause row laws file script bytes lines p shelf mid shelf' sink sink' journal l a m run
cut_cause row laws file script shelf shelf' sink sink' journal (ran_out l j w e) = cc

cut_does : RowLaws → ((p : Program) → FollowingLaws p) → (u : Usage) (shelf shelf' : Option ShelfTold) (sink sink' : Option SinkTold) (journal : List Entry) → Does u shelf shelf' sink sink' journal (Err Cut) → RoomCause u shelf shelf' sink sink' journal
cut_does row laws (Replay file script) shelf shelf' sink sink' journal h = cut_cause row laws (string_bytes file) (string_bytes script) shelf shelf' sink sink' journal h
cut_does row laws (Check file) shelf shelf' sink sink' journal h = alone_lacks row sink sink' journal usage_text h.noted h.says
cut_does row laws (Erase file script) shelf shelf' sink sink' journal h = alone_lacks row sink sink' journal usage_text h.noted h.says
cut_does row laws (Load calls) shelf shelf' sink sink' journal h = alone_lacks row sink sink' journal usage_text h.noted h.says
cut_does row laws (Run words) shelf shelf' sink sink' journal h = alone_lacks row sink sink' journal usage_text h.noted h.says

-- where the sink's count rose, its room lacked
pub room_cause : RowLaws → ((p : Program) → FollowingLaws p) → (u : Usage) (shelf shelf' : Option ShelfTold) (sink sink' : Option SinkTold) (journal : List Entry) (a a' b b' : ℕ) (end : Result ℕ Stop) → Does u shelf shelf' sink sink' journal end → CountsFaults a a' b b' end → b < b' → RoomCause u shelf shelf' sink sink' journal
room_cause row laws u shelf shelf' sink sink' journal a a' b b' (Ok s) does h l = absurd (omega (arith, h.1, l))
room_cause row laws u shelf shelf' sink sink' journal a a' b b' (Err Unread) does h l = absurd (omega (arith, h.1, l))
room_cause row laws u shelf shelf' sink sink' journal a a' b b' (Err Cut) does h l = cut_does row laws u shelf shelf' sink sink' journal does
room_cause row laws u shelf shelf' sink sink' journal a a' b b' (Err Memory) does h l = absurd (omega (arith, h.1, l))

-- the same where the usage text was to be written and nothing else
pub usage_cause : RowLaws → (sink sink' : Option SinkTold) (journal : List Entry) (b b' : ℕ) (end : Result ℕ Stop) → Says usage_text 1 sink sink' end → CountsPuts b b' end → journal ≡ [] → b < b' → RoomLacks sink sink' journal usage_text
usage_cause row sink sink' journal b b' (Ok s) says h j l = absurd (omega (arith, h, l))
usage_cause row sink sink' journal b b' (Err Unread) says h j l = absurd h
usage_cause row sink sink' journal b b' (Err Cut) says h j l = alone_lacks row sink sink' journal usage_text j says
usage_cause row sink sink' journal b b' (Err Memory) says h j l = absurd (omega (arith, h, l))

-- ---- usages that can't be run yet

pub shows : (u : Usage) (shelf shelf' : Option ShelfTold) (sink sink' : Option SinkTold) (journal : List Entry) (end : Result ℕ Stop) → ((file script : _) → u ≡ Replay file script → ⊥) → ShowsUsage shelf shelf' sink sink' journal end → Does u shelf shelf' sink sink' journal end
shows (Replay file script) shelf shelf' sink sink' journal end h s = absurd (h file script refl)
shows (Check file) shelf shelf' sink sink' journal end h s = s
shows (Erase file script) shelf shelf' sink sink' journal end h s = s
shows (Load calls) shelf shelf' sink sink' journal end h s = s
shows (Run words) shelf shelf' sink sink' journal end h s = s

pub counts_puts : (shelf sink sink' : ℕ) (end : Result ℕ Stop) → CountsPuts sink sink' end → CountsFaults shelf shelf sink sink' end
counts_puts shelf sink sink' (Ok s) h = (refl, h)
counts_puts shelf sink sink' (Err Unread) h = absurd h
counts_puts shelf sink sink' (Err Cut) h = (refl, h)
counts_puts shelf sink sink' (Err Memory) h = (refl, h)
