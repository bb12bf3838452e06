-- The lines of a script, one after the other.
use Rattle.std.proofs.Common.{◌≡◌, ◌≢◌, ◌⊎◌, ◌<◌, ◌==◌, inl, inr, ℕ, suc, ◌+◌, Bool, true, false, List, [], ◌∷◌, ◌++◌, length, reverse, Option, Some, Result, Ok, Err, refl, sym, ◌∙◌, ap, subst, arith, append_assoc, append-nil, length-append}
use Rattle.std.specs.List.{flat_map}
use Rattle.std.proofs.lemmas.List.{reverse-append}
use Rattle.std.proofs.lemmas.List.Elements.{All-push}
use Rattle.clu_tree.specs.declared.program.Program.{Program}
use Rattle.world_types.specs.declared.event.Event.{Event}
use Rattle.world_types.specs.declared.event.Event.TheVariants.{Turn, Tick}
use Rattle.world_types.specs.declared.event.Told.{Told}
use Rattle.world_types.specs.declared.effects.Entry.{Entry}
use Rattle.world_rules.specs.Laws.{FollowingLaws}
use Rattle.world_rules.specs.Legal.{ArePlain, IsPlainEvent, first_failing, reached, settled_by, told, tolds}
use Rattle.world_rules.specs.Node.{first_of_program, rules_of}
use Rattle.world_rules.specs.Transcript.{transcript}
use Rattle.journal_text.specs.Grammar.{InGrammar, IsEvent, most_lines}
use Rattle.journal_text.specs.Spelling.{spelled}
use Rattle.outside_edge.specs.Laws.{RowLaws}
use Rattle.outside_edge.specs.Sink.{SinkTold, Wrote, Began}
use Rattle.debug_world.specs.Seen.{Adds, MayBeApplied, Refuses, Seen}
use Rattle.pilgrim_top.specs.Ends.{Says}
use Rattle.pilgrim_top.specs.Script.{Applied, AppliesLine, Gained, IsRefused, can_run, illegal, in_entry, in_text, RanOut, RunsScript, entry_text, refusal_text}
use Rattle.pilgrim_top.specs.declared.stop.Stop.{Stop}
use Rattle.pilgrim_top.specs.declared.stop.Stop.TheVariants.{Unread, Cut, Memory}

-- ---- what was applied

pub applied_none : (program : Program) (script : List ℕ) (journal : List Entry) → journal ≡ [] → Applied program script journal script 0
applied_none program script journal empty = rw empty (record {
  lines = [];
  whole = refl;
  grammar = λ k d l. absurd (omega (arith, l));
  runs = λ k d l. absurd (omega (arith, l));
  counted = refl;
  few = omega arith;
  legal = tt;
  plain = tt;
  events = tt;
})

spelled-more : (lines : List Told) (line : Told) → flat_map spelled (lines ++ line ∷ []) ≡ flat_map spelled lines ++ spelled line
spelled-more [] line = append-nil (spelled line)
spelled-more (x ∷ lines) line = ap (λ (t : List ℕ). spelled x ++ t) (spelled-more lines line) ∙ sym (append_assoc (spelled x) (flat_map spelled lines) (spelled line))

tolds-more : (journal : List Entry) (e : Entry) → tolds (journal ++ e ∷ []) ≡ tolds journal ++ told e ∷ []
tolds-more [] e = refl
tolds-more (x ∷ journal) e = ap (λ (t : List Told). told x ∷ t) (tolds-more journal e)

plain-more : (journal : List Entry) (e : Entry) → ArePlain (tolds journal) → IsPlainEvent e.event → ArePlain (tolds (journal ++ e ∷ []))
plain-more [] e h is = (is, tt)
plain-more (x ∷ journal) e h is = (h.0, plain-more journal e h.1 is)

-- the most steps of an event that can be run make no other event
settled_plain : (program : Program) (list : List Told) (event : Event) → can_run event ≡ true → IsPlainEvent (settled_by (rules_of program) (reached (rules_of program) (first_of_program program) (reverse list)) (reverse list) event)
settled_plain program list (Turn node steps reading) can = tt
settled_plain program list (Tick node) can = tt
settled_plain program list event can = cc

-- the world of a journal
abbrev pub world_of : Program → List Entry → Seen
world_of program journal = record { program = program; list = tolds journal; spent = false }

pub applied_more : (program : Program) (laws : FollowingLaws program) (script : List ℕ) (journal : List Entry) (rest more : List ℕ) (count : ℕ) (line : Told) (e : Entry) (world : Seen) → Applied program script journal rest count →
    rest ≡ spelled line ++ more → InGrammar line → can_run line.event ≡ true → count < most_lines → Adds (world_of program journal) world line e → Applied program script (journal ++ e ∷ []) more (count + 1)
applied_more program laws script journal rest more count line e world a parts grammar can few adds = record {
  lines = a.lines ++ line ∷ [];
  whole = a.whole ∙ ap (λ (t : List ℕ). flat_map spelled a.lines ++ t) parts ∙ sym (append_assoc (flat_map spelled a.lines) (spelled line) more) ∙ ap (λ (t : List ℕ). t ++ more) (sym (spelled-more a.lines line));
  grammar = All-push InGrammar a.lines line a.grammar grammar;
  runs = All-push (λ (l : Told). can_run l.event ≡ true) a.lines line a.runs can;
  counted = omega (arith, length-append a.lines (line ∷ []), a.counted);
  few = omega arith;
  legal = laws.legal journal e a.legal adds.follows;
  plain = plain-more journal e a.plain (subst (λ (t : Told). IsPlainEvent t.event) (sym adds.most) (settled_plain program (tolds journal) line.event can));
  events = rw (reverse-append a.lines (line ∷ []), reverse-append journal (e ∷ [])) (rw (laws.past journal) adds.most, a.events);
}

-- ---- the ends

-- of a text the whole was written, or nothing
began_whole : (a c : Option SinkTold) (x : List ℕ) → Wrote a c x → Began a c x
began_whole a c x w = record { part = x; rest = []; whole = sym (append-nil x); wrote = w }

began_nothing : (a c : Option SinkTold) (x : List ℕ) → Wrote a c [] → Began a c x
began_nothing a c x w = record { part = []; rest = x; whole = refl; wrote = w }

-- a text, and then nothing
began_only : RowLaws → (a b c : Option SinkTold) (x : List ℕ) → Wrote a b x → Wrote b c [] → Began a c x
began_only row a b c x w v = subst (λ (t : List ℕ). Began a c t) (append-nil x) (row.began a b c x [] w (began_nothing b c [] v))

-- the next line is refused
pub ends_refused : RowLaws → (program : Program) (script rest : List ℕ) (journal : List Entry) (count : ℕ) (sink mid sink' : Option SinkTold) (end : Result ℕ Stop) → Applied program script journal rest count →
    Wrote sink mid (transcript journal) → IsRefused program journal rest count → Says (refusal_text count) 6 mid sink' end → RunsScript program script sink sink' journal end
ends_refused row program script rest journal count sink mid sink' (Ok status) a wrote why says = record {
  rest = rest;
  count = count;
  text = refusal_text count;
  applied = a;
  ends = inr (why, says.0, refl);
  wrote = row.whole sink mid sink' (transcript journal) (refusal_text count) wrote says.1;
}
ends_refused row program script rest journal count sink mid sink' (Err Unread) a wrote why says = says
ends_refused row program script rest journal count sink mid sink' (Err Cut) a wrote why says = record {
  rest = rest;
  count = count;
  applied = a;
  cut = in_text 6 (refusal_text count) mid (inr (why, refl, refl)) wrote says;
}
ends_refused row program script rest journal count sink mid sink' (Err Memory) a wrote why says = record {
  rest = rest;
  count = count;
  applied = a;
  wrote = began_only row sink mid sink' (transcript journal) wrote says;
}

-- memory ran out before a line was applied
pub ends_early : (program : Program) (script rest : List ℕ) (journal : List Entry) (count : ℕ) (sink sink' : Option SinkTold) → Applied program script journal rest count →
    Wrote sink sink' (transcript journal) → RunsScript program script sink sink' journal (Err Memory)
ends_early program script rest journal count sink sink' a wrote = record { rest = rest; count = count; applied = a; wrote = began_whole sink sink' (transcript journal) wrote }

-- a line of the world that the journal leaves
pub record Line (program : Program) (script rest more : List ℕ) (count : ℕ) (journal : List Entry) (line : Told) (world : Seen) : Type 0 where
  pub applied : Applied program script journal rest count
  pub parts : rest ≡ spelled line ++ more
  pub grammar : InGrammar line
  pub can : can_run line.event ≡ true
  pub few : count < most_lines
  pub is : world ≡ world_of program journal

gained : (program : Program) (laws : FollowingLaws program) (script rest more : List ℕ) (count : ℕ) (journal journal' : List Entry) (line : Told) (world world' : Seen) → Line program script rest more count journal line world → (g : Gained world world' journal journal' line) →
    Applied program script journal' more (count + 1)
gained program laws script rest more count journal journal' line world world' l g =
    rw (g.longer) (applied_more program laws script journal rest more count line g.entry world' l.applied l.parts l.grammar l.can l.few (subst (λ (w : Seen). Adds w world' line g.entry) l.is g.adds))

-- the line is refused
pub refused_line : (program : Program) (script rest more : List ℕ) (count : ℕ) (journal : List Entry) (line : Told) (world world' : Seen) (number : ℕ) → Line program script rest more count journal line world →
    Refuses world world' line number → IsRefused program journal rest count
refused_line program script rest more count journal line world world' number l r =
    illegal line more number l.grammar l.parts (subst (λ (w : Seen). first_failing (rules_of w.program) (first_of_program w.program) (reverse w.list) line ≡ Some number) l.is r.first)

-- the run stops at a line
pub ends_at : RowLaws → (program : Program) (laws : FollowingLaws program) (script rest more : List ℕ) (count : ℕ) (journal journal' : List Entry) (line : Told) (world world' : Seen) (sink mid sink' : Option SinkTold) (stop : Stop) → Line program script rest more count journal line world →
    Wrote sink mid (transcript journal) → AppliesLine world world' journal journal' mid sink' line (Err stop) → RunsScript program script sink sink' journal' (Err stop)
ends_at row program laws script rest more count journal journal' line world world' sink mid sink' Unread l wrote h = h
ends_at row program laws script rest more count journal journal' line world world' sink mid sink' Cut l wrote h = record {
  rest = more;
  count = count + 1;
  applied = gained program laws script rest more count journal journal' line world world' l h.0;
  cut = in_entry journal h.0.entry mid h.0.longer wrote h.1;
}
ends_at row program laws script rest more count journal journal' line world world' sink mid sink' Memory l wrote h = by_which h.0
  where
    by_which : (journal' ≡ journal) ⊎ Gained world world' journal journal' line → RanOut program script sink sink' journal'
    by_which (inl same) = rw same (record { rest = rest; count = count; applied = l.applied; wrote = began_only row sink mid sink' (transcript journal) wrote h.1 })
    by_which (inr g) =
        let longer : transcript journal' ≡ transcript journal ++ entry_text g.entry = rw (g.longer) (laws.written journal g.entry) in
        record {
          rest = more;
          count = count + 1;
          applied = gained program laws script rest more count journal journal' line world world' l g;
          wrote = rw longer (row.began sink mid sink' (transcript journal) (entry_text g.entry) wrote (began_nothing mid sink' (entry_text g.entry) h.1));
        }

-- the line was applied
pub record On (program : Program) (script more : List ℕ) (count : ℕ) (journal' : List Entry) (world' : Seen) (sink sink' : Option SinkTold) : Type 0 where
  pub applied : Applied program script journal' more (count + 1)
  pub wrote : Wrote sink sink' (transcript journal')
  pub world : world' ≡ world_of program journal'

pub goes_on : RowLaws → (program : Program) (laws : FollowingLaws program) (script rest more : List ℕ) (count : ℕ) (journal journal' : List Entry) (line : Told) (world world' : Seen) (sink mid sink' : Option SinkTold) → Line program script rest more count journal line world →
    Wrote sink mid (transcript journal) → AppliesLine world world' journal journal' mid sink' line (Ok true) → On program script more count journal' world' sink sink'
goes_on row program laws script rest more count journal journal' line world world' sink mid sink' l wrote h =
    let longer : transcript journal' ≡ transcript journal ++ entry_text h.0.entry = rw (h.0.longer) (laws.written journal h.0.entry) in
    record {
      applied = gained program laws script rest more count journal journal' line world world' l h.0;
      wrote = rw longer (row.whole sink mid sink' (transcript journal) (entry_text h.0.entry) wrote h.1);
      world = h.0.adds.is ∙ ap (λ (w : Seen). record { program = w.program; list = w.list ++ told h.0.entry ∷ []; spent = false }) l.is
          ∙ ap (λ (t : List Told). record { program = program; list = t; spent = false }) (sym (tolds-more journal h.0.entry) ∙ ap tolds (sym h.0.longer));
    }

-- ---- what the test for an empty rest says

pub not_empty : (xs : List ℕ) (b : Bool) → b ≡ (length xs == 0) → b ≡ false → xs ≢ []
not_empty xs b is full e = differ (sym full ∙ is ∙ ap (λ (ys : List ℕ). length ys == 0) e)
  where
    differ : false ≡ true → ⊥
    differ h = cc
