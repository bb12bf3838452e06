-- One put after another.
use Rattle.std.proofs.Common.{ℕ, ◌+◌, List, [], ◌++◌, length, Option, Some, None, sym, ap, ◌∙◌, arith, append_assoc, length-append, append-nil}
use Rattle.outside_edge.specs.Told.{Tells}
use Rattle.outside_edge.specs.Sink.{SinkTold, Falls, Exceeds, TakesPart, Wrote, CutShort, Began}

-- what a step says, said more weakly
Tells-map : {M : Type 0} (P Q : M → M → Type 0) (old new : Option M) → ((before after : M) → P before after → Q before after) → Tells old new P → Tells old new Q
Tells-map P Q old None f t = tt
Tells-map P Q None (Some after) f t = absurd t
Tells-map P Q (Some before) (Some after) f t = f before after t

-- a room falls by nothing and stays
Falls-zero : (r : Option ℕ) → Falls r r 0
Falls-zero None = tt
Falls-zero (Some r) = omega arith

-- a room falls by one number and then by another
Falls-add : (r s t : Option ℕ) (m n : ℕ) → Falls r s m → Falls s t n → Falls r t (m + n)
Falls-add None None None m n a b = tt
Falls-add None None (Some t) m n a b = b
Falls-add None (Some s) t m n a b = absurd a
Falls-add (Some r) None t m n a b = absurd a
Falls-add (Some r) (Some s) None m n a b = b
Falls-add (Some r) (Some s) (Some t) m n a b = omega arith

-- what is more than the room that is left was more with what was taken before
Exceeds-add : (r s : Option ℕ) (m n : ℕ) → Falls r s m → Exceeds s n → Exceeds r (m + n)
Exceeds-add None None m n a b = b
Exceeds-add None (Some s) m n a b = absurd a
Exceeds-add (Some r) None m n a b = absurd a
Exceeds-add (Some r) (Some s) m n a b = omega arith

-- nothing was written
pub Wrote-nothing : (o : Option SinkTold) → Wrote o o []
Wrote-nothing None = record { tells = tt }
Wrote-nothing (Some b) = record { tells = record { taken = sym (append-nil b.taken); room = Falls-zero b.room } }

-- one text behind another
pub Wrote-append : (a b c : Option SinkTold) (x y : List ℕ) → Wrote a b x → Wrote b c y → Wrote a c (x ++ y)
Wrote-append a b None x y w v = record { tells = tt }
Wrote-append a None (Some c) x y w v = absurd v.tells
Wrote-append None (Some b) (Some c) x y w v = absurd w.tells
Wrote-append (Some a) (Some b) (Some c) x y w v = record {
  tells = record {
    taken = v.tells.taken ∙ ap (λ t. t ++ y) w.tells.taken ∙ append_assoc a.taken x y;
    room = rw (length-append x y) (Falls-add a.room b.room c.room (length x) (length y) w.tells.room v.tells.room);
  };
}

-- a text, and then one that is cut short
pub CutShort-append : (a b c : Option SinkTold) (x y : List ℕ) → Wrote a b x → CutShort b c y → CutShort a c (x ++ y)
CutShort-append a b None x y w v = record { tells = tt }
CutShort-append a None (Some c) x y w v = absurd v.tells
CutShort-append None (Some b) (Some c) x y w v = absurd w.tells
CutShort-append (Some a) (Some b) (Some c) x y w v = record {
  tells = record {
    part = x ++ v.tells.part;
    rest = v.tells.rest;
    whole = ap (λ t. x ++ t) v.tells.whole ∙ sym (append_assoc x v.tells.part v.tells.rest);
    taken = v.tells.taken ∙ ap (λ t. t ++ v.tells.part) w.tells.taken ∙ append_assoc a.taken x v.tells.part;
    room = rw (length-append x v.tells.part) (Falls-add a.room b.room c.room (length x) (length v.tells.part) w.tells.room v.tells.room);
    more = rw (length-append x y) (Exceeds-add a.room b.room (length x) (length y) w.tells.room v.tells.more);
  };
}

-- a text, and then a beginning of the next
pub Began-append : (a b c : Option SinkTold) (x y : List ℕ) → Wrote a b x → Began b c y → Began a c (x ++ y)
Began-append a b c x y w v = record {
  part = x ++ v.part;
  rest = v.rest;
  whole = ap (λ t. x ++ t) v.whole ∙ sym (append_assoc x v.part v.rest);
  wrote = Wrote-append a b c x v.part w v.wrote;
}

-- a text that was cut short is more than the room
pub CutShort-exceeds : (a c : Option SinkTold) (x : List ℕ) → CutShort a c x → Tells a c (λ before after. Exceeds before.room (length x))
CutShort-exceeds a c x w = Tells-map (TakesPart x) (λ before after. Exceeds before.room (length x)) a c (λ before after takes. takes.more) w.tells
