-- The limits of a node with one process.
use Rattle.std.proofs.Common.{◌≡◌, ◌≤◌, ◌<◌, ℕ, false, nat_le, List, [], ◌∷◌, ◌++◌, Option, Some, None, refl, sym, ◌∙◌, ap, arith, append_assoc, append-nil}
use Rattle.std.specs.Prelude.{All}
use Rattle.std.proofs.lemmas.Bool.{le-leb, leb-true}
use Rattle.std.proofs.lemmas.List.Elements.{All-head, All-tail}
use Rattle.world_types.specs.Limits.{Limit}
use Rattle.world_types.specs.declared.effects.Effects.{Effects}
use Rattle.world_types.specs.declared.effects.Mark.{Mark}
use Rattle.world_types.specs.declared.effects.Mark.TheVariants as mark
use Rattle.world_rules.specs.Plain.{nothing}
use Rattle.node_core.specs.Expiry.{after, by, expired_marks, expiry_of}
use Rattle.node_core.specs.Seen.{own_limit, queue_of}
use Rattle.node_core.proofs.Acts.{by_test}

-- ---- after a turn

pub own_queue : (asleep : Option ℕ) → own_limit (queue_of asleep) ≡ asleep
own_queue None = refl
own_queue (Some l) = refl

-- ---- the limits that expire, one by one

pub next_by : (t : ℕ) (l : Limit) (queue : List Limit) → l.0 ≤ t → by t (l ∷ queue) ≡ l ∷ by t queue
next_by t l queue h = rw (le-leb l.0 t h) refl

pub next_after : (t : ℕ) (l : Limit) (queue : List Limit) → l.0 ≤ t → after t (l ∷ queue) ≡ after t queue
next_after t l queue h = rw (le-leb l.0 t h) refl

later : (t : ℕ) (l : Limit) → t < l.0 → nat_le l.0 t ≡ false
later t l h = by_test (nat_le l.0 t) (λ e. absurd (omega (arith, leb-true l.0 t e))) (λ e. e)

pub none_by : (t : ℕ) (queue : List Limit) → All (λ (l : Limit). t < l.0) queue → by t queue ≡ []
none_by t [] h = refl
none_by t (l ∷ queue) h = rw (later t l (All-head (λ (l : Limit). t < l.0) l queue h), none_by t queue (All-tail (λ (l : Limit). t < l.0) l queue h)) refl

pub all_after : (t : ℕ) (queue : List Limit) → All (λ (l : Limit). t < l.0) queue → after t queue ≡ queue
all_after t [] h = refl
all_after t (l ∷ queue) h = rw (later t l (All-head (λ (l : Limit). t < l.0) l queue h), all_after t queue (All-tail (λ (l : Limit). t < l.0) l queue h)) refl

-- what expired so far, of the limits at first, and what is left of them
pub record Gone (t : ℕ) (first now : List Limit) (effects : Effects) : Type 0 where
  pub left : after t now ≡ after t first
  pub noted : effects.marks ++ expired_marks (by t now) ≡ expired_marks (by t first)
  pub bare : effects ≡ record nothing { marks = effects.marks }

pub gone_more : (t : ℕ) (l : Limit) (first now rest : List Limit) (effects : Effects) (marks : List Mark) → Gone t first now effects → now ≡ l ∷ rest → l.0 ≤ t → marks ≡ effects.marks ++ mark.Expired l.1 ∷ [] →
    Gone t first rest (record effects { marks = marks })
gone_more t l first now rest effects marks g next early added = record {
  left = sym (next_after t l rest early) ∙ ap (after t) (sym next) ∙ g.left;
  noted = ap (λ (ms : List Mark). ms ++ expired_marks (by t rest)) added
      ∙ append_assoc effects.marks (mark.Expired l.1 ∷ []) (expired_marks (by t rest))
      ∙ ap (λ (ls : List Limit). effects.marks ++ expired_marks ls) (sym (next_by t l rest early) ∙ ap (by t) (sym next))
      ∙ g.noted;
  bare = ap (λ (x : Effects). record x { marks = marks }) g.bare;
}

pub gone_all : (t : ℕ) (first now : List Limit) (effects : Effects) → Gone t first now effects → All (λ (l : Limit). t < l.0) now → (now ≡ after t first) × (effects ≡ expiry_of t first)
gone_all t first now effects g none = (
  sym (all_after t now none) ∙ g.left,
  g.bare ∙ ap (λ (ms : List Mark). record nothing { marks = ms }) (sym (append-nil effects.marks) ∙ ap (λ (ls : List Limit). effects.marks ++ expired_marks ls) (sym (none_by t now none)) ∙ g.noted),
)
