-- The rounds end with all names that stand for what holds a lock or a semaphore, and with no others.
use Rattle.std.proofs.Common.{◌≡◌, ℕ, zero, suc, ◌+◌, ◌≤◌, ◌<◌, Bool, true, false, not, if◌then◌else◌, nat_eq, List, [], ◌∷◌, map, length, refl, sym, ap, ◌∙◌, subst, ◌⊎◌, inl, inr, arith}
use Rattle.std.specs.Str.{bytes_eq}
use Rattle.std.specs.Bool.{Decides}
use Rattle.std.specs.List.{list_any}
use Rattle.std.proofs.lemmas.Slice.Eq.{bytes_eq-Decides}
use Rattle.clu_tree.specs.declared.shape.Shape.{Shape}
use Rattle.clu_tree.specs.declared.shape.Shape.TheOpen as sf
use Rattle.clu_tree.specs.declared.shape.Shape.TheViews as sv
use Rattle.clu_tree.specs.declared.shape.Shape.TheFolds as fo
use Rattle.clu_tree.specs.declared.shape.Named.{Named, out-Named}
use Rattle.clu_tree.specs.declared.program.Program.{Program}
use Rattle.clu_typing.specs.Names.{is_among}
use Rattle.clu_typing.specs.Types.{holds_step, holds, shown, rounds, holding_in, meanings}
use Rattle.clu_typing.specs.Laws.{SendingLaw}
use Rattle.clu_typing.specs.Holding.{Meanings, Stands, HoldsAt, Holds}
use Rattle.clu_typing.proofs.Holding.{or_true, true_or, or_left, nat_yes, nat_no, in_part, part_is, told, at_roll, AreJustified, AreAll, holds_sound, holds_complete}

-- ---- more names say more

abbrev AreWithin : List (List ℕ) → List (List ℕ) → Type 0
AreWithin a b = (x : List ℕ) → is_among x a ≡ true → is_among x b ≡ true

module _ (a b : List (List ℕ)) (w : AreWithin a b) where
  abbrev SaysMore : Shape → Type 0
  SaysMore s = holds a s ≡ true → holds b s ≡ true

  abbrev SaysMoreIn : Named → Type 0
  SaysMoreIn f = SaysMore (out-Named f).shape

  abbrev Good : Type 0
  Good = (s : Shape) × SaysMore s

  abbrev GoodIn : Type 0
  GoodIn = (f : Named) × SaysMoreIn f

  abbrev below : sf.Shape-F Good GoodIn → sf.Shape-F Shape Named
  below = fo.map-Shape Good GoodIn Shape Named (λ (g : Good). g.0) (λ (g : GoodIn). g.0)

  abbrev parts : List GoodIn → List Named
  parts gs = map (λ (g : GoodIn). g.0) gs

  parts_more : (gs : List GoodIn) → list_any (λ f. f) (map (in_part a) (parts gs)) ≡ true → list_any (λ f. f) (map (in_part b) (parts gs)) ≡ true
  parts_more [] h = h
  parts_more (g ∷ gs) h = at (parts_more gs) (or_true (in_part a g.0) _ h)
    where
      at : (list_any (λ f. f) (map (in_part a) (parts gs)) ≡ true → list_any (λ f. f) (map (in_part b) (parts gs)) ≡ true) → (in_part a g.0 ≡ true) ⊎ (list_any (λ f. f) (map (in_part a) (parts gs)) ≡ true)
          → list_any (λ f. f) (map (in_part b) (parts (g ∷ gs))) ≡ true
      at rest (inl h) = or_left _ _ (part_is b g.0 ∙ g.1 (sym (part_is a g.0) ∙ h))
      at rest (inr h) = true_or _ _ (rest h)

  layer_more : (g : sf.Shape-F Good GoodIn) → holds_step a (told a (below g)) ≡ true → holds_step b (told b (below g)) ≡ true
  layer_more sf.Null h = h
  layer_more sf.Bool h = h
  layer_more sf.Int h = h
  layer_more sf.Char h = h
  layer_more sf.Str h = h
  layer_more sf.Lock h = h
  layer_more sf.Semaphore h = h
  layer_more sf.Cvt h = h
  layer_more sf.Rep h = h
  layer_more (sf.Name x) h = w x h
  layer_more (sf.Arr g) h = g.1 h
  layer_more (sf.Rec gs) h = parts_more gs h
  layer_more (sf.Oneof gs) h = parts_more gs h

  says_more : (s : Shape) → SaysMore s
  says_more = fo.ind-Shape SaysMore SaysMoreIn
      (λ x g is h. at_roll b x ∙ ap (λ z. holds_step b (told b z)) (sym is) ∙ layer_more g (ap (λ z. holds_step a (told a z)) is ∙ sym (at_roll a x) ∙ h))
      (λ x g is. subst SaysMore (ap (λ (z : sf.Named-F Shape Named). z.shape) (is ∙ sym (sv.out-roll-Named x))) g.shape.1)

  -- and show more, or the same
  abbrev Grows : List (List ℕ) → List (List ℕ) → Type 0
  Grows xs ys = (length xs ≤ length ys) × (length xs ≡ length ys → xs ≡ ys) × AreWithin xs ys

  grows_both : (x : List ℕ) (xs ys : List (List ℕ)) → Grows xs ys → Grows (x ∷ xs) (x ∷ ys)
  grows_both x xs ys h = (omega (arith, h.0), (λ e. ap (λ zs. x ∷ zs) (h.1 (omega (arith, e)))), λ y m. at y (or_true (bytes_eq y x) _ m))
    where
      at : (y : List ℕ) → (bytes_eq y x ≡ true) ⊎ (is_among y xs ≡ true) → is_among y (x ∷ ys) ≡ true
      at y (inl m) = or_left _ _ m
      at y (inr m) = true_or _ _ (h.2 y m)

  grows_more : (x : List ℕ) (xs ys : List (List ℕ)) → Grows xs ys → Grows xs (x ∷ ys)
  grows_more x xs ys h = (omega (arith, h.0), (λ e. absurd (omega (arith, h.0, e))), λ y m. true_or _ _ (h.2 y m))

  shown_grows : (ds : Meanings) → Grows (shown a ds) (shown b ds)
  shown_grows [] = (omega arith, (λ e. refl), λ y m. m)
  shown_grows (d ∷ ds) = at (holds a d.1) (holds b d.1) refl refl (shown_grows ds)
    where
      at : (p q : Bool) → holds a d.1 ≡ p → holds b d.1 ≡ q → Grows (shown a ds) (shown b ds) → Grows (if p then d.0 ∷ shown a ds else shown a ds) (if q then d.0 ∷ shown b ds else shown b ds)
      at true true e f rest = grows_both d.0 (shown a ds) (shown b ds) rest
      at true false e f rest = let k : true ≡ false = sym (says_more d.1 e) ∙ f in absurd cc
      at false true e f rest = grows_more d.0 (shown a ds) (shown b ds) rest
      at false false e f rest = rest

-- ---- rounds

shown_few : (a : List (List ℕ)) (ds : Meanings) → length (shown a ds) ≤ length ds
shown_few a [] = omega arith
shown_few a (d ∷ ds) = at (holds a d.1) (shown_few a ds)
  where
    at : (p : Bool) → length (shown a ds) ≤ length ds → length (if p then d.0 ∷ shown a ds else shown a ds) ≤ suc (length ds)
    at true rest = omega (arith, rest)
    at false rest = omega (arith, rest)

module _ (all : Meanings) where
  shown_justified : (a : List (List ℕ)) → AreJustified all a → (ds : Meanings) (x : List ℕ) → is_among x (shown a ds) ≡ true → (n : ℕ) × Stands (HoldsAt n all) x ds
  shown_justified a j [] x h = absurd cc
  shown_justified a j (d ∷ ds) x h = at (holds a d.1) refl h (shown_justified a j ds x)
    where
      named : (is_among x (shown a ds) ≡ true → (n : ℕ) × Stands (HoldsAt n all) x ds) → holds a d.1 ≡ true → (bytes_eq x d.0 ≡ true) ⊎ (is_among x (shown a ds) ≡ true) → (n : ℕ) × Stands (HoldsAt n all) x (d ∷ ds)
      named rest e (inl m) = let k = holds_sound all a j d.1 e in (k.0, inl (sym ((bytes_eq-Decides x d.0).0 m), k.1))
      named rest e (inr m) = let k = rest m in (k.0, inr k.1)

      at : (p : Bool) → holds a d.1 ≡ p → is_among x (if p then d.0 ∷ shown a ds else shown a ds) ≡ true → (is_among x (shown a ds) ≡ true → (n : ℕ) × Stands (HoldsAt n all) x ds) → (n : ℕ) × Stands (HoldsAt n all) x (d ∷ ds)
      at true e m rest = named rest e (or_true (bytes_eq x d.0) _ m)
      at false e m rest = let k = rest m in (k.0, inr k.1)

  shown_all : (a : List (List ℕ)) (ds : Meanings) (x : List ℕ) → Stands (λ t. holds a t ≡ true) x ds → is_among x (shown a ds) ≡ true
  shown_all a [] x h = elim h [ ]
  shown_all a (d ∷ ds) x (inl h) = at (holds a d.1) h.1
    where
      at : (p : Bool) → p ≡ true → is_among x (if p then d.0 ∷ shown a ds else shown a ds) ≡ true
      at true e = or_left _ _ ((bytes_eq-Decides x d.0).1 (sym h.0))
      at false e = absurd cc
  shown_all a (d ∷ ds) x (inr h) = at (holds a d.1) (shown_all a ds x h)
    where
      at : (p : Bool) → is_among x (shown a ds) ≡ true → is_among x (if p then d.0 ∷ shown a ds else shown a ds) ≡ true
      at true m = true_or _ _ m
      at false m = m

  -- what a round begins with: nothing, or what an earlier round showed of no more
  abbrev IsRound : List (List ℕ) → Type 0
  IsRound h = (h ≡ []) ⊎ ((a : List (List ℕ)) × (h ≡ shown a all) × AreWithin a h)

  abbrev Goes : List (List ℕ) → List (List ℕ) → Type 0
  Goes xs ys = (length xs ≤ length ys) × (length xs ≡ length ys → xs ≡ ys) × AreWithin xs ys

  from_none : (ys : List (List ℕ)) → Goes [] ys
  from_none [] = (omega arith, (λ e. refl), λ x m. m)
  from_none (y ∷ ys) = (omega arith, (λ e. absurd (omega (arith, e))), λ x m. absurd cc)

  goes : (h : List (List ℕ)) → IsRound h → Goes h (shown h all)
  goes h (inl e) = subst (λ z. Goes z (shown h all)) (sym e) (from_none (shown h all))
  goes h (inr r) = subst (λ z. Goes z (shown h all)) (sym r.1) (shown_grows r.0 h r.2 all)

  round_few : (h : List (List ℕ)) → IsRound h → length h ≤ length all
  round_few h (inl e) = subst (λ (z : List (List ℕ)). length z ≤ length all) (sym e) (omega arith)
  round_few h (inr r) = subst (λ (z : List (List ℕ)). length z ≤ length all) (sym r.1) (shown_few r.0 all)

  rounds_all : (n : ℕ) (h : List (List ℕ)) → IsRound h → length all < length h + n → AreAll all (rounds n all h)
  rounds_all zero h r l = absurd (omega (arith, l, round_few h r))
  rounds_all (suc n) h r l = at (nat_eq (length h) (length (shown h all))) refl (goes h r) (rounds_all n (shown h all))
    where
      at : (b : Bool) → nat_eq (length h) (length (shown h all)) ≡ b → Goes h (shown h all) → (IsRound (shown h all) → length all < length (shown h all) + n → AreAll all (rounds n all (shown h all)))
          → AreAll all (if b then h else rounds n all (shown h all))
      at true e g rest = λ x s. subst (λ zs. is_among x zs ≡ true) (sym (g.1 (nat_yes _ _ e))) (shown_all h all x s)
      at false e g rest = rest (inr (h, refl, g.2)) (omega (arith, g.0, l, nat_no _ _ e))

  rounds_justified : (n : ℕ) (h : List (List ℕ)) → AreJustified all h → AreJustified all (rounds n all h)
  rounds_justified zero h j = j
  rounds_justified (suc n) h j = at (nat_eq (length h) (length (shown h all))) (rounds_justified n (shown h all) (shown_justified h j all))
    where
      at : (b : Bool) → AreJustified all (rounds n all (shown h all)) → AreJustified all (if b then h else rounds n all (shown h all))
      at true rest = j
      at false rest = rest

  -- the names found in the end tell exactly which types hold a lock or a semaphore
  holding_exact : (t : Shape) → Decides (holds (holding_in all) t) (Holds all t)
  holding_exact t =
      let j : AreJustified all (holding_in all) = rounds_justified (suc (length all)) [] (λ x m. absurd cc) in
      let c : AreAll all (holding_in all) = rounds_all (suc (length all)) [] (inl refl) (omega arith) in
      (holds_sound all (holding_in all) j t, λ h. holds_complete all (holding_in all) c h.0 t h.1)

opposite : {P : Type 0} (b : Bool) → Decides b P → Decides (not b) (P → ⊥)
opposite true h = ((λ e. absurd cc), (λ k. elim (k (h.0 refl)) [ ]))
opposite false h = ((λ e x. let k : false ≡ true = h.1 x in absurd cc), (λ k. refl))

pub sending_law : (p : Program) (t : Shape) → SendingLaw p t
sending_law p t = opposite (holds (holding_in (meanings p.equates p.clusters)) t) (holding_exact (meanings p.equates p.clusters) t)
