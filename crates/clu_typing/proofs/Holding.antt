-- Round by round, exactly the names are found whose types hold a lock or a semaphore.
use Rattle.std.proofs.Common.{◌≡◌, ℕ, zero, suc, Bool, true, false, ◌||◌, nat_eq, List, [], ◌∷◌, map, refl, sym, ap, ◌∙◌, subst, ◌⊎◌, inl, inr, arith}
use Rattle.std.specs.List.{list_any}
use Rattle.clu_tree.specs.declared.shape.Shape.{Shape, out-Shape, roll-Shape}
use Rattle.clu_tree.specs.declared.shape.Shape.TheOpen as sf
use Rattle.clu_tree.specs.declared.shape.Shape.TheViews as sv
use Rattle.clu_tree.specs.declared.shape.Shape.TheFolds as fo
use Rattle.clu_tree.specs.declared.shape.Named.{Named, out-Named}
use Rattle.clu_typing.specs.Names.{is_among}
use Rattle.clu_typing.specs.Types.{holds_step, holds}
use Rattle.clu_typing.specs.Holding.{Meanings, Stands, SomePart, HoldsRule, HoldsAt, Holds}

pub or_true : (a b : Bool) → (a || b) ≡ true → (a ≡ true) ⊎ (b ≡ true)
or_true true b h = inl refl
or_true false b h = inr h

pub true_or : (a b : Bool) → b ≡ true → (a || b) ≡ true
true_or true b h = refl
true_or false b h = h

pub or_left : (a b : Bool) → a ≡ true → (a || b) ≡ true
or_left a b h = rw h refl

pub nat_yes : (i n : ℕ) → nat_eq i n ≡ true → i ≡ n
nat_yes i n h = search arith

pub nat_no : (i n : ℕ) → nat_eq i n ≡ false → i ≡ n → ⊥
nat_no i n h = search arith

-- ---- what the found names say of a type, level by level

module _ (found : List (List ℕ)) where
  abbrev pub in_part : Named → Bool
  in_part = fo.fold-Named Bool Bool (holds_step found) (λ f. f.shape)

  pub part_is : (f : Named) → in_part f ≡ holds found (out-Named f).shape
  part_is f = fo.fold_out-Named Bool Bool (holds_step found) (λ f. f.shape) f

  abbrev pub told : sf.Shape-F Shape Named → sf.Shape-F Bool Bool
  told = fo.map-Shape Shape Named Bool Bool (holds found) in_part

  pub at_out : (s : Shape) → holds found s ≡ holds_step found (told (out-Shape s))
  at_out s = fo.fold_out-Shape Bool Bool (holds_step found) (λ f. f.shape) s

  pub at_roll : (y : sf.Shape-F Shape Named) → holds found (roll-Shape y) ≡ holds_step found (told y)
  at_roll y = fo.fold-roll-Shape Bool Bool (holds_step found) (λ f. f.shape) y

-- ---- where each found name stands for such a type, what they say is so

module _ (all : Meanings) (found : List (List ℕ)) where
  abbrev pub AreJustified : Type 0
  AreJustified = (x : List ℕ) → is_among x found ≡ true → (n : ℕ) × Stands (HoldsAt n all) x all

  abbrev Tells : Shape → Type 0
  Tells s = holds found s ≡ true → Holds all s

  abbrev TellsIn : Named → Type 0
  TellsIn f = Tells (out-Named f).shape

  abbrev Good : Type 0
  Good = (s : Shape) × Tells s

  abbrev GoodIn : Type 0
  GoodIn = (f : Named) × TellsIn f

  abbrev below : sf.Shape-F Good GoodIn → sf.Shape-F Shape Named
  below = fo.map-Shape Good GoodIn Shape Named (λ (g : Good). g.0) (λ (g : GoodIn). g.0)

  made : (y : sf.Shape-F Shape Named) (n : ℕ) → HoldsRule all (HoldsAt n all) y → Holds all (roll-Shape y)
  made y n h = (suc n, subst (HoldsRule all (HoldsAt n all)) (sym (sv.out-roll-Shape y)) h)

  abbrev parts : List GoodIn → List Named
  parts gs = map (λ (g : GoodIn). g.0) gs

  part_tells : (gs : List GoodIn) → list_any (λ f. f) (map (in_part found) (parts gs)) ≡ true → (n : ℕ) × SomePart (HoldsAt n all) (parts gs)
  part_tells [] h = absurd cc
  part_tells (g ∷ gs) h = at (part_tells gs) (or_true (in_part found g.0) _ h)
    where
      at : (list_any (λ f. f) (map (in_part found) (parts gs)) ≡ true → (n : ℕ) × SomePart (HoldsAt n all) (parts gs)) → (in_part found g.0 ≡ true) ⊎ (list_any (λ f. f) (map (in_part found) (parts gs)) ≡ true) → (n : ℕ) × SomePart (HoldsAt n all) (parts (g ∷ gs))
      at rest (inl h) = let k = g.1 (sym (part_is found g.0) ∙ h) in (k.0, inl k.1)
      at rest (inr h) = let k = rest h in (k.0, inr k.1)

  layer_tells : AreJustified → (g : sf.Shape-F Good GoodIn) → holds_step found (told found (below g)) ≡ true → Holds all (roll-Shape (below g))
  layer_tells j sf.Null h = absurd cc
  layer_tells j sf.Bool h = absurd cc
  layer_tells j sf.Int h = absurd cc
  layer_tells j sf.Char h = absurd cc
  layer_tells j sf.Str h = absurd cc
  layer_tells j sf.Lock h = made sf.Lock 0 tt
  layer_tells j sf.Semaphore h = made sf.Semaphore 0 tt
  layer_tells j sf.Cvt h = absurd cc
  layer_tells j sf.Rep h = absurd cc
  layer_tells j (sf.Name x) h = let k = j x h in made (sf.Name x) k.0 k.1
  layer_tells j (sf.Arr g) h = let k = g.1 h in made (sf.Arr g.0) k.0 k.1
  layer_tells j (sf.Rec gs) h = let k = part_tells gs h in made (sf.Rec (parts gs)) k.0 k.1
  layer_tells j (sf.Oneof gs) h = let k = part_tells gs h in made (sf.Oneof (parts gs)) k.0 k.1

  pub holds_sound : AreJustified → (s : Shape) → Tells s
  holds_sound j = fo.ind-Shape Tells TellsIn
      (λ x g is h. subst (λ z. Holds all (roll-Shape z)) is (layer_tells j g (ap (λ z. holds_step found (told found z)) is ∙ sym (at_roll found x) ∙ h)))
      (λ x g is. subst Tells (ap (λ (z : sf.Named-F Shape Named). z.shape) (is ∙ sym (sv.out-roll-Named x))) g.shape.1)

  -- ---- where none is missing, they say all that is so

  abbrev pub AreAll : Type 0
  AreAll = (x : List ℕ) → Stands (λ t. holds found t ≡ true) x all → is_among x found ≡ true

  part_holds : (Is : Shape → Type 0) → ((s : Shape) → Is s → holds found s ≡ true) → (fs : List Named) → SomePart Is fs → list_any (λ f. f) (map (in_part found) fs) ≡ true
  part_holds Is k [] h = elim h [ ]
  part_holds Is k (f ∷ fs) (inl h) = or_left _ _ (part_is found f ∙ k _ h)
  part_holds Is k (f ∷ fs) (inr h) = true_or _ _ (part_holds Is k fs h)

  stands_alike : (Is Other : Shape → Type 0) → ((s : Shape) → Is s → Other s) → (x : List ℕ) (ds : Meanings) → Stands Is x ds → Stands Other x ds
  stands_alike Is Other k x [] h = h
  stands_alike Is Other k x (d ∷ ds) (inl h) = inl (h.0, k d.1 h.1)
  stands_alike Is Other k x (d ∷ ds) (inr h) = inr (stands_alike Is Other k x ds h)

  pub holds_complete : AreAll → (n : ℕ) (s : Shape) → HoldsAt n all s → holds found s ≡ true
  holds_complete c zero s h = elim h [ ]
  holds_complete c (suc n) s h = at_out found s ∙ layer (out-Shape s) (holds_complete c n) h
    where
      layer : (y : sf.Shape-F Shape Named) → ((t : Shape) → HoldsAt n all t → holds found t ≡ true) → HoldsRule all (HoldsAt n all) y → holds_step found (told found y) ≡ true
      layer sf.Null k h = elim h [ ]
      layer sf.Bool k h = elim h [ ]
      layer sf.Int k h = elim h [ ]
      layer sf.Char k h = elim h [ ]
      layer sf.Str k h = elim h [ ]
      layer sf.Lock k h = refl
      layer sf.Semaphore k h = refl
      layer sf.Cvt k h = elim h [ ]
      layer sf.Rep k h = elim h [ ]
      layer (sf.Name x) k h = c x (stands_alike (HoldsAt n all) (λ t. holds found t ≡ true) k x all h)
      layer (sf.Arr t) k h = k t h
      layer (sf.Rec fs) k h = part_holds _ k fs h
      layer (sf.Oneof fs) k h = part_holds _ k fs h
