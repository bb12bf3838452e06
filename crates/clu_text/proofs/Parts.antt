-- The parts behind a quote, found byte by byte.
use Rattle.std.proofs.Common.{◌≡◌, ◌≢◌, ℕ, suc, ◌+◌, ◌≤◌, ◌<◌, Bool, true, false, List, [], ◌∷◌, ◌++◌, length, Option, Some, None, refl, sym, ap, ◌∙◌, subst, get_or, take, drop, inl, inr, arith}
use Rattle.std.specs.Prelude.{◌==◌, if◌then◌else◌, is_some}
use Rattle.std.proofs.lemmas.Bool.{eq-eqb, ne_eqb, cases_Bool, cases_eq, cond-true, cond-false}
use Rattle.std.proofs.lemmas.List.{at_drop_more, at_drop_all, take-append-drop, length-take-le}
use Rattle.byte_classes.specs.Classes.{within}
use Rattle.clu_text.specs.Spelling.{escaped, HasParts, closed, plain, escape}
use Rattle.clu_text.specs.Front.{Closes}

-- so many bytes with so many parts
abbrev pub found : ℕ → ℕ → Option (ℕ × ℕ)
found n p = Some (n, p)

-- how many bytes and parts there are up to the quote that closes them, where so many stand before these bytes; the flag is true behind a `\`
unfoldable pub counted : ℕ → Bool → ℕ → ℕ → List ℕ → Option (ℕ × ℕ)
counted quote _ n p [] = None
counted quote true n p (b ∷ bytes) = if is_some (escaped b) then counted quote false (n + 1) (p + 1) bytes else None
counted quote false n p (b ∷ bytes) =
    if b == quote then found (n + 1) p else
    (if b == 92 then counted quote true (n + 1) p bytes else
    (if within 32 126 b then counted quote false (n + 1) (p + 1) bytes else None))

-- ---- steps

pub counted-none : (quote : ℕ) (e : Bool) (n p : ℕ) → counted quote e n p [] ≡ None
unfolding counted
counted-none quote e n p = refl

pub counted-escape : (quote n p b : ℕ) (bytes : List ℕ) → is_some (escaped b) ≡ true → counted quote true n p (b ∷ bytes) ≡ counted quote false (n + 1) (p + 1) bytes
unfolding counted
counted-escape quote n p b bytes h = cond-true _ _ _ h

pub counted-no_escape : (quote n p b : ℕ) (bytes : List ℕ) → is_some (escaped b) ≡ false → counted quote true n p (b ∷ bytes) ≡ None
unfolding counted
counted-no_escape quote n p b bytes h = cond-false _ _ _ h

pub counted-quote : (quote n p b : ℕ) (bytes : List ℕ) → b ≡ quote → counted quote false n p (b ∷ bytes) ≡ found (n + 1) p
unfolding counted
counted-quote quote n p b bytes h = cond-true _ _ _ (eq-eqb b quote h)

pub counted-backslash : (quote n p b : ℕ) (bytes : List ℕ) → b ≢ quote → b ≡ 92 → counted quote false n p (b ∷ bytes) ≡ counted quote true (n + 1) p bytes
unfolding counted
counted-backslash quote n p b bytes h k = cond-false _ _ _ (ne_eqb b quote h) ∙ cond-true _ _ _ (eq-eqb b 92 k)

pub counted-plain : (quote n p b : ℕ) (bytes : List ℕ) → b ≢ quote → b ≢ 92 → within 32 126 b ≡ true → counted quote false n p (b ∷ bytes) ≡ counted quote false (n + 1) (p + 1) bytes
unfolding counted
counted-plain quote n p b bytes h k r = cond-false _ _ _ (ne_eqb b quote h) ∙ (cond-false _ _ _ (ne_eqb b 92 k) ∙ cond-true _ _ _ r)

pub counted-other : (quote n p b : ℕ) (bytes : List ℕ) → b ≢ quote → b ≢ 92 → within 32 126 b ≡ false → counted quote false n p (b ∷ bytes) ≡ None
unfolding counted
counted-other quote n p b bytes h k r = cond-false _ _ _ (ne_eqb b quote h) ∙ (cond-false _ _ _ (ne_eqb b 92 k) ∙ cond-false _ _ _ r)

-- ---- parts that stand there are found

same_found : (n m p r : ℕ) → n ≡ m → p ≡ r → found n p ≡ found m r
same_found n m p r e f = ap (λ (x : ℕ). found x p) e ∙ ap (λ (x : ℕ). found m x) f

counted-parts : (quote n p : ℕ) (w content more : List ℕ) → quote ≢ 92 → HasParts quote w content →
    counted quote false n p (w ++ more) ≡ found (n + length w) (p + length content)
counted-parts quote n p _ _ more q closed = counted-quote quote n p quote more refl ∙ same_found _ _ _ _ (omega arith) (omega arith)
counted-parts quote n p _ _ more q (plain {b = b} {bytes = bytes} {content = content} r s t h) =
    counted-plain quote n p b (bytes ++ more) t s r ∙ (counted-parts quote (n + 1) (p + 1) bytes content more q h ∙ same_found _ _ _ _ (omega arith) (omega arith))
counted-parts quote n p _ _ more q (escape {b = b} {c = c} {bytes = bytes} {content = content} e h) =
    counted-backslash quote n p 92 (b ∷ bytes ++ more) (λ same. q (sym same)) refl ∙
    (counted-escape quote (n + 1) p b (bytes ++ more) (ap is_some e) ∙
    (counted-parts quote (n + 1 + 1) (p + 1) bytes content more q h ∙ same_found _ _ _ _ (omega arith) (omega arith)))

-- ---- what is found stands there

-- the bytes, with the `\` before them
behind : Bool → List ℕ → List ℕ
behind true w = 92 ∷ w
behind false w = w

record Found (quote : ℕ) (e : Bool) (n p : ℕ) (bytes : List ℕ) (m r : ℕ) : Type 0 where
  len : ℕ
  content : List ℕ
  has : HasParts quote (behind e (take len bytes)) content
  reach : m ≡ n + len
  count : r ≡ p + length content
  within : len ≤ length bytes

some_value : (o : Option ℕ) → is_some o ≡ true → (c : ℕ) × (o ≡ Some c)
some_value None h = absurd cc
some_value (Some c) h = (c, refl)

found_parts : (n m p r : ℕ) → found n p ≡ found m r → (n ≡ m) × (p ≡ r)
found_parts n m p r e =
    let same : ◌≡◌ {A = ℕ × ℕ} (n, p) (m, r) = cc in
    (ap (λ x. x.0) same, ap (λ x. x.1) same)

counted-found : (quote : ℕ) (e : Bool) (n p : ℕ) (bytes : List ℕ) (m r : ℕ) → counted quote e n p bytes ≡ found m r → Found quote e n p bytes m r
unfolding behind
counted-found quote e n p [] m r h = let none = counted-none quote e n p in absurd cc
counted-found quote true n p (b ∷ bytes) m r h =
    elim (cases_Bool (is_some (escaped b))) [
      | inl t ↦
          let ih = counted-found quote false (n + 1) (p + 1) bytes m r (sym (counted-escape quote n p b bytes t) ∙ h) in
          let value = some_value (escaped b) t in
          record {
            len = suc ih.len;
            content = value.0 ∷ ih.content;
            has = escape value.1 ih.has;
            reach = omega (arith, ih.reach);
            count = omega (arith, ih.count);
            within = omega (arith, ih.within);
          }
      | inr t ↦ let none = counted-no_escape quote n p b bytes t in absurd cc
    ]
counted-found quote false n p (b ∷ bytes) m r h =
    elim (cases_eq b quote) [
      | inl t ↦
          let same = found_parts (n + 1) m p r (sym (counted-quote quote n p b bytes t) ∙ h) in
          record {
            len = 1;
            content = [];
            has = subst (λ x. HasParts quote (x ∷ []) []) (sym t) closed;
            reach = sym same.0;
            count = omega (arith, same.1);
            within = omega arith;
          }
      | inr t ↦ elim (cases_eq b 92) [
        | inl s ↦
            let ih = counted-found quote true (n + 1) p bytes m r (sym (counted-backslash quote n p b bytes t s) ∙ h) in
            record {
              len = suc ih.len;
              content = ih.content;
              has = subst (λ x. HasParts quote (x ∷ take ih.len bytes) ih.content) (sym s) ih.has;
              reach = omega (arith, ih.reach);
              count = ih.count;
              within = omega (arith, ih.within);
            }
        | inr s ↦ elim (cases_Bool (within 32 126 b)) [
          | inl k ↦
              let ih = counted-found quote false (n + 1) (p + 1) bytes m r (sym (counted-plain quote n p b bytes t s k) ∙ h) in
              record {
                len = suc ih.len;
                content = b ∷ ih.content;
                has = plain k s t ih.has;
                reach = omega (arith, ih.reach);
                count = omega (arith, ih.count);
                within = omega (arith, ih.within);
              }
          | inr k ↦ let none = counted-other quote n p b bytes t s k in absurd cc
        ]
      ]
    ]

-- ---- the answers

pub none_closes : (quote : ℕ) (bytes : List ℕ) → quote ≢ 92 → counted quote false 0 0 bytes ≡ None → (n : ℕ) (content : List ℕ) → HasParts quote (take n bytes) content → ⊥
none_closes quote bytes q none n content h =
    let there = counted-parts quote 0 0 (take n bytes) content (drop n bytes) q h in
    let whole = ap (counted quote false 0 0) (take-append-drop n bytes) in
    absurd cc

pub found_closes : (quote : ℕ) (bytes : List ℕ) (m r : ℕ) → counted quote false 0 0 bytes ≡ found m r → Closes quote bytes (record { len = m; parts = r })
unfolding behind
found_closes quote bytes m r h =
    let f = counted-found quote false 0 0 bytes m r h in
    let len : m ≡ f.len = omega (arith, f.reach) in
    record {
      content = f.content;
      has = subst (λ n. HasParts quote (take n bytes) f.content) (sym len) f.has;
      size = omega (arith, f.count);
      within = omega (arith, f.within);
    }

-- ---- steps of the loop

-- what is found from a place on is what is found in all
abbrev pub Counting : ℕ → List ℕ → Bool → ℕ → ℕ → Type 0
Counting quote bytes e at parts = counted quote e at parts (drop at bytes) ≡ counted quote false 0 0 bytes

-- one step takes the count from here to there, or ends it
step : {A : Type 0} (F : List ℕ → A) (x : A) (bytes : List ℕ) (at : ℕ) → at < length bytes → F (get_or bytes at 0 ∷ drop (at + 1) bytes) ≡ x → F (drop at bytes) ≡ x
step F x bytes at lt e = at_drop_more F bytes at 0 lt ∙ e

pub after-escape : (quote : ℕ) (bytes : List ℕ) (e f : Bool) (at p r : ℕ) → at < length bytes → e ≡ true → f ≡ false → r ≡ p + 1 → is_some (escaped (get_or bytes at 0)) ≡ true →
    Counting quote bytes e at p → Counting quote bytes f (at + 1) r
after-escape quote bytes e f at p r lt is next more h same =
    let here : counted quote true at p (drop at bytes) ≡ counted quote false (at + 1) (p + 1) (drop (at + 1) bytes) =
    step (counted quote true at p) _ bytes at lt (counted-escape quote at p _ (drop (at + 1) bytes) h) in
    let before = ap (λ (x : Bool). counted quote x at p (drop at bytes)) is in
    let behind = ap (λ (x : Bool). counted quote x (at + 1) r (drop (at + 1) bytes)) next ∙ ap (λ (x : ℕ). counted quote false (at + 1) x (drop (at + 1) bytes)) more in
    cc

pub after-backslash : (quote : ℕ) (bytes : List ℕ) (e f : Bool) (at p r : ℕ) → at < length bytes → e ≡ false → f ≡ true → r ≡ p → (get_or bytes at 0 ≡ quote → ⊥) → get_or bytes at 0 ≡ 92 →
    Counting quote bytes e at p → Counting quote bytes f (at + 1) r
after-backslash quote bytes e f at p r lt is next more q h same =
    let here : counted quote false at p (drop at bytes) ≡ counted quote true (at + 1) p (drop (at + 1) bytes) =
    step (counted quote false at p) _ bytes at lt (counted-backslash quote at p _ (drop (at + 1) bytes) q h) in
    let before = ap (λ (x : Bool). counted quote x at p (drop at bytes)) is in
    let behind = ap (λ (x : Bool). counted quote x (at + 1) r (drop (at + 1) bytes)) next ∙ ap (λ (x : ℕ). counted quote true (at + 1) x (drop (at + 1) bytes)) more in
    cc

pub after-plain : (quote : ℕ) (bytes : List ℕ) (e f : Bool) (at p r : ℕ) → at < length bytes → e ≡ false → f ≡ e → r ≡ p + 1 → (get_or bytes at 0 ≡ quote → ⊥) → (get_or bytes at 0 ≡ 92 → ⊥) → within 32 126 (get_or bytes at 0) ≡ true →
    Counting quote bytes e at p → Counting quote bytes f (at + 1) r
after-plain quote bytes e f at p r lt is next more q k h same =
    let here : counted quote false at p (drop at bytes) ≡ counted quote false (at + 1) (p + 1) (drop (at + 1) bytes) =
    step (counted quote false at p) _ bytes at lt (counted-plain quote at p _ (drop (at + 1) bytes) q k h) in
    let before = ap (λ (x : Bool). counted quote x at p (drop at bytes)) is in
    let behind = ap (λ (x : Bool). counted quote x (at + 1) r (drop (at + 1) bytes)) (next ∙ is) ∙ ap (λ (x : ℕ). counted quote false (at + 1) x (drop (at + 1) bytes)) more in
    cc

pub none-escape : (quote : ℕ) (bytes : List ℕ) (e : Bool) (at p : ℕ) → at < length bytes → e ≡ true → is_some (escaped (get_or bytes at 0)) ≡ false → Counting quote bytes e at p → counted quote false 0 0 bytes ≡ None
none-escape quote bytes e at p lt is h same =
    let here : counted quote true at p (drop at bytes) ≡ None = step (counted quote true at p) _ bytes at lt (counted-no_escape quote at p _ (drop (at + 1) bytes) h) in
    let before = ap (λ (x : Bool). counted quote x at p (drop at bytes)) is in
    cc

pub none-other : (quote : ℕ) (bytes : List ℕ) (e : Bool) (at p : ℕ) → at < length bytes → e ≡ false → (get_or bytes at 0 ≡ quote → ⊥) → (get_or bytes at 0 ≡ 92 → ⊥) → within 32 126 (get_or bytes at 0) ≡ false →
    Counting quote bytes e at p → counted quote false 0 0 bytes ≡ None
none-other quote bytes e at p lt is q k h same =
    let here : counted quote false at p (drop at bytes) ≡ None = step (counted quote false at p) _ bytes at lt (counted-other quote at p _ (drop (at + 1) bytes) q k h) in
    let before = ap (λ (x : Bool). counted quote x at p (drop at bytes)) is in
    cc

pub none-end : (quote : ℕ) (bytes : List ℕ) (e : Bool) (at p : ℕ) → length bytes ≤ at → Counting quote bytes e at p → counted quote false 0 0 bytes ≡ None
none-end quote bytes e at p past same = sym same ∙ (at_drop_all (counted quote e at p) bytes at past ∙ counted-none quote e at p)

pub found-quote : (quote : ℕ) (bytes : List ℕ) (e : Bool) (at p : ℕ) → at < length bytes → e ≡ false → get_or bytes at 0 ≡ quote → Counting quote bytes e at p → counted quote false 0 0 bytes ≡ found (at + 1) p
found-quote quote bytes e at p lt is h same =
    let here : counted quote false at p (drop at bytes) ≡ found (at + 1) p = step (counted quote false at p) _ bytes at lt (counted-quote quote at p _ (drop (at + 1) bytes) h) in
    let before = ap (λ (x : Bool). counted quote x at p (drop at bytes)) is in
    cc

-- parts close at one place
pub one_close : (quote : ℕ) (bytes : List ℕ) (n m : ℕ) (c d : List ℕ) → quote ≢ 92 → n ≤ length bytes → m ≤ length bytes →
    HasParts quote (take n bytes) c → HasParts quote (take m bytes) d → (n ≡ m) × (length c ≡ length d)
one_close quote bytes n m c d q in' within h k =
    let here = counted-parts quote 0 0 (take n bytes) c (drop n bytes) q h in
    let there = counted-parts quote 0 0 (take m bytes) d (drop m bytes) q k in
    let one = ap (counted quote false 0 0) (take-append-drop n bytes) in
    let two = ap (counted quote false 0 0) (take-append-drop m bytes) in
    let same = found_parts (0 + length (take n bytes)) (0 + length (take m bytes)) (0 + length c) (0 + length d) (cc) in
    let size = length-take-le n bytes in' in
    let other = length-take-le m bytes within in
    (omega arith, omega (arith, same.1))
