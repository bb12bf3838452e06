-- Quotients and remainders.
use Rattle.std.proofs.Common.{arith, ◌≡◌, ◌≢◌, ℕ, zero, suc, ◌+◌, ◌-◌, ◌*◌, ◌/◌, ◌%◌, ◌<◌, ℤ, pos, negsuc, neg_ℤ, ◌+ℤ◌, ◌*ℤ◌, refl, sym, ap, ◌∙◌}
use Rattle.std.proofs.lemmas.Int.{ints}
use Rattle.std.proofs.lemmas.Nat.{div-add-mod', div-mul-add, mod-mul-add}
use Rattle.std.specs.Int.{int_div_euclid, int_rem_euclid}
use Rattle.clu_ops.specs.Ints.{IsDivision}

-- ---- the equation, for each pair of signs

both_above : (q b r a : ℕ) → q * b + r ≡ a → pos q *ℤ pos b +ℤ pos r ≡ pos a
both_above q b r a e = omega (arith, ints)

divisor_below : (q b r a : ℕ) → q * suc b + r ≡ a → neg_ℤ (pos q) *ℤ negsuc b +ℤ pos r ≡ pos a
divisor_below zero b r a e = omega (arith, ints)
divisor_below (suc q) b r a e = omega (arith, ints)

dividend_below : (q b m a : ℕ) → q * suc b + m ≡ a → m < suc b → negsuc q *ℤ pos (suc b) +ℤ pos (suc b - 1 - m) ≡ negsuc a
dividend_below q b m a e h = omega (arith, ints)

both_below : (q b m a : ℕ) → q * suc b + m ≡ a → m < suc b → pos (suc q) *ℤ negsuc b +ℤ pos (suc b - 1 - m) ≡ negsuc a
both_below q b m a e h = omega (arith, ints)

-- the quotient and the remainder are what the equation asks
pub is_division : (x y : ℤ) → y ≢ pos 0 → IsDivision x y (int_div_euclid x y) (int_rem_euclid x y)
is_division x (pos zero) n = absurd (n refl)
is_division (pos a) (pos (suc b)) n = record { sum = both_above (a / suc b) (suc b) (a % suc b) a (div-add-mod' a (suc b)); least = omega (arith, ints); below = omega (arith, ints) }
is_division (pos a) (negsuc b) n = record { sum = divisor_below (a / suc b) b (a % suc b) a (div-add-mod' a (suc b)); least = omega (arith, ints); below = omega (arith, ints) }
is_division (negsuc a) (pos (suc b)) n = record { sum = dividend_below (a / suc b) b (a % suc b) a (div-add-mod' a (suc b)) (omega arith); least = omega (arith, ints); below = omega (arith, ints) }
is_division (negsuc a) (negsuc b) n = record { sum = both_below (a / suc b) b (a % suc b) a (div-add-mod' a (suc b)) (omega arith); least = omega (arith, ints); below = omega (arith, ints) }

-- ---- nothing else is

parts : (k w m a : ℕ) → k * w + m ≡ a → m < w → (k ≡ a / w) × (m ≡ a % w)
parts k w m a e h = (sym (ap (λ n. n / w) (sym e) ∙ div-mul-add k w m h), sym (ap (λ n. n % w) (sym e) ∙ mod-mul-add k w m h))

-- the remainder is what the quotient leaves of the divisor
rest_parts : (k w m a : ℕ) → a + 1 + m ≡ k * w + w → m < w → (k ≡ a / w) × (m ≡ w - 1 - a % w)
rest_parts k w m a e h = let p = parts k w (w - 1 - m) a (omega arith) (omega arith) in (p.0, omega (arith, p.1))

pub is_alone : (x y q r : ℤ) → IsDivision x y q r → (q ≡ int_div_euclid x y) × (r ≡ int_rem_euclid x y)
is_alone x y q (negsuc m) h = absurd h.least.le
is_alone (pos a) (pos b) (pos k) (pos m) h =
    let p = parts k b m a (omega (arith, ints, h.sum)) (omega (arith, ints, h.below)) in (ap pos p.0, ap pos p.1)
is_alone (pos a) (pos zero) (negsuc k) (pos m) h = absurd (omega (arith, ints, h.below))
is_alone (pos a) (pos (suc b)) (negsuc k) (pos m) h = absurd (omega (arith, ints, h.sum, h.below))
is_alone (negsuc a) (pos b) (pos k) (pos m) h = absurd (omega (arith, ints, h.sum))
is_alone (negsuc a) (pos zero) (negsuc k) (pos m) h = absurd (omega (arith, ints, h.below))
is_alone (negsuc a) (pos (suc b)) (negsuc k) (pos m) h =
    let p = rest_parts k (suc b) m a (omega (arith, ints, h.sum)) (omega (arith, ints, h.below)) in (ap negsuc p.0, ap pos p.1)
is_alone (pos a) (negsuc b) (pos zero) (pos m) h =
    let p = parts 0 (suc b) m a (omega (arith, ints, h.sum)) (omega (arith, ints, h.below)) in (ap (λ n. neg_ℤ (pos n)) p.0, ap pos p.1)
is_alone (pos a) (negsuc b) (pos (suc k)) (pos m) h = absurd (omega (arith, ints, h.sum, h.below))
is_alone (pos a) (negsuc b) (negsuc k) (pos m) h =
    let p = parts (suc k) (suc b) m a (omega (arith, ints, h.sum)) (omega (arith, ints, h.below)) in (ap (λ n. neg_ℤ (pos n)) p.0, ap pos p.1)
is_alone (negsuc a) (negsuc b) (pos zero) (pos m) h = absurd (omega (arith, ints, h.sum))
is_alone (negsuc a) (negsuc b) (pos (suc k)) (pos m) h =
    let p = rest_parts k (suc b) m a (omega (arith, ints, h.sum)) (omega (arith, ints, h.below)) in (ap (λ n. pos (suc n)) p.0, ap pos p.1)
is_alone (negsuc a) (negsuc b) (negsuc k) (pos m) h = absurd (omega (arith, ints, h.sum))
