-- The order of limits is total, and only limits of one owner tie.
use Rattle.std.proofs.Common.{◌≡◌, ◌≤◌, true, false, refl, arith}
use Rattle.std.specs.Cmp.{IsTotalOrder}
use Rattle.std.specs.Ordering.{is_lt}
use Rattle.std.specs.declared.cmp.Ordering.{Ordering}
use Rattle.std.specs.declared.cmp.Ordering.TheVariants.{Less, Equal, Greater}
use Rattle.world_types.specs.declared.effects.Owner.{Owner}
use Rattle.std.proofs.lemmas.Cmp.{nat_cmp_total, then_total, on_total}
use Rattle.std.proofs.lemmas.Bool.Decides.{nat_tests}
use Rattle.timer_queue.specs.Limits.{Limit, expiry_order, kind_of, number_of, same_owner}

pub expiry_total : IsTotalOrder expiry_order
expiry_total = then_total (on_total (λ (l : Limit). l.0) nat_cmp_total) (then_total (on_total (λ (l : Limit). kind_of l.1) nat_cmp_total) (on_total (λ (l : Limit). number_of l.1) nat_cmp_total))

pub less_from_is_lt : (r : Ordering) → is_lt r ≡ true → r ≡ Less
less_from_is_lt Less h = refl
less_from_is_lt Equal h = absurd (grind arith)
less_from_is_lt Greater h = absurd (grind arith)

-- what expires before another doesn't expire after it
pub not_both : (a b : Limit) → is_lt (expiry_order a b) ≡ true → is_lt (expiry_order b a) ≡ false
not_both a b h = grind (arith, nat_tests)

-- of two limits of different owners one expires before the other
pub one_first : (a b : Limit) → same_owner b.1 a.1 ≡ false → is_lt (expiry_order a b) ≡ false → is_lt (expiry_order b a) ≡ true
one_first a b apart h = grind (arith, nat_tests)

-- what expires before another is due no later
pub time_le : (a b : Limit) → expiry_order a b ≡ Less → a.0 ≤ b.0
time_le a b less = grind (arith, nat_tests)

pub same_owner-flip : (a b : Owner) → same_owner a b ≡ same_owner b a
same_owner-flip a b = grind (arith, nat_tests)

pub same_owner-apart : (a b c : Owner) → same_owner a b ≡ true → same_owner b c ≡ false → same_owner a c ≡ false
same_owner-apart a b c same apart = grind (arith, nat_tests)
