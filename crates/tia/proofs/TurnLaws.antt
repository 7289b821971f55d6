-- Turning by integers: the remainder modulo 160 of a sum, and of a signed motion value.
use mathlib.Core.Path.{◌≡◌, ◌∙◌, sym, ap}
use Prim.Native.Nat.{ℕ, suc, ◌+◌, ◌-◌, ◌%◌, ◌<◌}
use native.Mathlib.Omega.{arith}
use lib.IntN.{ℤ, pos, negsuc, sub_ℕ, ◌+ℤ◌}
use Rattle.std.proofs.lemmas.Bool.Decides.{nat_tests}
use Rattle.tia.specs.Signed.{signed, mod160}
use Rattle.tia.specs.Demand3.{turned}
use Rattle.tia.proofs.MotionLaws.{end_slot, compare_is_remainder}

-- A position turned by nothing, and once around.
pub not_turned : {p : ℕ} → p < 160 → p ≡ (p + 0) % 160
not_turned h = omega arith

pub once_around : {p : ℕ} → p < 160 → (p + 160) % 160 ≡ p
once_around h = omega arith

-- The remainder is below 160.
pub mod_below : (z : ℤ) → mod160 z < 160
unfolding mod160
mod_below (pos n) = omega arith
mod_below (negsuc n) = omega arith

-- The remainder of a difference of two numbers.
difference : (a b : ℕ) → mod160 (sub_ℕ a (suc b)) ≡ (a % 160 + (159 - b % 160)) % 160
unfolding mod160
difference a b = grind (arith, nat_tests)

-- The remainder of a sum.
pub mod_add : (a b : ℤ) → mod160 (a +ℤ b) ≡ (mod160 a + mod160 b) % 160
unfolding mod160
mod_add (pos a) (pos b) = omega arith
mod_add (pos a) (negsuc b) = difference a b
mod_add (negsuc a) (pos b) = difference b a ∙ omega arith
mod_add (negsuc a) (negsuc b) = omega arith

-- Turning by a sum adds its remainder, ..
pub turned_by : (p : ℕ) (z : ℤ) → turned p z ≡ (p + mod160 z) % 160
unfolding mod160
turned_by p z = mod_add (pos p) z ∙ reduced (mod160 z)
  where
    reduced : (n : ℕ) → (p % 160 + n) % 160 ≡ (p + n) % 160
    reduced n = omega arith

-- .. and one sum after another is their sum.
pub turned_twice : (p : ℕ) (a b : ℤ) → turned (turned p a) b ≡ turned p (a +ℤ b)
turned_twice p a b =
    turned_by (turned p a) b
    ∙ rw (turned_by p a) (omega (arith, mod_add a b)) ∙ sym (turned_by p (a +ℤ b))

-- A move adds the slot that ends it and the 152 pulses of a line with a late blank.
pub turned_signed : (p m : ℕ) → turned p (signed m) ≡ (p + end_slot m + 152) % 160
unfolding mod160
turned_signed p m =
    turned_by p (signed m)
    ∙ summed (mod160 (signed m)) (mod_below (signed m)) (ap mod160 (sym (compare_is_remainder m)) ∙ mod_add (pos 8) (signed m))
  where
    summed : (n : ℕ) → n < 160 → end_slot m % 160 ≡ (8 % 160 + n) % 160 → (p + n) % 160 ≡ (p + end_slot m + 152) % 160
    summed n below e = omega arith
