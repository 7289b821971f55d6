-- The step rule in arithmetic: what the code computes in each of its branches.
use mathlib.Core.Path.{◌≡◌, ◌∙◌, refl}
use mathlib.Core.Bool.{cond}
use Prim.Native.Nat.{ℕ, ◌+◌, ◌/◌, ◌%◌, ◌<◌, ◌≤◌}
use native.Mathlib.Omega.{arith}
use borrow.Author.Tests.{eq-eqb, ne_eqb}
use lib.Dec.{eqb}
use Rattle.laws.proofs.Table.{below_equal}
use Rattle.counter.specs.Step.{bits_of, number_of, plain_step, wrap_step}

-- A number below 64 is the number of its bit string.
pub number_of_bits : (v : ℕ) → v < 64 → number_of (bits_of v) ≡ v
number_of_bits = below_equal 64 (λ v. number_of (bits_of v)) (λ v. v) tt

-- Without the wrap 111111 steps to itself.
pub ones_stay : plain_step 0b111111 ≡ 0b111111
unfolding plain_step
ones_stay = refl

-- The plain step in arithmetic, by one computed test over the 64 values.
plain_is_halved : (v : ℕ) → v < 64 → plain_step v ≡ cond (eqb (v % 2) (v / 2 % 2)) (0b100000 + v / 2) (v / 2)
unfolding plain_step
plain_is_halved = below_equal 64 plain_step (λ v. cond (eqb (v % 2) (v / 2 % 2)) (0b100000 + v / 2) (v / 2)) tt

-- The two rightmost bits are equal: the new leftmost bit is 1.
pub leftmost_one : (v : ℕ) → v ≤ 63 → v % 2 ≡ v / 2 % 2 → plain_step v ≡ 0b100000 + v / 2
leftmost_one v h e = plain_is_halved v (omega arith) ∙ rw (eq-eqb (v % 2) (v / 2 % 2) e)

-- They differ: it is 0.
pub leftmost_zero : (v : ℕ) → v ≤ 63 → (v % 2 ≡ v / 2 % 2 → ⊥) → plain_step v ≡ v / 2
leftmost_zero v h ne = plain_is_halved v (omega arith) ∙ rw (ne_eqb (v % 2) (v / 2 % 2) ne)

-- From the wrap value the step gives 000000, ..
pub from_wrap : (wrap v : ℕ) → v ≡ wrap → wrap_step wrap v ≡ 0b000000
unfolding wrap_step
from_wrap wrap v e = rw (eq-eqb v wrap e)

-- .. from another value that is 111111 too, ..
pub from_ones : (wrap v : ℕ) → (v ≡ wrap → ⊥) → v ≡ 0b111111 → wrap_step wrap v ≡ 0b000000
unfolding wrap_step
from_ones wrap v ne e = rw (ne_eqb v wrap ne, eq-eqb v 0b111111 e)

-- .. and from every other value the plain step.
pub from_other : (wrap v : ℕ) → (v ≡ wrap → ⊥) → (v ≡ 0b111111 → ⊥) → wrap_step wrap v ≡ plain_step v
unfolding wrap_step
from_other wrap v ne ne-ones = rw (ne_eqb v wrap ne, ne_eqb v 0b111111 ne-ones)
