-- Counts and values: the card agrees with the rule, the 63 values are all different, and count and value are inverse.
use mathlib.Core.Path.{◌≡◌, ◌∙◌, refl, sym, ap}
use Prim.Native.Nat.{ℕ, ◌<◌}
use native.Mathlib.Omega.{arith}
use lib.Dec.{eqb, eqb→eq}
use lib.ListN.{get_or}
use Rattle.laws.specs.Steps.{after, steps_to}
use Rattle.laws.proofs.Table.{at, below_equal, below_less}
use Rattle.counter.specs.Step.{plain_step}
use Rattle.counter.specs.Count.{value_of, count_of, card}

-- The card agrees with the rule at every count.
pub card_agrees : (n : ℕ) → n < 63 → get_or card n 0 ≡ value_of n
unfolding card value_of after plain_step
card_agrees n h = eqb→eq (get_or card n 0) (value_of n) (at (λ n entry. eqb entry (value_of n)) card tt n h)

-- Count and value are each other's inverse.
pub count_of_value : (n : ℕ) → n < 63 → count_of (value_of n) ≡ n
unfolding value_of count_of after steps_to plain_step
count_of_value = below_equal 63 (λ n. count_of (value_of n)) (λ n. n) tt

pub value_of_count : (v : ℕ) → v < 0b111111 → value_of (count_of v) ≡ v
unfolding value_of count_of after steps_to plain_step
value_of_count = below_equal 63 (λ v. value_of (count_of v)) (λ v. v) tt

-- The 63 counts have values below 111111, and these values have counts up to 62.
pub value_below : (n : ℕ) → n < 63 → value_of n < 0b111111
unfolding value_of after plain_step
value_below = below_less 63 value_of (λ n. 63) tt

pub count_below_lem : (v : ℕ) → v < 0b111111 → count_of v < 63
unfolding count_of steps_to plain_step
count_below_lem = below_less 63 count_of (λ v. 63) tt

-- From 000000 the step passes 63 different values ..
pub values_differ : (m n : ℕ) → m < 63 → n < 63 → value_of m ≡ value_of n → m ≡ n
values_differ m n hm hn e = sym (count_of_value m hm) ∙ ap count_of e ∙ count_of_value n hn

-- .. and returns; ..
pub returns_at_63 : value_of 63 ≡ 0b000000
unfolding value_of after plain_step
returns_at_63 = refl

-- .. 111111 is not among them.
pub ones_missing : (n : ℕ) → n < 63 → value_of n ≡ 0b111111 → ⊥
ones_missing n h e = omega (arith, value_below n h)
