-- The two kinds: the counts they use, their period, and 000000 met from every value.
use mathlib.Core.Path.{◌≡◌, ◌∙◌, refl, sym}
use Prim.Native.Nat.{ℕ, ◌-◌, ◌<◌, ◌≤◌}
use native.Mathlib.Omega.{arith}
use Rattle.laws.specs.Steps.{after, steps_to}
use Rattle.laws.proofs.Table.{below_equal, below_less}
use Rattle.counter.specs.Step.{plain_step, wrap_step}
use Rattle.counter.specs.Count.{value_of}
use Rattle.counter.specs.Kind.{Kind, horizontal, position, period_of, wrap_of, power_up_of, step_of}
use Rattle.counter.proofs.CountLaws.{values_differ}

-- A kind's counter after n steps from power-up.
abbrev pub counter_at : Kind → ℕ → ℕ
counter_at k n = after (step_of k) n (power_up_of k)

-- Counts used: the first PERIOD values of the card, in its order.
pub counts_used : (k : Kind) (n : ℕ) → n < period_of k → counter_at k n ≡ value_of n
unfolding value_of after plain_step wrap_step
counts_used horizontal = below_equal (period_of horizontal) (counter_at horizontal) value_of tt
counts_used position = below_equal (period_of position) (counter_at position) value_of tt

-- A step from one of the 64 values gives one of them.
pub step_stays : (k : Kind) (v : ℕ) → v < 64 → step_of k v < 64
unfolding plain_step wrap_step
step_stays horizontal = below_less 64 (step_of horizontal) (λ v. 64) tt
step_stays position = below_less 64 (step_of position) (λ v. 64) tt

-- WRAP is the value of count PERIOD - 1.
pub wrap_is_last : (k : Kind) → wrap_of k ≡ value_of (period_of k - 1)
unfolding value_of after plain_step
wrap_is_last horizontal = refl
wrap_is_last position = refl

-- From power-up the step returns after PERIOD steps ..
pub returns_after_period : (k : Kind) → counter_at k (period_of k) ≡ power_up_of k
unfolding after plain_step wrap_step
returns_after_period horizontal = refl
returns_after_period position = refl

period_short : (k : Kind) → period_of k ≤ 63
period_short horizontal = omega arith
period_short position = omega arith

-- .. and after no fewer.
pub returns_not_before : (k : Kind) (n : ℕ) → 0 < n → n < period_of k → counter_at k n ≡ power_up_of k → ⊥
unfolding value_of after
returns_not_before k n l h e =
    omega (arith, values_differ n 0 (omega (arith, period_short k)) (omega arith) (sym (counts_used k n h) ∙ e))

-- The number of steps of a kind from a value to 000000.
steps_to_zero : Kind → ℕ → ℕ
steps_to_zero k v = steps_to (step_of k) 0b000000 63 v

few_steps : (k : Kind) (v : ℕ) → v < 64 → steps_to_zero k v < period_of k
unfolding steps_to_zero steps_to plain_step wrap_step
few_steps horizontal = below_less 64 (steps_to_zero horizontal) (λ v. period_of horizontal) tt
few_steps position = below_less 64 (steps_to_zero position) (λ v. period_of position) tt

meets_zero : (k : Kind) (v : ℕ) → v < 64 → after (step_of k) (steps_to_zero k v) v ≡ 0b000000
unfolding steps_to_zero after steps_to plain_step wrap_step
meets_zero horizontal = below_equal 64 (λ v. after (step_of horizontal) (steps_to_zero horizontal v) v) (λ v. 0) tt
meets_zero position = below_equal 64 (λ v. after (step_of position) (steps_to_zero position v) v) (λ v. 0) tt

none_from_zero : (k : Kind) (v : ℕ) → v ≡ 0b000000 → steps_to_zero k v ≡ 0
unfolding steps_to_zero steps_to
none_from_zero k v e = rw e

-- From any of the 64 values 000000 is met within PERIOD - 1 steps, from 000000 itself with none.
pub zero_met :
    (k : Kind) (v : ℕ) → v < 64 →
    (n : ℕ) × (n < period_of k) × (after (step_of k) n v ≡ 0b000000) × (v ≡ 0b000000 → n ≡ 0)
zero_met k v h = (steps_to_zero k v, few_steps k v h, meets_zero k v h, none_from_zero k v)
