-- The two kinds of counter, each with its own period, wrap value and power-up value 000000.
use Rattle.std.specs.Prelude.{ℕ, ◌≡◌, refl}
use Rattle.counter.specs.Step.{wrap_step}

pub data Kind : Type 0 where
  horizontal position : Kind

-- The counts used are 0 to 56 and 0 to 39: as many as the period.
abbrev pub period_of : Kind → ℕ
period_of horizontal = 57
period_of position = 40

abbrev pub wrap_of : Kind → ℕ
wrap_of horizontal = 0b010100
wrap_of position = 0b101101

abbrev pub power_up_of : Kind → ℕ
power_up_of k = 0b000000

-- The step of a kind.
abbrev pub step_of : Kind → ℕ → ℕ
step_of k v = wrap_step (wrap_of k) v

-- The constants of a kind, and the value of its counter at power-up.
pub record PowerUp (k : Kind) (period wrap power_up value : ℕ) : Type 0 where
  pub period_is : period ≡ period_of k
  pub wrap_is : wrap ≡ wrap_of k
  pub power_up_is : power_up ≡ power_up_of k
  pub value_is : value ≡ power_up_of k

-- The constants of a kind are its own, and power-up is at the power-up value.
pub at_power_up : (k : Kind) → PowerUp k (period_of k) (wrap_of k) (power_up_of k) (power_up_of k)
at_power_up k = record { period_is = refl; wrap_is = refl; power_up_is = refl; value_is = refl }
