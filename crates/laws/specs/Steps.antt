-- Repeated steps: a value after a number of steps, and the number of steps from one value to another.
use Rattle.std.specs.Prelude.{ℕ, zero, suc, cond, eqb}

-- The value after n steps of f.
unfoldable pub after : {A : Type 0} → (A → A) → ℕ → A → A
after f zero x = x
after f (suc n) x = f (after f n x)

-- The number of steps of f after which x first meets the goal; the limit, where it is not met before.
unfoldable pub steps_to : (ℕ → ℕ) → ℕ → ℕ → ℕ → ℕ
steps_to f goal zero x = 0
steps_to f goal (suc limit) x =
    let more = suc (steps_to f goal limit (f x)) in
    cond (eqb x goal) 0 more
