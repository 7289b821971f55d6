-- Two numbers compared, as two cases.
use mathlib.Core.Logic.{◌⊎◌, inl, inr, ⊎_map}
use Prim.Native.Nat.{ℕ, zero, suc, ◌≤◌, ◌<◌, zero-le, suc-le-suc}

pub split : (a b : ℕ) → (a < b) ⊎ (b ≤ a)
split a zero = inr zero-le
split zero (suc b) = inl (suc-le-suc zero-le)
split (suc a) (suc b) = ⊎_map suc-le-suc suc-le-suc (split a b)
