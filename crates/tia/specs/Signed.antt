-- The signed motion value of a half byte, and the remainder that turns a position by a sum of them.
use Rattle.std.specs.Prelude.{ℕ, ◌-◌, ◌%◌, Bool, false, cond, eqb, ltb, ℤ, pos, negsuc, ◌-ℤ◌}

-- Half bytes 8 to 15 mean -8 to -1. (A motion value over 15, which no good state has, counts by its lower half byte.)
unfoldable pub signed : ℕ → ℤ
signed m =
    let half = m % 16 in
    cond (ltb half 8) (pos half) (pos half -ℤ pos 16)

-- Whether an integer is this natural number.
abbrev pub is_number : ℕ → ℤ → Bool
is_number n (pos m) = eqb n m
is_number n (negsuc m) = false

-- The remainder of an integer modulo 160, never negative.
unfoldable pub mod160 : ℤ → ℕ
mod160 (pos n) = n % 160
mod160 (negsuc n) = 159 - n % 160
