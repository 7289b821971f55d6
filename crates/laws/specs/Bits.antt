-- The bits of a number.
use Rattle.std.specs.Prelude.{ℕ, ◌+◌, ◌/◌, ◌%◌, ◌^◌, Bool, cond, eqb}

-- Bit n of a number.
abbrev pub bit : ℕ → ℕ → Bool
bit n v = eqb (v / 2 ^ n % 2) 1

-- The weight of bit n where it is 1.
abbrev pub weight : Bool → ℕ → ℕ
weight b n = cond b (2 ^ n) 0

-- The byte whose bit n is b n, for n below 8.
abbrev pub byte_of : (ℕ → Bool) → ℕ
byte_of b =
    weight (b 0) 0 + weight (b 1) 1 + weight (b 2) 2 + weight (b 3) 3 + weight (b 4) 4 + weight (b 5) 5 + weight (b 6) 6 + weight (b 7) 7
