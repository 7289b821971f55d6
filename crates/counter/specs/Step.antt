-- The step rule of the six-bit counter, over bit strings.
use Rattle.std.specs.Prelude.{Bool, cond, ◌||◌, ℕ, ◌+◌, eqb}
use Rattle.std.specs.Bool.{beq}
use Rattle.laws.specs.Bits.{bit, weight}

-- A bit string of six, written left to right; the leftmost bit is the highest.
pub data Bits : Type 0 where
  bits : Bool → Bool → Bool → Bool → Bool → Bool → Bits

-- One step moves every bit one place right; the new leftmost bit is 1 exactly when the two rightmost old bits are equal.
abbrev pub moved : Bits → Bits
moved (bits a b c d e f) = bits (beq e f) a b c d e

-- The six bits of a number.
abbrev pub bits_of : ℕ → Bits
bits_of v = bits (bit 5 v) (bit 4 v) (bit 3 v) (bit 2 v) (bit 1 v) (bit 0 v)

-- The number of a bit string: the weights of its bits, added.
abbrev pub number_of : Bits → ℕ
number_of (bits a b c d e f) = weight a 5 + weight b 4 + weight c 3 + weight d 2 + weight e 1 + weight f 0

-- The step without a wrap, on the number of a bit string.
unfoldable pub plain_step : ℕ → ℕ
plain_step v = number_of (moved (bits_of v))

-- With the wrap, the step from the wrap value gives 000000, and so does the step from 111111. Every other value steps as above.
unfoldable pub wrap_step : ℕ → ℕ → ℕ
wrap_step wrap v = cond (eqb v wrap || eqb v 0b111111) 0b000000 (plain_step v)
