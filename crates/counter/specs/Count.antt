-- Counts, and the values that the classroom card prints for them.
use Rattle.std.specs.Prelude.{ℕ, List, [], ◌∷◌}
use Rattle.laws.specs.Steps.{after, steps_to}
use Rattle.counter.specs.Step.{plain_step}

-- The value of a count: what that many steps make of 000000.
unfoldable pub value_of : ℕ → ℕ
value_of n = after plain_step n 0b000000

-- The count of a value is the number of steps from 000000 (000); the last is 62.
unfoldable pub count_of : ℕ → ℕ
count_of v = steps_to plain_step v 62 0b000000

-- The classroom card: the 63 values, count 0 first.
unfoldable pub card : List ℕ
card =
    0b000000 ∷ 0b100000 ∷ 0b110000 ∷ 0b111000 ∷ 0b111100 ∷ 0b111110 ∷ 0b011111 ∷ 0b101111
    ∷ 0b110111 ∷ 0b111011 ∷ 0b111101 ∷ 0b011110 ∷ 0b001111 ∷ 0b100111 ∷ 0b110011 ∷ 0b111001
    ∷ 0b011100 ∷ 0b101110 ∷ 0b010111 ∷ 0b101011 ∷ 0b110101 ∷ 0b011010 ∷ 0b001101 ∷ 0b000110
    ∷ 0b000011 ∷ 0b100001 ∷ 0b010000 ∷ 0b101000 ∷ 0b110100 ∷ 0b111010 ∷ 0b011101 ∷ 0b001110
    ∷ 0b000111 ∷ 0b100011 ∷ 0b110001 ∷ 0b011000 ∷ 0b101100 ∷ 0b110110 ∷ 0b011011 ∷ 0b101101
    ∷ 0b010110 ∷ 0b001011 ∷ 0b100101 ∷ 0b010010 ∷ 0b001001 ∷ 0b000100 ∷ 0b100010 ∷ 0b010001
    ∷ 0b001000 ∷ 0b100100 ∷ 0b110010 ∷ 0b011001 ∷ 0b001100 ∷ 0b100110 ∷ 0b010011 ∷ 0b101001
    ∷ 0b010100 ∷ 0b101010 ∷ 0b010101 ∷ 0b001010 ∷ 0b000101 ∷ 0b000010 ∷ 0b000001
    ∷ []
