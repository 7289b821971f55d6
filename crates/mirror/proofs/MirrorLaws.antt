-- The table of mirrored bytes: its bit rule, by one computed test over the whole table, and what follows.
use mathlib.Core.Path.{◌≡◌, ◌∙◌, ap}
use mathlib.Core.Bool.{beq}
use Prim.Native.Nat.{ℕ, ◌-◌, ◌<◌}
use native.Mathlib.Omega.{arith}
use lib.Dec.{eqb, eqb→eq}
use lib.ListN.{get_or}
use Rattle.laws.specs.Bits.{bit, byte_of}
use Rattle.laws.proofs.Table.{at, every_below, below_equal, below_same}
use Rattle.mirror.specs.Mirror.{mirrored, mirrored_bytes}

-- Bit n of entry i is bit 7 - n of i.
pub entry_bit : (i n : ℕ) → i < 256 → n < 8 → bit n (get_or mirrored_bytes i 0) ≡ bit (7 - n) i
unfolding mirrored mirrored_bytes
entry_bit i n hi hn =
    below_same 8 (λ n. bit n (get_or mirrored_bytes i 0)) (λ n. bit (7 - n) i)
    (at (λ i entry. every_below 8 (λ n. beq (bit n entry) (bit (7 - n) i))) mirrored_bytes tt i hi)
    n hn

-- Entry i is byte i mirrored.
pub entry_is_mirrored : (i : ℕ) → i < 256 → get_or mirrored_bytes i 0 ≡ mirrored i
unfolding mirrored mirrored_bytes
entry_is_mirrored i h = eqb→eq (get_or mirrored_bytes i 0) (mirrored i) (at (λ i entry. eqb entry (mirrored i)) mirrored_bytes tt i h)

-- So the mirrored byte, read from bit 7 down, is the byte read from bit 0 up.
pub mirrored_from_the_left : (i n : ℕ) → i < 256 → n < 8 → bit (7 - n) (mirrored i) ≡ bit n i
mirrored_from_the_left i n hi hn =
    rw (← entry_is_mirrored i hi) (entry_bit i (7 - n) hi (omega arith))
    ∙ ap (λ m. bit m i) (below_equal 8 (λ n. 7 - (7 - n)) (λ n. n) tt n hn)

-- A byte is the sum of its bits, so that the bit rule leaves no other byte.
sum_of_bits : (r : ℕ) → r < 256 → r ≡ byte_of (λ n. bit n r)
sum_of_bits = below_equal 256 (λ r. r) (λ r. byte_of (λ n. bit n r)) tt

pub mirrored_by_its_bits : (i r : ℕ) → r < 256 → ((n : ℕ) → n < 8 → bit n r ≡ bit (7 - n) i) → r ≡ mirrored i
unfolding mirrored
mirrored_by_its_bits i r h rule =
    sum_of_bits r h
    ∙ rw (
      rule 0 (omega arith),
      rule 1 (omega arith),
      rule 2 (omega arith),
      rule 3 (omega arith),
      rule 4 (omega arith),
      rule 5 (omega arith),
      rule 6 (omega arith),
      rule 7 (omega arith),
    )

-- Twice mirrored is the byte itself.
pub mirrored_twice : (i : ℕ) → i < 256 → mirrored (mirrored i) ≡ i
unfolding mirrored
mirrored_twice = below_equal 256 (λ i. mirrored (mirrored i)) (λ i. i) tt
