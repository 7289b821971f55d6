-- The playfield: which of its twenty bits is shown in a column (step 9).
use Rattle.std.specs.Prelude.{ℕ, ◌-◌, ◌/◌, Bool, cond, ltb}
use Rattle.laws.specs.Bits.{bit}
use Rattle.tia.specs.declared.playfield.Playfield.{Playfield}

-- 9. Playfield bits 0-19 are PF0 bits 4 to 7 (its half byte's 0 to 3), PF1 bits 7 to 0, PF2 bits 0 to 7; ..
unfoldable pub playfield_bit : Playfield → ℕ → Bool
playfield_bit p n = cond (ltb n 4) (bit n p.pf0) (cond (ltb n 12) (bit (11 - n) p.pf1) (bit (n - 12) p.pf2))

-- .. 20-39 repeat them, or run backwards when reflected (003; bit order by the Guide).
unfoldable pub playfield_index : Bool → ℕ → ℕ
playfield_index reflected i = cond (ltb i 20) i (cond reflected (39 - i) (i - 20))

-- Column x shows playfield bit x / 4.
unfoldable pub playfield_lit : Playfield → ℕ → Bool
playfield_lit p x = playfield_bit p (playfield_index (bit 0 p.ctrlpf) (x / 4))
