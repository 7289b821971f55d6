-- Columns that a stretched player lights (document 02, Two), computed line by line from the start state.
use Rattle.std.specs.Prelude.{ℕ, zero, suc, ◌-◌, cond, List, [], ◌∷◌, ◌++◌}
use Rattle.laws.specs.Bits.{bit}
use Rattle.tia.specs.Write.{GRP0, HMOVE, HMP0, NUSIZ0, RESP0}
use Rattle.tia.specs.State.{start_state}
use Rattle.tia.specs.Movable.{P0, number_of}
use Rattle.tia.specs.Cases.{last_line}

-- The columns whose bytes have player 0's bit, counted from a column on.
unfoldable pub lit_from : (column : ℕ) → (bytes : List ℕ) → List ℕ
lit_from x [] = []
lit_from x (byte ∷ bytes) =
    let later = lit_from (suc x) bytes in
    cond (bit (number_of P0) byte) (x ∷ later) later

-- So many columns from one on, and those from one to another.
abbrev pub columns_from : (first count : ℕ) → List ℕ
columns_from first zero = []
columns_from first (suc count) = first ∷ columns_from (suc first) count

abbrev pub from_to : (first last : ℕ) → List ℕ
from_to first last = columns_from first (suc last - first)

-- A case: the write lists of some lines, and the columns that player 0 lights in the last one.
pub record StretchCase : Type 0 where
  pub lines : List (List ℕ)
  pub claimed : List ℕ

unfoldable pub lit_columns : StretchCase → List ℕ
lit_columns c = lit_from 0 (last_line start_state c.lines).objects

abbrev pub claim_lit : List (List ℕ) → List ℕ → StretchCase
claim_lit lines claimed = record { lines = lines; claimed = claimed }

-- Player 0 with a graphic and copies, strobed at a clock: at clock 100 its next start is on clock 100 of the next line.
abbrev pub strobed_at : (clock graphic copies : ℕ) → List ℕ
strobed_at clock graphic copies = 0 ∷ GRP0 ∷ graphic ∷ 1 ∷ NUSIZ0 ∷ copies ∷ clock ∷ RESP0 ∷ 0 ∷ []

abbrev pub nusiz_at : (clock copies : ℕ) → List ℕ
nusiz_at clock copies = clock ∷ NUSIZ0 ∷ copies ∷ []

abbrev pub stretch_cases : List StretchCase
stretch_cases =
    -- A double or quadruple player begins a clock later than a single one, and is two or four times as wide.
    claim_lit (strobed_at 100 255 5 ∷ [] ∷ []) (from_to 38 53)
    ∷ claim_lit (strobed_at 100 255 7 ∷ [] ∷ []) (from_to 38 69)
    -- A copy changed halfway: from size 4 to 1 at clock 116, and from 1 to 4 at clock 109.
    ∷ claim_lit (strobed_at 100 255 7 ∷ nusiz_at 116 0 ∷ []) (from_to 38 52)
    ∷ claim_lit (strobed_at 100 255 0 ∷ nusiz_at 109 7 ∷ []) (from_to 37 59)
    -- The size at the start says when it begins, and no more: NUSIZ is written a clock after the start.
    ∷ claim_lit (strobed_at 100 255 0 ∷ nusiz_at 101 5 ∷ []) (from_to 37 52)
    -- A new start ends a copy in progress, a strobe does not.
    ∷ claim_lit (strobed_at 100 255 7 ∷ nusiz_at 110 3 ∷ []) (from_to 38 47 ++ (from_to 53 60 ++ from_to 69 76))
    ∷ claim_lit (strobed_at 100 255 7 ∷ (110 ∷ RESP0 ∷ 0 ∷ []) ∷ []) (from_to 38 69)
    -- A copy runs over the line's end, with pixel 7 in columns 6 to 9 of the next line. The seven extra pulses of an HMOVE with motion
    -- value -1 advance its pixels in the blank: columns 8 to 10.
    ∷ claim_lit (strobed_at 200 0b00000001 7 ∷ [] ∷ (0 ∷ HMP0 ∷ 0xF0 ∷ 9 ∷ HMOVE ∷ 0 ∷ []) ∷ []) (from_to 8 10)
    ∷ []
