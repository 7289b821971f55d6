-- Colours of columns (document 02, One), computed line by line from the start state: each priority, and when a register is read.
use Rattle.std.specs.Prelude.{ℕ, List, [], ◌∷◌, map, get_or}
use Rattle.tia.specs.Write.{COLUBK, COLUP0, COLUP1, COLUPF, CTRLPF, ENABL, ENAM0, ENAM1, GRP0, GRP1, HMOVE, NUSIZ0, PF0, PF2}
use Rattle.tia.specs.State.{start_state}
use Rattle.tia.specs.Cases.{last_line}

-- A case: the write lists of some lines, columns of the last one, and the colours claimed for them.
pub record ColourCase : Type 0 where
  pub lines : List (List ℕ)
  pub asked : List ℕ
  pub claimed : List ℕ

unfoldable pub colours_of : ColourCase → List ℕ
colours_of c =
    let colours = (last_line start_state c.lines).colours in
    map (λ (x : ℕ). get_or colours x 1) c.asked

-- The four registers, 46 and 88 for the players, C4 for the playfield and 02 for the background; then other writes.
abbrev pub painted : List ℕ → List ℕ
painted ws = 0 ∷ COLUP0 ∷ 0x46 ∷ 1 ∷ COLUP1 ∷ 0x88 ∷ 2 ∷ COLUPF ∷ 0xC4 ∷ 3 ∷ COLUBK ∷ 0x02 ∷ ws

-- The second of two lines, the first of which has these writes. Without a strobe a missile or the ball lights columns from 3 and a
-- player columns 4 to 11; PF0 lights columns 0 to 15 and 80 to 95.
abbrev pub scene : List ℕ → (asked claimed : List ℕ) → ColourCase
scene ws asked claimed = record { lines = painted ws ∷ [] ∷ []; asked = asked; claimed = claimed }

abbrev pub colour_cases : List ColourCase
colour_cases =
    -- P0 is over P1; nothing is COLUBK.
    scene (4 ∷ GRP0 ∷ 0xF0 ∷ 5 ∷ GRP1 ∷ 0xFF ∷ []) (3 ∷ 4 ∷ 8 ∷ 12 ∷ []) (0x02 ∷ 0x46 ∷ 0x88 ∷ 0x02 ∷ [])
    -- A missile is as its player: M0 is over P1, M1 over the playfield.
    ∷ scene (4 ∷ ENAM0 ∷ 0b10 ∷ 5 ∷ NUSIZ0 ∷ 0x30 ∷ 6 ∷ GRP1 ∷ 0xFF ∷ []) (3 ∷ 10 ∷ 11 ∷ []) (0x46 ∷ 0x46 ∷ 0x88 ∷ [])
    ∷ scene (4 ∷ ENAM1 ∷ 0b10 ∷ 5 ∷ PF0 ∷ 0xF0 ∷ []) (2 ∷ 3 ∷ 4 ∷ []) (0xC4 ∷ 0x88 ∷ 0xC4 ∷ [])
    -- With CTRLPF bit 2 ball and playfield come first.
    ∷ scene (4 ∷ CTRLPF ∷ 0b100 ∷ 5 ∷ PF0 ∷ 0x10 ∷ 6 ∷ ENAM0 ∷ 0b10 ∷ 7 ∷ GRP1 ∷ 0xFF ∷ []) (3 ∷ 4 ∷ []) (0xC4 ∷ 0x88 ∷ [])
    ∷ scene (4 ∷ CTRLPF ∷ 0b110100 ∷ 5 ∷ ENABL ∷ 0b10 ∷ 6 ∷ GRP0 ∷ 0xFF ∷ []) (10 ∷ 11 ∷ []) (0xC4 ∷ 0x46 ∷ [])
    -- With bit 1 alone the playfield takes COLUP0 up to column 79 and COLUP1 from 80, ..
    ∷ scene (4 ∷ CTRLPF ∷ 0b10 ∷ 5 ∷ PF0 ∷ 0x10 ∷ 6 ∷ PF2 ∷ 0x80 ∷ []) (0 ∷ 79 ∷ 80 ∷ 156 ∷ []) (0x46 ∷ 0x46 ∷ 0x88 ∷ 0x88 ∷ [])
    -- .. in its usual place, under P1, ..
    ∷ scene (4 ∷ CTRLPF ∷ 0b10 ∷ 5 ∷ PF0 ∷ 0xF0 ∷ 6 ∷ GRP1 ∷ 0xFF ∷ []) (3 ∷ 4 ∷ []) (0x46 ∷ 0x88 ∷ [])
    -- .. but a lit ball shows COLUPF over it.
    ∷ scene (4 ∷ CTRLPF ∷ 0b10 ∷ 5 ∷ PF0 ∷ 0xF0 ∷ 6 ∷ ENABL ∷ 0b10 ∷ []) (2 ∷ 3 ∷ 4 ∷ []) (0x46 ∷ 0xC4 ∷ 0x46 ∷ [])
    -- With both bits ball and playfield come first, with COLUPF.
    ∷ scene (4 ∷ CTRLPF ∷ 0b110 ∷ 5 ∷ PF0 ∷ 0xF0 ∷ 6 ∷ GRP0 ∷ 0xFF ∷ []) (3 ∷ 4 ∷ 80 ∷ []) (0xC4 ∷ 0xC4 ∷ 0xC4 ∷ [])
    -- A colour's bit 0 is read as 0, that of the background too.
    ∷ scene (4 ∷ COLUP0 ∷ 0x47 ∷ 5 ∷ COLUBK ∷ 0xFF ∷ 6 ∷ GRP0 ∷ 0xFF ∷ []) (3 ∷ 4 ∷ []) (0xFE ∷ 0x46 ∷ [])
    -- A blank column is 0.
    ∷ record {
      lines = painted [] ∷ (9 ∷ HMOVE ∷ 0 ∷ []) ∷ [];
      asked = 0 ∷ 7 ∷ 8 ∷ [];
      claimed = 0 ∷ 0 ∷ 0x02 ∷ [];
    }
    -- Registers are read at the column's clock: COLUBK is written at that of column 50, CTRLPF at that of column 90.
    ∷ record {
      lines = painted (4 ∷ PF0 ∷ 0xF0 ∷ []) ∷ (118 ∷ COLUBK ∷ 0x1E ∷ 158 ∷ CTRLPF ∷ 0b10 ∷ []) ∷ [];
      asked = 49 ∷ 50 ∷ 89 ∷ 90 ∷ [];
      claimed = 0x02 ∷ 0x1E ∷ 0xC4 ∷ 0x88 ∷ [];
    }
    ∷ []
