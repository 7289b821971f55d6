-- Tapes and their listings: document 01's printed case, and small ones that end at once or in a refusal.
use Rattle.std.specs.Prelude.{ℕ, List, [], ◌∷◌}
use Rattle.listing_text.specs.Text.{ascii}

-- 01 0006 001D02 1E1200 0000 0006 002270 092A00 0000
abbrev pub printed_tape : List ℕ
printed_tape =
    0x01
    ∷ 0x00 ∷ 0x06 ∷ 0x00 ∷ 0x1D ∷ 0x02 ∷ 0x1E ∷ 0x12 ∷ 0x00
    ∷ 0x00 ∷ 0x00
    ∷ 0x00 ∷ 0x06 ∷ 0x00 ∷ 0x22 ∷ 0x70 ∷ 0x09 ∷ 0x2A ∷ 0x00
    ∷ 0x00 ∷ 0x00
    ∷ []

abbrev pub printed_listing : List ℕ
printed_listing =
    ascii
    "line P0 P1 M0 M1 BL PF\n0 - - - - - -\n1 - - 3 - - -\n2 - - 156 - - -\n3 - - 156 - - -\ncx 00 00 00 00 00 00 00 00\n"

pub record ListingCase : Type 0 where
  pub tape : List ℕ
  pub listing : List ℕ

-- The heading comes first, before a refusal too. A version byte alone is a tape of no lines. On a refusal the rows before it stay.
abbrev pub listing_cases : List ListingCase
listing_cases =
    -- empty input
    record { tape = []; listing = ascii "line P0 P1 M0 M1 BL PF\nrefused 8 line 0 record 0\n" }
    -- version 2
    ∷ record { tape = 0x02 ∷ []; listing = ascii "line P0 P1 M0 M1 BL PF\nrefused 8 line 0 record 0\n" }
    -- no lines
    ∷ record { tape = 0x01 ∷ []; listing = ascii "line P0 P1 M0 M1 BL PF\ncx 00 00 00 00 00 00 00 00\n" }
    -- a lone length byte after one line
    ∷ record {
      tape = 0x01 ∷ 0x00 ∷ 0x00 ∷ 0x00 ∷ [];
      listing = ascii "line P0 P1 M0 M1 BL PF\n0 - - - - - -\nrefused 9 line 1 record 0\n";
    }
    -- the playfield, and the ball over it; then an unknown register in the second record
    ∷ record {
      tape =
          0x01
          ∷ 0x00 ∷ 0x09 ∷ 0x00 ∷ 0x0E ∷ 0x80 ∷ 0x01 ∷ 0x1F ∷ 0x02 ∷ 0x50 ∷ 0x14 ∷ 0x00
          ∷ 0x00 ∷ 0x06 ∷ 0x00 ∷ 0x1F ∷ 0x00 ∷ 0x01 ∷ 0x2D ∷ 0x00
          ∷ [];
      listing = ascii "line P0 P1 M0 M1 BL PF\n0 - - - - 16 16\nrefused 7 line 1 record 1\n";
    }
    ∷ []
