-- The registers' addresses, with the bits that are kept of a written byte, and a write to one of them.
use Rattle.std.specs.Prelude.{ℕ, ◌≤◌, Bool, false, ◌||◌, not, List, [], ◌∷◌, eqb}
use Rattle.tia.specs.declared.write.Write.{Write}
use Rattle.tia.specs.declared.write.Write.TheVariants.{Nothing, Register}

-- Address    Register                    Bits kept
-- 04 05      NUSIZ0/1                    0-2 copies, 4-5 missile width 1, 2, 4, 8
-- 06-09      COLUP0/1, COLUPF, COLUBK    all; bit 0 is read as 0 (document 02, One)
-- 0A         CTRLPF                      the whole byte: 0 reflect, 1 score, 2 playfield first, 4-5 ball width 1, 2, 4, 8
-- 0B 0C      REFP0/1                     3
-- 0D 0E 0F   PF0, PF1, PF2               4-7 of PF0, all of PF1 and PF2
-- 10-14      RESP0/1, RESM0/1, RESBL     none: position strobes
-- 1B 1C      GRP0/1                      all
-- 1D 1E 1F   ENAM0/1, ENABL              1
-- 20-24      HMP0/1, HMM0/1, HMBL        4-7: motion value
-- 25 26 27   VDELP0/1, VDELBL            0
-- 2A 2B 2C   HMOVE, HMCLR, CXCLR         none
abbrev pub NUSIZ0 : ℕ
NUSIZ0 = 0x04

abbrev pub NUSIZ1 : ℕ
NUSIZ1 = 0x05

abbrev pub COLUP0 : ℕ
COLUP0 = 0x06

abbrev pub COLUP1 : ℕ
COLUP1 = 0x07

abbrev pub COLUPF : ℕ
COLUPF = 0x08

abbrev pub COLUBK : ℕ
COLUBK = 0x09

abbrev pub CTRLPF : ℕ
CTRLPF = 0x0A

abbrev pub REFP0 : ℕ
REFP0 = 0x0B

abbrev pub REFP1 : ℕ
REFP1 = 0x0C

abbrev pub PF0 : ℕ
PF0 = 0x0D

abbrev pub PF1 : ℕ
PF1 = 0x0E

abbrev pub PF2 : ℕ
PF2 = 0x0F

abbrev pub RESP0 : ℕ
RESP0 = 0x10

abbrev pub RESP1 : ℕ
RESP1 = 0x11

abbrev pub RESM0 : ℕ
RESM0 = 0x12

abbrev pub RESM1 : ℕ
RESM1 = 0x13

abbrev pub RESBL : ℕ
RESBL = 0x14

abbrev pub GRP0 : ℕ
GRP0 = 0x1B

abbrev pub GRP1 : ℕ
GRP1 = 0x1C

abbrev pub ENAM0 : ℕ
ENAM0 = 0x1D

abbrev pub ENAM1 : ℕ
ENAM1 = 0x1E

abbrev pub ENABL : ℕ
ENABL = 0x1F

abbrev pub HMP0 : ℕ
HMP0 = 0x20

abbrev pub HMP1 : ℕ
HMP1 = 0x21

abbrev pub HMM0 : ℕ
HMM0 = 0x22

abbrev pub HMM1 : ℕ
HMM1 = 0x23

abbrev pub HMBL : ℕ
HMBL = 0x24

abbrev pub VDELP0 : ℕ
VDELP0 = 0x25

abbrev pub VDELP1 : ℕ
VDELP1 = 0x26

abbrev pub VDELBL : ℕ
VDELBL = 0x27

abbrev pub HMOVE : ℕ
HMOVE = 0x2A

abbrev pub HMCLR : ℕ
HMCLR = 0x2B

abbrev pub CXCLR : ℕ
CXCLR = 0x2C

-- All registers.
abbrev pub registers : List ℕ
registers =
    NUSIZ0 ∷ NUSIZ1 ∷ COLUP0 ∷ COLUP1 ∷ COLUPF ∷ COLUBK
    ∷ CTRLPF ∷ REFP0 ∷ REFP1 ∷ PF0 ∷ PF1 ∷ PF2
    ∷ RESP0 ∷ RESP1 ∷ RESM0 ∷ RESM1 ∷ RESBL
    ∷ GRP0 ∷ GRP1 ∷ ENAM0 ∷ ENAM1 ∷ ENABL
    ∷ HMP0 ∷ HMP1 ∷ HMM0 ∷ HMM1 ∷ HMBL
    ∷ VDELP0 ∷ VDELP1 ∷ VDELBL ∷ HMOVE ∷ HMCLR ∷ CXCLR
    ∷ []

-- Any other address is refused.
abbrev pub listed : List ℕ → ℕ → Bool
listed [] a = false
listed (r ∷ rs) a = eqb a r || listed rs a

unfoldable pub known : ℕ → Bool
known a = listed registers a

-- Whether a write goes to an address, and whether to one that no register has.
abbrev pub hits : Write → ℕ → Bool
hits Nothing a = false
hits (Register b v) a = eqb b a

unfoldable pub unknown : Write → Bool
unknown Nothing = false
unknown (Register a v) = not (known a)

-- The value written; 0 where nothing is.
abbrev pub byte_of : Write → ℕ
byte_of Nothing = 0
byte_of (Register b v) = v

-- What is written is a byte.
abbrev pub ByteWritten : Write → Type 0
ByteWritten w = byte_of w ≤ 255
