-- The colour of a column (document 02, One): a colour for each object and the playfield, and which of those that are lit is seen.
use Rattle.std.specs.Prelude.{ℕ, ◌*◌, ◌/◌, Bool, cond, ◌&&◌, not, List, [], ◌∷◌, ◌++◌, ltb}
use Rattle.laws.specs.Bits.{bit}
use Rattle.tia.specs.declared.colours.Colours.{Colours}
use Rattle.tia.specs.declared.lit.Lit.{Lit}

-- An object or the playfield: whether it is lit, and its colour.
pub record Layer : Type 0 where
  pub lit : Bool
  pub colour : ℕ

abbrev pub layer : Bool → ℕ → Layer
layer lit colour = record { lit = lit; colour = colour }

-- P0 and M0 take COLUP0, P1 and M1 COLUP1, ..
abbrev pub player_layers : Colours → Lit → List Layer
player_layers c l =
    layer l.p0 c.colup0 ∷ layer l.m0 c.colup0 ∷ layer l.p1 c.colup1 ∷ layer l.m1 c.colup1 ∷ []

-- CTRLPF bit 2: ball and playfield come first. Score: bit 1 set and bit 2 clear.
abbrev pub playfield_first : (ctrlpf : ℕ) → Bool
playfield_first ctrlpf = bit 2 ctrlpf

abbrev pub score : (ctrlpf : ℕ) → Bool
score ctrlpf = bit 1 ctrlpf && not (bit 2 ctrlpf)

-- .. ball and playfield COLUPF. With the score the playfield takes COLUP0 in columns 0 to 79 and COLUP1 from 80, in its usual place,
-- but a lit ball shows COLUPF over it.
abbrev pub playfield_colour : (ctrlpf : ℕ) → Colours → (column : ℕ) → ℕ
playfield_colour ctrlpf c x = cond (score ctrlpf) (cond (ltb x 80) c.colup0 c.colup1) c.colupf

abbrev pub playfield_layers : (ctrlpf : ℕ) → Colours → (column : ℕ) → Lit → List Layer
playfield_layers ctrlpf c x l = layer l.bl c.colupf ∷ layer l.pf (playfield_colour ctrlpf c x) ∷ []

-- The order: players and missiles, then ball and playfield; with CTRLPF bit 2 ball and playfield come first.
abbrev pub layers : (ctrlpf : ℕ) → Colours → (column : ℕ) → Lit → List Layer
layers ctrlpf c x l =
    let players = player_layers c l in
    let playfield = playfield_layers ctrlpf c x l in
    cond (playfield_first ctrlpf) (playfield ++ players) (players ++ playfield)

-- The first in that order that is lit wins; nothing is COLUBK.
abbrev pub first_shown : (background : ℕ) → List Layer → ℕ
first_shown background [] = background
first_shown background (o ∷ os) = cond o.lit o.colour (first_shown background os)

unfoldable pub shown_colour : (ctrlpf : ℕ) → Colours → (column : ℕ) → Lit → ℕ
shown_colour ctrlpf c x l = first_shown c.colubk (layers ctrlpf c x l)

-- A colour's bit 0 is read as 0.
abbrev pub even : ℕ → ℕ
even v = v / 2 * 2

-- The colour of a clock, by CTRLPF and the colour registers as they are after its write. A blank column is 0, and so is the
-- horizontal blank.
unfoldable pub colour_of : (blank : Bool) (ctrlpf : ℕ) → Colours → (column : ℕ) → Lit → ℕ
colour_of blank ctrlpf c x l = cond blank 0 (even (shown_colour ctrlpf c x l))
