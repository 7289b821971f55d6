-- Which colour is seen: in each order of the layers, those below are seen where those above are not lit; and every colour is even.
use mathlib.Core.Path.{◌≡◌, refl}
use mathlib.Core.Bool.{Bool, true, false}
use Prim.Native.Nat.{ℕ, ◌%◌}
use native.Mathlib.Omega.{arith}
use Rattle.laws.specs.Bits.{bit}
use Rattle.tia.specs.declared.colours.Colours.{Colours}
use Rattle.tia.specs.declared.lit.Lit.{Lit}
use Rattle.tia.specs.declared.state.State.{State}
use Rattle.tia.specs.declared.write.Write.{Write}
use Rattle.tia.specs.Clock.{clock_of}
use Rattle.tia.specs.Colour.{player_layers, playfield_layers, first_shown, shown_colour, colour_of}

module _ (ctrlpf : ℕ) (c : Colours) (x : ℕ) (l : Lit) where
  -- With CTRLPF bit 2 ball and playfield are over the players and missiles, ..
  pub playfield_first_lem :
      bit 2 ctrlpf ≡ true →
      shown_colour ctrlpf c x l ≡ first_shown (first_shown c.colubk (player_layers c l)) (playfield_layers ctrlpf c x l)
  unfolding shown_colour
  playfield_first_lem e = rw e

  -- .. and otherwise under them.
  pub players_first :
      bit 2 ctrlpf ≡ false →
      shown_colour ctrlpf c x l ≡ first_shown (first_shown c.colubk (playfield_layers ctrlpf c x l)) (player_layers c l)
  unfolding shown_colour
  players_first e = rw e

-- Bit 0 of every clock's colour is 0.
colour_even : (blank : Bool) (ctrlpf : ℕ) (c : Colours) (x : ℕ) (l : Lit) → colour_of blank ctrlpf c x l % 2 ≡ 0
unfolding colour_of
colour_even true ctrlpf c x l = refl
colour_even false ctrlpf c x l = omega arith

pub clock_colour_even : (s : State) (w : Write) → (clock_of s w).colour % 2 ≡ 0
unfolding clock_of
clock_colour_even s w = colour_even _ _ _ _ _
