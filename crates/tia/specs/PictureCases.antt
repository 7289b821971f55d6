-- Pictures before and after a run, with two lines without writes on either side, and what comes of them.
use Rattle.std.specs.Prelude.{ℕ, zero, suc, refl, Bool, true, false, cond, List, [], ◌∷◌, ℤ, pos, negsuc}
use Rattle.std.specs.Bool.{beq}
use Rattle.tia.specs.declared.registers.Graphic.{Graphic}
use Rattle.tia.specs.declared.state.State.{State}
use Rattle.tia.specs.Write.{GRP0, GRP1, HMOVE, HMP0, NUSIZ0}
use Rattle.tia.specs.State.{start_object, start_player, start_nusiz, start_graphic, start_enable, start_playfield, start_colours, no_latches}
use Rattle.tia.specs.Object.{columns}
use Rattle.tia.specs.Drawing.{no_drawing}
use Rattle.tia.specs.Movable.{Movable, DrawingRegisters, player, drawing_of}
use Rattle.tia.specs.Run.{Call, defined_line, state_after, accepted_lists, sum_of, allowed}
use Rattle.tia.specs.Demand3.{turned, bit_at}
use Rattle.tia.specs.RunCases.{calling}

-- What comes of it: whether the premises hold, the sum, the drawing registers before and after the run, the lit columns of the
-- second line, and in how many columns the last line shows what the second showed, turned left by the sum.
pub record PictureOutcome : Type 0 where
  pub premises : Bool
  pub sum : ℤ
  pub before : DrawingRegisters
  pub after : DrawingRegisters
  pub lit : ℕ
  pub agreeing : ℕ

unfoldable pub count_below : ℕ → (ℕ → Bool) → ℕ
count_below zero test = 0
count_below (suc n) test =
    let fewer = count_below n test in
    cond (test n) (suc fewer) fewer

unfoldable pub picture_outcome : Movable → State → List Call → PictureOutcome
picture_outcome o s calls =
    let quiet = calling [] refl in
    let two = defined_line (defined_line s quiet).answer.state quiet in
    let lists = accepted_lists defined_line two.answer.state calls in
    let end = state_after defined_line two.answer.state calls in
    let four = defined_line (defined_line end quiet).answer.state quiet in
    let sum = sum_of o two.answer.state lists in
    record {
      premises = allowed o lists;
      sum = sum;
      before = drawing_of o s.registers;
      after = drawing_of o end.registers;
      lit = count_below columns (bit_at o two.after.objects);
      agreeing = count_below columns (λ x. beq (bit_at o four.after.objects x) (bit_at o two.after.objects (turned x sum)));
    }

-- Player 0 at a position, with these copies and this graphic; everything else as at the start.
unfoldable pub player_at : (position copies : ℕ) → Graphic → State
player_at p copies graphic =
    record {
      timing = record { h = 0; slot = 16; late = false };
      objects =
          record {
            p0 = record { body = record { position = p; age = 64; motion = 0; live = false }; size = 1; drawing = no_drawing };
            p1 = start_player;
            m0 = start_object;
            m1 = start_object;
            bl = start_object;
          };
      registers =
          record {
            nusiz0 = record { copies = copies; width = 0 };
            nusiz1 = start_nusiz;
            playfield = start_playfield;
            graphic0 = graphic;
            graphic1 = start_graphic;
            enam0 = false;
            enam1 = false;
            enabl = start_enable;
          };
      colours = start_colours;
      latches = no_latches;
    }

-- A picture of player 0, whose drawing registers are equal before and after the run, and which agrees in all columns.
pub record PictureCase : Type 0 where
  pub from : State
  pub calls : List Call
  pub outcome : PictureOutcome

abbrev pub picturing : (position copies : ℕ) → Graphic → List Call → (sum : ℤ) (lit : ℕ) → PictureCase
picturing p copies graphic calls sum lit =
    let drawing = player copies graphic in
    record {
      from = player_at p copies graphic;
      calls = calls;
      outcome = record { premises = true; sum = sum; before = drawing; after = drawing; lit = lit; agreeing = columns };
    }

abbrev pub picture_cases : List PictureCase
picture_cases =
    -- Three copies and VDELP0: the graphics are written and restored during the run. The first copy runs over the line's end, columns
    -- 156 to 3, and is moved left by 6 to where it does not.
    picturing 8 3
    (record { reflected = false; new = 0xA5; old = 0x93; delayed = true })
    (calling (0 ∷ HMP0 ∷ 0x70 ∷ 3 ∷ HMOVE ∷ 0 ∷ 10 ∷ GRP0 ∷ 0xFF ∷ 90 ∷ GRP1 ∷ 0x12 ∷ []) refl
    ∷ calling (0 ∷ GRP0 ∷ 0x93 ∷ 100 ∷ GRP1 ∷ 0 ∷ 110 ∷ GRP0 ∷ 0xA5 ∷ 120 ∷ HMP0 ∷ 0xF0 ∷ []) refl
    ∷ calling (12 ∷ HMOVE ∷ 0 ∷ []) refl
    ∷ [])
    (pos 6)
    12
    -- One copy of four times the size, which is stretched otherwise during the run. It runs over the line's end, columns 147 to 18, and
    -- is moved right by 3.
    ∷ picturing 18 7
    (record { reflected = true; new = 0x93; old = 0; delayed = false })
    (calling (0 ∷ HMP0 ∷ 0xD0 ∷ 9 ∷ HMOVE ∷ 0 ∷ 80 ∷ NUSIZ0 ∷ 5 ∷ 225 ∷ NUSIZ0 ∷ 7 ∷ []) refl ∷ [])
    (negsuc 2)
    16
    ∷ []
