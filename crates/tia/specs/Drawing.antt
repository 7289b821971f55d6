-- The drawing of a player's copy: steps 6 and 8 as document 02, Two, has them in place of document 01's.
use Rattle.std.specs.Prelude.{ℕ, ◌+◌, ◌-◌, Bool, cond, ◌&&◌, eqb, ltb, leb}
use Rattle.laws.specs.Bits.{bit}
use Rattle.tia.specs.declared.drawing.Drawing.{Drawing}
use Rattle.tia.specs.declared.registers.Graphic.{Graphic}

-- The pixel, 0 to 8 (8: none), and its clocks shown, 0 to 4: 8 and 0 in the start state, after pixel 7 and at each new start.
abbrev pub no_pixel : ℕ
no_pixel = 8

abbrev pub no_drawing : Drawing
no_drawing = record { pixel = no_pixel; shown = 0 }

-- 6. A copy starts drawing at age 5, or 6 when its size at the start is 2 or 4. Age 5 is *kit*.
abbrev pub drawing_age : (size_at_start : ℕ) → ℕ
drawing_age size_at_start = cond (eqb size_at_start 1) 5 6

-- On that pulse it shows pixel 0 for the first time.
abbrev pub first_pixel : Drawing
first_pixel = record { pixel = 0; shown = 1 }

-- On each later pulse, if the current pixel has been shown at least as many clocks as the size read now, the next pixel
-- begins; otherwise it is shown again. After pixel 7 there is none.
abbrev pub next_pixel : Drawing → Drawing
next_pixel d = cond (eqb d.pixel 7) no_drawing (record { pixel = d.pixel + 1; shown = 1 })

abbrev pub shown_again : Drawing → Drawing
shown_again d = record { pixel = d.pixel; shown = d.shown + 1 }

-- At pixel 8 both stay until a new start, or until a copy starts drawing.
abbrev pub gone_on : (size_now : ℕ) → Drawing → Drawing
gone_on size_now d = cond (ltb d.pixel no_pixel) (cond (leb size_now d.shown) (next_pixel d) (shown_again d)) d

-- The drawing after a pulse, by the age that the pulse brings. A new start ends a copy in progress.
unfoldable pub next_drawing : (start : Bool) (age size_at_start size_now : ℕ) → Drawing → Drawing
next_drawing start age size_at_start size_now d =
    cond start no_drawing (cond (eqb age (drawing_age size_at_start)) first_pixel (gone_on size_now d))

-- 8. Lit: where there is a pixel and its bit is set, from bit 7 down, or from bit 0 up when reflected, of the new graphic, or the
-- old with VDELP.
abbrev pub shown_graphic : Graphic → ℕ
shown_graphic g = cond g.delayed g.old g.new

abbrev pub shown_bit : Graphic → (pixel : ℕ) → Bool
shown_bit g n = bit (cond g.reflected n (7 - n)) (shown_graphic g)

unfoldable pub drawing_lit : Graphic → Drawing → Bool
drawing_lit g d = ltb d.pixel no_pixel && shown_bit g d.pixel
