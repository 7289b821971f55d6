-- Which objects a clock lights (steps 8 and 9), and its answer byte (step 10).
use Rattle.std.specs.Prelude.{ℕ, ◌+◌, ◌-◌, ◌/◌, ◌%◌, Bool, cond, ◌&&◌, eqb, ltb, leb}
use Rattle.laws.specs.Bits.{weight}
use Rattle.tia.specs.declared.lit.Lit.{Lit}
use Rattle.tia.specs.declared.object.Object.{Object}
use Rattle.tia.specs.declared.object.Player.{Player}
use Rattle.tia.specs.declared.registers.Enable.{Enable}
use Rattle.tia.specs.declared.registers.Graphic.{Graphic}
use Rattle.tia.specs.declared.registers.Registers.{Registers}
use Rattle.tia.specs.declared.state.Objects.{Objects}
use Rattle.tia.specs.Timing.{blank_clocks}
use Rattle.tia.specs.Drawing.{drawing_lit}
use Rattle.tia.specs.Playfield.{playfield_lit}

-- 8. Lit: a player by its drawing (document 02, Two).
abbrev pub player_lit : Graphic → Player → Bool
player_lit g p = drawing_lit g p.drawing

-- Missile and ball at ages 4 to 3 + width when enabled. Age 4 is *kit*.
unfoldable pub width_of : ℕ → ℕ
width_of code = cond (eqb code 0) 1 (cond (eqb code 1) 2 (cond (eqb code 2) 4 8))

abbrev pub drawn_wide : (enabled : Bool) (code age : ℕ) → Bool
drawn_wide enabled code age = enabled && (leb 4 age && leb age (3 + width_of code))

unfoldable pub missile_lit : Bool → ℕ → Object → Bool
missile_lit enabled code o = drawn_wide enabled code o.age

-- Ball: old enable with VDELBL; its width is that of CTRLPF bits 4-5.
unfoldable pub ball_lit : Enable → ℕ → Object → Bool
ball_lit e ctrlpf o = missile_lit (cond e.delayed e.old e.new) (ctrlpf / 16 % 4) o

-- 9. Column x = h - 68; 0 in the horizontal blank, where step 10 shows nothing.
abbrev pub column_of : ℕ → ℕ
column_of h = h - blank_clocks

-- 8 and 9: what is lit in a column; registers are read at this clock, after step 2, and objects after step 7.
abbrev pub lit_at : (column : ℕ) → Registers → Objects → Lit
lit_at x r os =
    record {
      p0 = player_lit r.graphic0 os.p0;
      p1 = player_lit r.graphic1 os.p1;
      m0 = missile_lit r.enam0 r.nusiz0.width os.m0;
      m1 = missile_lit r.enam1 r.nusiz1.width os.m1;
      bl = ball_lit r.enabl r.playfield.ctrlpf os.bl;
      pf = playfield_lit r.playfield x;
    }

unfoldable pub lit_of : ℕ → Registers → Objects → Lit
lit_of h r os = lit_at (column_of h) r os

-- 10. The answer byte: 128 for h below 68; 64 for a blank column; otherwise bits 0 to 5 for P0, P1, M0, M1, BL, PF.
unfoldable pub lit_bits : Lit → ℕ
lit_bits l =
    weight l.p0 0 + (weight l.p1 1 + (weight l.m0 2 + (weight l.m1 3 + (weight l.bl 4 + weight l.pf 5))))

unfoldable pub answer_byte : ℕ → Bool → Lit → ℕ
answer_byte h blank l = cond (ltb h blank_clocks) 128 (cond blank 64 (lit_bits l))
