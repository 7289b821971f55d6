-- One colour clock: its eleven steps, in their order.
use Rattle.tia.specs.declared.clock.Clocked.{Clocked}
use Rattle.tia.specs.declared.registers.Registers.{Registers}
use Rattle.tia.specs.declared.state.Objects.{Objects}
use Rattle.tia.specs.declared.state.State.{State}
use Rattle.tia.specs.declared.timing.Tick.{Tick}
use Rattle.tia.specs.declared.write.Write.{Write}
use Rattle.tia.specs.Write.{HMM0, HMM1, HMP0, HMP1, RESM0, RESM1, RESP0, RESP1}
use Rattle.tia.specs.Registers.{registers_after, colours_after}
use Rattle.tia.specs.Timing.{timing_written, tick_of, timing_after}
use Rattle.tia.specs.Object.{missile_after, player_after, ball_after}
use Rattle.tia.specs.Lit.{column_of, lit_of, answer_byte}
use Rattle.tia.specs.Latches.{latches_written, latches_after}
use Rattle.tia.specs.Colour.{colour_of}

-- 2 and 4 to 7, for the five objects: each reads what all share, its own state and its own registers.
unfoldable pub objects_after : Tick → Registers → Write → Objects → Objects
objects_after k r w os =
    record {
      p0 = player_after k RESP0 HMP0 r.nusiz0.copies w os.p0;
      p1 = player_after k RESP1 HMP1 r.nusiz1.copies w os.p1;
      m0 = missile_after k RESM0 HMM0 r.nusiz0.copies w os.m0;
      m1 = missile_after k RESM1 HMM1 r.nusiz1.copies w os.m1;
      bl = ball_after k w os.bl;
    }

unfoldable pub clock_of : State → Write → Clocked
clock_of s w =
    -- 1. If h = 0 the late flag falls. 2. The write, if there is one.
    let t = timing_written w s.timing in
    let r = registers_after w s.registers in
    let c = colours_after w s.colours in
    let latches = latches_written w s.latches in
    -- 3. Blank. 4. Motion: whether this clock compares.
    let k = tick_of w t in
    -- 4. Extra pulses. 5. Pulses. 6. Position, age, starts. 7. Position strobes.
    let os = objects_after k r w s.objects in
    -- 8. Lit. 9. Playfield.
    let lit = lit_of t.h r os in
    -- 10. The answer byte, the latches, and the colour (document 02, One). 4 and 11. The slot and h rise.
    record {
      state =
          record {
            timing = timing_after k.comparing t;
            objects = os;
            registers = r;
            colours = c;
            latches = latches_after k.blank lit latches;
          };
      byte = answer_byte t.h k.blank lit;
      colour = colour_of k.blank r.playfield.ctrlpf c (column_of t.h) lit;
    }
