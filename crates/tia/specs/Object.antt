-- A movable object in a clock: steps 2 and 4 to 7, once for P0, P1, M0, M1 and BL.
use Rattle.std.specs.Prelude.{ℕ, ◌+◌, ◌/◌, ◌%◌, Bool, cond, ◌&&◌, ◌||◌, not, eqb, ltb, ℤ, pos, ◌+ℤ◌}
use Rattle.counter.specs.Count.{value_of}
use Rattle.tia.specs.declared.object.Moved.{Moved}
use Rattle.tia.specs.declared.object.Object.{Object}
use Rattle.tia.specs.declared.object.Player.{Player}
use Rattle.tia.specs.declared.timing.Tick.{Tick}
use Rattle.tia.specs.declared.write.Write.{Write}
use Rattle.tia.specs.Write.{HMBL, HMCLR, HMOVE, RESBL, hits, byte_of}
use Rattle.tia.specs.Registers.{upper}
use Rattle.tia.specs.Signed.{signed, is_number}
use Rattle.tia.specs.Drawing.{next_drawing}

-- Positions run over the 160 columns of a line.
abbrev pub columns : ℕ
columns = 160

-- The position counter's count is position / 4, rounded down: its value.
abbrev pub counter_value : ℕ → ℕ
counter_value p = value_of (p / 4)

-- Age (document 01's word): the pulses since the last start; 64, nothing being drawn.
abbrev pub not_drawn : ℕ
not_drawn = 64

-- 2. The write: the object's motion register takes the upper half byte, HMCLR clears it, HMOVE sets the live flag.
abbrev pub object_written : ℕ → Write → Object → Object
object_written hm w o =
    record {
      position = o.position;
      age = o.age;
      motion = cond (hits w hm) (upper (byte_of w)) (cond (hits w HMCLR) 0 o.motion);
      live = hits w HMOVE || o.live;
    }

-- 4. .. each live object compares the slot with 8 plus its signed motion value (half bytes 8 to 15 mean -8 to -1).
abbrev pub compare_value : ℕ → ℤ
compare_value m = pos 8 +ℤ signed m

abbrev pub equal_slot : Tick → Object → Bool
equal_slot k o = is_number k.slot (compare_value o.motion)

-- Equal: its flag falls, no pulse. Otherwise it gets an extra pulse.
abbrev pub extra_pulse : Tick → Object → Bool
extra_pulse k o = k.comparing && (o.live && not (equal_slot k o))

-- Then the slot rises by one; at 16, after slot 15, all flags fall.
abbrev pub last_slot : ℕ
last_slot = 15

abbrev pub slot_passed : Tick → Object → Object
slot_passed k o =
    record {
      position = o.position;
      age = o.age;
      motion = o.motion;
      live = o.live && not (k.comparing && (equal_slot k o || eqb k.slot last_slot));
    }

-- 5. An object is pulsed if the clock is not blank or it has an extra pulse; never twice (004).
abbrev pub is_pulsed : Tick → Object → Bool
is_pulsed k o = not k.blank || extra_pulse k o

-- 6. On a pulse the position rises by one, 159 going to 0, and age rises by one, stopping at 64. If the position so
-- reached is a start, age becomes 0.
abbrev pub reached : Bool → ℕ → ℕ
reached pulse p = cond pulse ((p + 1) % columns) p

abbrev pub older : ℕ → ℕ
older age = cond (ltb age not_drawn) (age + 1) not_drawn

abbrev pub pulsed_if : (pulse start : Bool) → Object → Object
pulsed_if pulse start o =
    record {
      position = reached pulse o.position;
      age = cond start 0 (cond pulse (older o.age) o.age);
      motion = o.motion;
      live = o.live;
    }

-- Starts: 0 always; for players and missiles also 16 when copies are 1 or 3, 32 when 2, 3 or 6, 64 when 4 or 6 (000).
abbrev pub starts : ℕ → ℕ → Bool
starts copies p =
    eqb p 0
    || ((eqb p 16 && (eqb copies 1 || eqb copies 3))
    || ((eqb p 32 && (eqb copies 2 || (eqb copies 3 || eqb copies 6)))
    || (eqb p 64 && (eqb copies 4 || eqb copies 6))))

-- Size: 2 for copies 5, 4 for 7, else 1.
unfoldable pub size_of : ℕ → ℕ
size_of copies = cond (eqb copies 5) 2 (cond (eqb copies 7) 4 1)

-- 7. A position strobe this clock makes the position 0, pulse or not, and there is no start; age still follows the pulse.
abbrev pub strobed_if : Bool → Object → Object
strobed_if strobe o = record { position = cond strobe 0 o.position; age = o.age; motion = o.motion; live = o.live }

abbrev pub is_started : Tick → Bool → ℕ → Object → Bool
is_started k strobe copies o = is_pulsed k o && (not strobe && starts copies (reached (is_pulsed k o) o.position))

-- 4 to 7, for an object after the write.
unfoldable pub object_moved : Tick → Bool → ℕ → Object → Moved
object_moved k strobe copies o =
    let pulse = is_pulsed k o in
    let start = is_started k strobe copies o in
    record { object = strobed_if strobe (pulsed_if pulse start (slot_passed k o)); pulsed = pulse; started = start }

-- 2 and 4 to 7: an object's part of a clock, by the addresses of its strobe and its motion register.
unfoldable pub object_after : Tick → (strobe hm copies : ℕ) → Write → Object → Moved
object_after k strobe hm copies w o = object_moved k (hits w strobe) copies (object_written hm w o)

-- 6. .. a player then takes its size from NUSIZ. On a pulse its drawing goes on, by the size at the start and the size that NUSIZ
-- gives now (document 02, Two).
unfoldable pub player_after : Tick → (strobe hm copies : ℕ) → Write → Player → Player
player_after k strobe hm copies w p =
    let moved = object_after k strobe hm copies w p.body in
    let drawn = next_drawing moved.started moved.object.age p.size (size_of copies) p.drawing in
    record {
      body = moved.object;
      size = cond moved.started (size_of copies) p.size;
      drawing = cond moved.pulsed drawn p.drawing;
    }

-- A missile is an object and nothing more.
unfoldable pub missile_after : Tick → (strobe hm copies : ℕ) → Write → Object → Object
missile_after k strobe hm copies w o = (object_after k strobe hm copies w o).object

-- 7. .. The ball's strobe also makes its age 0 (001). It starts at 0 alone, as copies 0 do.
unfoldable pub ball_after : Tick → Write → Object → Object
ball_after k w o =
    let ball = (object_after k RESBL HMBL 0 w o).object in
    record { position = ball.position; age = cond (hits w RESBL) 0 ball.age; motion = ball.motion; live = ball.live }
