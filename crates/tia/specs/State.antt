-- The chip's state: the range of every field, and the start state.
use Rattle.std.specs.Prelude.{ℕ, Bool, false, ◌&&◌, ◌||◌, not, eqb, leb}
use Rattle.tia.specs.declared.colours.Colours.{Colours}
use Rattle.tia.specs.declared.drawing.Drawing.{Drawing}
use Rattle.tia.specs.declared.latches.Latches.{Latches}
use Rattle.tia.specs.declared.object.Object.{Object}
use Rattle.tia.specs.declared.object.Player.{Player}
use Rattle.tia.specs.declared.playfield.Playfield.{Playfield}
use Rattle.tia.specs.declared.registers.Enable.{Enable}
use Rattle.tia.specs.declared.registers.Graphic.{Graphic}
use Rattle.tia.specs.declared.registers.Nusiz.{Nusiz}
use Rattle.tia.specs.declared.registers.Registers.{Registers}
use Rattle.tia.specs.declared.state.Objects.{Objects}
use Rattle.tia.specs.declared.state.State.{State}
use Rattle.tia.specs.declared.timing.Timing.{Timing}
use Rattle.tia.specs.Drawing.{no_pixel, no_drawing}

-- Line clock h, 0 to 227. Motion slot 0 to 16.
abbrev pub timing_in_range : Timing → Bool
timing_in_range t = leb t.h 227 && leb t.slot 16

-- For each object P0, P1, M0, M1, BL: position 0 to 159; age 0 to 64; motion value 0 to 15.
abbrev pub object_in_range : Object → Bool
object_in_range o = leb o.position 159 && (leb o.age 64 && leb o.motion 15)

-- For each player also a held size 1, 2 or 4; and the pixel, 0 to 8, and its clocks shown, 0 to 4 (document 02, Two).
abbrev pub size_in_range : (size : ℕ) → Bool
size_in_range size = eqb size 1 || (eqb size 2 || eqb size 4)

abbrev pub drawing_in_range : Drawing → Bool
drawing_in_range d = leb d.pixel no_pixel && leb d.shown 4

unfoldable pub player_in_range : Player → Bool
player_in_range p = object_in_range p.body && (size_in_range p.size && drawing_in_range p.drawing)

unfoldable pub objects_in_range : Objects → Bool
objects_in_range os =
    player_in_range os.p0 && (player_in_range os.p1 && (object_in_range os.m0 && (object_in_range os.m1 && object_in_range os.bl)))

-- The registers, each within its width: copies 0 to 7, width codes 0 to 3, PF0's half byte; PF1, PF2, CTRLPF and four
-- graphics as bytes.
abbrev pub nusiz_in_range : Nusiz → Bool
nusiz_in_range n = leb n.copies 7 && leb n.width 3

abbrev pub is_byte : ℕ → Bool
is_byte v = leb v 255

unfoldable pub playfield_in_range : Playfield → Bool
playfield_in_range p = is_byte p.ctrlpf && (leb p.pf0 15 && (is_byte p.pf1 && is_byte p.pf2))

unfoldable pub graphic_in_range : Graphic → Bool
graphic_in_range g = is_byte g.new && is_byte g.old

unfoldable pub registers_in_range : Registers → Bool
registers_in_range r =
    nusiz_in_range r.nusiz0
    && (nusiz_in_range r.nusiz1
    && (playfield_in_range r.playfield
    && (graphic_in_range r.graphic0
    && graphic_in_range r.graphic1)))

-- The four colour registers join the state with range 0 to 255 (document 02, One).
unfoldable pub colours_in_range : Colours → Bool
colours_in_range c = is_byte c.colup0 && (is_byte c.colup1 && (is_byte c.colupf && is_byte c.colubk))

unfoldable pub in_range : State → Bool
in_range s =
    timing_in_range s.timing && (objects_in_range s.objects && (registers_in_range s.registers && colours_in_range s.colours))

-- Slot 16: no motion under way, all live flags then false.
abbrev pub any_live : Objects → Bool
any_live os = os.p0.body.live || (os.p1.body.live || (os.m0.live || (os.m1.live || os.bl.live)))

unfoldable pub live_at_rest : State → Bool
live_at_rest s = eqb s.timing.slot 16 && any_live s.objects

-- A bad state, refusal 1: a field is outside its range, or a live flag is set with slot 16. Every other state is good.
unfoldable pub bad_state : State → Bool
bad_state s = not (in_range s) || live_at_rest s

-- The start state has h = 0, ages 64, slot 16, sizes 1, no pixel shown (document 02, Two), and zero or false elsewhere.
abbrev pub start_object : Object
start_object = record { position = 0; age = 64; motion = 0; live = false }

abbrev pub start_player : Player
start_player = record { body = start_object; size = 1; drawing = no_drawing }

abbrev pub start_objects : Objects
start_objects = record { p0 = start_player; p1 = start_player; m0 = start_object; m1 = start_object; bl = start_object }

abbrev pub start_nusiz : Nusiz
start_nusiz = record { copies = 0; width = 0 }

abbrev pub start_graphic : Graphic
start_graphic = record { reflected = false; new = 0; old = 0; delayed = false }

abbrev pub start_enable : Enable
start_enable = record { new = false; old = false; delayed = false }

abbrev pub start_playfield : Playfield
start_playfield = record { ctrlpf = 0; pf0 = 0; pf1 = 0; pf2 = 0 }

abbrev pub start_registers : Registers
start_registers =
    record {
      nusiz0 = start_nusiz;
      nusiz1 = start_nusiz;
      playfield = start_playfield;
      graphic0 = start_graphic;
      graphic1 = start_graphic;
      enam0 = false;
      enam1 = false;
      enabl = start_enable;
    }

abbrev pub start_colours : Colours
start_colours = record { colup0 = 0; colup1 = 0; colupf = 0; colubk = 0 }

abbrev pub no_latches : Latches
no_latches =
    record {
      m0p1 = false;
      m0p0 = false;
      m1p0 = false;
      m1p1 = false;
      p0pf = false;
      p0bl = false;
      p1pf = false;
      p1bl = false;
      m0pf = false;
      m0bl = false;
      m1pf = false;
      m1bl = false;
      blpf = false;
      p0p1 = false;
      m0m1 = false;
    }

unfoldable pub start_state : State
start_state =
    record {
      timing = record { h = 0; slot = 16; late = false };
      objects = start_objects;
      registers = start_registers;
      colours = start_colours;
      latches = no_latches;
    }
