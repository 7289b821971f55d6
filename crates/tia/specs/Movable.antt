-- The five movable objects by name: the state, the registers and the answer bit of each.
use Rattle.std.specs.Prelude.{ℕ, ◌/◌, ◌%◌, Bool}
use Rattle.tia.specs.declared.object.Object.{Object}
use Rattle.tia.specs.declared.registers.Graphic.{Graphic}
use Rattle.tia.specs.declared.registers.Registers.{Registers}
use Rattle.tia.specs.declared.state.Objects.{Objects}
use Rattle.tia.specs.declared.state.State.{State}
use Rattle.tia.specs.Write.{HMBL, HMM0, HMM1, HMP0, HMP1, RESBL, RESM0, RESM1, RESP0, RESP1}

pub data Movable : Type 0 where
  P0 : Movable
  P1 : Movable
  M0 : Movable
  M1 : Movable
  BL : Movable

-- Its number in an answer byte, its position strobe and its motion register.
abbrev pub number_of : Movable → ℕ
number_of P0 = 0
number_of P1 = 1
number_of M0 = 2
number_of M1 = 3
number_of BL = 4

abbrev pub strobe_of : Movable → ℕ
strobe_of P0 = RESP0
strobe_of P1 = RESP1
strobe_of M0 = RESM0
strobe_of M1 = RESM1
strobe_of BL = RESBL

abbrev pub motion_register_of : Movable → ℕ
motion_register_of P0 = HMP0
motion_register_of P1 = HMP1
motion_register_of M0 = HMM0
motion_register_of M1 = HMM1
motion_register_of BL = HMBL

-- Its position, age, motion value and live flag.
abbrev pub body_of : Movable → Objects → Object
body_of P0 os = os.p0.body
body_of P1 os = os.p1.body
body_of M0 os = os.m0
body_of M1 os = os.m1
body_of BL os = os.bl

abbrev pub position_of : Movable → State → ℕ
position_of o s = (body_of o s.objects).position

abbrev pub motion_of : Movable → State → ℕ
motion_of o s = (body_of o s.objects).motion

-- Drawing registers: for a player copies, reflection, new and old graphic, VDELP; for a missile copies, width, enable; for the
-- ball width, new and old enable, VDELBL.
pub data DrawingRegisters : Type 0 where
  player : (copies : ℕ) (graphic : Graphic) → DrawingRegisters
  missile : (copies width : ℕ) (enable : Bool) → DrawingRegisters
  ball : (width : ℕ) (new old delayed : Bool) → DrawingRegisters

abbrev pub drawing_of : Movable → Registers → DrawingRegisters
drawing_of P0 r = player r.nusiz0.copies r.graphic0
drawing_of P1 r = player r.nusiz1.copies r.graphic1
drawing_of M0 r = missile r.nusiz0.copies r.nusiz0.width r.enam0
drawing_of M1 r = missile r.nusiz1.copies r.nusiz1.width r.enam1
drawing_of BL r = ball (r.playfield.ctrlpf / 16 % 4) r.enabl.new r.enabl.old r.enabl.delayed
