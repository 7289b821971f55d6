-- What is drawn of one object once it has passed position 0 under its drawing registers: a function of its position.
use mathlib.Core.Path.{◌≡◌, ◌∙◌, refl}
use mathlib.Core.Logic.{⊎_elim}
use mathlib.Core.Bool.{Bool, true, false, cond, ◌&&◌}
use Prim.Native.Nat.{ℕ, zero, suc, ◌+◌, ◌%◌, ◌<◌, ◌≤◌}
use native.Mathlib.Omega.{arith}
use Rattle.std.proofs.lemmas.Bool.Decides.{nat_tests}
use Rattle.laws.proofs.Split.{split}
use Rattle.tia.specs.declared.drawing.Drawing.{Drawing}
use Rattle.tia.specs.declared.lit.Lit.{Lit}
use Rattle.tia.specs.declared.object.Player.{Player}
use Rattle.tia.specs.declared.state.State.{State}
use Rattle.tia.specs.declared.timing.Tick.{Tick}
use Rattle.tia.specs.declared.write.Write.TheVariants.{Nothing}
use Rattle.tia.specs.Write.{HMP0, HMP1, RESP0, RESP1}
use Rattle.tia.specs.Registers.{registers_after}
use Rattle.tia.specs.Drawing.{no_drawing, next_drawing, drawing_lit}
use Rattle.tia.specs.Object.{object_written, is_pulsed, reached, older, starts, size_of, object_moved, object_after, player_after}
use Rattle.tia.specs.Lit.{drawn_wide, missile_lit, ball_lit, lit_of}
use Rattle.tia.specs.Clock.{objects_after, clock_of}
use Rattle.tia.specs.Movable.{Movable, P0, P1, M0, M1, BL, DrawingRegisters, player, missile, ball, body_of, position_of, motion_register_of, drawing_of}
use Rattle.tia.proofs.Computing.{object_steps}
use Rattle.tia.proofs.TrackLaws.{tick_at, track_of, pulsed_on, clock_position}

-- The copies that an object's starts go by.
abbrev copies_of : DrawingRegisters → ℕ
copies_of (player copies graphic) = copies
copies_of (missile copies width enable) = copies
copies_of (ball width new old delayed) = 0

abbrev copies_at : Movable → State → ℕ
copies_at o s = copies_of (drawing_of o s.registers)

-- The age at a position, and a player's drawing there: after so many pulses from a start at 0.
unfoldable pub settled_age : (copies position : ℕ) → ℕ
settled_age copies zero = 0
settled_age copies (suc p) = cond (starts copies (suc p)) 0 (older (settled_age copies p))

unfoldable pub settled_drawing : (copies position : ℕ) → Drawing
settled_drawing copies zero = no_drawing
settled_drawing copies (suc p) =
    next_drawing (starts copies (suc p)) (settled_age copies (suc p)) (size_of copies) (size_of copies) (settled_drawing copies p)

-- Whether a clock without a write pulses an object, and starts a copy of it.
abbrev pub pulsed : Movable → State → Bool
pulsed o s = pulsed_on (motion_register_of o) Nothing (track_of o s)

abbrev started_on : Movable → State → Bool
started_on o s = pulsed o s && starts (copies_at o s) (reached (pulsed o s) (position_of o s))

-- Such a clock keeps the registers, and moves position and age by the pulse and the start.
abbrev pub quiet_next : State → State
quiet_next s = (clock_of s Nothing).state

pub quiet_registers : (s : State) → (quiet_next s).registers ≡ s.registers
unfolding object_steps
quiet_registers s = refl

pub quiet_position : (o : Movable) (s : State) → position_of o (quiet_next s) ≡ reached (pulsed o s) (position_of o s)
quiet_position o s = clock_position o s Nothing

quiet_age :
    (o : Movable) (s : State) →
    (body_of o (quiet_next s).objects).age
    ≡ cond (started_on o s) 0 (cond (pulsed o s) (older (body_of o s.objects).age) (body_of o s.objects).age)
unfolding pulsed_on object_steps
quiet_age P0 s = refl
quiet_age P1 s = refl
quiet_age M0 s = refl
quiet_age M1 s = refl
quiet_age BL s = refl

-- A player's size is that of its copies, and its drawing is that at its position; other objects have neither.
abbrev PlayerSettled : (copies : ℕ) → Player → Type 0
PlayerSettled copies p = (p.size ≡ size_of copies) × (p.drawing ≡ settled_drawing copies p.body.position)

abbrev DrawingSettled : Movable → State → Type 0
DrawingSettled P0 s = PlayerSettled s.registers.nusiz0.copies s.objects.p0
DrawingSettled P1 s = PlayerSettled s.registers.nusiz1.copies s.objects.p1
DrawingSettled M0 s = Unit {0}
DrawingSettled M1 s = Unit {0}
DrawingSettled BL s = Unit {0}

-- An object that has passed position 0 under its drawing registers.
pub record Settled (o : Movable) (s : State) : Type 0 where
  pub age : (body_of o s.objects).age ≡ settled_age (copies_at o s) (position_of o s)
  pub drawing : DrawingSettled o s

-- The position after one that is followed by the next, and after the last.
inside : (p : ℕ) → p < 159 → (p + 1) % 160 ≡ suc p
inside p l = omega arith

around : (p : ℕ) → p < 160 → 159 ≤ p → (p + 1) % 160 ≡ 0
around p h l = omega arith

-- A pulse takes age and drawing at a position to those at the next; position 0 is always a start.
next_age :
    (copies p : ℕ) → p < 160 →
    cond (starts copies ((p + 1) % 160)) 0 (older (settled_age copies p)) ≡ settled_age copies ((p + 1) % 160)
unfolding settled_age
next_age copies p h =
    ⊎_elim
    (λ (l : p < 159). rw (inside p l))
    (λ (l : 159 ≤ p). rw (around p h l))
    (split p 159)

next_drawing_lem :
    (copies p : ℕ) → p < 160 →
    next_drawing
    (starts copies ((p + 1) % 160)) (settled_age copies ((p + 1) % 160)) (size_of copies) (size_of copies) (settled_drawing copies p)
    ≡ settled_drawing copies ((p + 1) % 160)
unfolding next_drawing settled_drawing
next_drawing_lem copies p h =
    ⊎_elim
    (λ (l : p < 159). rw (inside p l))
    (λ (l : 159 ≤ p). rw (around p h l))
    (split p 159)

aged :
    (pulse : Bool) (copies p : ℕ) → p < 160 →
    cond (pulse && starts copies (reached pulse p)) 0 (cond pulse (older (settled_age copies p)) (settled_age copies p))
    ≡ settled_age copies (reached pulse p)
aged true copies p h = next_age copies p h
aged false copies p h = refl

-- A player's size and drawing after a clock with a pulse or without, with a start or without.
abbrev pub drawn_on : (pulse start : Bool) (copies age size : ℕ) → Drawing → Drawing
drawn_on pulse start copies age size d =
    cond pulse (next_drawing start (cond start 0 (cond pulse (older age) age)) size (size_of copies) d) d

pub size_kept : (start : Bool) (size held : ℕ) → held ≡ size → cond start size held ≡ size
size_kept start size held e = grind (arith, nat_tests)

abbrev starts_at : (pulse : Bool) (copies position : ℕ) → Bool
starts_at pulse copies p = pulse && starts copies (reached pulse p)

drawn_on_lem :
    (pulse : Bool) (copies p age size : ℕ) (d : Drawing) → p < 160 →
    age ≡ settled_age copies p → size ≡ size_of copies → d ≡ settled_drawing copies p →
    drawn_on pulse (starts_at pulse copies p) copies age size d ≡ settled_drawing copies (reached pulse p)
drawn_on_lem true copies p age size d h at held same = rw (at, held, same, next_age copies p h) (next_drawing_lem copies p h)
drawn_on_lem false copies p age size d h at held same = same

drawn_from_zero :
    (pulse : Bool) (copies p age size : ℕ) (d : Drawing) → pulse ≡ true → p ≡ 159 →
    drawn_on pulse (starts_at pulse copies p) copies age size d ≡ settled_drawing copies (reached pulse p)
unfolding next_drawing settled_drawing
drawn_from_zero pulse copies p age size d hit last = rw (hit, last)

size_from_zero :
    (pulse : Bool) (copies p held : ℕ) → pulse ≡ true → p ≡ 159 → cond (starts_at pulse copies p) (size_of copies) held ≡ size_of copies
size_from_zero pulse copies p held hit last = rw (hit, last)

-- So a settled player stays settled over a clock without a write, and one that passes 0 is settled after it.
abbrev pulsed_by : Tick → (hm : ℕ) → Player → Bool
pulsed_by k hm p = is_pulsed k (object_written hm Nothing p.body)

player_stays :
    (k : Tick) (strobe hm copies : ℕ) (p : Player) → p.body.position < 160 → p.body.age ≡ settled_age copies p.body.position →
    PlayerSettled copies p → PlayerSettled copies (player_after k strobe hm copies Nothing p)
unfolding player_after object_after object_moved
player_stays k strobe hm copies p h at settled =
    let pulse = pulsed_by k hm p in
    let from = p.body.position in (
      size_kept (starts_at pulse copies from) (size_of copies) p.size settled.0,
      drawn_on_lem pulse copies from p.body.age p.size p.drawing h at settled.0 settled.1,
    )

player_from_zero :
    (k : Tick) (strobe hm copies : ℕ) (p : Player) → pulsed_by k hm p ≡ true → p.body.position ≡ 159 →
    PlayerSettled copies (player_after k strobe hm copies Nothing p)
unfolding player_after object_after object_moved
player_from_zero k strobe hm copies p hit last =
    let pulse = pulsed_by k hm p in
    let from = p.body.position in (
      size_from_zero pulse copies from p.size hit last,
      drawn_from_zero pulse copies from p.body.age p.size p.drawing hit last,
    )

drawing_stays : (o : Movable) (s : State) → position_of o s < 160 → Settled o s → DrawingSettled o (quiet_next s)
unfolding registers_after objects_after clock_of
drawing_stays P0 s h settled = player_stays (tick_at Nothing s.timing) RESP0 HMP0 (copies_at P0 s) s.objects.p0 h settled.age settled.drawing
drawing_stays P1 s h settled = player_stays (tick_at Nothing s.timing) RESP1 HMP1 (copies_at P1 s) s.objects.p1 h settled.age settled.drawing
drawing_stays M0 s h settled = tt
drawing_stays M1 s h settled = tt
drawing_stays BL s h settled = tt

drawing_from_zero : (o : Movable) (s : State) → pulsed o s ≡ true → position_of o s ≡ 159 → DrawingSettled o (quiet_next s)
unfolding pulsed_on registers_after objects_after clock_of
drawing_from_zero P0 s hit last = player_from_zero (tick_at Nothing s.timing) RESP0 HMP0 (copies_at P0 s) s.objects.p0 hit last
drawing_from_zero P1 s hit last = player_from_zero (tick_at Nothing s.timing) RESP1 HMP1 (copies_at P1 s) s.objects.p1 hit last
drawing_from_zero M0 s hit last = tt
drawing_from_zero M1 s hit last = tt
drawing_from_zero BL s hit last = tt

pub settled_stays : (o : Movable) (s : State) → position_of o s < 160 → Settled o s → Settled o (quiet_next s)
settled_stays o s h settled =
    record {
      age =
          quiet_age o s
          ∙ rw (settled.age, quiet_position o s, quiet_registers s) (aged (pulsed o s) (copies_at o s) (position_of o s) h);
      drawing = drawing_stays o s h settled;
    }

pub settled_from_zero :
    (o : Movable) (s : State) → pulsed o s ≡ true → position_of o s ≡ 159 → Settled o (quiet_next s)
unfolding settled_age
settled_from_zero o s pulse last =
    record {
      age = quiet_age o s ∙ rw (quiet_position o s, pulse, last);
      drawing = drawing_from_zero o s pulse last;
    }

-- The picture of a settled object, by its position.
unfoldable pub drawn_at : DrawingRegisters → ℕ → Bool
drawn_at (player copies graphic) p = drawing_lit graphic (settled_drawing copies p)
drawn_at (missile copies width enable) p = drawn_wide enable width (settled_age copies p)
drawn_at (ball width new old delayed) p = drawn_wide (cond delayed old new) width (settled_age 0 p)

abbrev pub flag_of : Movable → Lit → Bool
flag_of P0 l = l.p0
flag_of P1 l = l.p1
flag_of M0 l = l.m0
flag_of M1 l = l.m1
flag_of BL l = l.bl

pub settled_lit :
    (o : Movable) (s : State) (h : ℕ) → Settled o s →
    flag_of o (lit_of h s.registers s.objects) ≡ drawn_at (drawing_of o s.registers) (position_of o s)
unfolding lit_of missile_lit ball_lit drawn_at
settled_lit P0 s h settled = rw settled.drawing.1
settled_lit P1 s h settled = rw settled.drawing.1
settled_lit M0 s h settled = rw settled.age
settled_lit M1 s h settled = rw settled.age
settled_lit BL s h settled = rw settled.age
