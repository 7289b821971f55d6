-- Every part of a state stays in its range: registers, colours, objects, drawings and timing.
use mathlib.Core.Path.{◌≡◌, refl}
use mathlib.Core.Bool.{Bool, true, false, cond, ◌&&◌}
use Prim.Native.Nat.{ℕ, ◌+◌, ◌%◌, ◌≤◌}
use native.Mathlib.Omega.{arith}
use borrow.Author.Tests.{le-leb}
use lib.Dec.{eqb, leb}
use Rattle.std.proofs.lemmas.Bool.Decides.{nat_tests}
use Rattle.laws.proofs.Bools.{and_both, and_first, and_second, cond_passes}
use Rattle.tia.specs.declared.colours.Colours.{Colours}
use Rattle.tia.specs.declared.drawing.Drawing.{Drawing}
use Rattle.tia.specs.declared.object.Object.{Object}
use Rattle.tia.specs.declared.object.Player.{Player}
use Rattle.tia.specs.declared.playfield.Playfield.{Playfield}
use Rattle.tia.specs.declared.registers.Graphic.{Graphic}
use Rattle.tia.specs.declared.registers.Nusiz.{Nusiz}
use Rattle.tia.specs.declared.registers.Registers.{Registers}
use Rattle.tia.specs.declared.state.Objects.{Objects}
use Rattle.tia.specs.declared.timing.Tick.{Tick}
use Rattle.tia.specs.declared.timing.Timing.{Timing}
use Rattle.tia.specs.declared.write.Write.{Write}
use Rattle.tia.specs.Write.{ByteWritten}
use Rattle.tia.specs.Write.{HMBL, HMM0, HMM1, HMP0, HMP1, RESBL}
use Rattle.tia.specs.Write.{RESM0, RESM1, RESP0, RESP1, hits}
use Rattle.tia.specs.Registers.{nusiz_after, graphic_after, playfield_after, registers_after, colours_after}
use Rattle.tia.specs.Drawing.{gone_on, next_drawing}
use Rattle.tia.specs.State.{timing_in_range, object_in_range, size_in_range, drawing_in_range, player_in_range, objects_in_range, nusiz_in_range}
use Rattle.tia.specs.State.{playfield_in_range, graphic_in_range, registers_in_range, colours_in_range}
use Rattle.tia.specs.Timing.{timing_written, comparing, timing_after}
use Rattle.tia.specs.Object.{object_written, slot_passed, pulsed_if, strobed_if, is_pulsed, is_started, older, size_of, object_moved, object_after}
use Rattle.tia.specs.Object.{player_after, missile_after, ball_after}
use Rattle.tia.specs.Clock.{objects_after}

-- One of two numbers up to a limit.
chosen : (limit : ℕ) (b : Bool) (m n : ℕ) → m ≤ limit → leb n limit ≡ true → leb (cond b m n) limit ≡ true
chosen limit b m n p q = cond_passes (λ n. leb n limit) b (le-leb m limit p) q

-- NUSIZ, a graphic, the playfield, the colours, and so all registers.
nusiz_stays : (address : ℕ) (w : Write) (n : Nusiz) → nusiz_in_range n ≡ true → nusiz_in_range (nusiz_after address w n) ≡ true
nusiz_stays address w n ok = grind (arith, nat_tests)

graphic_stays :
    (reflect own other delay : ℕ) (w : Write) (g : Graphic) → ByteWritten w → graphic_in_range g ≡ true →
    graphic_in_range (graphic_after reflect own other delay w g) ≡ true
unfolding graphic_in_range
graphic_stays reflect own other delay w g byte ok = grind (arith, nat_tests)

playfield_stays :
    (w : Write) (p : Playfield) → ByteWritten w → playfield_in_range p ≡ true →
    playfield_in_range (playfield_after w p) ≡ true
unfolding playfield_in_range
playfield_stays w p byte ok = grind (arith, nat_tests)

pub colours_stay : (w : Write) (c : Colours) → ByteWritten w → colours_in_range c ≡ true → colours_in_range (colours_after w c) ≡ true
unfolding colours_in_range colours_after
colours_stay w c byte ok = grind (arith, nat_tests)

pub registers_stay :
    (w : Write) (r : Registers) → ByteWritten w → registers_in_range r ≡ true →
    registers_in_range (registers_after w r) ≡ true
unfolding registers_in_range registers_after
registers_stay w r byte ok = grind (arith, nat_tests, nusiz_stays, playfield_stays, graphic_stays)

-- An object's position, age and motion value.
older_up_to : (age : ℕ) → older age ≤ 64
older_up_to age = grind (arith, nat_tests)

written_stays : (hm : ℕ) (w : Write) (o : Object) → object_in_range o ≡ true → object_in_range (object_written hm w o) ≡ true
written_stays hm w o ok = grind (arith, nat_tests)

pulsed_stays : (pulse start : Bool) (o : Object) → object_in_range o ≡ true → object_in_range (pulsed_if pulse start o) ≡ true
pulsed_stays pulse start o ok =
    let rest = and_second (leb o.position 159) (leb o.age 64 && leb o.motion 15) ok in
    let aged = chosen 64 pulse (older o.age) o.age (older_up_to o.age) (and_first (leb o.age 64) _ rest) in
    and_both
    (chosen 159 pulse ((o.position + 1) % 160) o.position (omega arith) (and_first (leb o.position 159) _ ok))
    (and_both (chosen 64 start 0 (cond pulse (older o.age) o.age) (omega arith) aged) (and_second (leb o.age 64) _ rest))

strobed_stays : (strobe : Bool) (o : Object) → object_in_range o ≡ true → object_in_range (strobed_if strobe o) ≡ true
strobed_stays strobe o ok = grind (arith, nat_tests)

moved_stays :
    (k : Tick) (strobe : Bool) (copies : ℕ) (o : Object) → object_in_range o ≡ true →
    object_in_range (object_moved k strobe copies o).object ≡ true
unfolding object_moved
moved_stays k strobe copies o ok =
    let slotted = slot_passed k o in
    let start = is_started k strobe copies o in
    strobed_stays strobe (pulsed_if (is_pulsed k o) start slotted) (pulsed_stays (is_pulsed k o) start slotted ok)

object_stays :
    (k : Tick) (strobe hm copies : ℕ) (w : Write) (o : Object) → object_in_range o ≡ true →
    object_in_range (object_after k strobe hm copies w o).object ≡ true
unfolding object_after
object_stays k strobe hm copies w o ok = moved_stays k (hits w strobe) copies (object_written hm w o) (written_stays hm w o ok)

-- A size is 1, 2 or 4: what holds of these holds of it.
pub of_sizes : (P : ℕ → Type 0) (copies : ℕ) → P 1 → P 2 → P 4 → P (size_of copies)
unfolding size_of
of_sizes P copies one two four = chosen_size (eqb copies 5) (eqb copies 7)
  where
    chosen_size : (double quadruple : Bool) → P (cond double 2 (cond quadruple 4 1))
    chosen_size true quadruple = two
    chosen_size false true = four
    chosen_size false false = one

size_taken : (copies : ℕ) → size_in_range (size_of copies) ≡ true
size_taken copies = of_sizes (λ size. size_in_range size ≡ true) copies refl refl refl

size_up_to : (copies : ℕ) → size_of copies ≤ 4
unfolding size_of
size_up_to copies = grind (arith, nat_tests)

-- A drawing: the next pixel is at most 8, and a pixel is shown again only as long as its clocks are below a size.
gone_on_stays : (size : ℕ) (d : Drawing) → size ≤ 4 → drawing_in_range d ≡ true → drawing_in_range (gone_on size d) ≡ true
gone_on_stays size d few ok = grind (arith, nat_tests)

drawing_stays :
    (pulse start : Bool) (age held size : ℕ) (d : Drawing) → size ≤ 4 → drawing_in_range d ≡ true →
    drawing_in_range (cond pulse (next_drawing start age held size d) d) ≡ true
unfolding next_drawing
drawing_stays pulse start age held size d few ok =
    let on = gone_on_stays size d few ok in
    grind (arith, nat_tests)

player_stays :
    (k : Tick) (strobe hm copies : ℕ) (w : Write) (p : Player) → player_in_range p ≡ true →
    player_in_range (player_after k strobe hm copies w p) ≡ true
unfolding player_in_range player_after
player_stays k strobe hm copies w p ok =
    let moved = object_after k strobe hm copies w p.body in
    let rest = and_second (object_in_range p.body) _ ok in
    and_both
    (object_stays k strobe hm copies w p.body (and_first (object_in_range p.body) _ ok))
    (and_both
    (cond_passes size_in_range moved.started {x = size_of copies} {y = p.size} (size_taken copies) (and_first (size_in_range p.size) _ rest))
    (drawing_stays
    moved.pulsed
    moved.started
    moved.object.age
    p.size
    (size_of copies)
    p.drawing
    (size_up_to copies)
    (and_second (size_in_range p.size) _ rest)))

ball_stays : (k : Tick) (w : Write) (o : Object) → object_in_range o ≡ true → object_in_range (ball_after k w o) ≡ true
unfolding ball_after
ball_stays k w o ok =
    let in-range = object_stays k RESBL HMBL 0 w o ok in
    grind (arith, nat_tests)

pub objects_stay :
    (k : Tick) (r : Registers) (w : Write) (os : Objects) → objects_in_range os ≡ true →
    objects_in_range (objects_after k r w os) ≡ true
unfolding objects_in_range objects_after missile_after
objects_stay k r w os ok =
    let from1 = and_second (player_in_range os.p0) _ ok in
    let missiles = and_second (player_in_range os.p1) _ from1 in
    let last = and_second (object_in_range os.m0) _ missiles in
    and_both
    (player_stays k RESP0 HMP0 r.nusiz0.copies w os.p0 (and_first (player_in_range os.p0) _ ok))
    (and_both
    (player_stays k RESP1 HMP1 r.nusiz1.copies w os.p1 (and_first (player_in_range os.p1) _ from1))
    (and_both
    (object_stays k RESM0 HMM0 r.nusiz0.copies w os.m0 (and_first (object_in_range os.m0) _ missiles))
    (and_both
    (object_stays k RESM1 HMM1 r.nusiz1.copies w os.m1 (and_first (object_in_range os.m1) _ last))
    (ball_stays k w os.bl (and_second (object_in_range os.m1) _ last)))))

-- h and the slot.
pub timing_stays :
    (w : Write) (t : Timing) → timing_in_range t ≡ true →
    timing_in_range (timing_after (comparing w (timing_written w t)) (timing_written w t)) ≡ true
timing_stays w t ok = grind (arith, nat_tests)
