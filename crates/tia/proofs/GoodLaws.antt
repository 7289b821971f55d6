-- Every clock keeps a good state good, whatever byte is written.
use mathlib.Core.Path.{◌≡◌}
use mathlib.Core.Bool.{Bool, true, false, cond, ◌&&◌, ◌||◌, not, and-false}
use Prim.Native.Nat.{ℕ, ◌+◌}
use native.Mathlib.Omega.{arith}
use lib.Dec.{eqb}
use Rattle.std.proofs.lemmas.Bool.Decides.{nat_tests}
use Rattle.laws.proofs.Bools.{or_neither}
use Rattle.tia.specs.declared.object.Object.{Object}
use Rattle.tia.specs.declared.registers.Registers.{Registers}
use Rattle.tia.specs.declared.state.Objects.{Objects}
use Rattle.tia.specs.declared.state.State.{State}
use Rattle.tia.specs.declared.timing.Timing.{Timing}
use Rattle.tia.specs.declared.write.Write.{Write}
use Rattle.tia.specs.Write.{ByteWritten, HMBL, HMM0, HMM1, HMP0, HMP1, RESBL, RESM0, RESM1, RESP0, RESP1, HMOVE, hits}
use Rattle.tia.specs.Registers.{registers_after}
use Rattle.tia.specs.State.{in_range, any_live, bad_state}
use Rattle.tia.specs.Timing.{timing_written, comparing, timing_after}
use Rattle.tia.specs.Object.{equal_slot, object_written, object_moved, object_after, player_after, missile_after, ball_after}
use Rattle.tia.specs.Clock.{objects_after, clock_of}
use Rattle.tia.specs.Answers.{clock_answer}
use Rattle.tia.proofs.StateLaws.{good_in_range, good_rest, good_by}
use Rattle.tia.proofs.RangeLaws.{registers_stay, colours_stay, objects_stay, timing_stays}
use Rattle.tia.proofs.TrackLaws.{tick_at}

-- With slot 16 reached or kept no live flag is left: a flag falls with the last slot, and HMOVE, which sets it, starts at slot 0.
rest_live :
    (compares hit live equal : Bool) (slot : ℕ) → (hit ≡ true → compares ≡ false) → (slot ≡ 16 → live ≡ false) →
    cond compares (cond hit 0 slot + 1) (cond hit 0 slot) ≡ 16 →
    ((hit || live) && not (compares && (equal || eqb (cond hit 0 slot) 15))) ≡ false
rest_live compares hit live equal slot never rest e = grind (arith, nat_tests)

pub hmove_waits : (w : Write) (t : Timing) → hits w HMOVE ≡ true → comparing w t ≡ false
hmove_waits w t e = rw (e, and-false, and-false)

-- The slot after a clock.
abbrev slot_after : Write → Timing → ℕ
slot_after w t = (timing_after (tick_at w t).comparing (timing_written w t)).slot

object_rests :
    (strobe hm copies : ℕ) (w : Write) (t : Timing) (o : Object) → (t.slot ≡ 16 → o.live ≡ false) →
    slot_after w t ≡ 16 →
    (object_after (tick_at w t) strobe hm copies w o).object.live ≡ false
unfolding object_after object_moved
object_rests strobe hm copies w t o rest e =
    rest_live
    (comparing w (timing_written w t))
    (hits w HMOVE)
    o.live
    (equal_slot (tick_at w t) (object_written hm w o))
    t.slot
    (hmove_waits w (timing_written w t))
    rest
    e

-- What a failed "any live" shows of each object.
pub record NoneLive (os : Objects) : Type 0 where
  pub p0 : os.p0.body.live ≡ false
  pub p1 : os.p1.body.live ≡ false
  pub m0 : os.m0.live ≡ false
  pub m1 : os.m1.live ≡ false
  pub bl : os.bl.live ≡ false

pub none_live : (os : Objects) → any_live os ≡ false → NoneLive os
none_live os e =
    record {
      p0 = grind (arith, nat_tests);
      p1 = grind (arith, nat_tests);
      m0 = grind (arith, nat_tests);
      m1 = grind (arith, nat_tests);
      bl = grind (arith, nat_tests);
    }

objects_rest :
    (w : Write) (t : Timing) (r : Registers) (os : Objects) → (t.slot ≡ 16 → NoneLive os) → slot_after w t ≡ 16 →
    any_live (objects_after (tick_at w t) r w os) ≡ false
unfolding objects_after player_after missile_after ball_after
objects_rest w t r os rest e =
    or_neither
    (object_rests RESP0 HMP0 r.nusiz0.copies w t os.p0.body (λ at. (rest at).p0) e)
    (or_neither
    (object_rests RESP1 HMP1 r.nusiz1.copies w t os.p1.body (λ at. (rest at).p1) e)
    (or_neither
    (object_rests RESM0 HMM0 r.nusiz0.copies w t os.m0 (λ at. (rest at).m0) e)
    (or_neither
    (object_rests RESM1 HMM1 r.nusiz1.copies w t os.m1 (λ at. (rest at).m1) e)
    (object_rests RESBL HMBL 0 w t os.bl (λ at. (rest at).bl) e))))

-- Every clock keeps a good state good, whatever byte is written.
pub good_stays : (s : State) (w : Write) → ByteWritten w → bad_state s ≡ false → bad_state (clock_of s w).state ≡ false
unfolding clock_of in_range
good_stays s w byte good =
    let in-range = good_in_range s good in
    let timing = timing_stays w s.timing in
    let r = registers_after w s.registers in
    let objects = objects_stay (tick_at w s.timing) r w s.objects in
    let registers = registers_stay w s.registers byte in
    let colours = colours_stay w s.colours byte in
    good_by
    (clock_of s w).state
    (grind (arith, nat_tests))
    (objects_rest w s.timing r s.objects (λ at. none_live s.objects (good_rest s good at)))

-- So a call from a good state hands a good state back, accepted or refused.
pub answer_good : (s : State) (w : Write) → ByteWritten w → bad_state s ≡ false → bad_state (clock_answer s w).state ≡ false
unfolding clock_answer
answer_good s w byte good =
    let next = good_stays s w byte good in
    grind (arith, nat_tests)
