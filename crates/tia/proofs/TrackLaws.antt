-- One object's track through a clock: the timing, its motion value and live flag, which make its pulses, and its position.
use mathlib.Core.Path.{◌≡◌, refl}
use mathlib.Core.Bool.{Bool, false, cond, not, or-false}
use Prim.Native.Nat.{ℕ, ◌+◌, ◌%◌}
use Rattle.tia.specs.declared.object.Object.{Object}
use Rattle.tia.specs.declared.state.State.{State}
use Rattle.tia.specs.declared.timing.Tick.{Tick}
use Rattle.tia.specs.declared.timing.Timing.{Timing}
use Rattle.tia.specs.declared.write.Write.{Write}
use Rattle.tia.specs.declared.write.Write.TheVariants.{Nothing}
use Rattle.tia.specs.Write.{HMCLR, HMOVE, hits}
use Rattle.tia.specs.Timing.{late_at_start, timing_written, blank, comparing, tick_of, timing_after}
use Rattle.tia.specs.Object.{object_written, slot_passed, is_pulsed, reached}
use Rattle.tia.specs.Clock.{clock_of}
use Rattle.tia.specs.Movable.{Movable, P0, P1, M0, M1, BL, body_of, position_of, strobe_of, motion_register_of}
use Rattle.tia.proofs.Computing.{object_steps}

pub record Track : Type 0 where
  pub timing : Timing
  pub motion : ℕ
  pub live : Bool

abbrev pub track_of : Movable → State → Track
track_of o s = record { timing = s.timing; motion = (body_of o s.objects).motion; live = (body_of o s.objects).live }

-- An object with this motion value and live flag after the write, wherever it is.
abbrev anywhere : ℕ → Write → Track → Object
anywhere hm w t = object_written hm w (record { position = 0; age = 0; motion = t.motion; live = t.live })

-- A clock's tick, by its write and the timing before it.
abbrev pub tick_at : Write → Timing → Tick
tick_at w t = tick_of w (timing_written w t)

-- The timing and the track after a clock, and whether the object is pulsed on it.
unfoldable pub timing_next : Write → Timing → Timing
timing_next w t = timing_after (comparing w (timing_written w t)) (timing_written w t)

unfoldable pub track_next : (motion_register : ℕ) → Write → Track → Track
track_next hm w t =
    record {
      timing = timing_next w t.timing;
      motion = (anywhere hm w t).motion;
      live = (slot_passed (tick_at w t.timing) (anywhere hm w t)).live;
    }

unfoldable pub pulsed_on : (motion_register : ℕ) → Write → Track → Bool
pulsed_on hm w t = is_pulsed (tick_at w t.timing) (anywhere hm w t)

-- A clock acts on an object's track alone, ..
pub clock_track : (o : Movable) (s : State) (w : Write) → track_of o (clock_of s w).state ≡ track_next (motion_register_of o) w (track_of o s)
unfolding track_next timing_next object_steps
clock_track P0 s w = refl
clock_track P1 s w = refl
clock_track M0 s w = refl
clock_track M1 s w = refl
clock_track BL s w = refl

-- .. and on its position by its strobe and its pulse.
pub clock_position :
    (o : Movable) (s : State) (w : Write) →
    position_of o (clock_of s w).state
    ≡ cond (hits w (strobe_of o)) 0 (reached (pulsed_on (motion_register_of o) w (track_of o s)) (position_of o s))
unfolding pulsed_on object_steps
clock_position P0 s w = refl
clock_position P1 s w = refl
clock_position M0 s w = refl
clock_position M1 s w = refl
clock_position BL s w = refl

-- A write to none of these: the object's motion register, HMCLR, HMOVE.
pub record Undisturbed (hm : ℕ) (w : Write) : Type 0 where
  pub motion : hits w hm ≡ false
  pub clear : hits w HMCLR ≡ false
  pub move : hits w HMOVE ≡ false

-- It acts on the track as no write does, whatever the motion register is.
pub undisturbed_track : (hm : ℕ) (w : Write) (t : Track) → Undisturbed hm w → track_next hm w t ≡ track_next 0 Nothing t
unfolding track_next timing_next
undisturbed_track hm w t u = rw (u.motion, u.clear, u.move)

pub undisturbed_pulse : (hm : ℕ) (w : Write) (t : Track) → Undisturbed hm w → pulsed_on hm w t ≡ pulsed_on 0 Nothing t
unfolding pulsed_on
undisturbed_pulse hm w t u = rw (u.motion, u.clear, u.move)

-- No motion under way: slot 16.
abbrev pub resting : ℕ → Bool → Timing
resting h late = record { h = h; slot = 16; late = late }

-- Whether a clock without HMOVE is visible.
abbrev pub visible_at : ℕ → Bool → Bool
visible_at h late = not (blank (resting h (late_at_start h late)))

-- Without HMOVE it goes on so, and pulses come from the visible clocks alone.
pub resting_timing :
    (w : Write) (h : ℕ) (late : Bool) → hits w HMOVE ≡ false →
    timing_next w (resting h late) ≡ resting ((h + 1) % 228) (late_at_start h late)
unfolding timing_next
resting_timing w h late e = rw e

pub resting_live :
    (hm : ℕ) (w : Write) (t : Track) (h : ℕ) (late : Bool) → hits w HMOVE ≡ false → t.timing ≡ resting h late → t.live ≡ false →
    (track_next hm w t).live ≡ false
unfolding track_next
resting_live hm w t h late e rest still = rw (e, still)

pub resting_pulse :
    (hm : ℕ) (w : Write) (t : Track) (h : ℕ) (late : Bool) → hits w HMOVE ≡ false → t.timing ≡ resting h late →
    pulsed_on hm w t ≡ visible_at h late
unfolding pulsed_on
resting_pulse hm w t h late e rest = rw (rest, e, or-false)
