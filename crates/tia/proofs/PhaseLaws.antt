-- The phases of a line for one object: at rest, moving after an HMOVE, and at rest again.
use mathlib.Core.Path.{◌≡◌, ◌∙◌, ap}
use mathlib.Core.Bool.{Bool, false, cond}
use Prim.Native.Nat.{ℕ, suc, ◌+◌, ◌%◌, ◌<◌, ◌≤◌}
use native.Mathlib.Omega.{arith}
use Rattle.std.proofs.lemmas.Bool.Decides.{nat_tests}
use Rattle.laws.specs.Steps.{after}
use Rattle.tia.specs.declared.state.State.{State}
use Rattle.tia.specs.declared.write.Write.{Write}
use Rattle.tia.specs.declared.write.Write.TheVariants.{Nothing}
use Rattle.tia.specs.Write.{HMOVE, hits}
use Rattle.tia.specs.Timing.{late_at_start}
use Rattle.tia.specs.Object.{reached}
use Rattle.tia.specs.Clock.{clock_of}
use Rattle.tia.specs.Movable.{Movable, body_of, position_of, strobe_of, motion_register_of}
use Rattle.tia.proofs.LineLaws.{state_at, over_clocks}
use Rattle.tia.proofs.TrackLaws.{Track, track_of, track_next, timing_next, pulsed_on, clock_track, clock_position, Undisturbed, undisturbed_track}
use Rattle.tia.proofs.TrackLaws.{undisturbed_pulse, resting, visible_at, resting_timing, resting_live, resting_pulse}

-- A position after one pulse more, or none.
advanced : (pulse : Bool) (p q : ℕ) → reached pulse ((p + q) % 160) ≡ (p + cond pulse (suc q) q) % 160
advanced pulse p q = grind (arith, nat_tests)

-- The position after a clock without the object's strobe.
pub stepped :
    (o : Movable) (s : State) (w : Write) (pulse : Bool) (p q : ℕ) → hits w (strobe_of o) ≡ false →
    pulsed_on (motion_register_of o) w (track_of o s) ≡ pulse → position_of o s ≡ (p + q) % 160 →
    position_of o (clock_of s w).state ≡ (p + cond pulse (suc q) q) % 160
stepped o s w pulse p q unstrobed pulsed at =
    clock_position o s w ∙ rw (unstrobed, pulsed, at) (advanced pulse p q)

-- At rest: h, the late flag, and the pulses so far.
pub record Rest : Type 0 where
  pub h : ℕ
  pub late : Bool
  pub pulses : ℕ

unfoldable pub rest_next : Rest → Rest
rest_next r =
    record {
      h = (r.h + 1) % 228;
      late = late_at_start r.h r.late;
      pulses = cond (visible_at r.h r.late) (suc r.pulses) r.pulses;
    }

-- An object at rest, at a position that it reached by these pulses.
pub record Idle (o : Movable) (s : State) (p : ℕ) (r : Rest) : Type 0 where
  pub timing : s.timing ≡ resting r.h r.late
  pub still : (body_of o s.objects).live ≡ false
  pub at : position_of o s ≡ (p + r.pulses) % 160

pub idle_step :
    (o : Movable) (s : State) (w : Write) (p : ℕ) (r : Rest) → hits w HMOVE ≡ false → hits w (strobe_of o) ≡ false →
    Idle o s p r → Idle o (clock_of s w).state p (rest_next r)
unfolding rest_next track_next
idle_step o s w p r unmoved unstrobed idle =
    record {
      timing = ap (λ (t : Track). t.timing) (clock_track o s w) ∙ ap (timing_next w) idle.timing ∙ resting_timing w r.h r.late unmoved;
      still =
          ap (λ (t : Track). t.live) (clock_track o s w)
          ∙ resting_live (motion_register_of o) w (track_of o s) r.h r.late unmoved idle.timing idle.still;
      at =
          stepped o s w _ p r.pulses unstrobed (resting_pulse _ w _ r.h r.late unmoved idle.timing) idle.at;
    }

-- Clocks without HMOVE and without the object's strobe.
abbrev IdleWrite : Movable → Write → Type 0
IdleWrite o w = (hits w HMOVE ≡ false) × (hits w (strobe_of o) ≡ false)

pub idle_phase :
    (o : Movable) (writes : ℕ → Write) (s : State) (p : ℕ) (r : Rest) (n k : ℕ) →
    ((i : ℕ) → n ≤ i → i < n + k → hits (writes i) HMOVE ≡ false) →
    ((i : ℕ) → hits (writes i) (strobe_of o) ≡ false) →
    Idle o (state_at writes s n) p r → Idle o (state_at writes s (n + k)) p (after rest_next k r)
idle_phase o writes s p r n k unmoved unstrobed idle =
    over_clocks (λ s r. Idle o s p r) rest_next (IdleWrite o) (λ s w r calm. idle_step o s w p r calm.0 calm.1) writes s r n k
    (λ i l h. (unmoved i l h, unstrobed i)) idle

-- Moving: the track, and the pulses so far.
pub record Moving : Type 0 where
  pub track : Track
  pub pulses : ℕ

unfoldable pub moving_next : Moving → Moving
moving_next m =
    record {
      track = track_next 0 Nothing m.track;
      pulses = cond (pulsed_on 0 Nothing m.track) (suc m.pulses) m.pulses;
    }

pub record OnTrack (o : Movable) (s : State) (p : ℕ) (m : Moving) : Type 0 where
  pub on : track_of o s ≡ m.track
  pub at : position_of o s ≡ (p + m.pulses) % 160

moving_step :
    (o : Movable) (s : State) (w : Write) (p : ℕ) (m : Moving) → Undisturbed (motion_register_of o) w → hits w (strobe_of o) ≡ false →
    OnTrack o s p m → OnTrack o (clock_of s w).state p (moving_next m)
unfolding moving_next
moving_step o s w p m undisturbed unstrobed moves =
    record {
      on =
          clock_track o s w ∙ undisturbed_track (motion_register_of o) w (track_of o s) undisturbed
          ∙ ap (track_next 0 Nothing) moves.on;
      at =
          stepped o s w _ p m.pulses unstrobed (undisturbed_pulse _ w _ undisturbed ∙ ap (pulsed_on 0 Nothing) moves.on) moves.at;
    }

-- Clocks without HMOVE, the object's motion register, HMCLR and the object's strobe.
abbrev MovingWrite : Movable → Write → Type 0
MovingWrite o w = Undisturbed (motion_register_of o) w × (hits w (strobe_of o) ≡ false)

pub moving_phase :
    (o : Movable) (writes : ℕ → Write) (s : State) (p : ℕ) (m : Moving) (n k : ℕ) →
    ((i : ℕ) → n ≤ i → i < n + k → Undisturbed (motion_register_of o) (writes i)) →
    ((i : ℕ) → hits (writes i) (strobe_of o) ≡ false) →
    OnTrack o (state_at writes s n) p m → OnTrack o (state_at writes s (n + k)) p (after moving_next k m)
moving_phase o writes s p m n k undisturbed unstrobed moves =
    over_clocks (λ s m. OnTrack o s p m) moving_next (MovingWrite o) (λ s w m calm. moving_step o s w p m calm.0 calm.1) writes s m n k
    (λ i l h. (undisturbed i l h, unstrobed i)) moves
