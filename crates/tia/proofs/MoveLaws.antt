-- A line's move of one object: none without HMOVE, and the signed motion value with one at clocks 0 to 15.
use mathlib.Core.Path.{◌≡◌, ◌∙◌, refl, sym, ap}
use mathlib.Core.Logic.{◌⊎◌, ⊎_elim, ⊎_map}
use mathlib.Core.Bool.{Bool, true, false, ◌&&◌, ◌||◌, not, and-false, or-true, true≢false}
use Prim.Native.Nat.{ℕ, suc, ◌+◌, ◌-◌, ◌%◌, ◌<◌, ◌≤◌}
use native.Mathlib.Nat.{zero-add}
use native.Mathlib.Omega.{arith}
use borrow.Author.Tests.{lt-ltb, eqb-true}
use lib.Dec.{T, eqb}
use Rattle.std.proofs.lemmas.Bool.Decides.{nat_tests}
use Rattle.laws.specs.Steps.{after}
use Rattle.laws.proofs.Bools.{and_first, and_second, is_true, not_true, or_cases}
use Rattle.laws.proofs.Table.{every_below, below}
use Rattle.tia.specs.declared.state.State.{State}
use Rattle.tia.specs.declared.timing.Timing.{Timing}
use Rattle.tia.specs.declared.write.Write.{Write}
use Rattle.tia.specs.declared.write.Write.TheVariants.{Nothing, Register}
use Rattle.tia.specs.Write.{HMCLR, HMOVE, hits}
use Rattle.tia.specs.Signed.{signed}
use Rattle.tia.specs.Clock.{clock_of}
use Rattle.tia.specs.Movable.{Movable, P0, P1, M0, M1, BL, motion_of, strobe_of, motion_register_of}
use Rattle.tia.specs.Timing.{timing_written}
use Rattle.tia.proofs.GoodLaws.{hmove_waits}
use Rattle.tia.proofs.LineLaws.{state_at, state_first}
use Rattle.tia.proofs.MotionLaws.{end_slot}
use Rattle.tia.proofs.TrackLaws.{Track, track_of, track_next, timing_next, pulsed_on, resting, clock_track, Undisturbed}
use Rattle.tia.proofs.PhaseLaws.{Rest, rest_next, stepped, Idle, idle_step, idle_phase, Moving, moving_next, OnTrack, moving_phase}

-- At the start of a line, and of a motion.
abbrev pub at_start : Bool → Rest
at_start late = record { h = 0; late = late; pulses = 0 }

abbrev moving_from : (h motion : ℕ) → Moving
moving_from h m =
    record { track = record { timing = record { h = h; slot = 0; late = true }; motion = m; live = true }; pulses = 0 }

-- A line without HMOVE has 160 pulses: computed.
line_at_rest : (late : Bool) → after rest_next 228 (at_start late) ≡ record { h = 0; late = false; pulses = 160 }
unfolding after rest_next
line_at_rest true = refl
line_at_rest false = refl

-- Up to clock 15 none: computed.
is_early : ℕ → Bool → Bool
is_early c late = eqb (after rest_next c (at_start late)).h c && eqb (after rest_next c (at_start late)).pulses 0

early : T (every_below 16 (λ c. is_early c true && is_early c false))
unfolding is_early after rest_next
early = tt

-- From clock 77 with a late blank 151: computed.
rest_of_line : after rest_next 151 (record { h = 77; late = true; pulses = 0 }) ≡ record { h = 0; late = true; pulses = 151 }
unfolding after rest_next
rest_of_line = refl

-- Clocks c + 1 to 75 of a motion give as many extra pulses as there are slots before the one that ends it; its last slot is then the
-- next, or it has ended: computed for every clock and every half byte.
is_moved : (c motion : ℕ) → Bool
is_moved c m =
    let end = after moving_next (75 - c) (moving_from (c + 1) m) in
    let t = end.track.timing in
    eqb end.pulses (end_slot m)
    && (eqb t.h 76 && (t.late && (eqb t.slot 15 || (eqb t.slot 16 && not end.track.live))))

all_moved : T (every_below 16 (λ c. every_below 16 (λ m. is_moved c m)))
unfolding is_moved after moving_next track_next timing_next pulsed_on signed
all_moved = tt

-- HMOVE in the horizontal blank starts a motion with the object's motion value, without a pulse.
hmove_timing :
    (w : Write) (h : ℕ) (late : Bool) → h < 68 → hits w HMOVE ≡ true →
    timing_next w (resting h late) ≡ record { h = h + 1; slot = 0; late = true }
unfolding timing_next
hmove_timing w h late l move = rw (hmove_waits w (timing_written w (resting h late)) move, move, lt-ltb h 68 l, below_line)
  where
    below_line : (h + 1) % 228 ≡ h + 1
    below_line = omega arith

hmove_track :
    (hm : ℕ) (w : Write) (t : Track) (h : ℕ) (late : Bool) → h < 68 → hits w HMOVE ≡ true → hits w hm ≡ false → hits w HMCLR ≡ false →
    t.timing ≡ resting h late →
    track_next hm w t ≡ (moving_from (h + 1) t.motion).track
unfolding track_next
hmove_track hm w t h late l move motion clear rest =
    rw (rest, hmove_timing w h late l move, hmove_waits w (timing_written w (resting h late)) move, move, motion, clear)

hmove_pulse :
    (hm : ℕ) (w : Write) (t : Track) (h : ℕ) (late : Bool) → h < 68 → hits w HMOVE ≡ true → t.timing ≡ resting h late →
    pulsed_on hm w t ≡ false
unfolding pulsed_on
hmove_pulse hm w t h late l move rest = rw (rest, hmove_waits w (timing_written w (resting h late)) move, lt-ltb h 68 l)

-- A write that goes to one register goes to no other.
one_register : (w : Write) (a b : ℕ) → hits w a ≡ true → hits w b ≡ eqb a b
one_register Nothing a b e = absurd (true≢false (sym e))
one_register (Register c v) a b e = rw (eqb-true c a e)

-- No object's motion register is HMOVE.
not_hmove : (o : Movable) → eqb HMOVE (motion_register_of o) ≡ false
not_hmove P0 = refl
not_hmove P1 = refl
not_hmove M0 = refl
not_hmove M1 = refl
not_hmove BL = refl

-- The HMOVE clock of an object at rest.
hmove_step :
    (o : Movable) (s : State) (w : Write) (p : ℕ) (r : Rest) → r.h < 68 → r.pulses ≡ 0 → hits w HMOVE ≡ true →
    hits w (strobe_of o) ≡ false → Idle o s p r →
    OnTrack o (clock_of s w).state p (moving_from (r.h + 1) (motion_of o s))
hmove_step o s w p r early none move unstrobed idle =
    record {
      on =
          clock_track o s w
          ∙ hmove_track (motion_register_of o) w (track_of o s) r.h r.late early move
          (one_register w HMOVE (motion_register_of o) move ∙ not_hmove o)
          (one_register w HMOVE HMCLR move)
          idle.timing;
      at =
          stepped o s w false p 0 unstrobed (hmove_pulse (motion_register_of o) w (track_of o s) r.h r.late early move idle.timing)
          (idle.at ∙ ap (λ (q : ℕ). (p + q) % 160) none);
    }

-- The clock of the last slot, 76, or one after it: a visible clock, after which no motion is under way.
abbrev after_last : Rest
after_last = record { h = 77; late = true; pulses = 0 }

last_slot_timing :
    (w : Write) (t : Timing) → hits w HMOVE ≡ false → t ≡ record { h = 76; slot = 15; late = true } → timing_next w t ≡ resting 77 true
unfolding timing_next
last_slot_timing w t unmoved e = rw (e, unmoved)

last_slot_live :
    (hm : ℕ) (w : Write) (t : Track) → hits w HMOVE ≡ false → t.timing ≡ record { h = 76; slot = 15; late = true } →
    (track_next hm w t).live ≡ false
unfolding track_next
last_slot_live hm w t unmoved e = rw (e, unmoved, or-true, and-false)

last_slot_pulse :
    (hm : ℕ) (w : Write) (t : Track) → t.timing ≡ record { h = 76; slot = 15; late = true } → pulsed_on hm w t ≡ true
unfolding pulsed_on
last_slot_pulse hm w t e = rw e

rebased :
    (o : Movable) (s : State) (p q h : ℕ) (late : Bool) → Idle o s p (record { h = h; late = late; pulses = q }) →
    Idle o s (p + q) (record { h = h; late = late; pulses = 0 })
rebased o s p q h late idle = record { timing = idle.timing; still = idle.still; at = idle.at ∙ omega arith }

last_slot_lem :
    (o : Movable) (s : State) (w : Write) (p : ℕ) (m : Moving) → m.track.timing ≡ record { h = 76; slot = 15; late = true } →
    hits w HMOVE ≡ false → hits w (strobe_of o) ≡ false → OnTrack o s p m →
    Idle o (clock_of s w).state (p + suc m.pulses) after_last
unfolding track_next
last_slot_lem o s w p m last unmoved unstrobed moves =
    let at_last = ap (λ (t : Track). t.timing) moves.on ∙ last in
    rebased o (clock_of s w).state p (suc m.pulses) 77 true
    (record {
      timing = ap (λ (t : Track). t.timing) (clock_track o s w) ∙ last_slot_timing w s.timing unmoved at_last;
      still = ap (λ (t : Track). t.live) (clock_track o s w) ∙ last_slot_live (motion_register_of o) w (track_of o s) unmoved at_last;
      at = stepped o s w true p m.pulses unstrobed (last_slot_pulse (motion_register_of o) w (track_of o s) at_last) moves.at;
    })

ended :
    (o : Movable) (s : State) (w : Write) (p : ℕ) (m : Moving) → m.track.timing ≡ resting 76 true → m.track.live ≡ false →
    hits w HMOVE ≡ false → hits w (strobe_of o) ≡ false → OnTrack o s p m →
    Idle o (clock_of s w).state (p + suc m.pulses) after_last
unfolding rest_next
ended o s w p m rest still unmoved unstrobed moves =
    rebased o (clock_of s w).state p (suc m.pulses) 77 true
    (idle_step o s w p (record { h = 76; late = true; pulses = m.pulses }) unmoved unstrobed
    (record {
      timing = ap (λ (t : Track). t.timing) moves.on ∙ rest;
      still = ap (λ (t : Track). t.live) moves.on ∙ still;
      at = moves.at;
    }))

-- What the computed test shows of a motion at clock 76.
record AtLast (m : Moving) (value : ℕ) : Type 0 where
  pulses : m.pulses ≡ value
  timing : (m.track.timing ≡ record { h = 76; slot = 15; late = true }) ⊎ ((m.track.timing ≡ resting 76 true) × (m.track.live ≡ false))

at_last :
    (pulses value h slot motion : ℕ) (late live : Bool) →
    T (eqb pulses value && (eqb h 76 && (late && (eqb slot 15 || (eqb slot 16 && not live))))) →
    AtLast (record { track = record { timing = record { h = h; slot = slot; late = late }; motion = motion; live = live }; pulses = pulses }) value
at_last pulses value h slot motion late live t =
    let all = is_true _ t in
    let from-h = and_second (eqb pulses value) _ all in
    let from-late = and_second (eqb h 76) _ from-h in
    let h76 = eqb-true h 76 (and_first (eqb h 76) _ from-h) in
    let raised = and_first late _ from-late in
    record {
      pulses = eqb-true pulses value (and_first (eqb pulses value) _ all);
      timing =
          ⊎_map
          (λ (e : eqb slot 15 ≡ true). rw (h76, eqb-true slot 15 e, raised))
          (λ (e : (eqb slot 16 && not live) ≡ true). (
            rw (h76, eqb-true slot 16 (and_first (eqb slot 16) _ e), raised),
            not_true live (and_second (eqb slot 16) _ e),
          ))
          (or_cases (eqb slot 15) _ (and_second late _ from-late));
    }

moved_at : (c m : ℕ) → c < 16 → m < 16 → AtLast (after moving_next (75 - c) (moving_from (c + 1) m)) (end_slot m)
unfolding is_moved
moved_at c m early half =
    let end = after moving_next (75 - c) (moving_from (c + 1) m) in
    let t = end.track.timing in
    at_last end.pulses (end_slot m) t.h t.slot end.track.motion t.late end.track.live
    (below 16 (λ m. is_moved c m) (below 16 (λ c. every_below 16 (λ m. is_moved c m)) all_moved c early) m half)

-- The writes of a line with one HMOVE, at clock c.
pub record MovedAt (o : Movable) (writes : ℕ → Write) (c : ℕ) : Type 0 where
  pub early : c ≤ 15
  pub move : hits (writes c) HMOVE ≡ true
  pub alone : (i : ℕ) → (i ≡ c → ⊥) → hits (writes i) HMOVE ≡ false
  pub undisturbed : (i : ℕ) → c < i → i ≤ 75 → Undisturbed (motion_register_of o) (writes i)
  pub unstrobed : (i : ℕ) → hits (writes i) (strobe_of o) ≡ false

-- Up to the HMOVE: at rest, without a pulse.
until_move :
    (o : Movable) (writes : ℕ → Write) (s : State) (p c : ℕ) (late : Bool) → MovedAt o writes c → Idle o s p (at_start late) →
    OnTrack o (state_at writes s (suc c)) p (moving_from (c + 1) (motion_of o (state_at writes s c)))
unfolding state_at is_early
until_move o writes s p c late m idle =
    rw at_clock at
    (hmove_step o (state_at writes s c) (writes c) p rest (rw at_clock (omega (arith, m.early))) without m.move (m.unstrobed c) here)
  where
    rest : Rest
    rest = after rest_next c (at_start late)

    passed : (b : Bool) → T (is_early c true && is_early c false) → (is_early c b) ≡ true
    passed b t = let all = is_true _ t in grind (arith, nat_tests)

    both : (eqb rest.h c && eqb rest.pulses 0) ≡ true
    both = passed late (below 16 (λ c. is_early c true && is_early c false) early c (omega (arith, m.early)))

    at_clock : rest.h ≡ c
    at_clock = grind (arith, nat_tests, both)

    without : rest.pulses ≡ 0
    without = grind (arith, nat_tests, both)

    here : Idle o (state_at writes s c) p rest
    here =
        rw zero-add at
        (idle_phase o writes s p (at_start late) 0 c (λ i l h. m.alone i (λ e. omega (arith, e, h))) m.unstrobed idle)

-- From the HMOVE to clock 76, and over it.
until_last :
    (o : Movable) (writes : ℕ → Write) (s : State) (p c m : ℕ) → m ≤ 15 → MovedAt o writes c →
    OnTrack o (state_at writes s (suc c)) p (moving_from (c + 1) m) →
    Idle o (state_at writes s 77) (p + suc (end_slot m)) after_last
unfolding state_at
until_last o writes s p c m half w moves =
    rw last.pulses at
    (⊎_elim
    (λ (e : end.track.timing ≡ record { h = 76; slot = 15; late = true }).
    last_slot_lem o (state_at writes s 76) (writes 76) p end e unmoved (w.unstrobed 76) there)
    (λ (e : (end.track.timing ≡ resting 76 true) × (end.track.live ≡ false)).
    ended o (state_at writes s 76) (writes 76) p end e.0 e.1 unmoved (w.unstrobed 76) there)
    last.timing)
  where
    end : Moving
    end = after moving_next (75 - c) (moving_from (c + 1) m)

    last : AtLast end (end_slot m)
    last = moved_at c m (omega (arith, w.early)) (omega arith)

    unmoved : hits (writes 76) HMOVE ≡ false
    unmoved = w.alone 76 (λ e. omega (arith, e, w.early))

    clocks : suc c + (75 - c) ≡ 76
    clocks = omega (arith, w.early)

    there : OnTrack o (state_at writes s 76) p end
    there =
        rw clocks at
        (moving_phase o writes s p (moving_from (c + 1) m) (suc c) (75 - c) (λ i l h. w.undisturbed i l (omega (arith, h, w.early))) w.unstrobed moves)

-- A line with one HMOVE at clocks 0 to 15: at its end the object is at rest, moved by the slot that ends its motion and 152 pulses.
pub moved_line :
    (o : Movable) (writes : ℕ → Write) (s : State) (p c : ℕ) (late : Bool) → MovedAt o writes c → motion_of o (state_at writes s c) ≤ 15 →
    Idle o s p (at_start late) →
    Idle o (state_at writes s 228) (p + suc (end_slot (motion_of o (state_at writes s c)))) (record { h = 0; late = true; pulses = 151 })
moved_line o writes s p c late m half idle =
    rw rest_of_line at
    (idle_phase
    o
    writes
    s
    (p + suc (end_slot (motion_of o (state_at writes s c))))
    after_last
    77
    151
    (λ i l h. m.alone i (λ e. omega (arith, e, l, m.early)))
    m.unstrobed
    (until_last o writes s p c (motion_of o (state_at writes s c)) half m (until_move o writes s p c late m idle)))

-- A line without HMOVE: at its end the object is at rest, after 160 pulses.
pub unmoved_line :
    (o : Movable) (writes : ℕ → Write) (s : State) (p : ℕ) (late : Bool) → ((i : ℕ) → hits (writes i) HMOVE ≡ false) →
    ((i : ℕ) → hits (writes i) (strobe_of o) ≡ false) → Idle o s p (at_start late) →
    Idle o (state_at writes s 228) p (record { h = 0; late = false; pulses = 160 })
unmoved_line o writes s p late unmoved unstrobed idle =
    rw (line_at_rest late) at (idle_phase o writes s p (at_start late) 0 228 (λ i l h. unmoved i) unstrobed (rw (state_first writes s) idle))
