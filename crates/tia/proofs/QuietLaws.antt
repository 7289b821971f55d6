-- A line without writes: it ends every motion, settles every object, and shows a settled object by its position.
use mathlib.Core.Path.{◌≡◌, ◌∙◌, refl, sym, ap}
use mathlib.Core.Logic.{◌⊎◌, inl, inr, ⊎_elim}
use mathlib.Core.Bool.{Bool, beq, true, false, cond, ◌&&◌, and-false, true≢false}
use Prim.Native.Nat.{ℕ, zero, suc, ◌+◌, ◌%◌, ◌<◌, ◌≤◌}
use native.Mathlib.Nat.{zero-add, add-suc}
use native.Mathlib.Omega.{arith}
use borrow.Author.Tests.{le-ltb}
use lib.Dec.{T, eqb}
use Rattle.std.proofs.lemmas.Bool.Decides.{nat_tests}
use Rattle.laws.specs.Bits.{bit}
use Rattle.laws.specs.Steps.{after}
use Rattle.laws.proofs.Bools.{is_true, holds_of}
use Rattle.laws.proofs.Split.{split}
use Rattle.laws.proofs.Table.{every_below, below, same}
use Rattle.tia.specs.declared.lit.Lit.{Lit}
use Rattle.tia.specs.declared.state.State.{State}
use Rattle.tia.specs.declared.timing.Timing.{Timing}
use Rattle.tia.specs.declared.write.Write.{Write}
use Rattle.tia.specs.declared.write.Write.TheVariants.{Nothing}
use Rattle.tia.specs.Timing.{timing_written, blank}
use Rattle.tia.specs.Object.{reached}
use Rattle.tia.specs.Lit.{lit_of, lit_bits, answer_byte}
use Rattle.tia.specs.Clock.{clock_of}
use Rattle.tia.specs.Movable.{Movable, P0, P1, M0, M1, BL, number_of, position_of, motion_register_of, drawing_of}
use Rattle.tia.proofs.LitLaws.{every_lit, at_lit}
use Rattle.tia.proofs.LineLaws.{state_at, state_first, over_clocks}
use Rattle.tia.proofs.TrackLaws.{Track, track_of, track_next, timing_next, pulsed_on, clock_track, resting}
use Rattle.tia.proofs.PhaseLaws.{rest_next, Idle, idle_phase}
use Rattle.tia.proofs.MoveLaws.{at_start}
use Rattle.tia.proofs.DrawLaws.{pulsed, quiet_next, quiet_registers, quiet_position, Settled, settled_stays, settled_from_zero, drawn_at}
use Rattle.tia.proofs.DrawLaws.{flag_of, settled_lit}

-- The state before clock n of a line without writes.
abbrev pub quiet_at : State → ℕ → State
quiet_at s n = state_at (λ i. Nothing) s n

-- The timing over clocks without writes, and the visible ones among them.
record Sweep : Type 0 where
  timing : Timing
  visible : ℕ

unfoldable sweep_next : Sweep → Sweep
sweep_next q =
    record {
      timing = timing_next Nothing q.timing;
      visible = cond (blank (timing_written Nothing q.timing)) q.visible (suc q.visible);
    }

-- A line ends at h = 0 with no motion under way, whatever the slot was, and has 160 visible clocks: computed.
abbrev line_from : ℕ → Bool → Sweep
line_from slot late = after sweep_next 228 (record { timing = record { h = 0; slot = slot; late = late }; visible = 0 })

is_swept : ℕ → Bool → Bool
is_swept slot late =
    let end = line_from slot late in
    eqb end.timing.h 0 && (eqb end.timing.slot 16 && eqb end.visible 160)

all_swept : T (every_below 17 (λ slot. is_swept slot true && is_swept slot false))
unfolding is_swept after sweep_next timing_next
all_swept = tt

swept : (slot : ℕ) (late : Bool) → slot < 17 → is_swept slot late ≡ true
swept slot late h =
    let both = is_true _ (below 17 (λ slot. is_swept slot true && is_swept slot false) all_swept slot h) in
    grind (arith, nat_tests)

-- A visible clock pulses every object.
visible_pulses :
    (hm : ℕ) (t : Track) → blank (timing_written Nothing t.timing) ≡ false → pulsed_on hm Nothing t ≡ true
unfolding pulsed_on
visible_pulses hm t e = rw e

-- An object in a line without writes: settled, or as far on as there were visible clocks.
record Sweeping (o : Movable) (s : State) (q : Sweep) : Type 0 where
  timing : s.timing ≡ q.timing
  below_160 : position_of o s < 160
  progress : Settled o s ⊎ (q.visible ≤ position_of o s)

reached_below : (pulse : Bool) (p : ℕ) → p < 160 → reached pulse p < 160
reached_below pulse p h = grind (arith, nat_tests)

moved_on :
    (o : Movable) (s : State) (q : Sweep) → s.timing ≡ q.timing → position_of o s < 160 → q.visible ≤ position_of o s →
    Settled o (quiet_next s) ⊎ ((sweep_next q).visible ≤ position_of o (quiet_next s))
unfolding sweep_next
moved_on o s q timing h progress = by_pulse (pulsed o s) refl
  where
    p : ℕ
    p = position_of o s

    shut : Bool
    shut = blank (timing_written Nothing q.timing)

    still : pulsed o s ≡ false → (b : Bool) → shut ≡ b → cond b q.visible (suc q.visible) ≤ p
    still e true b = progress
    still e false b = absurd (true≢false (sym (visible_pulses (motion_register_of o) (track_of o s) (rw timing b)) ∙ e))

    by_pulse : (pulse : Bool) → pulsed o s ≡ pulse → Settled o (quiet_next s) ⊎ (cond shut q.visible (suc q.visible) ≤ position_of o (quiet_next s))
    by_pulse true e =
        ⊎_elim
        (λ (l : p < 159). inr (rw (quiet_position o s, e) (grind (arith, nat_tests))))
        (λ (l : 159 ≤ p). inl (settled_from_zero o s e (omega arith)))
        (split p 159)
    by_pulse false e = inr (rw (quiet_position o s, e) (still e shut refl))

sweep_step : (o : Movable) (s : State) (q : Sweep) → Sweeping o s q → Sweeping o (quiet_next s) (sweep_next q)
unfolding sweep_next track_next
sweep_step o s q sweeping =
    record {
      timing = ap (λ (t : Track). t.timing) (clock_track o s Nothing) ∙ ap (timing_next Nothing) sweeping.timing;
      below_160 = rw (quiet_position o s) (reached_below (pulsed o s) (position_of o s) sweeping.below_160);
      progress =
          ⊎_elim
          (λ (settled : Settled o s). inl (settled_stays o s sweeping.below_160 settled))
          (moved_on o s q sweeping.timing sweeping.below_160)
          sweeping.progress;
    }

sweep_over :
    (o : Movable) (s : State) (w : Write) (q : Sweep) → w ≡ Nothing → Sweeping o s q → Sweeping o (clock_of s w).state (sweep_next q)
sweep_over o s w q none sweeping = rw none (sweep_step o s q sweeping)

sweep : (o : Movable) (s : State) (q : Sweep) → Sweeping o s q → Sweeping o (quiet_at s 228) (after sweep_next 228 q)
sweep o s q sweeping =
    over_clocks
    (λ s q. Sweeping o s q)
    sweep_next
    (λ w. w ≡ Nothing)
    (sweep_over o) (λ i. Nothing) s q 0 228 (λ i l h. refl)
    (rw (state_first (λ i. Nothing) s) sweeping)

-- A line without writes ends every motion and settles every object.
pub record QuietEnd (o : Movable) (s : State) : Type 0 where
  pub start : s.timing.h ≡ 0
  pub rest : s.timing.slot ≡ 16
  pub settled : Settled o s

pub quiet_settles :
    (o : Movable) (s : State) → s.timing.h ≡ 0 → s.timing.slot < 17 → position_of o s < 160 → QuietEnd o (quiet_at s 228)
unfolding is_swept
quiet_settles o s start slot below_160 =
    record {
      start = ap (λ (t : Timing). t.h) end.timing ∙ ends.0;
      rest = ap (λ (t : Timing). t.slot) end.timing ∙ ends.1.0;
      settled =
          ⊎_elim
          (λ (settled : Settled o (quiet_at s 228)). settled)
          (λ (far : line.visible ≤ position_of o (quiet_at s 228)). absurd (omega (arith, far, ends.1.1, end.below_160)))
          end.progress;
    }
  where
    t : Timing
    t = s.timing

    line : Sweep
    line = line_from t.slot t.late

    ends : (line.timing.h ≡ 0) × ((line.timing.slot ≡ 16) × (line.visible ≡ 160))
    ends =
        let all = swept t.slot t.late slot in
        (grind (arith, nat_tests), (grind (arith, nat_tests), grind (arith, nat_tests)))

    end : Sweeping o (quiet_at s 228) line
    end =
        sweep o s (record { timing = record { h = 0; slot = t.slot; late = t.late }; visible = 0 })
        (record { timing = λ i. record { h = start i; slot = t.slot; late = t.late }; below_160 = below_160; progress = inr (omega arith) })

-- It keeps the registers, and a settled object stays settled.
pub quiet_keeps : (s : State) (n : ℕ) → (quiet_at s n).registers ≡ s.registers
unfolding state_at
quiet_keeps s zero = refl
quiet_keeps s (suc n) = quiet_registers (quiet_at s n) ∙ quiet_keeps s n

position_stays : (o : Movable) (s : State) → position_of o s < 160 → (n : ℕ) → position_of o (quiet_at s n) < 160
unfolding state_at
position_stays o s h zero = h
position_stays o s h (suc n) =
    rw (quiet_position o (quiet_at s n)) (reached_below (pulsed o (quiet_at s n)) (position_of o (quiet_at s n)) (position_stays o s h n))

pub settled_at : (o : Movable) (s : State) → position_of o s < 160 → Settled o s → (n : ℕ) → Settled o (quiet_at s n)
unfolding state_at
settled_at o s h settled zero = settled
settled_at o s h settled (suc n) = settled_stays o (quiet_at s n) (position_stays o s h n) (settled_at o s h settled n)

-- The bits of an answer byte are the lit objects.
abbrev is_bit : Movable → Lit → Bool
is_bit o l = beq (bit (number_of o) (lit_bits l)) (flag_of o l)

all_bits : (o : Movable) → every_lit (is_bit o) ≡ true
unfolding lit_bits
all_bits P0 = refl
all_bits P1 = refl
all_bits M0 = refl
all_bits M1 = refl
all_bits BL = refl

bit_lit : (o : Movable) (l : Lit) → bit (number_of o) (lit_bits l) ≡ flag_of o l
bit_lit o l = same _ _ (holds_of _ (at_lit (is_bit o) (all_bits o) l))

-- A clock without a write answers by what is lit after it.
quiet_byte :
    (s : State) →
    (clock_of s Nothing).byte
    ≡ answer_byte s.timing.h (blank (timing_written Nothing s.timing)) (lit_of s.timing.h (quiet_next s).registers (quiet_next s).objects)
unfolding clock_of
quiet_byte s = refl

visible_byte : (h : ℕ) (l : Lit) → 68 ≤ h → answer_byte h false l ≡ lit_bits l
unfolding answer_byte
visible_byte h l visible = rw (le-ltb h 68 visible)

unblanked : (x : ℕ) → blank (timing_written Nothing (resting (68 + x) false)) ≡ false
unblanked x = rw (le-ltb (68 + x) 68 (omega arith), and-false, and-false)

visible_bit :
    (o : Movable) (s : State) (x : ℕ) → s.timing ≡ resting (68 + x) false →
    bit (number_of o) (clock_of s Nothing).byte ≡ flag_of o (lit_of (68 + x) (quiet_next s).registers (quiet_next s).objects)
visible_bit o s x rest =
    ap (bit (number_of o)) (quiet_byte s ∙ rw (rest, unblanked x) (visible_byte (68 + x) _ (omega arith)))
    ∙ bit_lit o (lit_of (68 + x) (quiet_next s).registers (quiet_next s).objects)

-- Column x of a line at rest: h is 68 + x, and there were x pulses.
first_column : (late : Bool) → after rest_next 68 (at_start late) ≡ record { h = 68; late = false; pulses = 0 }
unfolding after rest_next
first_column true = refl
first_column false = refl

next_column : (x : ℕ) → x < 159 → rest_next (record { h = 68 + x; late = false; pulses = x }) ≡ record { h = 68 + suc x; late = false; pulses = suc x }
unfolding rest_next
next_column x h = rw (le-ltb (68 + x) 68 (omega arith), and-false, and-false, within)
  where
    within : (68 + x + 1) % 228 ≡ 68 + suc x
    within = omega arith

column_rest : (late : Bool) (x : ℕ) → x < 160 → after rest_next (68 + x) (at_start late) ≡ record { h = 68 + x; late = false; pulses = x }
unfolding after
column_rest late zero h = first_column late
column_rest late (suc x) h = rw (add-suc 68 x, column_rest late x (omega arith)) (next_column x (omega arith) ∙ rw (add-suc 68 x))

-- In a line without writes column x shows a settled object as it is drawn at the position after its pulse.
pub quiet_shows :
    (o : Movable) (s : State) (x : ℕ) → x < 160 → position_of o s < 160 → Settled o s → Idle o s (position_of o s) (at_start s.timing.late) →
    bit (number_of o) (clock_of (quiet_at s (68 + x)) Nothing).byte
    ≡ drawn_at (drawing_of o s.registers) ((position_of o s + x + 1) % 160)
unfolding state_at
quiet_shows o s x column h settled idle =
    visible_bit o (quiet_at s (68 + x)) x here.timing
    ∙ settled_lit o (quiet_at s (suc (68 + x))) (68 + x) (settled_at o s h settled (suc (68 + x)))
    ∙ rw (quiet_keeps s (suc (68 + x)), there) refl
  where
    here : Idle o (quiet_at s (68 + x)) (position_of o s) (record { h = 68 + x; late = false; pulses = x })
    here =
        rw (zero-add, column_rest s.timing.late x column) at
        (idle_phase o (λ i. Nothing) s (position_of o s) (at_start s.timing.late) 0 (68 + x) (λ i l b. refl) (λ i. refl) idle)

    there : position_of o (quiet_at s (suc (68 + x))) ≡ (position_of o s + x + 1) % 160
    there = quiet_position o (quiet_at s (68 + x)) ∙ rw (pulse, here.at) (omega arith)
      where
        pulse : pulsed o (quiet_at s (68 + x)) ≡ true
        pulse = visible_pulses (motion_register_of o) (track_of o (quiet_at s (68 + x))) (rw here.timing (unblanked x))
