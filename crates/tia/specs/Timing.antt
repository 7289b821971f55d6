-- What all objects share in a clock: the line clock, the motion slot and the late flag (steps 1 to 4 and 11).
use Rattle.std.specs.Prelude.{ℕ, ◌+◌, ◌%◌, Bool, cond, ◌&&◌, ◌||◌, not, eqb, ltb}
use Rattle.tia.specs.declared.timing.Tick.{Tick}
use Rattle.tia.specs.declared.timing.Timing.{Timing}
use Rattle.tia.specs.declared.write.Write.{Write}
use Rattle.tia.specs.Write.{HMOVE, hits}

-- A line has 228 clocks; the first 68 are its horizontal blank, 76 after an HMOVE in it.
abbrev pub line_clocks : ℕ
line_clocks = 228

abbrev pub blank_clocks : ℕ
blank_clocks = 68

abbrev pub late_blank_clocks : ℕ
late_blank_clocks = 76

-- Slot (document 01's word): which of the 16 comparisons of a motion comes next; 16, no motion under way.
abbrev pub no_motion : ℕ
no_motion = 16

-- 1. If h = 0 the late flag falls. (The late flag is document 01's word: it makes the horizontal blank longer.)
abbrev pub late_at_start : (h : ℕ) (late : Bool) → Bool
late_at_start h late = not (eqb h 0) && late

-- 2. HMOVE sets the slot to 0; at clocks 0 to 67 it raises the late flag.
abbrev pub timing_written : Write → Timing → Timing
timing_written w t =
    record {
      h = t.h;
      slot = cond (hits w HMOVE) 0 t.slot;
      late = (hits w HMOVE && ltb t.h blank_clocks) || late_at_start t.h t.late;
    }

-- 3. Blank: h below 68, or below 76 with the late flag.
abbrev pub blank : Timing → Bool
blank t = ltb t.h blank_clocks || (ltb t.h late_blank_clocks && t.late)

-- 4. Motion: if the slot is below 16, h is a multiple of 4 and HMOVE was not written this clock ..
abbrev pub comparing : Write → Timing → Bool
comparing w t = ltb t.slot no_motion && (eqb (t.h % 4) 0 && not (hits w HMOVE))

-- What steps 3 and 4 say to every object.
abbrev pub tick_of : Write → Timing → Tick
tick_of w t = record { slot = t.slot; comparing = comparing w t; blank = blank t }

-- 4. .. Then the slot rises by one.
-- 11. h rises by one, 227 going to 0.
abbrev pub timing_after : Bool → Timing → Timing
timing_after comparing t =
    record { h = (t.h + 1) % line_clocks; slot = cond comparing (t.slot + 1) t.slot; late = t.late }
