-- The P cases of document 01's bench checks, as one table.
use Rattle.std.specs.Prelude.{ℕ, zero, suc, ◌*◌, cond, List, [], ◌∷◌, eqb, replicate}
use Rattle.counter.specs.Kind.{Kind, horizontal, position}
use Rattle.counter.specs.Answers.{Answer, given, step_answer, value_answer, count_answer}
use Rattle.tia.specs.declared.state.State.{State}
use Rattle.tia.specs.declared.write.Write.TheVariants.{Nothing, Register}
use Rattle.tia.specs.Write.{ENABL, ENAM0, GRP0, HMM0, HMOVE, RESBL, RESM0, RESP0}
use Rattle.tia.specs.State.{start_state}
use Rattle.tia.specs.Timing.{no_motion}
use Rattle.tia.specs.Object.{columns}
use Rattle.tia.specs.Clock.{clock_of}
use Rattle.tia.specs.FirstLit.{first_lit_answer}
use Rattle.tia.specs.Line.{Buffers, buffers, line_rooms}
use Rattle.tia.specs.Answers.{line_answer, line_buffers}
use Rattle.tia.specs.Movable.{P0, M0, BL, number_of}

-- The pulses that missile 0 gets in clocks without a write until slot 16, no motion under way. Where that takes more clocks than
-- the limit, 1000 more are counted, so that no case can claim the number.
unfoldable pub pulses_until_rest : ℕ → State → ℕ
pulses_until_rest zero s = 1000
pulses_until_rest (suc limit) s =
    let next = (clock_of s Nothing).state in
    let more = pulses_until_rest limit next in
    let counted = cond (eqb next.objects.m0.position s.objects.m0.position) more (suc more) in
    cond (eqb s.timing.slot no_motion) 0 counted

-- The extra pulses for a half byte: from the start state HMM0 and HMOVE are written in the horizontal blank, and the clocks go
-- on to slot 16; all of them are blank, so that every pulse is an extra one.
unfoldable pub extra_pulses : ℕ → ℕ
extra_pulses m =
    let moving = (clock_of (clock_of start_state (Register HMM0 (16 * m))).state (Register HMOVE 0)).state in
    pulses_until_rest 66 moving

-- Lines in turn from the start state, with these write lists: the buffers after the last. The object bytes are those of blank
-- columns before it and the colours 1, which no column has, so that a refused line would show nothing.
abbrev pub unshown : Buffers
unshown = buffers (replicate columns 64) (replicate columns 1)

unfoldable pub last_line : State → List (List ℕ) → Buffers
last_line s [] = unshown
last_line s (l ∷ []) = line_buffers s l unshown
last_line s (l ∷ m ∷ ls) = last_line (line_answer s l line_rooms).state (m ∷ ls)

-- The first lit column of an object in it; 160, past the last column, where none is lit.
unfoldable pub first_lit : (object : ℕ) → List (List ℕ) → ℕ
first_lit object ls =
    let answer = first_lit_answer (last_line start_state ls).objects object in
    cond (eqb answer.case 0) answer.column columns

-- Its blank columns.
unfoldable pub count_blank : List ℕ → ℕ
count_blank [] = 0
count_blank (byte ∷ bytes) =
    let more = count_blank bytes in
    cond (eqb byte 64) (suc more) more

-- Missile 0 enabled and strobed at a clock; HMM0 with a half byte and HMOVE at a clock.
abbrev pub missile_at : ℕ → List ℕ
missile_at clock = 0 ∷ ENAM0 ∷ 0b10 ∷ clock ∷ RESM0 ∷ 0 ∷ []

abbrev pub hmove_at : (clock half : ℕ) → List ℕ
hmove_at clock half = 0 ∷ HMM0 ∷ 16 * half ∷ clock ∷ HMOVE ∷ 0 ∷ []

-- What a case asks, and the definition that answers it.
pub data Question : Type 0 where
  value_of_count : ℕ → Question
  count_of_value : ℕ → Question
  step_from : Kind → ℕ → Question
  extra_pulses_of : ℕ → Question
  first_lit_in : (object : ℕ) → List (List ℕ) → Question
  blank_columns : List (List ℕ) → Question

abbrev pub answer_to : Question → Answer
answer_to (value_of_count n) = value_answer n
answer_to (count_of_value v) = count_answer v
answer_to (step_from k v) = step_answer k v
answer_to (extra_pulses_of m) = given (extra_pulses m)
answer_to (first_lit_in o ls) = given (first_lit o ls)
answer_to (blank_columns ls) = given (count_blank (last_line start_state ls).objects)

-- A case: what is asked, and the value that document 01 claims for it.
pub record Case : Type 0 where
  pub asked : Question
  pub claimed : ℕ

abbrev pub claim : Question → ℕ → Case
claim q n = record { asked = q; claimed = n }

abbrev pub cases : List Case
cases =
    -- Counts 4, 16, 39, 56, 62 are 111100, 011100, 101101, 010100, 000001.
    claim (value_of_count 4) 0b111100
    ∷ claim (value_of_count 16) 0b011100
    ∷ claim (value_of_count 39) 0b101101
    ∷ claim (value_of_count 56) 0b010100
    ∷ claim (value_of_count 62) 0b000001
    ∷ claim (count_of_value 0b111100) 4
    ∷ claim (count_of_value 0b011100) 16
    ∷ claim (count_of_value 0b101101) 39
    ∷ claim (count_of_value 0b010100) 56
    ∷ claim (count_of_value 0b000001) 62
    -- 111111 steps to 000000.
    ∷ claim (step_from horizontal 0b111111) 0b000000
    ∷ claim (step_from position 0b111111) 0b000000
    -- Extra pulses for half bytes 0, 7, 8, 15: 8, 15, 0, 7.
    ∷ claim (extra_pulses_of 0) 8
    ∷ claim (extra_pulses_of 7) 15
    ∷ claim (extra_pulses_of 8) 0
    ∷ claim (extra_pulses_of 15) 7
    -- From the start state, missile 0 enabled, strobed at clock 30: the next line lights column 3. At clock 100: column 36.
    ∷ claim (first_lit_in (number_of M0) (missile_at 30 ∷ [] ∷ [])) 3
    ∷ claim (first_lit_in (number_of M0) (missile_at 100 ∷ [] ∷ [])) 36
    -- Ball enabled at 0, strobed at 100: column 36 on that same line.
    ∷ claim (first_lit_in (number_of BL) ((0 ∷ ENABL ∷ 0b10 ∷ 100 ∷ RESBL ∷ 0 ∷ []) ∷ [])) 36
    -- Player 0, graphic 255 written at 0, strobed at 100: column 37, next line.
    ∷ claim (first_lit_in (number_of P0) ((0 ∷ GRP0 ∷ 255 ∷ 100 ∷ RESP0 ∷ 0 ∷ []) ∷ [] ∷ [])) 37
    -- Missile at column 36, HMOVE at 9: half bytes 7, 15, 8 give 29, 37, 44. At column 3, 7 gives 156.
    ∷ claim (first_lit_in (number_of M0) (missile_at 100 ∷ hmove_at 9 7 ∷ [])) 29
    ∷ claim (first_lit_in (number_of M0) (missile_at 100 ∷ hmove_at 9 15 ∷ [])) 37
    ∷ claim (first_lit_in (number_of M0) (missile_at 100 ∷ hmove_at 9 8 ∷ [])) 44
    ∷ claim (first_lit_in (number_of M0) (missile_at 30 ∷ hmove_at 9 7 ∷ [])) 156
    -- HMOVE at 15 with 7 moves 7 left; at 16, 6 left.
    ∷ claim (first_lit_in (number_of M0) (missile_at 100 ∷ hmove_at 15 7 ∷ [])) 29
    ∷ claim (first_lit_in (number_of M0) (missile_at 100 ∷ hmove_at 16 7 ∷ [])) 30
    -- With 0: at 67, 6 right; at 68, nothing; at 227, 8 left and the next line has no blank columns.
    ∷ claim (first_lit_in (number_of M0) (missile_at 100 ∷ hmove_at 67 0 ∷ [])) 42
    ∷ claim (first_lit_in (number_of M0) (missile_at 100 ∷ hmove_at 68 0 ∷ [])) 36
    ∷ claim (first_lit_in (number_of M0) (missile_at 100 ∷ hmove_at 227 0 ∷ [] ∷ [])) 28
    ∷ claim (blank_columns (missile_at 100 ∷ hmove_at 227 0 ∷ [] ∷ [])) 0
    ∷ []
