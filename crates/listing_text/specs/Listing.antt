-- The listing of a tape: the line printed at each step, and the whole.
use Rattle.std.specs.Prelude.{ℕ, ◌≤◌, zero, suc, ◌≡◌, cond, List, [], ◌∷◌, ◌++◌, ltb, length, Option, Some, None}
use Rattle.tape.specs.Reading.{longest, version1}
use Rattle.tia.specs.declared.state.State.{State}
use Rattle.tia.specs.State.{start_state}
use Rattle.tia.specs.Line.{line_rooms}
use Rattle.replay.specs.Verdict.{Verdict, Played, Ended, Refused}
use Rattle.replay.specs.Play.{play_answer}
use Rattle.replay.specs.Replay.{PlayedLine, state_after_lines, line_from, replay_of}
use Rattle.listing_text.specs.declared.listing.Printed.{Printed}
use Rattle.listing_text.specs.LineText.{heading, too_long, row_text, latches_text, refused_text}

-- The rows of lines, numbered from one on.
unfoldable pub rows_text : (line : ℕ) → List PlayedLine → List ℕ
rows_text line [] = []
rows_text line (l ∷ ls) = row_text line l.filled.objects ++ rows_text (suc line) ls

-- The line after the rows: the latch bytes at the tape's end, or the refusal of the line not run. (A whole replay stops nowhere
-- else.)
abbrev pub last_text : (line : ℕ) → State → Verdict → List ℕ
last_text line s (Played next) = []
last_text line s Ended = latches_text s
last_text line s (Refused n i) = refused_text n line i

-- The listing of a tape: the heading, a row for each line that its replay plays, and the last line; for a tape that is too long,
-- that alone.
unfoldable pub listing_of : (tape : List ℕ) → List ℕ
listing_of tape =
    let replay = replay_of tape in
    let lines = replay.lines in
    cond (ltb longest (length tape)) too_long
    (heading ++ (rows_text 0 lines ++ last_text (length lines) (state_after_lines start_state lines) replay.verdict))

-- One step of the listing: the place of the line that comes next, if one does, the state before it, and the printed text.
abbrev pub printed : (text : List ℕ) → (next : Option ℕ) → State → Printed
printed text next s = record { next = next; state = s; text = text }

-- The paper's numbers for what comes next: the case (0 a line, 1 nothing) and the line's place, 0 where there is none; then those of
-- the step. Different steps have different numbers (`same_step`).
pub record NextNumbers : Type 0 where
  pub case : ℕ
  pub place : ℕ

abbrev pub next_numbers : Option ℕ → NextNumbers
next_numbers (Some place) = record { case = 0; place = place }
next_numbers None = record { case = 1; place = 0 }

pub record StepNumbers : Type 0 where
  pub next : NextNumbers
  pub state : State
  pub text : List ℕ

abbrev pub step_numbers : Printed → StepNumbers
step_numbers p = record { next = next_numbers p.next; state = p.state; text = p.text }

-- What a step promises: its answer, and that the text fits 64 bytes.
pub record Prints (text : List ℕ) (next : Option ℕ) (s : State) (answer : Printed) : Type 0 where
  pub answer_is : step_numbers answer ≡ step_numbers (printed text next s)
  pub fits : length text ≤ 64

-- The bytes that a step prints: those of its text.
abbrev pub printed_bytes : Printed → List ℕ
printed_bytes p = p.text

-- The first step: the heading, and the first line from the start state; or that the tape is too long, and nothing more.
abbrev pub opening_text : (tape : List ℕ) → List ℕ
opening_text tape = cond (ltb longest (length tape)) too_long heading

abbrev pub opening_next : (tape : List ℕ) → Option ℕ
opening_next tape = cond (ltb longest (length tape)) None (Some version1.first)

-- Every later step: the line at a place, played from a state, and its row; or the last line, and nothing more.
abbrev pub line_next : Verdict → Option ℕ
line_next (Played next) = Some next
line_next Ended = None
line_next (Refused n i) = None

abbrev pub line_text : (line : ℕ) → PlayedLine → Verdict → List ℕ
line_text line l (Played next) = row_text line l.filled.objects
line_text line l Ended = last_text line l.state Ended
line_text line l (Refused n i) = last_text line l.state (Refused n i)

abbrev pub step_text : State → (tape : List ℕ) (place line : ℕ) → List ℕ
step_text s tape place line = line_text line (line_from s tape place) (play_answer s tape place line_rooms).verdict

abbrev pub step_next : State → (tape : List ℕ) (place : ℕ) → Option ℕ
step_next s tape place = line_next (play_answer s tape place line_rooms).verdict

-- What a later step promises.
abbrev pub StepPrints : State → (tape : List ℕ) (place line : ℕ) → Printed → Type 0
StepPrints s tape place line answer =
    Prints (step_text s tape place line) (step_next s tape place) (line_from s tape place).state answer

-- What is printed by steps from a place on, at most so many: each from where the one before left off.
unfoldable pub steps_text : (steps line : ℕ) → State → (tape : List ℕ) → (next : Option ℕ) → List ℕ
steps_text zero line s tape next = []
steps_text (suc steps) line s tape None = []
steps_text (suc steps) line s tape (Some place) =
    step_text s tape place line ++ steps_text steps (suc line) (line_from s tape place).state tape (step_next s tape place)
