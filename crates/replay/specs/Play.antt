-- Playing one line of a tape: reading first, then the line.
use Rattle.std.specs.Prelude.{ℕ, ◌≡◌, cond, List, eqb}
use Rattle.refusal.specs.Refusal.{number_of}
use Rattle.tape.specs.declared.reading.Place.{Place}
use Rattle.tape.specs.declared.reading.Place.TheVariants.{Line, Ended, Refused}
use Rattle.tape.specs.Reading.{read_at, stretch_at}
use Rattle.tia.specs.Answers.{LineAnswer}
use Rattle.tia.specs.declared.state.State.{State}
use Rattle.tia.specs.Line.{Buffers, Rooms, rooms_of}
use Rattle.tia.specs.Answers.{line_answer, line_buffers}
use Rattle.replay.specs.Verdict.{Verdict, PlayAnswer}
use Rattle.replay.specs.Verdict as verdict

-- The verdict on a line by the line call's refusal; number 0, accepted. The line's end is the next place.
abbrev pub line_verdict : (number index end : ℕ) → Verdict
line_verdict number index end = cond (eqb number 0) (verdict.Played end) (verdict.Refused number index)

abbrev pub played_line : LineAnswer → (end : ℕ) → PlayAnswer
played_line answer end = record { verdict = line_verdict answer.number answer.index end; state = answer.state }

-- What is played where a reading found a line with these writes; at the tape's end and where the reading is refused, nothing.
abbrev pub played_at : State → (writes : List ℕ) → Rooms → Place → PlayAnswer
played_at s ws room (Line start end) = played_line (line_answer s ws room) end
played_at s ws room Ended = record { verdict = verdict.Ended; state = s }
played_at s ws room (Refused r) = record { verdict = verdict.Refused (number_of r) 0; state = s }

unfoldable pub play_answer : State → (tape : List ℕ) (place : ℕ) → Rooms → PlayAnswer
play_answer s tape place room = played_at s (stretch_at tape place) room (read_at tape place)

-- The lent buffers after the call: as the line call leaves them; where no line is read, as they were.
abbrev pub buffers_at : State → (writes : List ℕ) → Buffers → Place → Buffers
buffers_at s ws lent (Line start end) = line_buffers s ws lent
buffers_at s ws lent Ended = lent
buffers_at s ws lent (Refused r) = lent

unfoldable pub play_buffers : State → (tape : List ℕ) (place : ℕ) → Buffers → Buffers
play_buffers s tape place lent = buffers_at s (stretch_at tape place) lent (read_at tape place)

-- The paper's numbers for each verdict: the case (0 played, 1 ended, 2 refused), the refusal number (0: not refused), the index of
-- the record at fault, and the next place, 0 where there is none; then those of the answer. Different answers have different
-- numbers (`same_play`).
pub record VerdictNumbers : Type 0 where
  pub case : ℕ
  pub number : ℕ
  pub index : ℕ
  pub place : ℕ

abbrev pub verdict_numbers : Verdict → VerdictNumbers
verdict_numbers (verdict.Played next) = record { case = 0; number = 0; index = 0; place = next }
verdict_numbers verdict.Ended = record { case = 1; number = 0; index = 0; place = 0 }
verdict_numbers (verdict.Refused n i) = record { case = 2; number = n; index = i; place = 0 }

pub record PlayNumbers : Type 0 where
  pub verdict : VerdictNumbers
  pub state : State

abbrev pub play_numbers : PlayAnswer → PlayNumbers
play_numbers answer = record { verdict = verdict_numbers answer.verdict; state = answer.state }

-- What playing a line promises of its answer and of both buffers as it returns.
abbrev pub PlayPromise : State → (tape : List ℕ) (place : ℕ) (lent : Buffers) (answer : PlayAnswer) (after : Buffers) → Type 0
PlayPromise state tape place lent answer after =
    (play_numbers answer ≡ play_numbers (play_answer state tape place (rooms_of lent))) × (after ≡ play_buffers state tape place lent)
