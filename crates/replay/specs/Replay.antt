-- The replay of a tape: its lines played one after another, each from the state that the one before handed back.
use Rattle.std.specs.Prelude.{ℕ, zero, suc, List, [], ◌∷◌, length}
use Rattle.tape.specs.Reading.{version1, stretch_at}
use Rattle.tia.specs.declared.state.State.{State}
use Rattle.tia.specs.State.{start_state}
use Rattle.tia.specs.Line.{line_of, Buffers, line_rooms, pictures}
use Rattle.replay.specs.Verdict.{Verdict, Played, Ended, Refused}
use Rattle.replay.specs.Play.{play_answer}

-- A line that was played: its writes as the tape holds them, its object bytes and colours, and the state after it.
pub record PlayedLine : Type 0 where
  pub writes : List ℕ
  pub filled : Buffers
  pub state : State

-- What a replay gives: the lines that were played, and the verdict on what came after them, which was not played: the tape's
-- end, or the refusal of a line. A replay of at most so many lines may also stop at a next place.
pub record Replay : Type 0 where
  pub lines : List PlayedLine
  pub verdict : Verdict

-- The state after some lines.
abbrev pub state_after_lines : State → List PlayedLine → State
state_after_lines s [] = s
state_after_lines s (l ∷ ls) = state_after_lines l.state ls

-- One line, then the rest from the next place; or no line.
abbrev pub and_then : Verdict → PlayedLine → (rest : ℕ → Replay) → Replay
and_then (Played next) line rest =
    let later = rest next in
    record { lines = line ∷ later.lines; verdict = later.verdict }
and_then Ended line rest = record { lines = []; verdict = Ended }
and_then (Refused n i) line rest = record { lines = []; verdict = Refused n i }

-- The line at a place, played from a state.
abbrev pub line_from : State → (tape : List ℕ) (place : ℕ) → PlayedLine
line_from s tape place =
    let writes = stretch_at tape place in
    record { writes = writes; filled = pictures (line_of s writes); state = (play_answer s tape place line_rooms).state }

-- At most so many lines from a place on, the first of them from a state.
unfoldable pub replay_from : (limit : ℕ) → State → (tape : List ℕ) (place : ℕ) → Replay
replay_from zero s tape place = record { lines = []; verdict = Played place }
replay_from (suc limit) s tape place =
    let line = line_from s tape place in
    and_then (play_answer s tape place line_rooms).verdict line λ next. replay_from limit line.state tape next

-- A whole tape from the start state. It has fewer lines than bytes.
unfoldable pub replay_of : (tape : List ℕ) → Replay
replay_of tape = replay_from (suc (length tape)) start_state tape version1.first
