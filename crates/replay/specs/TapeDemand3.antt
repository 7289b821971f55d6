-- Demand 3 for a tape that is replayed from the start state.
use Rattle.std.specs.Prelude.{ℕ, ◌<◌, ◌≡◌, true, List, [], ◌∷◌, ◌++◌}
use Rattle.tia.specs.State.{start_state}
use Rattle.tia.specs.Timing.{no_motion}
use Rattle.tia.specs.Object.{columns}
use Rattle.tia.specs.WriteList.{TimedWrite, records_of}
use Rattle.tia.specs.Movable.{Movable, position_of, drawing_of}
use Rattle.tia.specs.Run.{all_bytes, allowed, sum_of}
use Rattle.tia.specs.Demand3.{turned, bit_at}
use Rattle.replay.specs.Replay.{PlayedLine, state_after_lines, replay_of}

-- Take any tape, any of the five objects, and any lines that follow one another in the tape's replay. Let each of them have no
-- HMOVE, or one at clocks 0 to 15 with no motion register or HMCLR written after it up to clock 75, and let none use the object's
-- position strobe. The sum is that of the object's signed motion values, one for each HMOVE of these lines.
--
-- The position: if no motion is under way before these lines, they turn the object left by the sum, modulo 160. The picture: if two
-- lines without writes come before them and two after, and the object's drawing registers before the first of these four are those
-- before the third, then column x of the fourth has the object's bit exactly where column (x + sum) modulo 160 of the second had it.
-- A line that is refused ends the replay, so all of these lines are accepted.

-- The records of some lines' writes.
abbrev pub records_of_lines : List PlayedLine → List (List TimedWrite)
records_of_lines [] = []
records_of_lines (l ∷ ls) = records_of l.writes ∷ records_of_lines ls

abbrev pub TapePosition : Movable → List ℕ → Type 0
TapePosition o tape =
    (before run after : List PlayedLine) → (replay_of tape).lines ≡ before ++ (run ++ after) →
    let s = state_after_lines start_state before in
    let lists = records_of_lines run in
    s.timing.slot ≡ no_motion → allowed o lists ≡ true →
    position_of o (state_after_lines s run) ≡ turned (position_of o s) (sum_of o s lists)

abbrev pub TapePicture : Movable → List ℕ → Type 0
TapePicture o tape =
    (before run after : List PlayedLine) (one two three four : PlayedLine) →
    (replay_of tape).lines ≡ before ++ (one ∷ two ∷ (run ++ (three ∷ four ∷ after))) →
    one.writes ≡ [] → two.writes ≡ [] → three.writes ≡ [] → four.writes ≡ [] →
    let s = state_after_lines start_state before in
    let lists = records_of_lines run in
    allowed o lists ≡ true → drawing_of o s.registers ≡ drawing_of o (state_after_lines two.state run).registers →
    (x : ℕ) → x < columns →
    bit_at o four.filled.objects x ≡ bit_at o two.filled.objects (turned x (sum_of o two.state lists))

abbrev pub TapeDemand3 : Type 0
TapeDemand3 = (tape : List ℕ) → all_bytes tape ≡ true → (o : Movable) → TapePosition o tape × TapePicture o tape
