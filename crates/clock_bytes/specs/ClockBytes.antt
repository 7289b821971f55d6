-- What is written for each clock of a line: a record of 38 bytes about the state after the clock.
use Rattle.std.specs.Prelude.{ℕ, zero, suc, ◌+◌, ◌*◌, ◌/◌, ◌%◌, Bool, cond, List, [], ◌∷◌, ◌++◌, eqb, take, drop, get_or}
use Rattle.counter.specs.Answers.{value_answer}
use Rattle.tia.specs.Answers.{ClockAnswer}
use Rattle.tia.specs.declared.object.Object.{Object}
use Rattle.tia.specs.declared.object.Player.{Player}
use Rattle.tia.specs.declared.state.State.{State}
use Rattle.tia.specs.declared.write.Write.{Write}
use Rattle.tia.specs.State.{start_state}
use Rattle.tia.specs.Timing.{line_clocks}
use Rattle.tia.specs.Object.{columns}
use Rattle.tia.specs.WriteList.{records_of, write_at}
use Rattle.tia.specs.Answers.{clock_answer}
use Rattle.replay.specs.Replay.{PlayedLine, state_after_lines, replay_of}

abbrev pub flag_byte : Bool → ℕ
flag_byte b = cond b 1 0

-- A position that rose: one above that before the clock, 159 going to 0.
abbrev pub rose : (before after : ℕ) → Bool
rose before after = eqb ((before + 1) % columns) after

-- The value of an object's position counter: its count is position / 4, rounded down.
abbrev pub counter_value : (position : ℕ) → ℕ
counter_value position = (value_answer (position / 4)).value

-- An object before and after the clock: position, whether it rose, the counter's value, age, motion value, live flag.
unfoldable pub object_bytes : (before after : Object) → List ℕ
object_bytes before after =
    after.position
    ∷ flag_byte (rose before.position after.position)
    ∷ counter_value after.position
    ∷ after.age
    ∷ after.motion
    ∷ flag_byte after.live
    ∷ []

-- A player: these, then its pixel, 0 to 7, or 8 for none, and the clocks that the pixel has been shown.
unfoldable pub player_bytes : (before after : Player) → List ℕ
player_bytes before after =
    object_bytes before.body after.body ++ (after.drawing.pixel ∷ after.drawing.shown ∷ [])

-- What all objects share: the clock, its answer byte, slot and late flag after it.
unfoldable pub shared_bytes : (before : State) → ClockAnswer → List ℕ
shared_bytes s a = s.timing.h ∷ a.byte ∷ a.state.timing.slot ∷ flag_byte a.state.timing.late ∷ []

-- The record of a clock: these, then P0, P1, M0, M1 and BL.
unfoldable pub record_bytes_of : (before : State) → ClockAnswer → List ℕ
record_bytes_of s a =
    let before = s.objects in
    let after = a.state.objects in
    shared_bytes s a
    ++ (player_bytes before.p0 after.p0
    ++ (player_bytes before.p1 after.p1
    ++ (object_bytes before.m0 after.m0 ++ (object_bytes before.m1 after.m1 ++ object_bytes before.bl after.bl))))

-- So many clocks from a clock on, each as the single clock answers it.
unfoldable pub records_from : (writes : ℕ → Write) (clock count : ℕ) → State → List (List ℕ)
records_from writes clock zero s = []
records_from writes clock (suc count) s =
    let one = clock_answer s (writes clock) in
    record_bytes_of s one ∷ records_from writes (suc clock) count one.state

-- The 228 clocks of a line with a list of writes.
unfoldable pub line_records : State → List ℕ → List (List ℕ)
line_records s ws = records_from (write_at (records_of ws)) 0 line_clocks s

-- Those of the first of some lines, which are run from a state; none where there is no line.
abbrev pub first_records : State → List PlayedLine → List (List ℕ)
first_records s [] = []
first_records s (l ∷ ls) = line_records s l.writes

-- A tape's line with a number, counted from 0; no records where it is not run.
unfoldable pub tape_records : (tape : List ℕ) (number : ℕ) → List (List ℕ)
tape_records tape number =
    let lines = (replay_of tape).lines in
    first_records (state_after_lines start_state (take number lines)) (drop number lines)

-- What is read: a line's number in two bytes, the higher first, then a tape.
abbrev pub number_of : (input : List ℕ) → ℕ
number_of input = 256 * get_or input 0 0 + get_or input 1 0

abbrev pub input_records : (input : List ℕ) → List (List ℕ)
input_records input = tape_records (drop 2 input) (number_of input)

-- The record of clock h of that line.
abbrev pub record_at : (input : List ℕ) (h : ℕ) → List ℕ
record_at input h = get_or (input_records input) h []
