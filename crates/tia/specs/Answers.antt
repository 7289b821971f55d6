-- What each public call answers: the refusals in their order of checks, then the answer.
use Rattle.std.specs.Prelude.{ℕ, ◌≡◌, ◌⊎◌, true, false, cond, not, List, eqb, replicate, Result, Ok, Err}
use Rattle.laws.specs.Refusal.{Row, row}
use Rattle.tia.specs.declared.clock.Clocked.{Clocked}
use Rattle.refusal.specs.declared.Fault.{Fault}
use Rattle.refusal.specs.declared.Refusal.{Refusal}
use Rattle.refusal.specs.Refusal.{number_of}
use Rattle.tia.specs.declared.clock_call.Output.{Output}
use Rattle.tia.specs.declared.latches.Latches.{Latches}
use Rattle.tia.specs.declared.state.State.{State}
use Rattle.tia.specs.declared.write.Write.{Write}
use Rattle.tia.specs.Write.{unknown}
use Rattle.tia.specs.State.{in_range, live_at_rest, bad_state}
use Rattle.laws.specs.Numbers.{for_bad_state, for_line_clock, for_buffer_length, for_unknown_register, for_colour_length}
use Rattle.tia.specs.Object.{columns}
use Rattle.tia.specs.Latches.{read_out}
use Rattle.tia.specs.Clock.{clock_of}
use Rattle.tia.specs.WriteList.{FaultNumbers, fault_at, fault_numbers, list_fault}
use Rattle.tia.specs.Line.{line_of, Buffers, Rooms, rooms_of, pictures}

-- The paper's numbers of an answer: the refusal number (0: not refused), the index of the record at fault, and what is handed back.
pub record ClockAnswer : Type 0 where
  pub number : ℕ
  pub index : ℕ
  pub state : State
  pub byte : ℕ
  pub colour : ℕ

pub record ReadOut : Type 0 where
  pub number : ℕ
  pub index : ℕ
  pub bytes : List ℕ

pub record LineAnswer : Type 0 where
  pub number : ℕ
  pub index : ℕ
  pub state : State

-- Rows 1 and 7 of the refusal table.
abbrev pub bad_state_row : State → Row
bad_state_row s = row for_bad_state ((in_range s ≡ false) ⊎ (live_at_rest s ≡ true))

abbrev pub unknown_register_row : Write → Row
unknown_register_row w = row for_unknown_register (unknown w ≡ true)

-- A refused clock gives the number, index 0 and the given state; answer byte and colour are 0.
abbrev pub refused_clock : ℕ → State → ClockAnswer
refused_clock n s = record { number = n; index = 0; state = s; byte = 0; colour = 0 }

abbrev pub given_clock : Clocked → ClockAnswer
given_clock c = record { number = 0; index = 0; state = c.state; byte = c.byte; colour = c.colour }

-- The numbers of what the code's call answers, with the state that it leaves.
abbrev pub clock_numbers : Result Output Refusal → State → ClockAnswer
clock_numbers (Ok output) s = record { number = 0; index = 0; state = s; byte = output.byte; colour = output.colour }
clock_numbers (Err refusal) s = refused_clock (number_of refusal) s

-- One colour clock: refusal 1, then 7.
unfoldable pub clock_answer : State → Write → ClockAnswer
clock_answer s w =
    cond (bad_state s) (refused_clock for_bad_state s) (cond (unknown w) (refused_clock for_unknown_register s) (given_clock (clock_of s w)))

-- The collision read-out: refusal 1 and eight zero bytes, or the eight bytes.
abbrev pub refused_read_out : ℕ → ReadOut
refused_read_out n = record { number = n; index = 0; bytes = replicate 8 0 }

abbrev pub given_read_out : Latches → ReadOut
given_read_out x = record { number = 0; index = 0; bytes = read_out x }

abbrev pub read_out_numbers : Result (List ℕ) Refusal → ReadOut
read_out_numbers (Ok bytes) = record { number = 0; index = 0; bytes = bytes }
read_out_numbers (Err refusal) = refused_read_out (number_of refusal)

unfoldable pub read_out_answer : State → ReadOut
read_out_answer s = cond (bad_state s) (refused_read_out for_bad_state) (given_read_out s.latches)

-- The first fault of a line call: refusals 1, 2, 3, 11 (document 02, One), then those of the list, 4 and 5 to 7.
unfoldable pub line_fault : State → List ℕ → Rooms → FaultNumbers
line_fault s ws room =
    cond (bad_state s) (fault_at for_bad_state 0)
    (cond (not (eqb s.timing.h 0)) (fault_at for_line_clock 0)
    (cond (not (eqb room.objects columns)) (fault_at for_buffer_length 0)
    (cond (not (eqb room.colours columns)) (fault_at for_colour_length 0) (list_fault ws))))

-- A line call's answer: the number, the record's index, and the next state; where it is refused, the given one.
unfoldable pub line_answer : State → List ℕ → Rooms → LineAnswer
line_answer s ws room =
    let fault = line_fault s ws room in
    record { number = fault.number; index = fault.index; state = cond (eqb fault.number 0) (line_of s ws).state s }

-- The numbers of what the code's call answers, with the state that it leaves.
abbrev pub line_numbers : Result (Unit {0}) Fault → State → LineAnswer
line_numbers answer s =
    let fault = fault_numbers answer in
    record { number = fault.number; index = fault.index; state = s }

-- The lent buffers after the call: the line's pictures; where it is refused, both as they were.
unfoldable pub line_buffers : State → List ℕ → Buffers → Buffers
line_buffers s ws lent = cond (eqb (line_fault s ws (rooms_of lent)).number 0) (pictures (line_of s ws)) lent

-- What the line call promises of its answer and of both buffers as it returns.
abbrev pub LinePromise : (state : State) (writes : List ℕ) (lent : Buffers) (answer : LineAnswer) (after : Buffers) → Type 0
LinePromise state writes lent answer after = (answer ≡ line_answer state writes (rooms_of lent)) × (after ≡ line_buffers state writes lent)
