-- The numbers that the report has for a clock, a line call and a read-out: those of document 01.
use Rattle.std.specs.Prelude.{ℕ, List, [], ◌∷◌, Result}
use Rattle.refusal.specs.declared.Refusal.{Refusal}
use Rattle.refusal.specs.declared.Fault.{Fault}
use Rattle.tia.specs.declared.clock_call.Output.{Output}
use Rattle.tia.specs.declared.state.State.{State}
use Rattle.tia.specs.Answers.{clock_numbers, read_out_numbers}
use Rattle.tia.specs.WriteList.{fault_numbers}

-- The state is printed as a digest of its own, and these numbers are the same for every state.
abbrev pub clock_row : Result Output Refusal → State → List ℕ
clock_row answer s =
    let numbers = clock_numbers answer s in
    numbers.number ∷ numbers.index ∷ numbers.byte ∷ numbers.colour ∷ []

abbrev pub line_row : Result (Unit {0}) Fault → List ℕ
line_row answer = let numbers = fault_numbers answer in numbers.number ∷ numbers.index ∷ []

abbrev pub read_out_row : Result (List ℕ) Refusal → List ℕ
read_out_row answer = let numbers = read_out_numbers answer in numbers.number ∷ numbers.index ∷ []

abbrev pub read_out_bytes : Result (List ℕ) Refusal → List ℕ
read_out_bytes answer = (read_out_numbers answer).bytes
