-- The numberings of the code's answers are one to one: equal numbers mean equal answers, and the same state left.
use mathlib.Core.Path.{◌≡◌, ap}
use mathlib.Core.List.{List}
use Prim.Native.Nat.{ℕ}
use native.Mathlib.Omega.{arith}
use Rattle.std.specs.Prelude.{Result, Ok, Err}
use Rattle.refusal.specs.declared.Fault.{Fault}
use Rattle.refusal.specs.declared.Refusal.{Refusal}
use Rattle.refusal.proofs.NumberLaws.{same_refusal, number_not_zero}
use Rattle.tia.specs.declared.clock_call.Output.{Output}
use Rattle.tia.specs.declared.state.State.{State}
use Rattle.tia.specs.WriteList.{fault_numbers}
use Rattle.tia.specs.Answers.{clock_numbers, LineAnswer, line_numbers, read_out_numbers}

-- The check of a line or of its list.
pub same_fault : {a b : Result (Unit {0}) Fault} → fault_numbers a ≡ fault_numbers b → a ≡ b
same_fault {a = Ok u} {b = b} e = grind (arith, same_refusal, number_not_zero)
same_fault {a = Err fault} {b = b} e = grind (arith, same_refusal, number_not_zero)

-- One colour clock.
pub same_clock : {a b : Result Output Refusal} {s t : State} → clock_numbers a s ≡ clock_numbers b t → (a ≡ b) × (s ≡ t)
same_clock {a = Ok output} {b = b} e = grind (arith, same_refusal, number_not_zero)
same_clock {a = Err refusal} {b = b} e = grind (arith, same_refusal, number_not_zero)

-- The read-out.
pub same_read_out : {a b : Result (List ℕ) Refusal} → read_out_numbers a ≡ read_out_numbers b → a ≡ b
same_read_out {a = Ok bytes} {b = b} e = grind (arith, same_refusal, number_not_zero)
same_read_out {a = Err refusal} {b = b} e = grind (arith, same_refusal, number_not_zero)

-- The line call.
pub same_line : {a b : Result (Unit {0}) Fault} {s t : State} → line_numbers a s ≡ line_numbers b t → (a ≡ b) × (s ≡ t)
same_line e = (
  same_fault (λ i. record { number = (e i).number; index = (e i).index }),
  ap (λ (x : LineAnswer). x.state) e,
)
