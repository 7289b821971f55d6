-- What each public call answers, in document 01's numbers: the refusal, then the value.
use Rattle.std.specs.Prelude.{ℕ, Bool, cond, ◌||◌, eqb, ltb, Result, Ok, Err}
use Rattle.laws.specs.Numbers.{for_no_such}
use Rattle.counter.specs.Count.{value_of, count_of}
use Rattle.counter.specs.Kind.{Kind, step_of}
use Rattle.refusal.specs.declared.Refusal.{Refusal}
use Rattle.refusal.specs.Refusal.{number_of}
use Rattle.counter.specs.declared.counter.Counter.{Counter}

-- An answer: the refusal number (0: not refused), the index of the record at fault (0: none is) and the value.
pub record Answer : Type 0 where
  pub number : ℕ
  pub index : ℕ
  pub value : ℕ

abbrev pub given : ℕ → Answer
given v = record { number = 0; index = 0; value = v }

abbrev pub refused : ℕ → Answer
refused n = record { number = n; index = 0; value = 0 }

-- Refusal 10: no such count (over 62) or value (over 63; in conversion also 111111).
abbrev pub no_such_count : ℕ → Bool
no_such_count n = ltb 62 n

abbrev pub no_such_value : ℕ → Bool
no_such_value v = ltb 63 v

abbrev pub no_such_conversion : ℕ → Bool
no_such_conversion v = no_such_value v || eqb v 0b111111

-- The step of a kind from a value.
unfoldable pub step_answer : Kind → ℕ → Answer
step_answer k v = cond (no_such_value v) (refused for_no_such) (given (step_of k v))

-- The value of a count.
unfoldable pub value_answer : ℕ → Answer
value_answer n = cond (no_such_count n) (refused for_no_such) (given (value_of n))

-- The count of a value.
unfoldable pub count_answer : ℕ → Answer
count_answer v = cond (no_such_conversion v) (refused for_no_such) (given (count_of v))

-- The paper's numbers for each case of the code's answers.
abbrev pub found_answer : Result ℕ Refusal → Answer
found_answer (Ok n) = given n
found_answer (Err r) = refused (number_of r)

abbrev pub stepped_answer : {K : Type 0} → Result (Counter K) Refusal → Answer
stepped_answer (Ok c) = given c.value
stepped_answer (Err r) = refused (number_of r)
