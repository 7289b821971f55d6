-- What playing a line of a tape answers: the verdict, and the next state.
use Rattle.std.specs.Prelude.{ℕ, Option, Some, None, Result, Ok, Err}
use Rattle.refusal.specs.declared.Fault.{Fault}
use Rattle.refusal.specs.Refusal.{number_of}
use Rattle.tia.specs.declared.state.State.{State}

-- What became of it: a line was played, with the next place; the tape has ended; or a refusal's number, with the index of the
-- record at fault. In numbers, as the line call's answer, and so that the definitions and laws of a replay keep their words.
pub data Verdict : Type 0 where
  Played : (next : ℕ) → Verdict
  Ended : Verdict
  Refused : (number index : ℕ) → Verdict

pub record PlayAnswer : Type 0 where
  pub verdict : Verdict
  pub state : State

-- The verdict of a call's result, and its answer with the state that it leaves.
abbrev pub verdict_of : Result (Option ℕ) Fault → Verdict
verdict_of (Ok (Some next)) = Played next
verdict_of (Ok None) = Ended
verdict_of (Err fault) = Refused (number_of fault.refusal) fault.index

abbrev pub played_answer : Result (Option ℕ) Fault → State → PlayAnswer
played_answer result s = record { verdict = verdict_of result; state = s }
