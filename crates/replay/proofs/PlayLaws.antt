-- Playing a line by cases: what it answers, by what stands at the place.
use mathlib.Core.Path.{◌≡◌, refl, ap}
use mathlib.Core.List.{List}
use mathlib.Core.Bool.{false}
use Prim.Native.Nat.{ℕ}
use native.Mathlib.Omega.{arith}
use borrow.Author.Tests.{eq-eqb}
use Rattle.std.specs.Prelude.{Option, Some, None, Result, Ok, Err}
use Rattle.std.proofs.lemmas.Bool.Decides.{nat_tests}
use lib.ListN.{length}
use Rattle.laws.specs.Numbers.{bad_length, for_list_length}
use Rattle.laws.proofs.Decides.{length_decided}
use Rattle.refusal.specs.declared.Fault.{Fault}
use Rattle.refusal.proofs.NumberLaws.{same_refusal}
use Rattle.tape.specs.declared.reading.Place.{Place}
use Rattle.tape.specs.declared.reading.Place.TheVariants.{Line, Ended, Refused}
use Rattle.tape.specs.Reading.{read_at, stretch_at}
use Rattle.tape.proofs.ReadingLaws.{line_there, stretch_length}
use Rattle.tia.specs.declared.state.State.{State}
use Rattle.tia.specs.Line.{line_of, Buffers, Rooms, rooms_of, pictures}
use Rattle.tia.specs.Answers.{line_fault, line_answer, line_buffers}
use Rattle.tia.proofs.RefusalLaws.{line_refused_exactly}
use Rattle.replay.specs.Verdict.{Verdict, PlayAnswer, verdict_of, played_answer}
use Rattle.replay.specs.Verdict as verdict
use Rattle.replay.specs.Play.{play_answer, play_buffers, PlayPromise}
use Rattle.replay.specs.Play.{verdict_numbers, PlayNumbers, play_numbers}

-- Equal numbers mean equal answers.
same_numbers : {v w : Verdict} → verdict_numbers v ≡ verdict_numbers w → v ≡ w
same_numbers {v = verdict.Played next} {w = w} e = grind arith
same_numbers {v = verdict.Ended} {w = w} e = grind arith
same_numbers {v = verdict.Refused n i} {w = w} e = grind arith

pub same_play : {a b : PlayAnswer} → play_numbers a ≡ play_numbers b → a ≡ b
same_play {a} {b} e =
    let said = same_numbers (ap (λ (n : PlayNumbers). n.verdict) e) in
    let state = ap (λ (n : PlayNumbers). n.state) e in
    λ i. record { verdict = said i; state = state i }

-- Equal verdicts mean equal results of the call.
pub same_result : {a b : Result (Option ℕ) Fault} → verdict_of a ≡ verdict_of b → a ≡ b
same_result {a = Ok (Some next)} {b = b} e = grind (arith, same_refusal)
same_result {a = Ok None} {b = b} e = grind (arith, same_refusal)
same_result {a = Err fault} {b = b} e = grind (arith, same_refusal)

-- Equal numbers mean that the call answers the same and leaves the same state.
pub same_played :
    {a b : Result (Option ℕ) Fault} {s t : State} → play_numbers (played_answer a s) ≡ play_numbers (played_answer b t) → (a ≡ b) × (s ≡ t)
same_played {a} {b} {s} {t} e =
    let played = same_play {a = played_answer a s} {b = played_answer b t} e in
    (same_result (ap (λ (p : PlayAnswer). p.verdict) played), ap (λ (p : PlayAnswer). p.state) played)

-- What playing a line answers, by its promise.
pub play_answered :
    (s : State) (tape : List ℕ) (place : ℕ) (lent : Buffers) (answer : PlayAnswer) (after : Buffers) →
    PlayPromise s tape place lent answer after → answer ≡ play_answer s tape place (rooms_of lent)
play_answered s tape place lent answer after promise = same_play promise.0

-- A line that was played stands at the place, and the line call accepted it.
pub record PlayedHere (s : State) (tape : List ℕ) (place : ℕ) (room : Rooms) (next : ℕ) : Type 0 where
  pub start : ℕ
  pub line : read_at tape place ≡ Line start next
  pub number : (line_answer s (stretch_at tape place) room).number ≡ 0
  pub state : (play_answer s tape place room).state ≡ (line_answer s (stretch_at tape place) room).state

pub played_here :
    (s : State) (tape : List ℕ) (place : ℕ) (room : Rooms) (next : ℕ) → (play_answer s tape place room).verdict ≡ verdict.Played next →
    PlayedHere s tape place room next
unfolding play_answer
played_here s tape place room next e = by_reading (read_at tape place) refl
  where
    by_reading : (found : Place) → read_at tape place ≡ found → PlayedHere s tape place room next
    by_reading (Line start end) line =
        let said = rw line at e in
        record {
          start = start;
          line = grind (arith, nat_tests);
          number = grind (arith, nat_tests);
          state = grind (arith, nat_tests);
        }
    by_reading Ended ended = let said = rw ended at e in grind arith
    by_reading (Refused r) refused = let said = rw refused at e in grind arith

-- Then the buffers hold the line's pictures.
pub played_pictures :
    (s : State) (tape : List ℕ) (place : ℕ) (lent : Buffers) (next : ℕ) →
    (play_answer s tape place (rooms_of lent)).verdict ≡ verdict.Played next →
    play_buffers s tape place lent ≡ pictures (line_of s (stretch_at tape place))
unfolding play_buffers line_answer line_buffers
played_pictures s tape place lent next e =
    let here = played_here s tape place (rooms_of lent) next e in
    rw (here.line, eq-eqb (line_fault s (stretch_at tape place) (rooms_of lent)).number 0 here.number)

-- The line call never refuses the length of a line that was read (4): reading has checked it.
pub list_length_read :
    (s : State) (tape : List ℕ) (place : ℕ) (room : Rooms) (start end : ℕ) → read_at tape place ≡ Line start end →
    (line_answer s (stretch_at tape place) room).number ≡ for_list_length → ⊥
list_length_read s tape place room start end line four =
    let n = length (stretch_at tape place) in
    let good : bad_length n ≡ false = rw (stretch_length tape place start end line) (line_there tape place start end line).listed in
    (length_decided n).fails good ((line_refused_exactly s (stretch_at tape place) room).1.1.1.1.0.0 four).1
