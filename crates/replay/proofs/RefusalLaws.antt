-- Playing a line is refused exactly when the rows of the table say, in their order: reading's, then the line call's.
use mathlib.Core.Path.{◌≡◌, refl}
use mathlib.Core.List.{List, [], ◌∷◌, ◌++◌}
use mathlib.Core.Bool.{◌&&◌, not}
use Prim.Native.Nat.{ℕ}
use native.Mathlib.Omega.{arith}
use Rattle.std.proofs.lemmas.Bool.Decides.{nat_tests}
use Rattle.refusal.proofs.NumberLaws.{number_not_zero}
use lib.Dec.{eqb}
use lib.ListN.{length}
use Rattle.laws.specs.Refusal.{row, GivenInOrder}
use Rattle.laws.proofs.Decides.{differs, both}
use Rattle.laws.proofs.Refusals.{Check, first_of, in_order}
use Rattle.tape.specs.declared.reading.Place.{Place}
use Rattle.tape.specs.declared.reading.Place.TheVariants.{Line, Ended, Refused}
use Rattle.tape.specs.Reading.{read_at, stretch_at}
use Rattle.tape.proofs.ReadingLaws.{read_answered, line_there, stretch_length}
use Rattle.tape.proofs.RefusalLaws.{reading_checks, reading_number}
use Rattle.tia.specs.declared.state.State.{State}
use Rattle.tia.specs.Line.{Rooms}
use Rattle.tia.proofs.RefusalLaws.{line_checks, line_number}
use Rattle.replay.specs.Play.{played_at, play_answer, verdict_numbers}
use Rattle.replay.specs.PlayRows.{play_rows}

-- The checks of the line call but for the fifth, that of the list's length, behind the test that the tape has not ended.
abbrev behind_test : List ℕ → (place : ℕ) → Check → Check
behind_test tape place c =
    let more = not (eqb place (length tape)) in
    record {
      of = row c.of.number ((place ≡ length tape → ⊥) × c.of.when);
      test = more && c.test;
      decides = both more c.test (differs place (length tape)) c.decides;
    }

abbrev but_fifth : List {1} Check → List {1} Check
but_fifth [] = []
but_fifth (a ∷ []) = []
but_fifth (a ∷ b ∷ []) = []
but_fifth (a ∷ b ∷ c ∷ []) = []
but_fifth (a ∷ b ∷ c ∷ d ∷ []) = []
but_fifth (a ∷ b ∷ c ∷ d ∷ e ∷ rest) = a ∷ b ∷ c ∷ d ∷ rest

abbrev behind_all : List ℕ → (place : ℕ) → List {1} Check → List {1} Check
behind_all tape place [] = []
behind_all tape place (c ∷ cs) = behind_test tape place c ∷ behind_all tape place cs

module _ (s : State) (tape : List ℕ) (place : ℕ) (room : Rooms) where
  abbrev played_checks : List {1} Check
  played_checks = behind_all tape place (but_fifth (line_checks s (stretch_at tape place) room))

  abbrev play_checks : List {1} Check
  play_checks = reading_checks tape place ++ played_checks

  play_number : (verdict_numbers (play_answer s tape place room).verdict).number ≡ first_of play_checks
  unfolding play_answer
  play_number = by_reading (read_at tape place) refl
    where
      by_reading : (found : Place) → read_at tape place ≡ found → (verdict_numbers (played_at s (stretch_at tape place) room found).verdict).number ≡ first_of play_checks
      by_reading (Line start end) e =
          let line = line_there tape place start end e in
          let n = reading_number tape place in
          let m = line_number s (stretch_at tape place) room in
          let same = stretch_length tape place start end e in
          grind (arith, nat_tests)
      by_reading Ended e =
          let n = reading_number tape place in
          let at_end = rw e at (read_answered tape place) in
          grind (arith, nat_tests)
      by_reading (Refused r) e =
          let n = reading_number tape place in
          grind (arith, nat_tests, number_not_zero)

  pub play_refused_exactly : GivenInOrder (play_rows s tape place room) (verdict_numbers (play_answer s tape place room).verdict).number
  play_refused_exactly = rw play_number (in_order play_checks refl)
