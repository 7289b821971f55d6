-- Reading: equal numbers mean equal answers, and what a line that is read has of the tape.
use mathlib.Core.Path.{◌≡◌, refl}
use mathlib.Core.Bool.{true, not}
use mathlib.Core.List.{List, [], ◌∷◌}
use Prim.Native.Nat.{ℕ, ◌-◌, ◌≤◌}
use native.Mathlib.Omega.{arith}
use Rattle.std.proofs.lemmas.Bool.Decides.{nat_tests}
use lib.Dec.{eqb}
use lib.ListN.{length, get_or, drop, length-drop}
use lib.Seq.{length-take-le}
use Rattle.refusal.proofs.NumberLaws.{same_refusal, number_not_zero}
use Rattle.tape.specs.declared.reading.Place.{Place}
use Rattle.tape.specs.declared.reading.Place.TheVariants.{Line, Ended, Refused}
use Rattle.tape.specs.Reading.{bad_version, line_at, place_at, read_at, stretch_at, place_answer}
use Rattle.tape.specs.ReadingRows.{LineThere, Answered}

-- Equal numbers mean equal answers.
pub same_place : {p q : Place} → place_answer p ≡ place_answer q → p ≡ q
same_place {p = Line a b} {q = q} e = grind (arith, same_refusal)
same_place {p = Ended} {q = q} e = grind (arith, same_refusal)
same_place {p = Refused r} {q = q} e = grind (arith, same_refusal)

-- The version of an empty tape, and of any other.
pub version_missing : (tape : List ℕ) → length tape ≡ 0 → bad_version tape ≡ true
unfolding bad_version
version_missing [] e = refl
version_missing (v ∷ rest) e = absurd (omega arith)

pub version_byte : (tape : List ℕ) → (length tape ≡ 0 → ⊥) → bad_version tape ≡ not (eqb (get_or tape 0 0) 1)
unfolding bad_version
version_byte [] some = absurd (some refl)
version_byte (v ∷ rest) some = refl

-- What is so of a reading.
module _ (tape : List ℕ) (place : ℕ) where
  -- The line that it names.
  pub line_there : (start end : ℕ) → read_at tape place ≡ Line start end → LineThere tape place start end
  unfolding read_at place_at line_at
  line_there start end e =
      record {
        start_is = grind (arith, nat_tests);
        end_is = grind (arith, nat_tests);
        inside = grind (arith, nat_tests);
        listed = grind (arith, nat_tests);
      }

  ended_there : read_at tape place ≡ Ended → place ≡ length tape
  unfolding read_at place_at line_at
  ended_there e = grind (arith, nat_tests)

  pub read_answered : Answered tape place (read_at tape place)
  read_answered = by_reading (read_at tape place) refl
    where
      by_reading : (found : Place) → read_at tape place ≡ found → Answered tape place found
      by_reading (Line start end) e = line_there start end e
      by_reading Ended e = ended_there e
      by_reading (Refused r) e = number_not_zero r

  -- Its stretch has the length that the reading says.
  pub stretch_length : (start end : ℕ) → read_at tape place ≡ Line start end → length (stretch_at tape place) ≡ end - start
  unfolding stretch_at
  stretch_length start end e =
      let line = line_there start end e in
      let enough : end - start ≤ length (drop start tape) = omega (arith, length-drop start tape) in
      rw e (length-take-le (end - start) (drop start tape) enough)
