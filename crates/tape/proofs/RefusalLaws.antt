-- The refusals of reading are given exactly when their rows of the table hold, in their order.
use mathlib.Core.Path.{◌≡◌, refl}
use mathlib.Core.List.{List, [], ◌∷◌}
use mathlib.Core.Logic.{inl, inr, ⊎_elim}
use mathlib.Core.Bool.{Bool, ◌&&◌, ◌||◌, not, true≢false}
use Prim.Native.Nat.{ℕ, ◌+◌}
use native.Mathlib.Omega.{arith}
use lib.Dec.{eqb, ltb, leb}
use lib.ListN.{length}
use Rattle.std.proofs.lemmas.Bool.Decides.{nat_tests}
use Rattle.laws.specs.Refusal.{GivenInOrder}
use Rattle.laws.specs.Numbers.{bad_length, for_list_length, for_version, for_tape_end}
use Rattle.laws.proofs.Decides.{Decides, less, at_most, equal, differs, negation, either, both, length_decided}
use Rattle.laws.proofs.Refusals.{Check, check, first_of, in_order}
use Rattle.tape.specs.Reading.{bad_version, line_at, place_at, read_at, read_answer}
use Rattle.tape.specs.ReadingRows.{length_at, Unversioned, reading_rows}

-- The version test decides row 8.
pub version_decided : (tape : List ℕ) → Decides (bad_version tape) (Unversioned tape)
unfolding bad_version
version_decided [] = record { holds = λ e. inl refl; fails = λ e. absurd (true≢false e) }
version_decided (v ∷ rest) =
    let other = differs v 1 in
    record { holds = λ e. inr (other.holds e); fails = λ e. ⊎_elim (λ (none : length (v ∷ rest) ≡ 0). omega arith) (other.fails e) }

module _ (tape : List ℕ) (place : ℕ) where
  -- The tests that decide the rows.
  abbrev pub outside : Bool
  outside = ltb place 1 || ltb (length tape) place

  abbrev pub whole : Bool
  whole = leb (place + 2) (length tape)

  abbrev pub bad_line : Bool
  bad_line = whole && bad_length (length_at tape place)

  abbrev pub cut_line : Bool
  cut_line = whole && ltb (length tape) (place + 2 + length_at tape place)

  abbrev pub tape_end : Bool
  tape_end = (outside || eqb (place + 1) (length tape)) || (not bad_line && cut_line)

  abbrev pub reading_checks : List {1} Check
  reading_checks =
      let bad = both whole _ (at_most (place + 2) (length tape)) (length_decided (length_at tape place)) in
      let cut = both whole _ (at_most (place + 2) (length tape)) (less (length tape) (place + 2 + length_at tape place)) in
      let out = either _ _ (less place 1) (less (length tape) place) in
      let lone = equal (place + 1) (length tape) in
      check for_version (bad_version tape) (version_decided tape)
      ∷ check for_tape_end tape_end (either _ _ (either outside _ out lone) (both _ cut_line (negation bad_line bad) cut))
      ∷ check for_list_length bad_line bad
      ∷ []

  pub reading_number : (read_answer tape place).number ≡ first_of reading_checks
  unfolding read_at place_at line_at
  reading_number = grind (arith, nat_tests)

  -- Reading refuses by rows 8, 9 and 4, and nothing else.
  pub read_refused_exactly : GivenInOrder (reading_rows tape place) (read_answer tape place).number
  read_refused_exactly = rw reading_number (in_order reading_checks refl)
