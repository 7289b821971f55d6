-- What is said of reading a tape: the rows of the refusal table, when the tape has ended, and where a line lies.
use Rattle.std.specs.Prelude.{ℕ, ◌+◌, ◌-◌, ◌≤◌, ◌<◌, ◌≡◌, ◌⊎◌, false, List, [], ◌∷◌, length, get_or}
use Rattle.laws.specs.Refusal.{Row, row}
use Rattle.laws.specs.Numbers.{bad_length, BadLength, for_list_length, for_version, for_tape_end}
use Rattle.refusal.specs.Refusal.{number_of}
use Rattle.tape.specs.declared.reading.Place.{Place}
use Rattle.tape.specs.declared.reading.Place.TheVariants.{Line, Ended, Refused}
use Rattle.tape.specs.Reading.{version1}

-- The length of the line at a place, and that its two bytes are there.
abbrev pub length_at : List ℕ → (place : ℕ) → ℕ
length_at tape place = version1.announced tape place

abbrev pub HasLength : List ℕ → (place : ℕ) → Type 0
HasLength tape place = place + 2 ≤ length tape

-- Row 8: tape empty or version not 1.
abbrev pub Unversioned : List ℕ → Type 0
Unversioned tape = (length tape ≡ 0) ⊎ (get_or tape 0 0 ≡ 1 → ⊥)

-- Row 9 before 4: the place is 0 or past the tape's end, or one byte is left of the tape.
abbrev pub Misplaced : List ℕ → (place : ℕ) → Type 0
Misplaced tape place = ((place < 1) ⊎ (length tape < place)) ⊎ (place + 1 ≡ length tape)

-- Row 4, of the line's length.
abbrev pub BadLine : List ℕ → (place : ℕ) → Type 0
BadLine tape place = HasLength tape place × BadLength (length_at tape place)

-- Row 9 after 4: the tape is cut short.
abbrev pub CutLine : List ℕ → (place : ℕ) → Type 0
CutLine tape place = HasLength tape place × (length tape < place + 2 + length_at tape place)

-- The rows for reading. Number 9 is checked before 4 and after it, so its one row says when either check gives it.
abbrev pub reading_rows : List ℕ → (place : ℕ) → List {1} Row
reading_rows tape place =
    row for_version (Unversioned tape)
    ∷ row for_tape_end (Misplaced tape place ⊎ ((BadLine tape place → ⊥) × CutLine tape place))
    ∷ row for_list_length (BadLine tape place)
    ∷ []

-- A line that is read at a place: its writes follow the two length bytes and are as many as these say, a length that a write
-- list has, and they lie within the tape.
pub record LineThere (tape : List ℕ) (place start end : ℕ) : Type 0 where
  pub start_is : start ≡ place + 2
  pub end_is : end ≡ start + length_at tape place
  pub inside : end ≤ length tape
  pub listed : bad_length (end - start) ≡ false

-- What is so of a reading: a line lies there, or the place is the tape's end, or the refusal has a number; the rows say which.
abbrev pub Answered : List ℕ → (place : ℕ) → Place → Type 0
Answered tape place (Line start end) = LineThere tape place start end
Answered tape place Ended = place ≡ length tape
Answered tape place (Refused r) = number_of r ≡ 0 → ⊥
