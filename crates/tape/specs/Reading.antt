-- A tape: what stands at a place, and the stretch of a line's writes.
use Rattle.std.specs.Prelude.{ℕ, ◌+◌, ◌*◌, ◌-◌, ◌≡◌, Bool, true, cond, ◌||◌, not, List, [], ◌∷◌, eqb, ltb, length, get_or, take, drop}
use Rattle.std.specs.Borrow.{Bor}
use Rattle.laws.specs.Numbers.{bad_length}
use Rattle.refusal.specs.declared.Refusal.TheVariants.{ListLength, Version, TapeEnd}
use Rattle.refusal.specs.Refusal.{number_of}
use Rattle.tape.specs.declared.reading.Place.{Place}
use Rattle.tape.specs.declared.reading.Place.TheVariants.{Line, Ended, Refused}

-- The longest tape that a program takes.
abbrev pub longest : ℕ
longest = 65536

-- A tape begins with its version byte. Refusal 8: tape empty or version not 1.
unfoldable pub bad_version : List ℕ → Bool
bad_version [] = true
bad_version (version ∷ rest) = not (eqb version 1)

-- How the lines of a version are written: the place of the first line, how many bytes of a line come before its writes, and how
-- many bytes of writes the line at a place announces.
pub record Form : Type 0 where
  pub first : ℕ
  pub ahead : ℕ
  pub announced : (tape : List ℕ) (place : ℕ) → ℕ

-- Version 1: after the version byte, for each line a two-byte big-endian length and that many bytes of writes.
abbrev pub version1 : Form
version1 = record { first = 1; ahead = 2; announced = λ tape place. 256 * get_or tape place 0 + get_or tape (place + 1) 0 }

-- The line at a place before the tape's end. Refusal 9 for a lone length byte, 4 for a length that no write list has, then 9
-- where the tape is cut short. The line's end is the next place.
unfoldable pub line_at : Form → List ℕ → (place : ℕ) → Place
line_at form tape place =
    let start = place + form.ahead in
    let bytes = form.announced tape place in
    cond (ltb (length tape) start) (Refused TapeEnd)
    (cond (bad_length bytes) (Refused ListLength)
    (cond (ltb (length tape) (start + bytes)) (Refused TapeEnd) (Line start (start + bytes))))

-- What stands at a place. Refusal 9 for a place that is 0 or past the tape's end; at the end, the tape has ended.
unfoldable pub place_at : Form → List ℕ → (place : ℕ) → Place
place_at form tape place =
    cond (ltb place form.first || ltb (length tape) place) (Refused TapeEnd)
    (cond (eqb place (length tape)) Ended (line_at form tape place))

-- Reading at a place: 8, then 9 for the place or a lone length byte, then 4, then 9.
unfoldable pub read_at : List ℕ → (place : ℕ) → Place
read_at tape place = cond (bad_version tape) (Refused Version) (place_at version1 tape place)

-- The stretch of the tape that a reading names; empty where it names none.
abbrev pub stretch_of : List ℕ → Place → List ℕ
stretch_of tape (Line start end) = take (end - start) (drop start tape)
stretch_of tape Ended = []
stretch_of tape (Refused r) = []

unfoldable pub stretch_at : List ℕ → (place : ℕ) → List ℕ
stretch_at tape place = stretch_of tape (read_at tape place)

-- It is handed back as the tape itself: it lies in the tape's memory, from the line's start on; an empty one from the tape's start.
abbrev pub start_of : Place → ℕ
start_of (Line start end) = start
start_of Ended = 0
start_of (Refused r) = 0

unfoldable pub start_at : List ℕ → (place : ℕ) → ℕ
start_at tape place = start_of (read_at tape place)

abbrev pub PartFrom : (index : ℕ) (whole part : Bor (List ℕ)) → Type 0
PartFrom index whole part = part.ref_ptr ≡ (whole.ref_ptr.0, index + whole.ref_ptr.1)

-- The paper's numbers for each case: the case (0 a line, 1 ended, 2 refused), the refusal number (0: not refused), the index of the
-- record at fault, and the line's start and end, 0 where there is no line. Different answers have different numbers (`same_place`).
pub record PlaceAnswer : Type 0 where
  pub case : ℕ
  pub number : ℕ
  pub index : ℕ
  pub start : ℕ
  pub end : ℕ

abbrev pub place_answer : Place → PlaceAnswer
place_answer (Line start end) = record { case = 0; number = 0; index = 0; start = start; end = end }
place_answer Ended = record { case = 1; number = 0; index = 0; start = 0; end = 0 }
place_answer (Refused r) = record { case = 2; number = number_of r; index = 0; start = 0; end = 0 }

abbrev pub read_answer : List ℕ → (place : ℕ) → PlaceAnswer
read_answer tape place = place_answer (read_at tape place)
