-- What is said of the line call's refusals and of the first lit column: the rows of the table, the first bad record, the
-- smallest column.
use Rattle.std.specs.Prelude.{ℕ, zero, suc, ◌+◌, ◌≤◌, ◌<◌, ◌≡◌, ◌↔◌, true, false, List, [], ◌∷◌, ◌++◌, length, Option, Some, None, Result, Ok, Err}
use Rattle.laws.specs.Refusal.{Row, row, GivenInOrder}
use Rattle.refusal.specs.declared.Refusal.{Refusal}
use Rattle.tia.specs.declared.state.State.{State}
use Rattle.tia.specs.Write.{known}
use Rattle.laws.specs.Numbers.{BadLength, for_line_clock, for_buffer_length, for_list_length}
use Rattle.laws.specs.Numbers.{for_clock_over, for_clock_order, for_unknown_register, for_no_such, for_colour_length}
use Rattle.tia.specs.Object.{columns}
use Rattle.tia.specs.WriteList.{TimedWrite, records_of}
use Rattle.tia.specs.Line.{Rooms}
use Rattle.tia.specs.FirstLit.{shows_at}
use Rattle.tia.specs.Answers.{bad_state_row}

-- Rows 5, 6 and 7 for one record. The least clock is 0 for the first record, later one above the clock before.
abbrev pub record_rows : (least : ℕ) → TimedWrite → List {1} Row
record_rows least r =
    row for_clock_over (227 < r.clock)
    ∷ row for_clock_order (r.clock < least)
    ∷ row for_unknown_register (known r.address ≡ false)
    ∷ []

-- Record i is the first bad one, and row n is the one that refuses it.
abbrev pub FirstBad : (least : ℕ) → List TimedWrite → (n i : ℕ) → Type 0
FirstBad least [] n i = ⊥
FirstBad least (r ∷ rs) n zero = GivenInOrder (record_rows least r) n × (n ≡ 0 → ⊥)
FirstBad least (r ∷ rs) n (suc i) = GivenInOrder (record_rows least r) 0 × FirstBad (r.clock + 1) rs n i

-- The numbers that a record can get, 5, 6 and 7. The index that goes with a number: with these that of the first bad record, with
-- every other 0.
abbrev pub OfRecord : ℕ → Type 0
OfRecord number = (5 ≤ number) × (number ≤ 7)

abbrev pub IndexGiven : List TimedWrite → (number index : ℕ) → Type 0
IndexGiven rs number index =
    ((OfRecord number → ⊥) → index ≡ 0) × ((i : ℕ) → OfRecord number → (index ≡ i) ↔ FirstBad 0 rs number i)

-- Row n, of 5, 6 and 7, for a list: it refuses the first bad record.
abbrev pub list_row : ℕ → List ℕ → Row
list_row n ws = row n ((i : ℕ) × FirstBad 0 (records_of ws) n i)

-- Rows 1 to 3 and 11 for a line call with buffers of so much room, and 5 to 7 for its list.
abbrev pub call_rows : State → Rooms → List {1} Row
call_rows s room =
    bad_state_row s
    ∷ row for_line_clock (s.timing.h ≡ 0 → ⊥)
    ∷ row for_buffer_length (room.objects ≡ columns → ⊥)
    ∷ row for_colour_length (room.colours ≡ columns → ⊥)
    ∷ []

abbrev pub list_rows : List ℕ → List {1} Row
list_rows ws = list_row for_clock_over ws ∷ list_row for_clock_order ws ∷ list_row for_unknown_register ws ∷ []

-- The rows of a line call in their order: 1 to 3, 11, 4, 5 to 7.
abbrev pub line_rows : State → List ℕ → Rooms → List {1} Row
line_rows s ws room = call_rows s room ++ (row for_list_length (BadLength (length ws)) ∷ list_rows ws)

-- Rows 3 and 10 for the first lit column.
abbrev pub first_lit_rows : List ℕ → (object : ℕ) → List {1} Row
first_lit_rows buffer object = row for_buffer_length (length buffer ≡ columns → ⊥) ∷ row for_no_such (5 < object) ∷ []

-- No column below x shows the object.
abbrev pub DarkBelow : List ℕ → (object x : ℕ) → Type 0
DarkBelow buffer object x = (y : ℕ) → y < x → shows_at object buffer y ≡ false

-- A column that is found is the smallest of the 160 that shows the object; where none is found, none shows it.
abbrev pub Smallest : List ℕ → (object : ℕ) → Result (Option ℕ) Refusal → Type 0
Smallest buffer object (Ok (Some x)) = (x < 160) × ((shows_at object buffer x ≡ true) × DarkBelow buffer object x)
Smallest buffer object (Ok None) = DarkBelow buffer object 160
Smallest buffer object (Err refusal) = Unit {0}
