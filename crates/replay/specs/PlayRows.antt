-- What is said of playing a line of a tape: the rows of the refusal table, in their order.
use Rattle.std.specs.Prelude.{ℕ, ◌≡◌, List, [], ◌∷◌, ◌++◌, length}
use Rattle.laws.specs.Refusal.{Row, row}
use Rattle.tape.specs.Reading.{stretch_at}
use Rattle.tape.specs.ReadingRows.{reading_rows}
use Rattle.tia.specs.declared.state.State.{State}
use Rattle.tia.specs.Line.{Rooms}
use Rattle.tia.specs.LineRows.{call_rows, list_rows}

-- A row of the line call holds of a line that is read: where the tape has not ended.
abbrev pub behind : List ℕ → (place : ℕ) → Row → Row
behind tape place r = row r.number ((place ≡ length tape → ⊥) × r.when)

abbrev pub all_behind : List ℕ → (place : ℕ) → List {1} Row → List {1} Row
all_behind tape place [] = []
all_behind tape place (r ∷ rs) = behind tape place r ∷ all_behind tape place rs

-- The rows of the line call but for row 4, which reading has checked: 1 to 3, 11, then 5 to 7.
abbrev pub played_rows : State → (tape : List ℕ) (place : ℕ) → Rooms → List {1} Row
played_rows s tape place room = all_behind tape place (call_rows s room ++ list_rows (stretch_at tape place))

-- Reading's rows, 8, 9 and 4, then the line's.
abbrev pub play_rows : State → (tape : List ℕ) (place : ℕ) → Rooms → List {1} Row
play_rows s tape place room = reading_rows tape place ++ played_rows s tape place room
