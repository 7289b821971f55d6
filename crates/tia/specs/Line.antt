-- A line: 228 clocks from h = 0, each with the write that the list has for it; the object bytes and the colours of its 160 columns.
use Rattle.std.specs.Prelude.{ℕ, zero, suc, List, [], ◌∷◌, length, drop}
use Rattle.tia.specs.declared.state.State.{State}
use Rattle.tia.specs.declared.write.Write.{Write}
use Rattle.tia.specs.Timing.{line_clocks, blank_clocks}
use Rattle.tia.specs.Object.{columns}
use Rattle.tia.specs.Clock.{clock_of}
use Rattle.tia.specs.WriteList.{records_of, write_at}

-- What a number of clocks gives: the state after them, their answer bytes, and their colours.
pub record Clocks : Type 0 where
  pub state : State
  pub bytes : List ℕ
  pub colours : List ℕ

-- So many clocks from a clock on, each with the write on its clock.
unfoldable pub clocks_from : (writes : ℕ → Write) (clock count : ℕ) → State → Clocks
clocks_from writes clock zero s = record { state = s; bytes = []; colours = [] }
clocks_from writes clock (suc count) s =
    let one = clock_of s (writes clock) in
    let rest = clocks_from writes (suc clock) count one.state in
    record { state = rest.state; bytes = one.byte ∷ rest.bytes; colours = one.colour ∷ rest.colours }

-- A line is 228 clocks, with a list of writes.
unfoldable pub line_of : State → List ℕ → Clocks
line_of s ws = clocks_from (write_at (records_of ws)) 0 line_clocks s

-- It fills a buffer of 160 answer bytes, the object bytes: those of column 0, clock 68, and on. A second buffer of 160 colour bytes
-- is filled beside it (document 02, One).
abbrev pub picture : Clocks → List ℕ
picture line = drop blank_clocks line.bytes

abbrev pub colour_picture : Clocks → List ℕ
colour_picture line = drop blank_clocks line.colours

-- The two buffers, and how many bytes each has room for.
pub record Buffers : Type 0 where
  pub objects : List ℕ
  pub colours : List ℕ

abbrev pub buffers : (objects colours : List ℕ) → Buffers
buffers objects colours = record { objects = objects; colours = colours }

pub record Rooms : Type 0 where
  pub objects : ℕ
  pub colours : ℕ

abbrev pub rooms : (objects colours : ℕ) → Rooms
rooms objects colours = record { objects = objects; colours = colours }

abbrev pub rooms_of : Buffers → Rooms
rooms_of b = rooms (length b.objects) (length b.colours)

-- Those that a line asks for, and the buffers that it fills.
abbrev pub line_rooms : Rooms
line_rooms = rooms columns columns

abbrev pub pictures : Clocks → Buffers
pictures line = buffers (picture line) (colour_picture line)
