-- One line call made a number of times.
use Rattle.std.specs.Prelude.{ℕ, zero, suc, List}
use Rattle.tia.specs.declared.state.State.{State}
use Rattle.tia.specs.Line.{Buffers, rooms_of}
use Rattle.tia.specs.Answers.{line_answer, line_buffers}

-- The buffers after so many calls from a state, each from the state that the one before handed back.
unfoldable pub repeated : (calls : ℕ) → State → (writes : List ℕ) → Buffers → Buffers
repeated zero s ws lent = lent
repeated (suc calls) s ws lent = repeated calls (line_answer s ws (rooms_of lent)).state ws (line_buffers s ws lent)
