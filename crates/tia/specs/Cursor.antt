-- How the code goes along a line: the record due of those left of the list, what is left after it, and a byte in its column.
use Rattle.std.specs.Prelude.{ℕ, ◌-◌, cond, List, [], ◌∷◌, eqb, ltb, drop, set}
use Rattle.tia.specs.declared.write.Write.{Write}
use Rattle.tia.specs.declared.write.Write.TheVariants.{Nothing, Register}
use Rattle.tia.specs.Timing.{blank_clocks}
use Rattle.tia.specs.WriteList.{TimedWrite}

-- The first of the records left, if its clock has come.
unfoldable pub due_at : List TimedWrite → ℕ → Write
due_at [] n = Nothing
due_at (r ∷ rs) n = cond (eqb r.clock n) (Register r.address r.value) Nothing

-- What is left of a list after a clock: where something was written, what comes after a record's three bytes.
abbrev pub left_by : Write → List ℕ → List ℕ
left_by Nothing rest = rest
left_by (Register a v) rest = drop 3 rest

-- The byte of a clock goes to its column, h - 68; in the horizontal blank nowhere.
unfoldable pub stored : (clock byte : ℕ) → List ℕ → List ℕ
stored n byte buffer = cond (ltb n blank_clocks) buffer (set buffer (n - blank_clocks) byte)
