-- A line's write list: its records, its check, and the write of a clock.
use Rattle.std.specs.Prelude.{ℕ, suc, ◌+◌, cond, not, List, [], ◌∷◌, eqb, ltb, length, Result, Ok, Err}
use Rattle.tia.specs.declared.write.Write.{Write}
use Rattle.tia.specs.declared.write.Write.TheVariants.{Nothing, Register}
use Rattle.tia.specs.Write.{known}
use Rattle.refusal.specs.declared.Fault.{Fault}
use Rattle.refusal.specs.declared.Refusal.{Refusal}
use Rattle.refusal.specs.Refusal.{number_of}
use Rattle.laws.specs.Numbers.{bad_length, for_list_length, for_clock_over, for_clock_order, for_unknown_register}

-- A record of the list: three bytes, clock, address, value.
pub record TimedWrite : Type 0 where
  pub clock : ℕ
  pub address : ℕ
  pub value : ℕ

abbrev pub timed : (clock address value : ℕ) → TimedWrite
timed c a v = record { clock = c; address = a; value = v }

unfoldable pub records_of : List ℕ → List TimedWrite
records_of [] = []
records_of (c ∷ []) = []
records_of (c ∷ a ∷ []) = []
records_of (c ∷ a ∷ v ∷ rest) = timed c a v ∷ records_of rest

-- The refusal of a record, 5, 6 or 7; 0, none. The least clock is 0 for the first record, later one above the clock before.
unfoldable pub record_fault : (least clock address : ℕ) → ℕ
record_fault least clock address =
    cond (ltb 227 clock) for_clock_over (cond (ltb clock least) for_clock_order (cond (not (known address)) for_unknown_register 0))

-- A refusal with the index of the record at fault; number 0, none.
pub record FaultNumbers : Type 0 where
  pub number : ℕ
  pub index : ℕ

abbrev pub fault_at : (number index : ℕ) → FaultNumbers
fault_at n i = record { number = n; index = i }

-- 5 to 7 go record by record, the first bad record deciding. Records are counted from an index.
unfoldable pub first_fault : (index least : ℕ) → List TimedWrite → FaultNumbers
first_fault index least [] = fault_at 0 0
first_fault index least (r ∷ rs) =
    let number = record_fault least r.clock r.address in
    let later = first_fault (suc index) (r.clock + 1) rs in
    cond (eqb number 0) later (fault_at number index)

-- The check of a list: 4, then 5 to 7.
unfoldable pub list_fault : List ℕ → FaultNumbers
list_fault ws = cond (bad_length (length ws)) (fault_at for_list_length 0) (first_fault 0 0 (records_of ws))

-- The numbers of what the checks of a record and of a list answer. Different answers have different numbers (`same_fault`).
abbrev pub record_number : Result (Unit {0}) Refusal → ℕ
record_number (Ok u) = 0
record_number (Err refusal) = number_of refusal

abbrev pub fault_numbers : Result (Unit {0}) Fault → FaultNumbers
fault_numbers (Ok u) = fault_at 0 0
fault_numbers (Err fault) = fault_at (number_of fault.refusal) fault.index

-- The write on a clock: that of the record with this clock.
unfoldable pub write_at : List TimedWrite → ℕ → Write
write_at [] n = Nothing
write_at (r ∷ rs) n = cond (eqb r.clock n) (Register r.address r.value) (write_at rs n)
