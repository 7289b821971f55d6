-- The numbers of the refusals, and a refusal with the record at fault.
use Rattle.std.specs.Prelude.{ℕ}
use Rattle.laws.specs.Numbers.{for_bad_state, for_line_clock, for_buffer_length, for_list_length, for_clock_over, for_clock_order}
use Rattle.laws.specs.Numbers.{for_unknown_register, for_version, for_tape_end, for_no_such, for_colour_length}
use Rattle.refusal.specs.declared.Fault.{Fault}
use Rattle.refusal.specs.declared.Refusal.{Refusal}
use Rattle.refusal.specs.declared.Refusal.TheVariants as refusal

-- The number of a refusal.
abbrev pub number_of : Refusal → ℕ
number_of refusal.BadState = for_bad_state
number_of refusal.LineClock = for_line_clock
number_of refusal.BufferLength = for_buffer_length
number_of refusal.ListLength = for_list_length
number_of refusal.ClockOver = for_clock_over
number_of refusal.ClockOrder = for_clock_order
number_of refusal.UnknownRegister = for_unknown_register
number_of refusal.Version = for_version
number_of refusal.TapeEnd = for_tape_end
number_of refusal.NoSuch = for_no_such
number_of refusal.ColourLength = for_colour_length

-- A refusal with the index of the record at fault.
abbrev pub fault_of : Refusal → (index : ℕ) → Fault
fault_of r i = record { refusal = r; index = i }
